use Rattle.std.proofs.Common.{◌≤◌, ℕ, List, length, drop, Option, ℤ}
use Rattle.mlp_syntax.specs.declared.segment.BlockHead.{BlockHead}
use Rattle.mlp_syntax.specs.declared.segment.FrameCode.{FrameCode}
use Rattle.mlp_params.specs.declared.state.State.{State}
use Rattle.mlp_predict.specs.Prediction.{Past}
use Rattle.mlp_substream.specs.declared.known.Place.{Place}
use Rattle.mlp_channels.proofs.BlockLoop.{Left}
use Rattle.mlp_channels.proofs.play.play_blocks.Given as goal

-- so many blocks were played, with so many frames
pub record Playing (place : Place) (first state : Option State) (heads : List BlockHead) (codes : List FrameCode) (i start : ℕ) (before now : List Past) (old new : List (List ℤ)) : Type 0 where
  pub left : Left place first heads codes before old state (drop i heads) (drop start codes) start now new
  pub within : start ≤ length codes

abbrev pub invariant-loop-i : goal.invariant-loop-i
invariant-loop-i l = Playing l.place l.initial.state l.state l.heads l.codes l.i l.start l.initial.predictors l.predictors l.initial.frames l.frames
