-- What a player needs of the blocks of a segment.
use Rattle.std.specs.Prelude.{◌≡◌, ◌+◌, ◌-◌, ◌≤◌, Bool, false, IsTrue, List, [], ◌∷◌, length, take, drop, Option, is_some, IfSome}
use Rattle.std.specs.List.{All}
use Rattle.std.specs.Option.{IsSomeAnd}
use Rattle.arrayvec.specs.ArrayVec.{array_vec_len}
use Rattle.mlp_syntax.specs.declared.segment.BlockHead.{BlockHead}
use Rattle.mlp_syntax.specs.declared.segment.FrameCode.{FrameCode}
use Rattle.mlp_params.specs.declared.state.State.{State}
use Rattle.mlp_layout.specs.Allowed.{Allowed}
use Rattle.mlp_params.specs.RestartHeader.{restart}
use Rattle.mlp_params.specs.Parameters.{params}
use Rattle.mlp_residual.specs.Frames.{steps_fit}
use Rattle.mlp_substream.specs.declared.known.Place.{Place}
use Rattle.mlp_substream.specs.Blocks.{against, restarted, after_head}

-- a head fits what is in force before it: its restart meets the rules,
-- and so do its parameters against what the restart leaves
pub record HeadFits (place : Place) (force : Option State) (h : BlockHead) : Type 0 where
  pub restart : IfSome h.restart (λ r. Allowed (restart place.format) r)
  pub params : IfSome h.params (λ p. Allowed (against (restarted place force h.restart) params) p)

-- each channel that the substream codes has as many low bits as its step, and a code in each of these frames
pub record AreCoded (s : State) (codes : List FrameCode) : Type 0 where
  pub steps : IsTrue (steps_fit s)
  pub channels : All (λ f. array_vec_len f.codes ≡ s.restart.max + 1 - s.restart.min) codes

-- a block of these frames, eight at least: it has a restart exactly where one is due,
-- and something is in force behind its head
pub record IsPlayable (place : Place) (due : Bool) (force : Option State)
    (h : BlockHead) (frames : List FrameCode) : Type 0 where
  pub restarts : is_some h.restart ≡ due
  pub head : HeadFits place force h
  pub least : 8 ≤ h.frames
  pub count : length frames ≡ h.frames
  pub codes : IsSomeAnd (after_head place force h) (λ s. AreCoded s frames)

-- blocks one after the other, each with its own of the frames. A restart is due in the first one alone, if at all
unfoldable pub ArePlayable : Place → Bool → Option State → List BlockHead → List FrameCode → Type 0
ArePlayable place due force [] codes = codes ≡ []
ArePlayable place due force (h ∷ hs) codes =
    IsPlayable place due force h (take h.frames codes)
    × ArePlayable place false (after_head place force h) hs (drop h.frames codes)
