-- What was read is written again, and what was written is read back.
use Rattle.std.proofs.Common.{◌≡◌, Bool, List, Result, Ok, Option, refl, sym, ap, subst}
use Rattle.mlp_syntax.specs.declared.fault.Broken.{Broken}
use Rattle.mlp_syntax.specs.declared.segment.Segment.{Segment}
use Rattle.mlp_layout.specs.Tails.{FoundWhole, SoundWhole, part_tail, placed, ending}
use Rattle.mlp_params.specs.declared.state.State.{State}
use Rattle.mlp_substream.specs.declared.known.Place.{Place}
use Rattle.mlp_substream.specs.declared.known.Known.{Known}
use Rattle.mlp_substream.specs.Blocks.{BlockContext, first_context}
use Rattle.mlp_substream.specs.Segment.{segment_tail, segment}
use Rattle.mlp_substream.proofs.SegmentLaws.{segment_is}
use Rattle.mlp_substream.proofs.WritingEnds.{has_tail}

tail_checked : (place : Place) (known : Known) (at : BlockContext) (checked : Bool) (s : Segment) → (segment_tail place known at checked).Fits 0 s → s.checked ≡ checked
unfolding segment_tail part_tail placed ending
tail_checked place known at checked s fits = ap (λ (r : Segment). r.checked) (sym fits.1.1.1)

module _ (place : Place) (known : Known) (force : Option State) (checked : Bool) where
  pub is_checked : (s : Segment) → (segment place known force checked).Fits s → s.checked ≡ checked
  is_checked s fits = tail_checked place known (first_context place force) checked s (has_tail place known force s checked fits)

  pub found_there : (all : List Bool) (s : Segment) → (segment place known force checked).read all ≡ Ok s → FoundWhole (segment place known force checked) all s
  found_there all s e = subst (λ (r : Result Segment Broken). SoundWhole (segment place known force checked) all r) e ((segment_is place known force checked).sound all)

  pub read_back : (s : Segment) → (segment place known force checked).Fits s → (segment place known force checked).Meets s → (segment place known force checked).read ((segment place known force checked).spelling s) ≡ Ok s
  read_back s fits meets = (segment_is place known force checked).found ((segment place known force checked).spelling s) s (record { fits = fits; meets = meets; text_is = refl })
