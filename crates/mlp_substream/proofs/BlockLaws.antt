-- Heads and blocks are layouts.
use Rattle.std.proofs.Common.{[], ◌≡◌, ℕ, Bool, List, length, Option, Some, None, refl}
use Rattle.std.specs.Prelude.{is_some}
use Rattle.mlp_syntax.specs.declared.major.Kind.{Kind}
use Rattle.mlp_syntax.specs.declared.segment.BlockHead.{BlockHead}
use Rattle.mlp_syntax.specs.declared.segment.FrameCode.{FrameCode}
use Rattle.mlp_layout.specs.Layout.{Layout, IsLayout, part, tested, never}
use Rattle.mlp_layout.proofs.LayoutLaws.{never_is, part_is}
use Rattle.mlp_layout.proofs.CombinedLaws.{layouts, present_sets, under_is}
use Rattle.mlp_params.specs.declared.state.State.{State}
use Rattle.mlp_params.proofs.RestartLaws.{restart_is}
use Rattle.mlp_params.proofs.ParameterLaws.{params_is}
use Rattle.mlp_residual.specs.Frames.{coding_of, frame, coded_frames, frames_of}
use Rattle.mlp_residual.proofs.FrameLaws.{frames_of_is, series-length}
use Rattle.mlp_substream.specs.declared.known.Place.{Place}
use Rattle.mlp_substream.specs.declared.known.Known.{Known}
use Rattle.mlp_substream.specs.Restarts.{flags, restart_rules, judged_restart}
use Rattle.mlp_substream.specs.Blocks.{against, BlockContext, Block, behind_flags, head, block}

pub flags_is : (due : Bool) → IsLayout (flags due)
unfolding flags
flags_is due = under_is _ (search layouts depth 40)

pub judged_restart_is : (known : Known) (format : Kind) → IsLayout (judged_restart known format)
unfolding judged_restart
judged_restart_is known format = under_is (restart_rules known) (restart_is format)

pub against_is : {A : Type 0} (force : Option State) {l : State → Layout A} → ((s : State) → IsLayout (l s)) → IsLayout (against force l)
unfolding against
against_is None h = never_is _
against_is (Some s) h = h s

pair_is : (f : Bool × Bool) (a b : Bool) → a ≡ f.0 → b ≡ f.1 → (let p : Bool × Bool = (a, b) in p ≡ f)
pair_is f a b h k = rw (h, k) refl

part_rest : {A R : Type 0} (first : Layout A) (of_record : R → A) (rest : A → Layout R) (r : R) → (part first of_record rest).Fits r → (rest (of_record r)).Fits r
unfolding part
part_rest first of_record rest r fits = fits.1

behind_flags_is : (place : Place) (known : Known) (force : Option State) (f : Bool × Bool) → IsLayout (behind_flags place known force f)
unfolding behind_flags
behind_flags_is place known force f = search (layouts, judged_restart_is, against_is, params_is) depth 40

flags_set : (place : Place) (known : Known) (force : Option State) (f : Bool × Bool) (h : BlockHead) → (behind_flags place known force f).Fits h → (let p : Bool × Bool = (is_some h.params, is_some h.restart) in p ≡ f)
unfolding behind_flags
flags_set place known force f h fits = pair_is f (is_some h.params) (is_some h.restart) (present_sets (λ h. h.params) f.0 _ _ h (part_rest _ _ _ h fits)) (present_sets (λ h. h.restart) f.1 _ _ h fits)

pub head_is : (place : Place) (known : Known) (due : Bool) (force : Option State) → IsLayout (head place known due force)
unfolding head
head_is place known due force = part_is _ (flags_is due) (behind_flags_is place known force) (λ f fits meets h rest. flags_set place known force f h rest)

pub block_is : (place : Place) (known : Known) (at : BlockContext) → IsLayout (block place known at)
unfolding block
block_is place known at = search (layouts, head_is, against_is, frames_of_is) depth 40

pub frames_count : (s : State) (n : ℕ) (fs : List FrameCode) → (frames_of s n).Fits fs → length fs ≡ n
unfolding frames_of coded_frames
frames_count s n fs fits = series-length (λ before. frame (coding_of s)) n [] fs fits

pub against_count : (force : Option State) (n : ℕ) (fs : List FrameCode) → (against force (λ s. frames_of s n)).Fits fs → length fs ≡ n
unfolding against never
against_count None n fs fits = absurd fits
against_count (Some s) n fs fits = frames_count s n fs fits

pub block_fits : (place : Place) (known : Known) (at : BlockContext) (b : Block) → (block place known at).Fits b → length b.frames ≡ b.head.frames
unfolding block part tested
block_fits place known at b fits = against_count _ b.head.frames b.frames fits.1.0
