-- Output timings of the restarts in a unit: without a major sync there are none, and with one they are those put there.
use Rattle.std.proofs.Common.{◌≡◌, ℕ, zero, suc, ◌+◌, Bool, false, List, [], ◌∷◌, ◌++◌, length, take, drop, map, Option, Some, None, refl, ap, ◌∙◌}
use Rattle.std.specs.Prelude.{is_some, All, option_map}
use Rattle.std.proofs.lemmas.List.Elements.{All-nil, All-cons, All-append}
use Rattle.mlp_syntax.specs.declared.restart.Restart.{Restart}
use Rattle.mlp_syntax.specs.declared.segment.BlockHead.{BlockHead}
use Rattle.mlp_syntax.specs.declared.segment.FrameCode.{FrameCode}
use Rattle.mlp_syntax.specs.declared.segment.Segment.{Segment}
use Rattle.mlp_params.specs.declared.state.State.{State}
use Rattle.mlp_layout.specs.Allowed.{Allowed}
use Rattle.mlp_layout.specs.Layout.{part, item, made, never}
use Rattle.mlp_layout.specs.Combined.{up_to_last, chosen}
use Rattle.mlp_layout.specs.Contents.{FoundIn, segments, segment_first, no_segments}
use Rattle.mlp_unit.specs.AccessUnit.{AccessUnit}
use Rattle.mlp_substream.specs.declared.known.Place.{Place}
use Rattle.mlp_substream.specs.declared.known.Known.{Known}
use Rattle.mlp_substream.specs.Blocks.{context_of, first_context, after_head, Block}
use Rattle.mlp_substream.specs.Segment.{nested, blocks_from, segment, IsAllowed}
use Rattle.mlp_substream.specs.Timings.{stamp, stamp_head, stamped}
use Rattle.mlp_substream.proofs.WritingParts.{block_parts}
use Rattle.mlp_substream.proofs.WritingEnds.{has_tail, meets_tail, tail_blocks}
use Rattle.mlp_substream.proofs.PlayableLaws.{head_due}
use Rattle.mlp_channels.specs.Channels.{Coded}
use Rattle.mlp_contents.specs.Known.{known}
use Rattle.mlp_contents.specs.Units.{coded_at, is_checked, portion}
use Rattle.mlp_retimed.specs.Fits.{timing_of, block_timings, restart_timings}

-- ---- other timings

abbrev pub Is : ℕ → ℕ → Type 0
Is t x = x ≡ t

one_stamped : (t : ℕ) (o : Option Restart) → All (Is t) (timing_of (option_map (stamp t) o))
one_stamped t None = All-nil (Is t)
one_stamped t (Some r) = All-cons (Is t) t [] refl (All-nil (Is t))

blocks_stamped : (t : ℕ) (hs : List BlockHead) → All (Is t) (block_timings (map (stamp_head t) hs))
blocks_stamped t [] = All-nil (Is t)
blocks_stamped t (h ∷ hs) = All-append (Is t) (timing_of (option_map (stamp t) h.restart)) (block_timings (map (stamp_head t) hs)) (one_stamped t h.restart) (blocks_stamped t hs)

pub all_stamped : (t : ℕ) (ss : List Segment) → All (Is t) (restart_timings (map (stamped t) ss))
all_stamped t [] = All-nil (Is t)
all_stamped t (s ∷ ss) = All-append (Is t) (block_timings (map (stamp_head t) s.blocks.items)) (restart_timings (map (stamped t) ss)) (blocks_stamped t s.blocks.items) (all_stamped t ss)

-- ---- none

none_there : (o : Option Restart) → is_some o ≡ false → timing_of o ≡ []
none_there None e = refl
none_there (Some r) e = absurd cc

module _ (place : Place) (known : Known) where
  none_in : (n : ℕ) (f : Option State) (so_far : ℕ) (due : Bool) (hs : List BlockHead) (cs : List FrameCode) → due ≡ false
      → Allowed (blocks_from place known n (context_of f so_far due)) (nested hs cs) → block_timings hs ≡ []
  unfolding up_to_last never item part chosen made nested
  none_in zero f so_far due hs cs e a = absurd a.fits
  none_in (suc n) f so_far due [] cs e a = refl
  none_in (suc n) f so_far due (h ∷ []) cs e a =
      let b : Block = record { head = h; frames = take h.frames cs } in
      let parts = block_parts place known (context_of f so_far due) b (record { fits = a.fits.0; meets = a.meets.0 }) in
      ap (λ (x : List ℕ). x ++ []) (none_there h.restart (head_due place known due f h parts.head ∙ e))
  none_in (suc n) f so_far due (h ∷ i ∷ hs) cs e a =
      let b : Block = record { head = h; frames = take h.frames cs } in
      let parts = block_parts place known (context_of f so_far due) b (record { fits = a.fits.0; meets = a.meets.0 }) in
      let here = none_there h.restart (head_due place known due f h parts.head ∙ e) in
      let later = none_in n (after_head place f h) (so_far + h.frames) false (i ∷ hs) (drop h.frames cs) refl (record { fits = a.fits.1.1; meets = a.meets.1.1 }) in
      λ x. here x ++ later x

  none_of : (f : Option State) (checked : Bool) (s : Segment) → place.major ≡ false → IsAllowed (segment place known f checked) s → block_timings s.blocks.items ≡ []
  none_of f checked s plain a =
      none_in 21 f 0 place.major s.blocks.items s.codes.items plain
      (tail_blocks place known (first_context place f) checked s (has_tail place known f s checked a.fits) (meets_tail place known f s checked a.meets))

pub all_none : (k : ℕ) (place : Place) (xs : List Coded) (check : ℕ) (o : AccessUnit) (text : List Bool) → place.major ≡ false
    → (count : ℕ) (before ss : List Segment) → FoundIn (segments (portion k place xs check o) count before) text ss → restart_timings ss ≡ []
unfolding segments segment_first no_segments portion
all_none k place xs check o text plain zero before ss h = ap restart_timings h.fits
all_none k place xs check o text plain (suc count) before [] h = refl
all_none k place xs check o text plain (suc count) before (s ∷ ss) h =
    let n = length before in
    let f = (coded_at xs n).force in
    let here = none_of place (known k f check before) f (is_checked o.entries n) s plain (record { fits = h.fits.0.0; meets = h.meets.0 }) in
    let later = all_none k place xs check o text plain count (before ++ s ∷ []) ss (record { fits = h.fits.1; meets = h.meets.1 }) in
    λ x. here x ++ later x
