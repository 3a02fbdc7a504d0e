-- The output timing in force behind a unit with a major sync is that of its restart header.
use Rattle.std.proofs.Common.{◌≡◌, ℕ, zero, suc, ◌<◌, Bool, true, false, List, [], ◌∷◌, length, take, drop, Option, Some, None, refl, sym, ap, ◌∙◌, arith}
use Rattle.std.specs.Prelude.{is_some, option_map}
use Rattle.mlp_syntax.specs.declared.major.MajorSync.{MajorSync}
use Rattle.mlp_syntax.specs.declared.params.Params.{Params}
use Rattle.mlp_syntax.specs.declared.restart.Restart.{Restart}
use Rattle.mlp_syntax.specs.declared.segment.BlockHead.{BlockHead}
use Rattle.mlp_syntax.specs.declared.segment.FrameCode.{FrameCode}
use Rattle.mlp_syntax.specs.declared.segment.Segment.{Segment}
use Rattle.mlp_layout.specs.Allowed.{Allowed}
use Rattle.mlp_layout.specs.Contents.{FoundIn}
use Rattle.mlp_layout.specs.Layout.{part, item, never}
use Rattle.mlp_layout.specs.Combined.{chosen, up_to_last}
use Rattle.mlp_params.specs.declared.state.State.{State}
use Rattle.mlp_substream.specs.declared.known.Place.{Place}
use Rattle.mlp_substream.specs.declared.known.Known.{Known}
use Rattle.mlp_substream.specs.Blocks.{BlockContext, Block, given, restarted, after_head, after_block, force_after, first_context}
use Rattle.mlp_substream.specs.Segment.{nested, most_blocks, blocks_from, segment, IsAllowed}
use Rattle.mlp_substream.proofs.PlayableLaws.{head_due}
use Rattle.mlp_substream.proofs.WritingParts.{block_parts}
use Rattle.mlp_substream.proofs.WritingEnds.{has_tail, meets_tail, tail_blocks}
use Rattle.mlp_channels.specs.Channels.{Coded, coded_after}
use Rattle.mlp_contents.specs.Known.{first_restart}
use Rattle.mlp_contents.specs.Units.{Left, Unit_of, coded_at, coded_each, place_of, top_of, whole, after}
use Rattle.mlp_contents.proofs.ReadSegments.{restart_in}
use Rattle.mlp_present.specs.Decoding.{timing_by}
use Rattle.mlp_samples.proofs.UnitParts.{unit_segments}
use Rattle.mlp_check.specs.Checking.{output_timing}

-- ---- blocks

-- a restart header, or else the one before
abbrev newest : Option Restart → Option Restart → Option Restart
newest None before = before
newest (Some r) before = Some r

behind_given : (place : Place) (force : Option State) (o : Option Restart) (p : Option Params) → restart_in (option_map (given p) (restarted place force o)) ≡ newest o (restart_in force)
behind_given place None None None = refl
behind_given place None None (Some p) = refl
behind_given place (Some s) None None = refl
behind_given place (Some s) None (Some p) = refl
behind_given place force (Some r) None = refl
behind_given place force (Some r) (Some p) = refl

newest_none : (o before : Option Restart) → is_some o ≡ false → newest o before ≡ before
newest_none None before e = refl
newest_none (Some r) before e = absurd cc

newest_some : (o before : Option Restart) → is_some o ≡ true → newest o before ≡ o
newest_some None before e = absurd cc
newest_some (Some r) before e = refl

-- a restart header stands in the first of these blocks, if one is due there, and in no other
record RestartsOnce (place : Place) (at : BlockContext) (hs : List BlockHead) : Type 0 where
  first : is_some (first_restart hs) ≡ at.due
  behind : restart_in (force_after place at.force hs) ≡ newest (first_restart hs) (restart_in at.force)

module _ (place : Place) (known : Known) where
  restarts_once : (n : ℕ) (at : BlockContext) (hs : List BlockHead) (codes : List FrameCode) → Allowed (blocks_from place known n at) (nested hs codes) → RestartsOnce place at hs
  unfolding up_to_last never item part chosen nested
  restarts_once zero at hs codes a = absurd a.fits
  restarts_once (suc n) at [] codes a = absurd a.fits
  restarts_once (suc n) at (h ∷ []) codes a =
      let parts = block_parts place known at (record { head = h; frames = take h.frames codes }) (record { fits = a.fits.0; meets = a.meets.0 }) in
      record { first = head_due place known at.due at.force h parts.head; behind = behind_given place at.force h.restart h.params }
  restarts_once (suc n) at (h ∷ g ∷ hs) codes a =
      let b : Block = record { head = h; frames = take h.frames codes } in
      let parts = block_parts place known at b (record { fits = a.fits.0; meets = a.meets.0 }) in
      let later = restarts_once n (after_block place at b) (g ∷ hs) (drop h.frames codes) (record { fits = a.fits.1.1; meets = a.meets.1.1 }) in
      record {
        first = head_due place known at.due at.force h parts.head;
        behind = later.behind ∙ newest_none g.restart (restart_in (after_head place at.force h)) later.first ∙ behind_given place at.force h.restart h.params;
      }

  once_in : (force : Option State) (checked : Bool) (s : Segment) → IsAllowed (segment place known force checked) s → RestartsOnce place (first_context place force) s.blocks.items
  once_in force checked s a =
      restarts_once most_blocks (first_context place force) s.blocks.items s.codes.items
      (tail_blocks place known (first_context place force) checked s (has_tail place known force s checked a.fits) (meets_tail place known force s checked a.meets))

-- ---- a unit

timing_in_force : (force : Option State) → option_map (λ s. s.restart.output_timing) force ≡ option_map (λ r. r.output_timing) (restart_in force)
timing_in_force None = refl
timing_in_force (Some s) = refl

none_there : (o : Option Restart) → is_some o ≡ false → option_map (λ r. r.output_timing) o ≡ None
none_there None e = refl
none_there (Some r) e = absurd cc

first_behind : (place : Place) (xs : List Coded) (ss : List Segment) → 0 < length xs → 0 < length ss
    → (coded_at (coded_each place xs ss) 0).force ≡ force_after place (coded_at xs 0).force (top_of 0 ss).blocks.items
unfolding coded_after
first_behind place [] ss x s = absurd (omega arith)
first_behind place (x ∷ xs) [] some s = absurd (omega arith)
first_behind place (x ∷ xs) (s ∷ ss) some more = refl

module _ (k : ℕ) (left : Left) (u : Unit_of) (text : List Bool) (found : FoundIn ((whole k).contents left u.outer) text u.contents) (some : 0 < length left.substreams) where
  once : RestartsOnce (place_of left u.outer) (first_context (place_of left u.outer) (coded_at left.substreams 0).force) (top_of 0 u.contents).blocks.items
  once = let parts = unit_segments k left u text found in once_in (place_of left u.outer) (parts.knows 0) (coded_at left.substreams 0).force (parts.checks 0) (top_of 0 u.contents) (parts.allowed 0 (omega arith))

  in_force_behind : (coded_at (after k left u).substreams 0).force ≡ force_after (place_of left u.outer) (coded_at left.substreams 0).force (top_of 0 u.contents).blocks.items
  unfolding after
  in_force_behind = let parts = unit_segments k left u text found in first_behind (place_of left u.outer) left.substreams u.contents some (omega (arith, parts.count))

  by_sync : (o : Option MajorSync) → u.outer.major ≡ o → timing_by o (after k left u).substreams ≡ output_timing u
  by_sync None e = sym (none_there (first_restart (top_of 0 u.contents).blocks.items) (once.first ∙ ap is_some e))
  by_sync (Some m) e =
      ap (λ (f : Option State). option_map (λ s. s.restart.output_timing) f) in_force_behind
      ∙ timing_in_force (force_after (place_of left u.outer) (coded_at left.substreams 0).force (top_of 0 u.contents).blocks.items)
      ∙ ap (λ (o : Option Restart). option_map (λ r. r.output_timing) o)
      (once.behind ∙ newest_some (first_restart (top_of 0 u.contents).blocks.items) (restart_in (coded_at left.substreams 0).force) (once.first ∙ ap is_some e))

  pub timing_is : timing_by u.outer.major (after k left u).substreams ≡ output_timing u
  timing_is = by_sync u.outer.major refl
