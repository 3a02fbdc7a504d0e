-- Reading a unit's segments as the loop does.
use Rattle.std.proofs.Common.{◌≡◌, ℕ, ◌+◌, ◌-◌, ◌*◌, ◌<◌, ◌≤◌, Bool, eqb, List, [], ◌∷◌, ◌++◌, length, take, drop, Result, Ok, Err, Option, refl, sym, ap, subst, ◌∙◌, arith, ℤ}
use Rattle.mlp_syntax.specs.declared.fault.Broken.{Broken}
use Rattle.mlp_syntax.specs.declared.segment.Segment.{Segment}
use Rattle.mlp_syntax.specs.declared.unit.Outer.{Outer}
use Rattle.mlp_bits.specs.Bits.{bits_of}
use Rattle.mlp_layout.specs.Contents.{UnitFault, Portion, bits_in, in_segment, segments}
use Rattle.mlp_walk.proofs.SegmentLoops.{with_before, SegmentsContinue, segments_go_on, segments_stop, segments_are_done}
use Rattle.mlp_unit.specs.Shape.{body_place, end_at, end_before, unit_with}
use Rattle.mlp_substream.specs.declared.known.Place.{Place}
use Rattle.mlp_substream.specs.declared.known.Ending.{Ending}
use Rattle.mlp_substream.specs.Segment.{segment}
use Rattle.mlp_channels.specs.Channels.{Coded}
use Rattle.mlp_contents.specs.Known.{ending_of, covered_by, known_by}
use Rattle.mlp_contents.specs.Units.{coded_at, is_checked, portion}
use Rattle.mlp_contents.proofs.Behind.{Behind, substream_is}

module _ (last : ℕ) (place : Place) (xs : List Coded) (check : ℕ) (unit : List ℕ) (outer : Outer) (body : outer.body ≡ body_place (unit_with unit outer)) where
  abbrev p : List Segment → Portion Segment
  p = portion last place xs check (unit_with unit outer)

  abbrev total : Result (List Segment) UnitFault
  total = (segments p (last + 1) []).read (bits_of unit)

  -- what is read of the segment of substream j, by what the loop keeps
  abbrev pub reads_at : ℕ → Coded → ℕ → Option Ending → Bool → ℕ → Result Segment Broken
  reads_at j x covered first is_last start =
      (segment place (known_by is_last x.force check covered first) x.force (is_checked outer.entries.items j)).read
      (take (16 * (end_at outer.entries.items j - end_before outer.entries.items j)) (drop (8 * (start + 2 * end_before outer.entries.items j)) (bits_of unit)))

  abbrev err_of : UnitFault → Result (List Segment) UnitFault
  err_of e = Err e

  none_before : (r : Result (List Segment) UnitFault) → with_before [] r ≡ r
  none_before (Ok ss) = refl
  none_before (Err e) = refl

  pub reading_begins : SegmentsContinue p (last + 1 - 0) [] (bits_of unit) total
  reading_begins = let n : last + 1 - 0 ≡ last + 1 = omega arith in rw n (none_before total)

  pub reading_ends : (before : List Segment) (i : ℕ) → last + 1 ≤ i → SegmentsContinue p (last + 1 - i) before (bits_of unit) total → total ≡ Ok before
  reading_ends before i le so_far = segments_are_done p before (last + 1) i (bits_of unit) total le so_far

  module _ (before : List Segment) (covered : ℕ) (first : Option Ending) (now : List Coded) (top : Segment) (frames : List (List ℤ)) (is_last : Bool) (b : Behind place xs before covered first now top frames)
      (last_is : is_last ≡ eqb (length before) last) where
    reads : (r : Result Segment Broken) → reads_at (length before) (coded_at now (length before)) covered first is_last outer.body ≡ r → (p before).text.read (bits_in (p before) (bits_of unit)) ≡ r
    unfolding portion
    reads r h =
        let j = length before in
        let z = coded_at xs j in
        let start = body_place (unit_with unit outer) in
        ap (λ (x : Coded). reads_at j x (covered_by before) (ending_of before) (eqb j last) start) (sym (substream_is place xs before covered first now top frames b))
        ∙ ap (λ (n : ℕ). reads_at j (coded_at now j) n (ending_of before) (eqb j last) start) (sym b.covered_is)
        ∙ ap (λ (o : Option Ending). reads_at j (coded_at now j) covered o (eqb j last) start) (sym b.first_is)
        ∙ ap (λ (q : Bool). reads_at j (coded_at now j) covered first q start) (sym last_is)
        ∙ ap (λ (n : ℕ). reads_at j (coded_at now j) covered first is_last n) (sym body) ∙ h

    pub reading_goes_on : (i : ℕ) → length before ≡ i → i < last + 1 → (s : Segment) → reads_at i (coded_at now i) covered first is_last outer.body ≡ Ok s
        → SegmentsContinue p (last + 1 - i) before (bits_of unit) total → SegmentsContinue p (last + 1 - (i + 1)) (before ++ s ∷ []) (bits_of unit) total
    reading_goes_on i count lt s h so_far =
        segments_go_on p before (last + 1) i (bits_of unit) s total lt (reads (Ok s) (subst (λ (n : ℕ). reads_at n (coded_at now n) covered first is_last outer.body ≡ Ok s) (sym count) h)) so_far

    place_is : (d : Broken) → in_segment (length before) (p before).first d ≡ in_segment (length before) (8 * (outer.body + 2 * end_before outer.entries.items (length before))) d
    unfolding portion
    place_is d = ap (λ (n : ℕ). in_segment (length before) (8 * (n + 2 * end_before outer.entries.items (length before))) d) (sym body)

    pub reading_stops : (i : ℕ) → length before ≡ i → i < last + 1 → (d : Broken) (e : UnitFault) → reads_at i (coded_at now i) covered first is_last outer.body ≡ Err d
        → e ≡ in_segment i (8 * (outer.body + 2 * end_before outer.entries.items i)) d → SegmentsContinue p (last + 1 - i) before (bits_of unit) total → total ≡ Err e
    reading_stops i count lt d e h is so_far =
        let stop = segments_stop p before (last + 1) i (bits_of unit) d total lt (reads (Err d) (subst (λ (n : ℕ). reads_at n (coded_at now n) covered first is_last outer.body ≡ Err d) (sym count) h)) so_far in
        let here = subst (λ (n : ℕ). e ≡ in_segment n (8 * (outer.body + 2 * end_before outer.entries.items n)) d) (sym count) is in
        stop ∙ ap err_of (place_is d ∙ sym here)
