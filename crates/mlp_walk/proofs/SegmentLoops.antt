-- Reading the segments of a unit as a loop does: it goes on, it stops at a fault, it is done.
use Rattle.std.proofs.Common.{◌≡◌, ℕ, suc, ◌+◌, ◌-◌, ◌<◌, ◌≤◌, Bool, List, [], ◌∷◌, ◌++◌, length, Result, Ok, Err, refl, sym, ap, ◌∙◌, append_assoc, arith}
use Rattle.std.proofs.lemmas.List.{append-nil}
use Rattle.mlp_syntax.specs.declared.fault.Broken.{Broken}
use Rattle.mlp_layout.specs.Contents.{UnitFault, Portion, bits_in, in_segment, with_first, segment_first, segments, no_segments}

abbrev pub with_before : {S : Type 0} → List S → Result (List S) UnitFault → Result (List S) UnitFault
with_before before (Ok ss) = Ok (before ++ ss)
with_before before (Err e) = Err e

regroup : {S : Type 0} (before : List S) (s : S) (r : Result (List S) UnitFault) → with_before before (with_first s r) ≡ with_before (before ++ s ∷ []) r
regroup before s (Ok ss) = ap (λ (xs : List _). Ok xs) (sym (append_assoc before (s ∷ []) ss))
regroup before s (Err e) = refl

module _ {S : Type 0} (portion : List S → Portion S) where
  -- what is left to read gives the whole
  abbrev pub SegmentsContinue : ℕ → List S → List Bool → Result (List S) UnitFault → Type 0
  SegmentsContinue left before text total = with_before before ((segments portion left before).read text) ≡ total

  pub segments_go_on : (before : List S) (count i : ℕ) (text : List Bool) (s : S) (total : Result (List S) UnitFault) → i < count → (portion before).text.read (bits_in (portion before) text) ≡ Ok s
      → SegmentsContinue (count - i) before text total → SegmentsContinue (count - (i + 1)) (before ++ s ∷ []) text total
  unfolding segments segment_first
  segments_go_on before count i text s total lt h so_far =
      let k : count - i ≡ suc (count - (i + 1)) = omega arith in
      let one : with_before before ((segments portion (count - i) before).read text) ≡ with_before (before ++ s ∷ []) ((segments portion (count - (i + 1)) (before ++ s ∷ [])).read text) =
      rw (k, h) (regroup before s ((segments portion (count - (i + 1)) (before ++ s ∷ [])).read text)) in
      sym one ∙ so_far

  pub segments_stop : (before : List S) (count i : ℕ) (text : List Bool) (b : Broken) (total : Result (List S) UnitFault) → i < count → (portion before).text.read (bits_in (portion before) text) ≡ Err b
      → SegmentsContinue (count - i) before text total → total ≡ Err (in_segment (length before) (portion before).first b)
  unfolding segments segment_first
  segments_stop before count i text b total lt h so_far =
      let k : count - i ≡ suc (count - (i + 1)) = omega arith in
      let one : with_before before ((segments portion (count - i) before).read text) ≡ Err (in_segment (length before) (portion before).first b) = rw (k, h) refl in
      sym so_far ∙ one

  pub segments_are_done : (before : List S) (count i : ℕ) (text : List Bool) (total : Result (List S) UnitFault) → count ≤ i → SegmentsContinue (count - i) before text total → total ≡ Ok before
  unfolding segments no_segments
  segments_are_done before count i text total le so_far =
      let k : count - i ≡ 0 = omega arith in
      let one : with_before before ((segments portion (count - i) before).read text) ≡ Ok before = rw k (ap (λ (xs : List _). Ok xs) (append-nil before)) in
      sym so_far ∙ one
