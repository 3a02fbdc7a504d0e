use Rattle.std.proofs.Common.{◌≡◌, ◌/◌, ◌^◌, ◌-ℤ◌, ◌<◌, ◌≤◌, ◌+◌, ℕ, ℤ, List, [], length, drop, w16, to_z, of_z, pos, get_or, arith, refl, ap}
use Rattle.std.proofs.lemmas.Int.{to_z-of_z}
use Rattle.std.proofs.lemmas.List.{length-map, at_drop_all}
use Rattle.std.proofs.Math.Pow.{pow_pos}
use Rattle.mlp_search.specs.Folded.{folded, all_folded, top_of}
use Rattle.mlp_search.proofs.BoundLaws.{same_order}
use Rattle.mlp_search.proofs.FoldSteps.{element_below}
use Rattle.mlp_search.proofs.SumLaws.{parts_total, marks_total, parts_next, marks_next, parts_fit, marks_fit, taken_apart, are_few}
use Rattle.mlp_search.proofs.sums.sums_of.Goals as goal

pub moved-requires : goal.moved-requires
moved-requires c =
    rw (to_z-of_z w16 c.args.offset c.ranges.offset)
    (omega (arith, element_below c.args.offset c.args.values.now c.loop-value.value-index c.loop-value-test.true, c.requires.small))

small_quotient : (m : ℤ) (vs : List ℤ) (i low u : ℕ) → i < length vs → u ≡ folded (get_or vs i (pos 0) -ℤ m) → top_of (all_folded m vs) / 2 ^ low < 16 → u / 2 ^ low < 16
small_quotient m vs i low u lt is within =
    let under = same_order (folded (get_or vs i (pos 0) -ℤ m)) (top_of (all_folded m vs)) (2 ^ low) (pow_pos low) (element_below m vs i lt) in
    omega (arith, ap (λ (n : ℕ). n / 2 ^ low) is, under, within)

pub parts-parts_sum-requires : goal.parts-parts_sum-requires
parts-parts_sum-requires c =
    let is = rw (to_z-of_z w16 c.args.offset c.ranges.offset) at c.moved.ensures in
    small_quotient c.args.offset c.args.values.now c.loop-value.value-index c.args.low c.moved.result c.loop-value-test.true is c.requires.within

pub marks-marks_sum-requires : goal.marks-marks_sum-requires
marks-marks_sum-requires c =
    let is = rw (to_z-of_z w16 c.args.offset c.ranges.offset) at c.moved.ensures in
    small_quotient c.args.offset c.args.values.now c.loop-value.value-index c.args.low c.moved.result c.loop-value-test.true is c.requires.within

pub overflow_add-parts_sum : goal.overflow_add-parts_sum
overflow_add-parts_sum c =
    let m : ℤ = to_z w16 (of_z w16 c.args.offset) in
    let next =
    parts_next c.args.low m c.args.values.now c.loop-value.value-index c.moved.result c.parts-parts_sum.result c.loop-value.parts_sum _ c.loop-value-test.true c.moved.ensures c.parts-parts_sum.ensures c.loop-value.invariant.parts
    in
    let same = ap (λ (z : ℤ). parts_total c.args.low (all_folded z c.args.values.now)) (to_z-of_z w16 c.args.offset c.ranges.offset) in
    let count : length (all_folded c.args.offset c.args.values.now) ≡ length c.args.values.now = length-map c.args.values.now _ in
    omega (arith, next, same, parts_fit c.args.low (all_folded c.args.offset c.args.values.now) (omega (arith, count, c.requires.few)) c.requires.within)

pub overflow_add-marks_sum : goal.overflow_add-marks_sum
overflow_add-marks_sum c =
    let m : ℤ = to_z w16 (of_z w16 c.args.offset) in
    let next =
    marks_next c.args.low m c.args.values.now c.loop-value.value-index c.moved.result c.marks-marks_sum.result c.loop-value.marks_sum _ c.loop-value-test.true c.moved.ensures c.marks-marks_sum.ensures c.loop-value.invariant.marks
    in
    let same = ap (λ (z : ℤ). marks_total c.args.low (all_folded z c.args.values.now)) (to_z-of_z w16 c.args.offset c.ranges.offset) in
    let count : length (all_folded c.args.offset c.args.values.now) ≡ length c.args.values.now = length-map c.args.values.now _ in
    omega (arith, next, same, marks_fit c.args.low (all_folded c.args.offset c.args.values.now) (omega (arith, count, c.requires.few)))

pub loop-value-preserved : goal.loop-value-preserved
loop-value-preserved c =
    let m : ℤ = to_z w16 (of_z w16 c.args.offset) in
    record {
      parts =
          parts_next c.args.low m c.args.values.now c.loop-value.value-index c.moved.result c.parts-parts_sum.result c.loop-value.parts_sum _ c.loop-value-test.true c.moved.ensures c.parts-parts_sum.ensures c.loop-value.invariant.parts;
      marks =
          marks_next c.args.low m c.args.values.now c.loop-value.value-index c.moved.result c.marks-marks_sum.result c.loop-value.marks_sum _ c.loop-value-test.true c.moved.ensures c.marks-marks_sum.ensures c.loop-value.invariant.marks;
    }

-- all that was counted
whole_total : (F : List ℤ → ℕ) (vs : List ℤ) (i sum : ℕ) → length vs ≤ i → F [] ≡ 0 → sum + F (drop i vs) ≡ F vs → sum ≡ F vs
whole_total F vs i sum le none inv = omega (arith, inv, none, at_drop_all F vs i le)

pub returns-clause-sums : goal.returns-clause-sums
returns-clause-sums c =
    let e = to_z-of_z w16 c.args.offset c.ranges.offset in
    let count : length (all_folded c.args.offset c.args.values.now) ≡ length c.args.values.now = length-map c.args.values.now _ in
    let parts = whole_total (λ (xs : List ℤ). parts_total c.args.low (all_folded c.args.offset xs)) c.args.values.now c.loop-value.value-index c.loop-value.parts_sum (omega arith) refl (rw e at c.loop-value.invariant.parts) in
    let marks = whole_total (λ (xs : List ℤ). marks_total c.args.low (all_folded c.args.offset xs)) c.args.values.now c.loop-value.value-index c.loop-value.marks_sum (omega arith) refl (rw e at c.loop-value.invariant.marks) in
    taken_apart c.args.low c.loop-value.parts_sum c.loop-value.marks_sum (all_folded c.args.offset c.args.values.now) _ (omega (arith, count, c.requires.few)) c.requires.within parts marks
    refl refl refl refl refl refl refl

pub returns-clause-few : goal.returns-clause-few
returns-clause-few c =
    let count : length (all_folded c.args.offset c.args.values.now) ≡ length c.args.values.now = length-map c.args.values.now _ in
    are_few c.args.low (length c.args.values.now) (all_folded c.args.offset c.args.values.now) _ count c.requires.within (returns-clause-sums c)
