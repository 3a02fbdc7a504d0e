use Rattle.std.proofs.Common.{◌*◌, ◌/◌, ◌^◌, ◌<◌, ◌≤◌, ◌-ℤ◌, ℕ, pos, get_or, w16, arith, ap}
use Rattle.std.proofs.lemmas.Int.{to_z-of_z}
use Rattle.std.proofs.Math.Nat.{pow-le-pow_right}
use Rattle.std.proofs.Math.Pow.{pow_pos}
use Rattle.mlp_search.specs.Folded.{folded, all_folded, top_of}
use Rattle.mlp_search.proofs.BoundLaws.{same_order}
use Rattle.mlp_search.proofs.FoldLaws.{quotient_below}
use Rattle.mlp_search.proofs.FoldSteps.{element_below}
use Rattle.mlp_search.proofs.folds.symbol_sum_in.Goals as goal

pub moved-requires : goal.moved-requires
moved-requires g c =
    let few : top_of (all_folded c.args.offset c.args.values.now) < 18 * 2 ^ c.args.b = quotient_below 18 (2 ^ c.args.b) (top_of (all_folded c.args.offset c.args.values.now)) (pow_pos c.args.b) c.requires.within in
    let power : 2 ^ c.args.b ≤ 2 ^ 24 = pow-le-pow_right (omega arith) (let l : c.args.b ≤ 24 = omega (arith, c.requires.b) in l) in
    rw (to_z-of_z w16 c.args.offset c.ranges.offset)
    (omega (arith, element_below c.args.offset c.args.values.now c.loop-value.value-index c.loop-value-test.true, few, power))

pub symbol_bits-sum-requires : goal.symbol_bits-sum-requires
symbol_bits-sum-requires g c =
    let is = rw (to_z-of_z w16 c.args.offset c.ranges.offset) at c.moved.ensures in
    let below = element_below c.args.offset c.args.values.now c.loop-value.value-index c.loop-value-test.true in
    let under = same_order (folded (get_or c.args.values.now c.loop-value.value-index (pos 0) -ℤ c.args.offset)) (top_of (all_folded c.args.offset c.args.values.now)) (2 ^ c.args.b) (pow_pos c.args.b) below in
    omega (arith, ap (λ (n : ℕ). n / 2 ^ c.args.b) is, under, c.requires.within)
