use Rattle.std.proofs.Common.{◌≡◌, ◌*◌, ◌≤◌, ◌≤ℤ◌, ◌<ℤ◌, pos, length, w16, arith, refl}
use Rattle.std.proofs.lemmas.Int.{ints, to_z-of_z}
use Rattle.std.specs.Prelude.{unsigned_abs}
use Rattle.mlp_search.specs.Folded.{negatives, sizes}
use Rattle.mlp_search.proofs.SurveyLaws.{negatives_few, sum_at_zero, sum_above, sum_below}
use Rattle.mlp_search.proofs.sides.sum_of.Goals as goal

pub returns-then-offset-eq0-clause-value : goal.returns-then-offset-eq0-clause-value
returns-then-offset-eq0-clause-value c =
    let sum : 2 * c.from-sum.result ≤ 2 * sizes c.args.values.now = omega (arith, c.from-sum.ensures, c.requires.survey.sizes) in
    let some : c.from-negatives.result ≡ negatives c.args.values.now = omega (arith, c.from-negatives.ensures, c.requires.survey.negatives) in
    let at : c.args.offset ≡ pos 0 = omega (arith, ints, c.if-offset-eq0.true, c.ranges.offset) in
    omega (
      arith,
      c.saturating_sub.ensures,
      sum_at_zero c.args.values.now c.args.offset (2 * c.from-sum.result) (length c.args.values.now) c.from-negatives.result at sum refl some,
    )

pub moved_sum-requires-clause-losing : goal.moved_sum-requires-clause-losing
moved_sum-requires-clause-losing c = omega (arith, c.from-negatives.ensures, c.requires.survey.negatives, negatives_few c.args.values.now, c.requires.few)

pub returns-then-offset-lt0-clause-value : goal.returns-then-offset-lt0-clause-value
returns-then-offset-lt0-clause-value c =
    let sum : 2 * c.from-sum.result ≤ 2 * sizes c.args.values.now = omega (arith, c.from-sum.ensures, c.requires.survey.sizes) in
    let far : 2 * c.from-far.result ≡ 2 * unsigned_abs c.args.offset = omega (arith, c.from-far.ensures, rw (to_z-of_z w16 c.args.offset c.ranges.offset) at c.unsigned_abs.ensures.value) in
    let sign : c.args.offset <ℤ pos 0 = omega (arith, ints, c.if-offset-lt0.true, c.ranges.offset) in
    let twice : 2 * c.from-negatives.result ≡ 2 * negatives c.args.values.now = omega (arith, c.from-negatives.ensures, c.requires.survey.negatives) in
    omega (
      arith,
      c.moved_sum.ensures.value,
      sum_below c.args.values.now c.args.offset (2 * c.from-sum.result) (2 * c.from-far.result) (2 * c.from-negatives.result) (length c.args.values.now) sign sum far twice refl,
    )

pub moved_sum-requires-2-clause-gaining : goal.moved_sum-requires-2-clause-gaining
moved_sum-requires-2-clause-gaining c = omega (arith, c.from-negatives.ensures, c.requires.survey.negatives, negatives_few c.args.values.now, c.requires.few)

pub returns-clause-value : goal.returns-clause-value
returns-clause-value c =
    let sum : 2 * c.from-sum.result ≤ 2 * sizes c.args.values.now = omega (arith, c.from-sum.ensures, c.requires.survey.sizes) in
    let far : 2 * c.from-far.result ≡ 2 * unsigned_abs c.args.offset = omega (arith, c.from-far.ensures, rw (to_z-of_z w16 c.args.offset c.ranges.offset) at c.unsigned_abs.ensures.value) in
    let sign : pos 0 ≤ℤ c.args.offset = omega (arith, ints, c.if-offset-lt0.false, c.ranges.offset) in
    let twice : 2 * c.from-negatives.result ≡ 2 * negatives c.args.values.now = omega (arith, c.from-negatives.ensures, c.requires.survey.negatives) in
    omega (
      arith,
      c.moved_sum-2.ensures.value,
      sum_above c.args.values.now c.args.offset (2 * c.from-sum.result) (2 * c.from-far.result) (2 * c.from-negatives.result) (length c.args.values.now) sign sum far twice refl,
    )
