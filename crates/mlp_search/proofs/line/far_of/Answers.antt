use Rattle.std.proofs.Common.{◌≤◌, ℤ, pos, List, arith, subst}
use Rattle.std.specs.Prelude.{unsigned_abs}
use Rattle.std.proofs.lemmas.List.{take_all}
use Rattle.std.proofs.lemmas.List.Elements.{All-more}
use Rattle.mlp_search.specs.Lines.{AreNear}
use Rattle.mlp_search.proofs.line.far_of.Goals as goal

pub loop-value-preserved : goal.loop-value-preserved
loop-value-preserved c =
    let P : ℤ → Type 0 = λ (v : ℤ). unsigned_abs v ≤ c.max-far.result in
    All-more P c.args.values.now c.loop-value.value-index (pos 0) c.loop-value-test.true
    (λ k d l. omega (arith, c.loop-value.invariant k d l, c.max-far.ensures)) (omega (arith, c.distance.ensures.value, c.max-far.ensures))

pub returns : goal.returns
returns c = subst (λ (vs : List ℤ). AreNear c.loop-value.far vs) (take_all c.loop-value.value-index c.args.values.now (omega (arith, c.loop-value-test.false, c.loop-value.auto.value-index-end))) c.loop-value.invariant
