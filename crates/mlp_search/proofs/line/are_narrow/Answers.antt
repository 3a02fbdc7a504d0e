use Rattle.std.proofs.Common.{◌≡◌, ℤ, pos, List, arith, subst}
use Rattle.std.specs.Prelude.{All}
use Rattle.std.proofs.lemmas.List.{take_all}
use Rattle.std.proofs.lemmas.List.Elements.{All-more}
use Rattle.mlp_arith.specs.Words.{clear}
use Rattle.mlp_arith.specs.Ranges.{Is26}
use Rattle.mlp_search.proofs.line.are_narrow.Goals as goal

pub loop-value-preserved : goal.loop-value-preserved
loop-value-preserved c =
    let P : ℤ → Type 0 = λ (x : ℤ). clear c.args.step x ≡ x in (
      All-more P c.args.values.now c.loop-value.value-index (pos 0) c.loop-value-test.true c.loop-value.invariant.0 (c.is_narrow.ensures.whole c.if-not-is_narrow.false),
      All-more Is26 c.args.values.now c.loop-value.value-index (pos 0) c.loop-value-test.true c.loop-value.invariant.1 (c.is_narrow.ensures.small c.if-not-is_narrow.false),
    )

pub returns-clause-whole : goal.returns-clause-whole
returns-clause-whole c = λ t.
    let P : ℤ → Type 0 = λ (x : ℤ). clear c.args.step x ≡ x in
    subst (λ (cs : List ℤ). All P cs) (take_all c.loop-value.value-index c.args.values.now (omega (arith, c.loop-value-test.false, c.loop-value.auto.value-index-end))) c.loop-value.invariant.0

pub returns-clause-small : goal.returns-clause-small
returns-clause-small c = λ t. subst (λ (cs : List ℤ). All Is26 cs) (take_all c.loop-value.value-index c.args.values.now (omega (arith, c.loop-value-test.false, c.loop-value.auto.value-index-end))) c.loop-value.invariant.1
