use Rattle.std.proofs.Common.{◌≡◌, ◌++◌, ℤ, List, length, reverse, arith, sym, ap, subst, ◌∙◌}
use Rattle.std.specs.Prelude.{All}
use Rattle.mlp_arith.specs.Words.{clear}
use Rattle.mlp_arith.specs.Ranges.{Is26}
use Rattle.mlp_search.proofs.LineFits.{all_in_line, line_is}
use Rattle.mlp_search.proofs.line.put_line.Goals as goal

pub count_steps-requires-clause-whole : goal.count_steps-requires-clause-whole
count_steps-requires-clause-whole c =
    let P : ℤ → Type 0 = λ (x : ℤ). clear c.args.step x ≡ x in
    subst (λ (xs : List ℤ). All P xs) (sym c.put_whole.ensures) (all_in_line P c.outputs-outputs.result.now c.args.samples.now (c.are_narrow.ensures.whole c.if-not-are_narrow.false) c.requires.whole)

pub returns : goal.returns
returns c = λ t.
    let same = c.outputs-outputs.ensures.value in
    line_is c.args.step c.args.history.now c.args.samples.now c.count_steps.new.residuals c.put_high.new.high c.put_low.new.low
    (omega (arith, c.outputs-outputs.ensures.count, ap (λ (xs : List ℤ). length xs) same))
    (c.count_steps.ensures ∙ c.put_whole.ensures ∙ ap (λ (xs : List ℤ). reverse xs ++ c.args.samples.now) same)
    (subst (λ (xs : List ℤ). All Is26 xs) same (c.are_narrow.ensures.small c.if-not-are_narrow.false)) c.requires.samples c.put_high.ensures c.put_low.ensures
