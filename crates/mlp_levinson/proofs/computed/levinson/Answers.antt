use Rattle.std.proofs.Common.{◌≡◌, ℕ, ◌<◌, List, ℤ, pos, ◌≤ℤ◌, ◌<ℤ◌, arith, ap, ◌∙◌, sym, subst}
use Rattle.std.specs.Prelude.{All}
use Rattle.std.proofs.lemmas.Int.{ints}
use Rattle.mlp_levinson.specs.Computed.{filter_of, filter_over, IsSmall}
use Rattle.mlp_levinson.proofs.LagBounds.{lags_of_small, first_small}
use Rattle.mlp_levinson.proofs.Runs.{Along, along_count, along_small, along_lag, along_next, along_stops, along_found, above_zero}
use Rattle.mlp_levinson.proofs.computed.levinson.Goals as goal

pub returns-then-level-le0 : goal.returns-then-level-le0
returns-then-level-le0 c =
    let e : c.loop.level.error ≤ℤ pos 0 = grind (arith, ints, c.if-level-le0.true) in
    sym (along_stops c.lags-lags.result c.loop.counter c.args.order c.loop.level c.loop-test.true e c.loop.invariant)
    ∙ ap (λ rs. filter_over rs c.args.order) c.lags-lags.ensures

pub advance-requires-clause-few : goal.advance-requires-clause-few
advance-requires-clause-few c = omega (arith, along_count c.lags-lags.result c.loop.counter c.loop.level c.loop.invariant, c.loop-test.true, c.requires.order)

pub advance-requires-clause-small : goal.advance-requires-clause-small
advance-requires-clause-small c = along_small c.lags-lags.result c.loop.counter c.loop.level c.loop.invariant

pub advance-requires-clause-lag : goal.advance-requires-clause-lag
advance-requires-clause-lag c =
    along_lag c.lags-lags.result c.loop.counter c.loop.level
    (first_small c.args.step c.args.samples.now c.lags-lags.result c.requires.few c.requires.samples c.lags-lags.ensures) c.loop.invariant

pub advance-requires-clause-lags : goal.advance-requires-clause-lags
advance-requires-clause-lags c = lags_of_small c.args.step c.args.samples.now c.lags-lags.result c.requires.few c.requires.samples c.lags-lags.ensures

pub loop-preserved : goal.loop-preserved
loop-preserved c =
    let lag = along_lag c.lags-lags.result c.loop.counter c.loop.level
    (first_small c.args.step c.args.samples.now c.lags-lags.result c.requires.few c.requires.samples c.lags-lags.ensures) c.loop.invariant in
    let p : pos 0 <ℤ c.loop.level.error = above_zero c.loop.level.error lag c.if-level-le0.false in
    let n : c.loop.counter < 8 = omega (arith, c.loop-test.true, c.requires.order) in
    along_next c.lags-lags.result c.loop.counter c.loop.level c.advance.new.self n p c.advance.ensures c.loop.invariant

pub filter_of-requires-clause-small : goal.filter_of-requires-clause-small
filter_of-requires-clause-small c =
    let P : List ℤ → Type 0 = λ zs. All IsSmall zs in
    subst P (sym c.as_slice.ensures.value) (along_small c.lags-lags.result c.loop.counter c.loop.level c.loop.invariant)

pub returns : goal.returns
returns c =
    let done : c.loop.counter ≡ c.args.order = omega (arith, c.loop-test.false, c.loop.auto.counter-end) in
    let P : ℕ → Type 0 = λ n. Along c.lags-lags.result n c.loop.level in
    sym (along_found c.lags-lags.result c.args.order c.loop.level c.filter_of.result (c.filter_of.ensures ∙ ap filter_of c.as_slice.ensures.value) (subst P done c.loop.invariant))
    ∙ ap (λ rs. filter_over rs c.args.order) c.lags-lags.ensures
