use Rattle.std.proofs.Common.{◌+◌, ◌<◌, List, ℤ, pos, ◌≤ℤ◌, ◌<ℤ◌, length, lit<, arith, ap, ◌∙◌, sym, subst}
use Rattle.std.specs.Prelude.{All}
use Rattle.std.proofs.lemmas.Int.{ints}
use Rattle.mlp_levinson.specs.Computed.{filter_of, filter_over, IsSmall}
use Rattle.mlp_levinson.proofs.LagBounds.{lags_of_small, first_small}
use Rattle.mlp_levinson.proofs.Runs.{Along, along_count, along_small, along_lag, along_first, along_next, along_found, above_zero, found_none, found_more, found_stops}
use Rattle.mlp_levinson.proofs.computed.levinson_all.Goals as goal

pub loop-init : goal.loop-init
loop-init c = record {
  along = along_first c.lags-lags.result c.first-level.result c.first-level.ensures;
  found = found_none c.lags-lags.result c.clear.new.self.items c.clear.ensures;
}

pub returns-then-level-le0 : goal.returns-then-level-le0
returns-then-level-le0 c = λ m l.
    let e : c.loop.level.error ≤ℤ pos 0 = grind (arith, ints, c.if-level-le0.true) in
    found_stops c.lags-lags.result c.loop.counter c.loop.level c.loop.out.items e c.loop.invariant.along c.loop.invariant.found m
    ∙ ap (λ rs. filter_over rs (m + 1)) c.lags-lags.ensures

pub advance-requires-clause-few : goal.advance-requires-clause-few
advance-requires-clause-few c = omega (arith, along_count c.lags-lags.result c.loop.counter c.loop.level c.loop.invariant.along, c.loop-test.true)

pub advance-requires-clause-small : goal.advance-requires-clause-small
advance-requires-clause-small c = along_small c.lags-lags.result c.loop.counter c.loop.level c.loop.invariant.along

pub advance-requires-clause-lag : goal.advance-requires-clause-lag
advance-requires-clause-lag c =
    along_lag c.lags-lags.result c.loop.counter c.loop.level
    (first_small c.args.step c.args.samples.now c.lags-lags.result c.requires.few c.requires.samples c.lags-lags.ensures) c.loop.invariant.along

pub advance-requires-clause-lags : goal.advance-requires-clause-lags
advance-requires-clause-lags c = lags_of_small c.args.step c.args.samples.now c.lags-lags.result c.requires.few c.requires.samples c.lags-lags.ensures

pub filter_of-requires-clause-small : goal.filter_of-requires-clause-small
filter_of-requires-clause-small c =
    let lag = along_lag c.lags-lags.result c.loop.counter c.loop.level
    (first_small c.args.step c.args.samples.now c.lags-lags.result c.requires.few c.requires.samples c.lags-lags.ensures) c.loop.invariant.along in
    let p : pos 0 <ℤ c.loop.level.error = above_zero c.loop.level.error lag c.if-level-le0.false in
    let a : Along c.lags-lags.result (c.loop.counter + 1) c.advance.new.self =
    along_next c.lags-lags.result c.loop.counter c.loop.level c.advance.new.self c.loop-test.true p c.advance.ensures c.loop.invariant.along in
    let P : List ℤ → Type 0 = λ zs. All IsSmall zs in
    subst P (sym c.as_slice.ensures.value) (along_small c.lags-lags.result (c.loop.counter + 1) c.advance.new.self a)

pub push-requires : goal.push-requires
push-requires c = (lit< tt, let h : length c.loop.out.items < 8 = omega (arith, c.loop.invariant.found.count, c.loop-test.true) in h)

pub loop-preserved : goal.loop-preserved
loop-preserved c =
    let lag = along_lag c.lags-lags.result c.loop.counter c.loop.level
    (first_small c.args.step c.args.samples.now c.lags-lags.result c.requires.few c.requires.samples c.lags-lags.ensures) c.loop.invariant.along in
    let p : pos 0 <ℤ c.loop.level.error = above_zero c.loop.level.error lag c.if-level-le0.false in
    let a : Along c.lags-lags.result (c.loop.counter + 1) c.advance.new.self =
    along_next c.lags-lags.result c.loop.counter c.loop.level c.advance.new.self c.loop-test.true p c.advance.ensures c.loop.invariant.along in
    let f = along_found c.lags-lags.result (c.loop.counter + 1) c.advance.new.self c.filter_of.result (c.filter_of.ensures ∙ ap filter_of c.as_slice.ensures.value) a in
    record {
      along = a;
      found = found_more c.lags-lags.result c.loop.counter c.loop.out.items c.push.new.self.items c.filter_of.result c.push.ensures.items f c.loop.invariant.found;
    }

pub returns : goal.returns
returns c = λ m l.
    c.loop.invariant.found.found m (omega (arith, l, c.loop-test.false))
    ∙ ap (λ rs. filter_over rs (m + 1)) c.lags-lags.ensures
