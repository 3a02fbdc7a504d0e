use Rattle.std.proofs.Common.{◌≤◌, ◌<◌, ◌-◌, true, Some, refl, length, arith, sym, ap, ◌∙◌}
use Rattle.std.specs.Prelude.{option_map}
use Rattle.std.proofs.lemmas.Option.{slice_get_past, slice_get_read}
use Rattle.mlp_syntax.specs.declared.params.Filter.{Filter}
use Rattle.mlp_search.specs.declared.pair.Pair.{Pair}
use Rattle.mlp_search.specs.Candidates.{alone}
use Rattle.mlp_search.specs.Least.{middle_for}
use Rattle.mlp_search.proofs.ComputedPairs.{computed_pair}
use Rattle.mlp_search.proofs.SearchLaws.{nothing_there}
use Rattle.mlp_search.proofs.search.with_computed.Goals as goal

pub returns-then-place-computed : goal.returns-then-place-computed
returns-then-place-computed c =
    let past : length c.args.computed.now ≤ c.args.number - 10 = omega arith in
    let none = computed_pair c.args.state.now c.args.step c.args.samples.now c.args.computed.now c.args.number (omega arith) (omega arith) c.requires.computed
    ∙ ap (option_map alone) (slice_get_past c.args.computed.now (c.args.number - 10) past) in
    sym (nothing_there c.args.state.now c.args.history.now c.args.step true c.args.samples.now c.args.number
    (middle_for c.args.state.now c.args.history.now c.args.step c.args.samples.now c.args.number) c.args.best none)

abbrev with_iir : Filter 8 → Filter 4 → Pair
with_iir fir iir = record { fir = fir; iir = iir }

pub with_filters-requires-clause-pair : goal.with_filters-requires-clause-pair
with_filters-requires-clause-pair c =
    let within : c.args.number - 10 < length c.args.computed.now = omega arith in
    computed_pair c.args.state.now c.args.step c.args.samples.now c.args.computed.now c.args.number (omega arith) (omega arith) c.requires.computed
    ∙ ap (option_map alone) (slice_get_read c.args.computed.now (length c.args.computed.now) (c.args.number - 10) _ refl within c.index-computed-place.is)
    ∙ ap (λ (f : Filter 4). Some (with_iir c.index-computed-place.result f)) (sym c.without-none.ensures)
