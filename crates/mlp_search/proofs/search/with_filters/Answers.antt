use Rattle.std.proofs.Common.{◌≡◌, ◌+◌, ℕ, ℤ, Bool, true, false, map, refl, sym, ap, ◌∙◌}
use Rattle.std.proofs.lemmas.Bool.{and_parts}
use Rattle.mlp_search.specs.Candidates.{middle_of}
use Rattle.mlp_search.specs.Cost.{cost_of}
use Rattle.mlp_search.specs.Given.{fir_stays, iir_stays}
use Rattle.mlp_search.specs.Least.{is_better, least_from, with_books, middle_for}
use Rattle.mlp_search.specs.Folded.{stepped}
use Rattle.mlp_search.proofs.FoldSums.{same_middle}
use Rattle.mlp_search.proofs.SearchLaws.{too_wide_at, found_over}
use Rattle.mlp_search.proofs.GivenLaws.{pair_there}
use Rattle.mlp_search.proofs.UsableFilters.{pair_usable}
use Rattle.mlp_search.proofs.SkipLaws.{nothing_new, too_many}
use Rattle.mlp_search.proofs.search.with_filters.Goals as goal

pub returns-then-is_hopeless : goal.returns-then-is_hopeless
returns-then-is_hopeless c = pick c.writing_of-writing.result.stays refl
  where
    mid : ℤ
    mid = middle_for c.args.state.now c.args.history.now c.args.step c.args.samples.now c.args.number

    pick : (t : Bool) → c.writing_of-writing.result.stays ≡ t → c.args.best ≡ least_from (cost_of c.args.state.now c.args.history.now c.args.step true c.args.samples.now) c.args.best (with_books c.args.number mid)
    pick true e =
        let both = and_parts (fir_stays c.args.state.now c.args.number c.args.pair) (iir_stays c.args.state.now c.args.number c.args.pair) (sym c.writing_of-writing.ensures.stays ∙ e) in
        let some = c.is_hopeless.ensures.stays c.if-is_hopeless.true e in
        nothing_new c.args.state.now c.args.history.now c.args.step c.args.samples.now c.args.number c.args.pair c.requires.state c.requires.pair some both.0 both.1 mid c.args.best (c.requires.first some)
    pick false e =
        too_many c.args.state.now c.args.history.now c.args.step c.args.samples.now c.args.number c.args.pair c.requires.state c.requires.pair mid c.args.best
        (sym c.writing_of-writing.ensures.stays ∙ e) (ap (λ (k : ℕ). is_better (11 + k) c.args.best) (sym c.writing_of-writing.ensures.bits) ∙ c.is_hopeless.ensures.bits c.if-is_hopeless.true e)

pub returns-then-not-values_for : goal.returns-then-not-values_for
returns-then-not-values_for c =
    too_wide_at c.args.state.now c.args.history.now c.args.step true c.args.samples.now c.args.number (middle_for c.args.state.now c.args.history.now c.args.step c.args.samples.now c.args.number) c.args.best
    c.args.pair c.values_for.result c.requires.pair c.values_for.ensures.fit.1 c.if-not-values_for.true

pub returns : goal.returns
returns c =
    found_over c.args.state.now c.args.history.now c.args.step true c.args.samples.now c.args.number c.args.best c.with_values.result c.args.pair c.args.pair (map (stepped c.args.step) c.values_for.new.values)
    c.args.number (middle_of 0 c.values_for.new.values) c.requires.pair (c.values_for.ensures.values c.if-not-values_for.false) refl refl (same_middle c.args.step c.values_for.new.values) c.with_values.ensures

pub values_for-requires-clause-filters : goal.values_for-requires-clause-filters
values_for-requires-clause-filters c =
    pair_usable c.args.pair
    (pair_there c.args.state.now c.args.step c.args.samples.now c.args.number c.args.pair c.requires.state c.requires.pair)

pub with_values-requires-clause-pair : goal.with_values-requires-clause-pair
with_values-requires-clause-pair c =
    pair_there c.args.state.now c.args.step c.args.samples.now c.args.number c.args.pair c.requires.state c.requires.pair
