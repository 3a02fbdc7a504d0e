use Rattle.std.proofs.Common.{◌≡◌, ◌+◌, ◌*◌, ◌^◌, ◌≤◌, ℕ, ℤ, pos, map, to_z, of_z, length, w16, arith, sym, ap, subst, ◌∙◌}
use Rattle.std.proofs.lemmas.Int.{ints, to_z-of_z}
use Rattle.std.proofs.lemmas.List.{length-map}
use Rattle.mlp_search.specs.Folded.{stepped, all_folded, top_of}
use Rattle.mlp_search.specs.Trial.{IsSide}
use Rattle.mlp_search.proofs.FoldSteps.{ends_ordered}
use Rattle.mlp_search.proofs.Middles.{offset_none}
use Rattle.mlp_search.proofs.sides.side_of.Goals as goal

pub returns-clause-side : goal.returns-clause-side
returns-clause-side c =
    let e = to_z-of_z w16 c.args.offset c.ranges.offset in
    let none : length c.args.values.now ≡ 0 → to_z w16 (of_z w16 c.args.offset) ≡ pos 0 = λ l. e ∙ offset_none c.args.step (map (stepped c.args.step) c.args.values.now) c.args.offset c.requires.offset (length-map c.args.values.now _ ∙ l) in
    let top = rw e at (c.top_of-top.ensures.value c.args.values.now c.requires.survey none) in
    let sum = rw e at c.sum_of-sum.ensures.value in
    let count : length (all_folded c.args.offset c.args.values.now) ≡ length c.args.values.now = length-map c.args.values.now _ in
    let under : 2 ^ c.width_of-width.result ≤ 2 * top_of (all_folded c.args.offset c.args.values.now) + 1 = omega (arith, c.width_of-width.ensures.under, top) in
    subst
    (λ (z : ℤ). IsSide c.args.state.now c.args.step c.args.trial.now c.args.values.now (record {
      offset = z;
      top = c.top_of-top.result;
      width = c.width_of-width.result;
      base = c.base_of-base.result;
      least = c.base_of-base.result + c.least_bits-codes.result;
    }))
    (sym e)
    (record {
      offset = c.requires.offset;
      top = top;
      under = c.width_of-width.ensures.under;
      base = λ d number at. c.base_of-base.ensures.bits d number (at ∙ sym e);
      least = λ book b some three codes.
          let bits = c.least_bits-codes.ensures.value book b (all_folded c.args.offset c.args.values.now) some count sum under codes in
          omega (arith, bits, ap (λ (n : ℕ). n * b) count);
    })

pub top_of-top-requires : goal.top_of-top-requires
top_of-top-requires c = omega (arith, ints, ends_ordered c.args.values.now, c.requires.survey.least, c.requires.survey.greatest)
