use Rattle.std.proofs.Common.{◌≡◌, ◌+◌, ◌*◌, ◌^◌, ◌≤◌, ℕ, length, arith, sym, ap, subst, inl, inr}
use Rattle.std.proofs.lemmas.List.{length-map}
use Rattle.mlp_search.specs.Folded.{all_folded, top_of}
use Rattle.mlp_search.specs.Tally.{IsCounted}
use Rattle.mlp_search.proofs.WidthLaws.{left_over, counted}
use Rattle.mlp_search.proofs.weighing.counted_least.Goals as goal

pub returns : goal.returns
returns c =
    λ book b some three codes.
    let count : length (all_folded c.args.side.now.offset c.args.values.now) ≡ length c.args.values.now = length-map c.args.values.now _ in
    let under : 2 ^ c.args.side.now.width ≤ 2 * top_of (all_folded c.args.side.now.offset c.args.values.now) + 1 = omega (arith, c.requires.under, c.requires.top) in
    elim (left_over book b c.args.side.now.width (all_folded c.args.side.now.offset c.args.values.now) under codes) [
      | inl all ↦
          let uncoded : length c.args.values.now * c.from.result ≡ length c.args.values.now * c.args.side.now.width = ap (λ (n : ℕ). length c.args.values.now * n) c.from.ensures in
          omega (arith, all, c.min.ensures, uncoded, ap (λ (n : ℕ). n * c.args.side.now.width) count, ap (λ (n : ℕ). n * b) count)
      | inr left ↦
          let is : IsCounted c.args.tally.now.low book b = subst (λ (low : ℕ). IsCounted low book b) (sym c.requires.low) (counted book b c.args.side.now.width some three left.0 left.1) in
          omega (arith, c.min.ensures, c.fewest.ensures c.args.side.now.offset c.args.values.now book b c.requires.tally is)
    ]
