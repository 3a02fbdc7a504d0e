use Rattle.std.proofs.Common.{◌≡◌, ◌+◌, ◌-◌, ◌*◌, ◌/◌, ◌^◌, ◌≤◌, ℕ, length, arith, sym, subst, ap, ◌∙◌}
use Rattle.mlp_search.proofs.WidthLaws.{least_left, of_three}
use Rattle.mlp_search.proofs.sides.least_bits.Goals as goal

pub returns-clause-value : goal.returns-clause-value
returns-clause-value c =
    λ book b us some count le under codes.
    let least : ℕ = c.least_twice-twice.result in
    let power : c.saturating_sub-power.result ≡ c.args.width - 4 = omega (arith, c.saturating_sub-power.ensures, c.from.ensures) in
    let at : (d : ℕ) → least ≤ (2 * (c.saturating_sub-power.result + d) + 1) * c.args.count + c.args.sum / 2 ^ (c.saturating_sub-power.result + d)
    → least ≤ (2 * (c.args.width - 4 + d) + 1) * length us + c.args.sum / 2 ^ (c.args.width - 4 + d) =
    λ d h. subst (λ (n : ℕ). least ≤ (2 * (c.args.width - 4 + d) + 1) * n + c.args.sum / 2 ^ (c.args.width - 4 + d)) (sym count)
    (subst (λ (k : ℕ). least ≤ (2 * (k + d) + 1) * c.args.count + c.args.sum / 2 ^ (k + d)) power h)
    in
    let here : least ≤ (2 * (c.args.width - 4) + 1) * length us + c.args.sum / 2 ^ (c.args.width - 4) =
    subst (λ (n : ℕ). least ≤ (2 * (c.args.width - 4) + 1) * n + c.args.sum / 2 ^ (c.args.width - 4)) (sym count)
    (subst (λ (k : ℕ). least ≤ (2 * k + 1) * c.args.count + c.args.sum / 2 ^ k) power c.least_twice-twice.ensures.first)
    in
    let bound : (k : ℕ) → c.args.width - 4 ≤ k → k ≤ c.args.width - 4 + 2 → least ≤ (2 * k + 1) * length us + c.args.sum / 2 ^ k =
    λ k from to. of_three (λ (j : ℕ). least ≤ (2 * j + 1) * length us + c.args.sum / 2 ^ j) (c.args.width - 4) k
    here (at 1 c.least_twice-twice.ensures.second) (at 2 c.least_twice-twice.ensures.third) from to
    in
    let uncoded : c.args.count * c.from-2.result ≡ length us * c.args.width = ap (λ (n : ℕ). c.args.count * n) c.from-2.ensures ∙ ap (λ (n : ℕ). n * c.args.width) (sym count) in
    omega (arith, least_left book b c.args.width c.args.sum least us some le under codes bound, c.min.ensures, uncoded)
