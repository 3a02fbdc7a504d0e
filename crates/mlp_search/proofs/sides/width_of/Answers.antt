use Rattle.std.proofs.Common.{◌≡◌, ◌-◌, ◌*◌, ◌+◌, ◌^◌, ◌≤◌, ℕ, arith, subst}
use Rattle.std.specs.Int.Count.{count_leading_zeros}
use Rattle.std.proofs.lemmas.Nat.{leading_length}
use Rattle.mlp_search.proofs.sides.width_of.Goals as goal

pub returns-clause-under : goal.returns-clause-under
returns-clause-under c =
    let width = leading_length 64 c.args.top (omega (arith, c.requires)) in
    let e : width.0 ≡ 64 - count_leading_zeros 64 c.args.top = omega (arith, width.1) in
    subst (λ (m : ℕ). 2 ^ m ≤ 2 * c.args.top + 1) e width.3
