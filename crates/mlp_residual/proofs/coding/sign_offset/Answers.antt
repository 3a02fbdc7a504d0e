use Rattle.std.proofs.Common.{◌≡◌, ℕ, zero, suc, ◌*◌, ◌/◌, ◌^◌, ap, ◌∙◌, arith}
use Rattle.mlp_residual.specs.Coding.{symbols_of, sign_offset}
use Rattle.mlp_residual.proofs.coding.sign_offset.Goals as goal

-- half of the symbols lie below it
half_of : (book b : ℕ) → symbols_of book * 2 ^ b / 2 ≡ sign_offset book b
half_of zero b = omega arith
half_of (suc zero) b = omega arith
half_of (suc (suc zero)) b = omega arith
half_of (suc (suc (suc book))) b = omega arith

pub returns-clause-value : goal.returns-clause-value
returns-clause-value c =
    ap (λ (n : ℕ). n * c.power.result / 2) c.symbols_of.ensures.value
    ∙ ap (λ (n : ℕ). symbols_of c.args.book * n / 2) c.power.ensures.value
    ∙ half_of c.args.book c.args.b
