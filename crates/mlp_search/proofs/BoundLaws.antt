-- Below which number of low bits there are no codes.
use Rattle.std.proofs.Common.{◌≡◌, ℕ, ◌+◌, ◌*◌, ◌/◌, ◌^◌, ◌<◌, ◌≤◌, arith, ◌∙◌, ap}
use Rattle.std.proofs.lemmas.Nat.{le-div}
use Rattle.std.proofs.Math.Nat.{div-mul-le_self, pow-le-pow_right}
use Rattle.std.proofs.Math.Pow.{pow_pos, pow-add}

-- ---- low bits without codes

pub same_order : (m n d : ℕ) → 0 < d → m ≤ n → m / d ≤ n / d
same_order m n d some le = le-div (m / d) n d some (omega (arith, div-mul-le_self m d, le))

-- by the width of a number
pub wide_none : (a m b s j : ℕ) → 2 ^ m ≤ 2 * a + 1 → s ≤ 2 ^ j → b + j + 1 ≤ m → s ≤ a / 2 ^ b
wide_none a m b s j wide few le =
    let more : 2 ^ (b + j + 1) ≤ 2 ^ m = pow-le-pow_right (omega arith) le in
    let parts : 2 ^ (b + j + 1) ≡ 2 ^ j * 2 ^ b * 2 = pow-add 2 (b + j) 1 ∙ ap (λ (n : ℕ). n * 2) (pow-add 2 b j ∙ omega arith) in
    let there : 2 ^ j ≤ a / 2 ^ b = le-div (2 ^ j) a (2 ^ b) (pow_pos b) (omega (arith, wide, more, parts)) in
    omega (arith, there, few)
