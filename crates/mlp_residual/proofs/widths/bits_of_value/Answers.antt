use Rattle.std.proofs.Common.{◌≡◌, ℕ, ◌+◌, ◌*◌, ◌/◌, ◌%◌, ◌^◌, ◌+ℤ◌, w64, to_z, of_z, arith}
use Rattle.std.specs.Prelude.{unsigned_abs}
use Rattle.std.proofs.lemmas.Int.{ints}
use Rattle.std.proofs.Math.Nat.{mod-lt, mod-add-div}
use Rattle.std.proofs.Math.Pow.{pow_pos}
use Rattle.mlp_residual.proofs.widths.bits_of_value.Goals as goal

pub returns-clause-some : goal.returns-clause-some
returns-clause-some c =
    let n : ℕ = unsigned_abs (to_z w64 (of_z w64 (to_z w64 (of_z w64 c.from.result) +ℤ to_z w64 (of_z w64 c.args.base)))) in
    let m : ℕ = 2 ^ c.args.b in
    let whole : n / m * m + n % m ≡ n = omega (arith, mod-add-div n m) in
    (n / m, n % m, c.if-symbol-lengths.false, mod-lt n (pow_pos c.args.b), omega (arith, ints, whole, c.from.ensures), omega (arith, c.from-2.ensures, c.from-3.ensures))
