use Rattle.std.proofs.Common.{◌≡◌, ℕ, ◌*◌, ◌/◌, ◌%◌, ◌^◌, ◌<◌, arith, bit_xor}
use Rattle.std.proofs.lemmas.Nat.{and_mask}
use Rattle.mlp_matrix.proofs.noise.next_seed.Goals as goal

pub returns-clause-value : goal.returns-clause-value
returns-clause-value c =
    let s : ℕ = c.args.seed in
    let small : s < 2 ^ 23 = c.requires in
    let low : s % 128 * 65536 % 4294967296 ≡ s % 128 * 65536 = omega arith in
    let high : s / 128 * 32 % 4294967296 ≡ s / 128 * 32 = omega arith in
    rw (and_mask s 7, low, high) (and_mask (bit_xor (bit_xor (s % 128 * 65536) (s / 128)) (s / 128 * 32)) 23)
