use Rattle.std.proofs.Common.{ℕ, ◌-◌, ◌*◌, ◌%◌, ◌^◌, bit_and, get_or, arith}
use Rattle.mlp_output.proofs.Sums.{check_more, no_bits_lost}
use Rattle.mlp_output.proofs.samples.check_of_sums.Goals as goal

pub loop-c-preserved : goal.loop-c-preserved
loop-c-preserved c =
    let i : ℕ = c.loop-c.c - 1 in
    let sum : ℕ = get_or c.args.sums.now i 0 in
    check_more c.args.sums.now i c.loop-c.c c.loop-c.check (bit_and sum 16777215 * 2 ^ i % 4294967296) (omega (arith, c.loop-c-test.true)) (omega (arith, c.loop-c-test.true, c.loop-c.auto.c, c.told-sums)) c.loop-c.invariant
    (no_bits_lost sum i (omega (arith, c.loop-c-test.true, c.loop-c.auto.c)))
