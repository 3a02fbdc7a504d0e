use Rattle.mlp_bits.proofs.BitLists.{rem_from-place, rem_from-none}
use Rattle.mlp_bits.specs.Checks.{modulus_restart, rem_from}
use Rattle.mlp_bits.specs.Bits.{bits_of}
use Rattle.std.proofs.Common.{ℕ, sym, ap, ◌∙◌, ◌-◌, ◌*◌, ◌<◌, length, arith, take, drop}
use Rattle.mlp_bits.proofs.checks.with_restart_bits.Goals as goal

pub loop-place-preserved : goal.loop-place-preserved
loop-place-preserved c =
    let within : c.loop-place.place < 8 * length c.args.bytes.now = omega arith in
    record {
      smaller = c.with_bit-rest.ensures.smaller;
      value = rem_from-place modulus_restart c.loop-place.rest c.with_bit-rest.result c.loop-place.place c.args.end c.args.bytes.now within c.loop-place-test.true c.with_bit-rest.ensures.value ∙ c.loop-place.invariant.value;
    }

pub returns : goal.returns
returns c =
    let bits = take (c.args.end - c.args.first) (drop c.args.first (bits_of c.args.bytes.now)) in
    sym (rem_from-none modulus_restart c.loop-place.rest c.loop-place.place c.args.end (drop c.loop-place.place (bits_of c.args.bytes.now)) c.loop-place-test.false)
    ∙ c.loop-place.invariant.value ∙ ap (λ (k : ℕ). rem_from modulus_restart k bits) c.from-rest.ensures
