use Rattle.std.proofs.Common.{sym, ◌∙◌, arith}
use Rattle.mlp_bits.specs.Checks.{modulus_restart}
use Rattle.mlp_bits.proofs.Placing.{rem_from-next, rem_from-all}
use Rattle.mlp_bits.proofs.writer.BitWriter.restart_check_since.Goals as goal

pub loop-place-preserved : goal.loop-place-preserved
loop-place-preserved c = record {
  smaller = c.with_bit-rest.ensures.smaller;
  value = rem_from-next modulus_restart c.loop-place.rest c.with_bit-rest.result c.loop-place.place c.bit.result c.args.self.now c.bit.ensures c.with_bit-rest.ensures.value ∙ c.loop-place.invariant.value;
}

pub returns : goal.returns
returns c = sym (rem_from-all modulus_restart c.loop-place.rest c.loop-place.place c.args.self.now (omega arith)) ∙ c.loop-place.invariant.value
