use Rattle.mlp_bits.proofs.BitLists.{rem_from-byte, rem_from-end}
use Rattle.mlp_bits.specs.Checks.{modulus_restart}
use Rattle.std.proofs.Common.{sym, ◌∙◌}
use Rattle.mlp_bits.proofs.checks.with_restart_bytes.Goals as goal

pub loop-byte-preserved : goal.loop-byte-preserved
loop-byte-preserved c = rem_from-byte modulus_restart c.loop-byte.rest c.with_restart_byte-rest.result c.loop-byte.byte-index c.args.bytes.now c.loop-byte-test.true c.with_restart_byte-rest.ensures ∙ c.loop-byte.invariant

pub returns : goal.returns
returns c = sym (rem_from-end modulus_restart c.loop-byte.rest c.loop-byte.byte-index c.args.bytes.now c.loop-byte-test.false) ∙ c.loop-byte.invariant
