use Rattle.std.proofs.Common.{◌≡◌, drop}
use Rattle.mlp_bits.specs.Bits.{bits_of}
use Rattle.mlp_bits.specs.Checks.{rem_from, modulus_restart}
use Rattle.mlp_bits.proofs.checks.with_restart_bytes.Given as goal

abbrev pub invariant-loop-byte : goal.invariant-loop-byte
invariant-loop-byte l = rem_from modulus_restart l.rest (bits_of (drop l.byte-index l.bytes)) ≡ rem_from modulus_restart l.initial.rest (bits_of l.bytes)
