use Rattle.std.proofs.Common.{◌≡◌, ◌<◌, ◌-◌, ◌^◌, take, drop}
use Rattle.mlp_bits.specs.Bits.{bits_of}
use Rattle.mlp_bits.specs.Checks.{rem_from, modulus_restart}
use Rattle.mlp_bits.proofs.checks.with_restart_bits.Given as goal

abbrev pub invariant-loop-place : goal.invariant-loop-place
invariant-loop-place l = record {
  smaller : l.rest < 2 ^ 8;
  value : rem_from modulus_restart l.rest (take (l.end - l.place) (drop l.place (bits_of l.bytes))) ≡ rem_from modulus_restart l.initial.rest (take (l.end - l.first) (drop l.first (bits_of l.bytes)));
}
