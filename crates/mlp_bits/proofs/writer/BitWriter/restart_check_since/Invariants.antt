use Rattle.std.proofs.Common.{◌≡◌, ◌<◌, ◌^◌, drop}
use Rattle.mlp_bits.specs.Checks.{rem_from, modulus_restart, restart_check_of}
use Rattle.mlp_bits.proofs.writer.BitWriter.restart_check_since.Given as goal

abbrev pub invariant-loop-place : goal.invariant-loop-place
invariant-loop-place l = record {
  smaller : l.rest < 2 ^ 8;
  value : rem_from modulus_restart l.rest (drop l.place l.self) ≡ restart_check_of (drop l.first l.self);
}
