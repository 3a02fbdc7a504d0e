use Rattle.std.proofs.Common.{◌≡◌, ◌+◌, ◌*◌, ◌≤◌, drop}
use Rattle.mlp_unit.specs.Directory.{first_failing}
use Rattle.mlp_unit.specs.AccessUnit.{is_restart_flag}
use Rattle.mlp_unit.proofs.rules.first_restart_flag.Given as goal

abbrev pub invariant-loop-entry : goal.invariant-loop-entry
invariant-loop-entry l = record {
  so_far : first_failing (is_restart_flag l.major) l.place l.entries ≡ first_failing (is_restart_flag l.major) l.at (drop l.entry-index l.entries);
  near : l.at ≤ l.place + 32 * l.entry-index;
}
