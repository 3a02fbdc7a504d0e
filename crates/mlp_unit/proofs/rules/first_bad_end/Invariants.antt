use Rattle.std.proofs.Common.{◌≡◌, ◌+◌, ◌*◌, ◌≤◌, drop}
use Rattle.mlp_unit.specs.AccessUnit.{first_bad_end}
use Rattle.mlp_unit.proofs.rules.first_bad_end.Given as goal

abbrev pub invariant-loop-entry : goal.invariant-loop-entry
invariant-loop-entry l = record {
  so_far : first_bad_end 0 l.last l.place l.entries ≡ first_bad_end l.before l.last l.at (drop l.entry-index l.entries);
  near : l.at ≤ l.place + 32 * l.entry-index;
}
