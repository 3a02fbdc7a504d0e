use Rattle.std.proofs.Common.{◌≡◌, ◌+◌, ◌*◌, ◌≤◌, drop}
use Rattle.mlp_unit.specs.Directory.{first_failing, may_stand}
use Rattle.mlp_unit.proofs.rules.first_extra_word.Given as goal

abbrev pub invariant-loop-entry : goal.invariant-loop-entry
invariant-loop-entry l = record {
  so_far : first_failing (may_stand l.kind) l.place l.entries ≡ first_failing (may_stand l.kind) l.at (drop l.entry-index l.entries);
  near : l.at ≤ l.place + 32 * l.entry-index;
}
