use Rattle.std.proofs.Common.{◌≡◌, ◌+◌, ◌*◌, ◌≤◌, drop}
use Rattle.mlp_unit.specs.Directory.{directory_size}
use Rattle.mlp_unit.proofs.writing.directory_length.Given as goal

abbrev pub invariant-loop-entry : goal.invariant-loop-entry
invariant-loop-entry l = record {
  so_far : l.length + directory_size (drop l.entry-index l.entries) ≡ directory_size l.entries;
  small : l.length ≤ 4 * l.entry-index;
}
