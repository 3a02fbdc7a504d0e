use Rattle.std.proofs.Common.{◌≡◌, ◌≤◌, ◌-◌, length}
use Rattle.mlp_syntax.specs.declared.fault.Field.TheVariants as rule
use Rattle.mlp_layout.specs.Layout.{whole}
use Rattle.mlp_layout.specs.Combined.{times}
use Rattle.mlp_layout.proofs.Repeated.{Continues}
use Rattle.mlp_unit.specs.Directory.{entry}
use Rattle.mlp_unit.proofs.directory.read_entries.Given as goal

abbrev pub invariant-loop : goal.invariant-loop
invariant-loop l = record {
  moved : l.fn.r.place ≤ l.r.place;
  so_far : Continues (whole rule.DirectoryShort entry) (l.count - l.counter) l.entries.items l.r.all l.r.place ((times l.count (whole rule.DirectoryShort entry)).read l.fn.r.all l.fn.r.place);
  same_bits : l.r.all ≡ l.fn.r.all;
  count : length l.entries.items ≡ l.counter;
}
