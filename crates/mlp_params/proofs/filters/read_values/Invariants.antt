use Rattle.std.proofs.Common.{◌≡◌, ◌≤◌, ◌-◌, length}
use Rattle.mlp_layout.specs.Combined.{times, signed_of}
use Rattle.mlp_layout.proofs.Repeated.{Continues}
use Rattle.mlp_params.proofs.filters.read_values.Given as goal

abbrev pub invariant-loop : goal.invariant-loop
invariant-loop g l = record {
  moved : l.fn.r.place ≤ l.r.place;
  so_far : Continues (signed_of l.width) (l.count - l.counter) l.values.items l.r.all l.r.place ((times l.count (signed_of l.width)).read l.fn.r.all l.fn.r.place);
  same_bits : l.r.all ≡ l.fn.r.all;
  count : length l.values.items ≡ l.counter;
}
