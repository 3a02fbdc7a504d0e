use Rattle.std.proofs.Common.{◌≡◌, ◌≤◌, ◌-◌, length}
use Rattle.mlp_layout.specs.Combined.{times}
use Rattle.mlp_layout.proofs.Repeated.{Continues}
use Rattle.mlp_params.specs.Parameters.{output_shift}
use Rattle.mlp_params.proofs.parameters.read_shifts.Given as goal

abbrev pub invariant-loop : goal.invariant-loop
invariant-loop l = record {
  moved : l.fn.r.place ≤ l.r.place;
  so_far : Continues output_shift (l.count - l.counter) l.shifts.items l.r.all l.r.place ((times l.count output_shift).read l.fn.r.all l.fn.r.place);
  same_bits : l.r.all ≡ l.fn.r.all;
  count : length l.shifts.items ≡ l.counter;
}
