use Rattle.std.proofs.Common.{◌≡◌, ◌≤◌, ◌-◌, length}
use Rattle.mlp_layout.specs.Combined.{times}
use Rattle.mlp_layout.proofs.Repeated.{Continues}
use Rattle.mlp_layout.specs.Layout.{number_of}
use Rattle.mlp_params.proofs.parameters.read_steps.Given as goal

abbrev pub invariant-loop : goal.invariant-loop
invariant-loop l = record {
  moved : l.fn.r.place ≤ l.r.place;
  so_far : Continues (number_of 4) (l.count - l.counter) l.steps.items l.r.all l.r.place ((times l.count (number_of 4)).read l.fn.r.all l.fn.r.place);
  same_bits : l.r.all ≡ l.fn.r.all;
  count : length l.steps.items ≡ l.counter;
}
