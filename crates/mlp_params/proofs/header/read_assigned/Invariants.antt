use Rattle.std.proofs.Common.{◌≡◌, ◌≤◌, ◌-◌, [], length}
use Rattle.mlp_layout.specs.Combined.{series}
use Rattle.mlp_params.specs.RestartHeader.{assigned}
use Rattle.mlp_layout.proofs.Loops.{SeriesContinues}
use Rattle.mlp_params.proofs.header.read_assigned.Given as goal

abbrev pub invariant-loop : goal.invariant-loop
invariant-loop l = record {
  moved : l.fn.r.place ≤ l.r.place;
  so_far : SeriesContinues (assigned l.max_matrix) (l.end - l.counter) l.assign.items l.r.all l.r.place ((series (assigned l.max_matrix) l.end []).read l.fn.r.all l.fn.r.place);
  same_bits : l.r.all ≡ l.fn.r.all;
  count : length l.assign.items ≡ l.counter;
}
