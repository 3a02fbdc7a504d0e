use Rattle.std.proofs.Common.{◌≡◌, ◌≤◌, true, drop, length}
use Rattle.mlp_layout.specs.Combined.{group, each}
use Rattle.mlp_params.specs.Parameters.{channel}
use Rattle.mlp_layout.proofs.EachReading.{Continues}
use Rattle.mlp_params.proofs.channels.read_channels.Given as goal

abbrev pub invariant-loop-state : goal.invariant-loop-state
invariant-loop-state l = record {
  moved : l.fn.r.place ≤ l.r.place;
  so_far : Continues (λ c. group true (channel l.flags c)) (drop l.state-index l.in_force) l.out.items l.r.all l.r.place ((each (λ c. group true (channel l.flags c)) l.in_force).read l.fn.r.all l.fn.r.place);
  same_bits : l.r.all ≡ l.fn.r.all;
  count : length l.out.items ≡ l.state-index;
}
