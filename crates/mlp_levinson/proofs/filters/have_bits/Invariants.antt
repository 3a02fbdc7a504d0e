use Rattle.std.proofs.Common.{◌≡◌, take, true}
use Rattle.std.specs.List.{list_all}
use Rattle.mlp_levinson.specs.Computed.{has_bits}
use Rattle.mlp_levinson.proofs.filters.have_bits.Given as goal

abbrev pub invariant-loop-j : goal.invariant-loop-j
invariant-loop-j l = list_all (has_bits l.width) (take l.j l.numbers) ≡ true
