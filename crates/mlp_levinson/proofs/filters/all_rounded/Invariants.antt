use Rattle.std.proofs.Common.{◌≡◌, ◌++◌, map, drop, length}
use Rattle.mlp_levinson.specs.Computed.{rounded}
use Rattle.mlp_levinson.proofs.filters.all_rounded.Given as goal

abbrev pub invariant-loop-j : goal.invariant-loop-j
invariant-loop-j l = record {
  more : l.fields.items ++ map (rounded l.shift) (drop l.j l.coefficients) ≡ map (rounded l.shift) l.coefficients;
  count : length l.fields.items ≡ l.j;
}
