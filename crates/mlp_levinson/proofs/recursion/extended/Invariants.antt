use Rattle.std.proofs.Common.{◌≡◌, ◌++◌, drop, length, reverse}
use Rattle.mlp_levinson.specs.Computed.{lessened}
use Rattle.mlp_levinson.proofs.recursion.extended.Given as goal

abbrev pub invariant-loop-j : goal.invariant-loop-j
invariant-loop-j l = record {
  more : l.new.items ++ lessened l.k (drop l.j l.old) (drop l.j (reverse l.old)) ≡ lessened l.k l.old (reverse l.old);
  count : length l.new.items ≡ l.j;
}
