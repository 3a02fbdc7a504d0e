use Rattle.std.proofs.Common.{◌≡◌, replicate, length, pos}
use Rattle.mlp_search.proofs.reduction.zeros.Given as goal

abbrev pub invariant-loop : goal.invariant-loop
invariant-loop l = (l.values.items ≡ replicate l.counter (pos 0)) × (length l.values.items ≡ l.counter)
