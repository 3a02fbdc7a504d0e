use Rattle.std.proofs.Common.{◌≡◌, length}
use Rattle.std.specs.Prelude.{All}
use Rattle.mlp_arith.specs.Words.{clear}
use Rattle.mlp_arith.specs.Ranges.{Is26}
use Rattle.bench_search.proofs.block.Given as goal

abbrev pub invariant-loop-i : goal.invariant-loop-i
invariant-loop-i l = (length l.samples.items ≡ l.i) × All Is26 l.samples.items × All (λ x. clear 0 x ≡ x) l.samples.items
