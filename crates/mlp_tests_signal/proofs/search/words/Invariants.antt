use Rattle.std.proofs.Common.{◌≡◌, length}
use Rattle.std.specs.Prelude.{All}
use Rattle.mlp_arith.specs.Words.{clear}
use Rattle.mlp_arith.specs.Ranges.{Is26}
use Rattle.mlp_tests_signal.proofs.search.words.Given as goal

abbrev pub invariant-loop-sample : goal.invariant-loop-sample
invariant-loop-sample l = (length l.words.items ≡ l.sample-index) × All Is26 l.words.items × All (λ x. clear 0 x ≡ x) l.words.items
