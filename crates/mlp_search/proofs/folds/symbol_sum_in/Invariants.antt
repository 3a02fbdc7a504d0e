use Rattle.std.proofs.Common.{◌≡◌, ◌+◌, ◌*◌, ◌≤◌, drop}
use Rattle.mlp_search.specs.Folded.{all_folded, all_symbol_bits}
use Rattle.mlp_search.proofs.folds.symbol_sum_in.Given as goal

abbrev pub invariant-loop-value : goal.invariant-loop-value
invariant-loop-value g l = record {
  sum : l.sum + all_symbol_bits g.row.BOOK l.b (all_folded l.fn.offset (drop l.value-index l.values)) ≡ all_symbol_bits g.row.BOOK l.b (all_folded l.fn.offset l.values);
  few : l.sum ≤ 19 * l.value-index;
}
