use Rattle.std.proofs.Common.{◌≡◌, ◌+◌, drop}
use Rattle.mlp_search.specs.Folded.{all_folded}
use Rattle.mlp_search.proofs.SumLaws.{parts_total, marks_total}
use Rattle.mlp_search.proofs.sums.sums_of.Given as goal

abbrev pub invariant-loop-value : goal.invariant-loop-value
invariant-loop-value l = record {
  parts : l.parts_sum + parts_total l.low (all_folded l.fn.offset (drop l.value-index l.values)) ≡ parts_total l.low (all_folded l.fn.offset l.values);
  marks : l.marks_sum + marks_total l.low (all_folded l.fn.offset (drop l.value-index l.values)) ≡ marks_total l.low (all_folded l.fn.offset l.values);
}
