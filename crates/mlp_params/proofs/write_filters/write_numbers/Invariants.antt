use Rattle.mlp_layout.specs.Layout.{number_of}
use Rattle.mlp_layout.proofs.WritingLoops.{Along}
use Rattle.mlp_params.proofs.write_filters.write_numbers.Given as goal

abbrev pub invariant-loop-value : goal.invariant-loop-value
invariant-loop-value l = Along (number_of l.width) l.values l.value-index l.fn.w l.w
