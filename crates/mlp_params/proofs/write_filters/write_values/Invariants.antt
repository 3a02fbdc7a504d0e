use Rattle.mlp_layout.specs.Combined.{signed_of}
use Rattle.mlp_layout.proofs.WritingLoops.{Along}
use Rattle.mlp_params.proofs.write_filters.write_values.Given as goal

abbrev pub invariant-loop-value : goal.invariant-loop-value
invariant-loop-value l = Along (signed_of l.width) l.values l.value-index l.fn.w l.w
