use Rattle.std.proofs.Common.{take}
use Rattle.mlp_search.specs.Lines.{AreNear}
use Rattle.mlp_search.proofs.line.far_of.Given as goal

abbrev pub invariant-loop-value : goal.invariant-loop-value
invariant-loop-value l = AreNear l.far (take l.value-index l.values)
