use Rattle.mlp_encode.specs.Unit.{check_with}
use Rattle.mlp_encode.proofs.Renewed.{Renewed}
use Rattle.mlp_encode.proofs.unit.checks_behind.Given as goal

abbrev pub invariant-loop-k : goal.invariant-loop-k
invariant-loop-k l = Renewed (check_with l.profile l.sync l.initial.checks l.frames) l.k l.checks l.initial.checks
