use Rattle.mlp_output.specs.Frames.{check_of_sums}
use Rattle.mlp_output.proofs.Filling.{IsFilled}
use Rattle.mlp_output.proofs.samples.put_frame.Given as goal

abbrev pub invariant-loop-c : goal.invariant-loop-c
invariant-loop-c l = IsFilled l.shifts l.assign l.frame l.c l.row (check_of_sums 0 l.initial.sums) (check_of_sums 0 l.sums)
