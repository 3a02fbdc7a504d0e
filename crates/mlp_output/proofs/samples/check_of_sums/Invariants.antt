use Rattle.std.proofs.Common.{◌≡◌, drop}
use Rattle.mlp_output.specs.Frames.{check_of_sums}
use Rattle.mlp_output.proofs.samples.check_of_sums.Given as goal

abbrev pub invariant-loop-c : goal.invariant-loop-c
invariant-loop-c l = l.check ≡ check_of_sums l.c (drop l.c l.sums)
