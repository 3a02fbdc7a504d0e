use Rattle.std.proofs.Common.{◌≡◌, take, map}
use Rattle.mlp_output.proofs.matrices.gather.Given as goal

abbrev pub invariant-loop-i : goal.invariant-loop-i
invariant-loop-i l = take l.i l.bypass ≡ map (λ f. f.bypass) (take l.i l.codes)
