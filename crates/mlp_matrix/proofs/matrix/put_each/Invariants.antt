use Rattle.std.proofs.Common.{◌≡◌, ◌++◌, take, drop}
use Rattle.mlp_matrix.specs.Matrix.{weighted_each}
use Rattle.mlp_matrix.proofs.matrix.put_each.Given as goal

abbrev pub invariant-loop-i : goal.invariant-loop-i
invariant-loop-i g l = take l.i l.frames ++ weighted_each l.weights l.dest l.step l.index (drop l.i l.bypass) (drop l.i l.frames) ≡ weighted_each l.weights l.dest l.step l.index l.bypass l.initial.frames
