use Rattle.std.proofs.Common.{◌≡◌, ◌++◌, take, drop, map, false}
use Rattle.mlp_matrix.specs.Matrix.{weighted}
use Rattle.mlp_matrix.proofs.matrix.put_each_clear.Given as goal

abbrev pub invariant-loop-i : goal.invariant-loop-i
invariant-loop-i g l = take l.i l.frames ++ map (weighted l.weights l.dest l.step false) (drop l.i l.frames) ≡ map (weighted l.weights l.dest l.step false) l.initial.frames
