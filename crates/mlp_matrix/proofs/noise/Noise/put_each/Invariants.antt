use Rattle.mlp_matrix.proofs.Noises.{Placed}
use Rattle.mlp_matrix.proofs.noise.Noise.put_each.Given as goal

abbrev pub invariant-loop-i : goal.invariant-loop-i
invariant-loop-i l = Placed l.shift l.channels l.initial.self.seed l.initial.frames l.i l.self.seed l.frames
