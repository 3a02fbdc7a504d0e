use Rattle.std.proofs.Common.{◌≡◌, ◌<◌, ◌^◌}
use Rattle.mlp_matrix.specs.Noise.{seed_at}
use Rattle.mlp_matrix.proofs.noise.Noise.skip.Given as goal

abbrev pub invariant-loop : goal.invariant-loop
invariant-loop l = (l.self.seed ≡ seed_at l.initial.self.seed l.counter) × (l.self.seed < 2 ^ 23)
