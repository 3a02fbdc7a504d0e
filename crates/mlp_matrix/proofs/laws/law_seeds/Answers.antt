use Rattle.std.proofs.Common.{refl, ap, arith, ◌≡◌, suc, ◌+◌}
use Rattle.mlp_matrix.specs.Noise.{seed_at}
use Rattle.mlp_matrix.proofs.Noises.{seed_at-join, seed_at-zero}
use Rattle.mlp_matrix.proofs.laws.law_seeds.Goals as goal

pub returns : goal.returns
returns c = record {
  first = λ seed. refl;
  next = λ seed n. ap (seed_at seed) (let e : n + 1 ≡ suc n = omega arith in e);
  join = seed_at-join;
  zero = seed_at-zero;
}
