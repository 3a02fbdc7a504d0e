use Rattle.mlp_matrix.proofs.Noises.{noisy_each-at, noise_values-zero}
use Rattle.mlp_matrix.proofs.laws.law_noise.Goals as goal

pub returns : goal.returns
returns c = record { each = noisy_each-at; silent = noise_values-zero }
