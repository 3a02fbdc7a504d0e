use Rattle.std.proofs.Common.{ℕ, sym, ap, ◌∙◌}
use Rattle.mlp_matrix.specs.Noise.{seed_at}
use Rattle.mlp_matrix.proofs.Noises.{seed_at-zero}
use Rattle.mlp_matrix.proofs.noise.Noise.skip.Goals as goal

pub returns-then-self-eq0-clause-seed : goal.returns-then-self-eq0-clause-seed
returns-then-self-eq0-clause-seed c =
    let none = c.if-self-eq0.true in
    none ∙ sym (seed_at-zero c.args.count) ∙ ap (λ (seed : ℕ). seed_at seed c.args.count) (sym none)
