use Rattle.std.specs.Prelude.{All}
use Rattle.std.proofs.Common.{◌≤◌, ℕ, subst, ◌∙◌}
use Rattle.mlp_matrix.proofs.Rows.{each_clear}
use Rattle.mlp_matrix.proofs.matrix.put_each.Goals as goal

pub returns-then-bits-eq0 : goal.returns-then-bits-eq0
returns-then-bits-eq0 g c =
    c.put_each_clear.ensures
    ∙ each_clear c.args.weights.now c.args.dest c.args.step c.args.index c.args.bypass.now c.args.frames.now
    (subst (λ (n : ℕ). All (λ (bits : ℕ). bits ≤ n) c.args.bypass.now) c.if-bits-eq0.true c.greatest_of-bits.ensures)
    c.requires.bits
