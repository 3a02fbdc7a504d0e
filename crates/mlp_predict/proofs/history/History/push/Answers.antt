use Rattle.std.proofs.Common.{ℕ, sym, ap, refl, ◌-◌, ◌∙◌, take, drop, w32, arith}
use Rattle.std.proofs.lemmas.Int.{to_z-of_z}
use Rattle.mlp_predict.proofs.Slides.{pushed_low, pushed_high}
use Rattle.mlp_predict.proofs.history.History.push.Goals as goal
use Rattle.mlp_predict.proofs.history.History.push.Goals.{then-self-eq0, else-self-eq0}

pub returns : goal.returns
returns g c =
    let word = to_z-of_z w32 c.args.value c.ranges.value in
    elim c.if-self-eq0.branch [
      | then-self-eq0 w ↦
          rw (w.self-inside-is, word)
          (pushed_low c.self.inside.values c.args.self.now g.row.N c.args.value w.copy_within.new.self (65 - g.row.N) w.copy_within.ensures.after refl c.requires.any c.requires.few c.self.told
          (sym c.self.view_is ∙ ap (λ (k : ℕ). take g.row.N (drop k c.self.inside.values)) w.if-self-eq0.true))
      | else-self-eq0 w ↦
          rw (w.self-inside-is, word)
          (pushed_high c.self.inside.values c.args.self.now g.row.N c.self.inside.at c.args.value (omega arith) c.self.invariant c.requires.any c.self.told (sym c.self.view_is))
    ]
