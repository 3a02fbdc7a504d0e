use Rattle.std.proofs.Common.{w32}
use Rattle.std.proofs.lemmas.Int.{to_z-of_z}
use Rattle.mlp_predict.proofs.Slides.{set-window}
use Rattle.mlp_predict.proofs.history.History.replace.Goals as goal

pub returns : goal.returns
returns g c =
    rw (to_z-of_z w32 c.args.value c.ranges.value, ← c.self.view_is)
    (set-window c.self.inside.values g.row.N c.self.inside.at c.args.i c.args.value c.requires)
