use Rattle.std.proofs.Common.{length, arith, drop, ap}
use Rattle.std.proofs.lemmas.List.{length-append, length-drop}
use Rattle.mlp_predict.specs.Filters.{scaled}
use Rattle.mlp_predict.proofs.Scaling.{length-scaled}
use Rattle.mlp_predict.proofs.predictor.Predictor.set_state.Goals as goal

pub invariant_of-self : goal.invariant_of-self
invariant_of-self g c =
    let vs = c.as_slice.result.now in (
      c.self.invariant.0,
      omega (
        arith,
        ap length c.replace_latest.ensures,
        length-append (scaled c.args.state.now.shift vs) (drop (length vs) c.self.inside.differences),
        length-scaled c.args.state.now.shift vs,
        length-drop
            (length vs) c.self.inside.differences,
        ap length c.as_slice.ensures.value,
        c.self.invariant.1,
      ),
    )

pub returns : goal.returns
returns g c = rw (← c.self.view_is, c.replace_latest.ensures, c.as_slice.ensures.value, length-scaled c.args.state.now.shift c.args.state.now.values.items)
