use Rattle.std.proofs.Common.{◌≡◌, Some, sym, ap, ◌∙◌, arith}
use Rattle.mlp_cut.specs.Cutter.{Held, cut_count}
use Rattle.mlp_cut.proofs.CutterSteps.{cut_again}
use Rattle.mlp_cut.proofs.cutter.CutterSession.unit.Goals as goal

pub returns-in-Some-clause-unit : goal.returns-in-Some-clause-unit
returns-in-Some-clause-unit c =
    let refusal : c.args.self.now.refusal ≡ Some c.in-Some.refusal = sym (ap (λ (h : Held). h.refusal) c.self.view_is) ∙ c.in-Some.is in
    cut_again c.args.self.now c.args.next.now c.in-Some.refusal refusal

pub take_unit-requires : goal.take_unit-requires
take_unit-requires c =
    let units : c.self.inside.outliner.units ≡ cut_count c.args.self.now = ap (λ (h : Held). h.read.units) c.self.view_is in
    omega (arith, units, c.requires.room)
