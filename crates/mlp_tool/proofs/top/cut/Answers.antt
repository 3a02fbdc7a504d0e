use Rattle.mlp_cut.proofs.CutterLaws.{cut_works}
use Rattle.mlp_cut.specs.Cutter.{opened, cut_step, cut_last}
use Rattle.mlp_tool.proofs.RunLaws.{pumped_few}
use Rattle.mlp_tool.proofs.top.cut.Goals as goal

pub returns-clause-works : goal.returns-clause-works
returns-clause-works g c = cut_works c.args.first c.args.count _ _ _ c.pump.result (rw c.open-session.ensures at c.pump.ensures.pumped)

pub returns-clause-few : goal.returns-clause-few
returns-clause-few g c = pumped_few cut_step cut_last (opened c.args.first c.args.count) _ _ _ c.pump.result (rw c.open-session.ensures at c.pump.ensures.pumped)
