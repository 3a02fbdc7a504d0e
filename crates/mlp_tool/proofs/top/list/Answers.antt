use Rattle.mlp_sessions.proofs.ListFollows.{list_works}
use Rattle.mlp_sessions.specs.Listing.{list_step, list_last}
use Rattle.mlp_outline.specs.Outlining.{nothing_read}
use Rattle.mlp_tool.proofs.RunLaws.{pumped_few}
use Rattle.mlp_tool.proofs.top.list.Goals as goal

pub returns-clause-works : goal.returns-clause-works
returns-clause-works g c = list_works _ _ _ c.pump.result (rw c.open-session.ensures at c.pump.ensures.pumped)

pub returns-clause-few : goal.returns-clause-few
returns-clause-few g c = pumped_few list_step list_last nothing_read _ _ _ c.pump.result (rw c.open-session.ensures at c.pump.ensures.pumped)
