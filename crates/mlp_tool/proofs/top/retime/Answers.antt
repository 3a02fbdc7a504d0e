use Rattle.std.proofs.Common.{Result, Ok, Err}
use Rattle.mlp_stream.specs.declared.stop.Stop.{Stop}
use Rattle.mlp_stream.specs.Sides.{Side}
use Rattle.mlp_answers.specs.Works.{Works}
use Rattle.mlp_retime.specs.Retiming.{retiming}
use Rattle.mlp_retime.specs.Runs.{Retimes}
use Rattle.mlp_retime.proofs.RetimeFollows.{retime_works}
use Rattle.mlp_answers.specs.Failures.{end_of}
use Rattle.mlp_tool.proofs.top.retime.Goals as goal

-- what the work did is what a run of the command did
retimed : (input output : Side) (end : Result Unit Stop) → Works retiming input output end → Retimes input output (end_of end)
retimed input output (Ok tt) w = w
retimed input output (Err stop) w = w

pub returns-in-Ok-clause-retimes : goal.returns-in-Ok-clause-retimes
returns-in-Ok-clause-retimes g c =
    rw c.end_of.ensures (retimed _ _ c.pump.result (retime_works _ _ _ c.pump.result (rw c.in-Ok.ensures at c.pump.ensures.pumped)))
