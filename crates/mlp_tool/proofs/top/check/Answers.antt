use Rattle.std.proofs.Common.{ℕ, Result, Ok, Err}
use Rattle.mlp_stream.specs.declared.stop.Stop.{Stop}
use Rattle.mlp_stream.specs.Sides.{Side}
use Rattle.mlp_answers.specs.Works.{Works}
use Rattle.mlp_check.specs.Checking.{checking}
use Rattle.mlp_check.specs.Runs.{Checks}
use Rattle.mlp_check.proofs.CheckFollows.{check_works}
use Rattle.mlp_answers.specs.Failures.{end_of}
use Rattle.mlp_tool.proofs.top.check.Goals as goal

-- what the work did is what a run of the command did
checked : (k : ℕ) (input output : Side) (end : Result Unit Stop) → Works (checking k) input output end → Checks k input output (end_of end)
checked k input output (Ok tt) w = w
checked k input output (Err stop) w = w

pub returns-in-Ok-clause-checks : goal.returns-in-Ok-clause-checks
returns-in-Ok-clause-checks g c =
    rw c.end_of.ensures (checked c.args.presentation _ _ c.pump.result (check_works c.args.presentation _ _ _ c.pump.result (rw c.in-Ok.ensures at c.pump.ensures.pumped)))
