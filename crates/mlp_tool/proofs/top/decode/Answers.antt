use Rattle.mlp_sessions.specs.Playing.{player, decode_step, decode_last}
use Rattle.mlp_sessions.proofs.PlayFollows.{decode_works}
use Rattle.mlp_tool.proofs.RunLaws.{pumped_few}
use Rattle.mlp_tool.proofs.top.decode.Goals as goal

pub returns-clause-works : goal.returns-clause-works
returns-clause-works g c = decode_works c.args.presentation c.args.bits _ _ _ c.pump.result (rw c.open-session.ensures at c.pump.ensures.pumped)

pub returns-clause-few : goal.returns-clause-few
returns-clause-few g c =
    pumped_few decode_step decode_last (player c.args.presentation c.args.bits) _ _ _ c.pump.result (rw c.open-session.ensures at c.pump.ensures.pumped)
