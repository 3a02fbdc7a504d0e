use Rattle.std.specs.Prelude.{unwrap_or}
use Rattle.mlp_layout.specs.Layout.{part}
use Rattle.mlp_layout.proofs.WritingLaws.{then_writes, stops_writing}
use Rattle.mlp_params.specs.Parameters.{groups, params}
use Rattle.mlp_params.proofs.LawfulSteps.{parts}
use Rattle.mlp_params.proofs.write_parameters.write_params.Goals as goal

pub write_presence-requires : goal.write_presence-requires
write_presence-requires c = rw c.has_bit.ensures (parts c.args.state.now c.args.given.now c.requires.given).presence

pub returns-in_err-write_presence : goal.returns-in_err-write_presence
unfolding params part
returns-in_err-write_presence c =
    let s = c.args.state.now in
    let p = c.args.given.now in
    let a = rw c.has_bit.ensures at c.in_err-write_presence.ensures in
    stops_writing _ ((groups s p.presence (unwrap_or p.presence s.presence)).spelling p) c.from_residual.result c.from_residual.ensures.1 a

pub returns : goal.returns
unfolding params part
returns c =
    let a = rw c.has_bit.ensures at c.in_ok-write_presence.ensures in
    let b = rw c.unwrap_or-flags.ensures at c.write_groups.ensures in
    then_writes a b
