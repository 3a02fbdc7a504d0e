use Rattle.std.proofs.Common.{true}
use Rattle.mlp_layout.specs.Layout.{seen, part}
use Rattle.mlp_layout.specs.Combined.{group, chosen, present}
use Rattle.mlp_layout.proofs.WritingLaws.{then_writes, stops_writing}
use Rattle.mlp_params.specs.Parameters.{channel}
use Rattle.mlp_layout.proofs.WritingGroups.{writes_none}
use Rattle.mlp_params.proofs.write_channels.write_given.Goals as goal

pub returns-in_err-put_flag-in-Some : goal.returns-in_err-put_flag-in-Some
unfolding group chosen part present seen
returns-in_err-put_flag-in-Some c = rw c.in-Some.is (λ s. stops_writing _ ((channel c.args.flags s).spelling c.in-Some.given) c.from_residual.result c.from_residual.ensures.1 c.in_err-put_flag-in-Some.ensures)

pub write_channel-requires : goal.write_channel-requires
write_channel-requires c = rw c.in-Some.is at c.requires

pub returns-in-None : goal.returns-in-None
returns-in-None c = rw c.in-None.is (λ s. writes_none true (channel c.args.flags s) c.write_absent.ensures)

pub returns-in_ok-put_flag-in-Some : goal.returns-in_ok-put_flag-in-Some
unfolding group chosen part present seen
returns-in_ok-put_flag-in-Some c = rw c.in-Some.is (λ s. then_writes c.in_ok-put_flag-in-Some.ensures (c.write_channel.ensures s))
