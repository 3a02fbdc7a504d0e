use Rattle.std.proofs.Common.{◌+◌, ◌∙◌, refl}
use Rattle.std.proofs.lemmas.List.{length-set}
use Rattle.mlp_params.specs.Applied.{channel_applied}
use Rattle.mlp_params.proofs.ApplyLaws.{apply_begins, apply_goes_on}
use Rattle.mlp_params.proofs.in_force.apply_channels.Goals as goal

pub loop-i-init : goal.loop-i-init
loop-i-init c = (apply_begins c.args.first c.args.channels.now c.args.given.now, refl)

pub loop-i-preserved : goal.loop-i-preserved
loop-i-preserved c =
    let i = c.loop-i.invariant in
    let on = apply_goes_on c.args.first c.args.channels.now c.args.given.now c.loop-i.channels c.loop-i.i c.index-channels-first.result c.index-given-i.result c.requires c.loop-i-test.true i.0 c.index-channels-first.is c.index-given-i.is in
    rw (c.apply_channel.ensures, ← c.index-channels-first.is) (on, length-set c.loop-i.channels (c.args.first + c.loop-i.i) (channel_applied c.index-channels-first.result c.index-given-i.result) ∙ i.1)
