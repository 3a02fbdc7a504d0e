use Rattle.std.proofs.Common.{arith}
use Rattle.mlp_params.proofs.LawfulSteps.{given_count}
use Rattle.mlp_params.proofs.in_force.replace_items.Goals as goal

pub apply_channels-requires : goal.apply_channels-requires
apply_channels-requires c =
    let count = given_count c.args.state.now c.args.given.now c.requires.state c.requires.given in
    rw (c.as_slice.ensures.value, c.as_mut_slice.ensures.value) (omega (arith, count, c.requires.state.channel_count))
