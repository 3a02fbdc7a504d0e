use Rattle.std.proofs.Common.{arith}
use Rattle.mlp_params.specs.States.{IsState}
use Rattle.mlp_contents.proofs.Giving.{channels_few}
use Rattle.mlp_contents.proofs.substreams.channels_of.Goals as goal

pub overflow_add-result : goal.overflow_add-result
overflow_add-result c =
    let s = c.in-Some.state in
    let lawful : IsState s = rw c.in-Some.is at c.requires in
    omega (arith, channels_few s lawful)
