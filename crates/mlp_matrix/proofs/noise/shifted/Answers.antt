use Rattle.std.proofs.Common.{w8, ◌∙◌}
use Rattle.std.proofs.lemmas.Int.{to_z-of_z}
use Rattle.mlp_matrix.proofs.Noises.{shifted_is}
use Rattle.mlp_matrix.proofs.noise.shifted.Goals as goal

pub returns : goal.returns
returns c =
    shifted_is c.args.value c.from.result c.args.shift c.ranges.value
    (c.from.ensures ∙ to_z-of_z w8 c.args.value c.ranges.value)
    c.requires
