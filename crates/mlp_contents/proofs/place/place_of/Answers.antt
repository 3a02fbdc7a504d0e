use Rattle.std.proofs.Common.{ap, ◌∙◌}
use Rattle.std.specs.Option.{option_copied}
use Rattle.mlp_unit.specs.AccessUnit.{in_force}
use Rattle.mlp_contents.specs.Units.{frames_in_unit}
use Rattle.mlp_contents.proofs.Places.{place_is}
use Rattle.mlp_contents.proofs.place.place_of.Goals as goal

pub returns-clause-place : goal.returns-clause-place
returns-clause-place c =
    let sync = in_force (option_copied c.args.first) c.args.major.now in
    place_is _ sync c.requires (c.frames_in_unit.ensures ∙ ap frames_in_unit c.in_force-sync.ensures)
