use Rattle.std.proofs.Common.{Some}
use Rattle.mlp_contents.proofs.Places.{place_is}
use Rattle.mlp_retime.proofs.stamping.restart_place.Goals as goal

pub returns-clause-place : goal.returns-clause-place
returns-clause-place c = place_is _ (Some c.args.first.now) c.requires c.frames_per_unit.ensures
