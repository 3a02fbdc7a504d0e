use Rattle.std.proofs.Common.{take}
use Rattle.mlp_unit.specs.Shape.{unit_with}
use Rattle.mlp_recover.proofs.Steps.{rate_told, none_without_major, none_read}
use Rattle.mlp_recover.proofs.reach.first_rate.Goals as goal

pub returns-in-Some : goal.returns-in-Some
returns-in-Some c =
    rate_told c.args.next.now (unit_with (take c.in-Ok.field-0-0 c.args.next.now) c.in-Ok.outer) _ c.sample_rate.result c.in-Some.sync c.in-Ok.ensures.read c.in-Some.is c.sample_rate.ensures

pub returns-in-None : goal.returns-in-None
returns-in-None c =
    none_without_major c.args.next.now (unit_with (take c.in-Ok.field-0-0 c.args.next.now) c.in-Ok.outer) _ c.in-Ok.ensures.read c.in-None.is

pub returns-in-Err : goal.returns-in-Err
returns-in-Err c = none_read c.args.next.now c.in-Err.field-0 c.in-Err.ensures.read
