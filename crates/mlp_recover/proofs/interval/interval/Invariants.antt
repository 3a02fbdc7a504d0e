use Rattle.std.proofs.Common.{◌-◌, List, length}
use Rattle.mlp_contents.specs.Units.{Unit_of}
use Rattle.mlp_recover.specs.Reading.{IsGrowing}
use Rattle.mlp_recover.proofs.interval.interval.Given as goal

abbrev pub invariant-units : goal.invariant-units
invariant-units l = (us : List Unit_of) × IsGrowing l.k l.bytes l.first us l.decoder l.reach

abbrev pub decreases-units : goal.decreases-units
decreases-units l = length l.bytes - l.reach.past
