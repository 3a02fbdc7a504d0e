use Rattle.std.proofs.Common.{◌-◌, length}
use Rattle.mlp_recover.proofs.recovery.recover.Given as goal
use Rattle.mlp_recover.proofs.Finding.{IsFound}

abbrev pub invariant-syncs : goal.invariant-syncs
invariant-syncs l = IsFound l.k l.bytes l.told l.at l.spans.items

abbrev pub decreases-syncs : goal.decreases-syncs
decreases-syncs l = length l.bytes - l.at
