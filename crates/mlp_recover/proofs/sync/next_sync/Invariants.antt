use Rattle.mlp_recover.specs.Sync.{NoSyncIn}
use Rattle.mlp_recover.proofs.sync.next_sync.Given as goal

abbrev pub invariant-loop-place : goal.invariant-loop-place
invariant-loop-place l = NoSyncIn l.bytes l.from l.place
