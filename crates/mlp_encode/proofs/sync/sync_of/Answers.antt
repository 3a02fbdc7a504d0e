use Rattle.std.proofs.Common.{arith}
use Rattle.mlp_encode.proofs.Peaks.{peak_small}
use Rattle.mlp_encode.proofs.sync.sync_of.Goals as goal

pub overflow_cast-result : goal.overflow_cast-result
overflow_cast-result c = let h = peak_small c.args.profile.now.kind c.args.profile.now.rate c.requires in record { fits = omega (arith, h, c.peak.ensures) }
