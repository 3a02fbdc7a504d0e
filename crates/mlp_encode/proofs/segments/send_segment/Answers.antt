use Rattle.std.proofs.Common.{arith}
use Rattle.mlp_fifo.proofs.Paces.{unit_most}
use Rattle.mlp_encode.proofs.SentSegments.{unit_least}
use Rattle.mlp_encode.proofs.segments.send_segment.Goals as goal

pub send_restarted-requires-clause-least : goal.send_restarted-requires-clause-least
send_restarted-requires-clause-least c = omega (arith, unit_least c.args.profile.now.rate, c.requires.frames.count)

pub send_restarted-requires-clause-most : goal.send_restarted-requires-clause-most
send_restarted-requires-clause-most c = omega (arith, unit_most c.args.profile.now.rate, c.requires.frames.count)
