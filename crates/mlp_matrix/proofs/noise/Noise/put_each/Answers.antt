use Rattle.std.proofs.Common.{arith}
use Rattle.mlp_matrix.proofs.Noises.{put_step}
use Rattle.mlp_matrix.proofs.noise.Noise.put_each.Goals as goal

pub loop-i-preserved : goal.loop-i-preserved
loop-i-preserved c =
    put_step c.args.shift c.args.channels c.args.self.now.seed c.loop-i.i c.loop-i.self.seed c.next_seed-self.result c.args.frames.now c.loop-i.frames c.put.new.frame
    (omega arith) c.put.ensures c.next_seed-self.ensures.value c.next_seed-self.ensures.room c.loop-i.invariant
