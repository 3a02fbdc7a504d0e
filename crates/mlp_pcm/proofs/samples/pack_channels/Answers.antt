use Rattle.mlp_pcm.proofs.FirstFailing.{packs}
use Rattle.mlp_pcm.proofs.samples.pack_channels.Goals as goal

pub returns-then-channels-eq2 : goal.returns-then-channels-eq2
returns-then-channels-eq2 g c =
    rw c.if-channels-eq2.true c.pack_pairs.ensures

pub returns-then-frames-le80 : goal.returns-then-frames-le80
returns-then-frames-le80 g c =
    let e = c.pack_frames.ensures in
    packs c.args.bits c.args.channels c.args.frames.now c.pack_frames.new.out.items c.pack_frames.result e.ok e.clear e.first e.none

pub returns : goal.returns
returns g c =
    let e = c.pack_frames-2.ensures in
    packs c.args.bits c.args.channels c.args.frames.now c.pack_frames-2.new.out.items c.pack_frames-2.result e.ok e.clear e.first e.none
