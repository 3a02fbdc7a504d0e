use Rattle.mlp_pcm.proofs.FirstFailing.{packs}
use Rattle.mlp_pcm.proofs.samples.pack_pairs.Goals as goal

pub returns-then-frames-le40 : goal.returns-then-frames-le40
returns-then-frames-le40 g c =
    let e = c.pack_frames.ensures in
    packs c.args.bits 2 c.args.frames.now c.pack_frames.new.out.items c.pack_frames.result e.ok e.clear e.first e.none

pub returns : goal.returns
returns g c =
    let e = c.pack_frames-2.ensures in
    packs c.args.bits 2 c.args.frames.now c.pack_frames-2.new.out.items c.pack_frames-2.result e.ok e.clear e.first e.none
