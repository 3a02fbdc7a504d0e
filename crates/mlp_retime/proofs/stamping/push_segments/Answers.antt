use Rattle.std.proofs.Common.{◌≡◌, ◌<◌, ◌+◌, ◌-◌, length, ap, arith}
use Rattle.mlp_unit.specs.Shape.{end_at}
use Rattle.mlp_retime.proofs.Stamps.{bits_none, segment_long, end_behind, one_appended}
use Rattle.mlp_retime.proofs.stamping.push_segments.Goals as goal

pub loop-substream-init : goal.loop-substream-init
loop-substream-init c = bits_none c.args.out.now.items c.requires.none

pub push_stamped-requires-clause-room : goal.push_stamped-requires-clause-room
push_stamped-requires-clause-room c =
    let j = c.loop-substream.substream in
    let there : j < length c.args.outer.now.entries.items = omega (arith, c.requires.there, c.loop-substream-test.true) in
    let p = segment_long c.args.unit.now c.segment_bytes-bytes.result.now c.args.outer.now j c.requires.inside there c.segment_bytes-bytes.ensures in
    omega (arith, p, c.loop-substream.invariant.1, c.requires.small)

pub loop-substream-preserved : goal.loop-substream-preserved
loop-substream-preserved c =
    let j = c.loop-substream.substream in
    let there : j < length c.args.outer.now.entries.items = omega (arith, c.requires.there, c.loop-substream-test.true) in
    let p = segment_long c.args.unit.now c.segment_bytes-bytes.result.now c.args.outer.now j c.requires.inside there c.segment_bytes-bytes.ensures in
    let back : j + 1 - 1 ≡ j = omega arith in
    let less : end_at c.args.outer.now.entries.items (j + 1 - 1) ≡ end_at c.args.outer.now.entries.items j = ap (end_at c.args.outer.now.entries.items) back in (
      one_appended c.args.place.now c.args.output c.args.unit.now c.args.outer.now j c.loop-substream.out.items c.push_stamped.new.out.items c.segment_bytes-bytes.result.now c.deref.result.now
          c.from.result _ there c.deref.ensures.0 c.from.ensures
          c.segment_bytes-bytes.ensures c.loop-substream.invariant.0 c.push_stamped.ensures.text,
      omega (arith, c.push_stamped.ensures.size, c.loop-substream.invariant.1, p.0, end_behind c.args.outer.now.entries.items (j + 1) (omega arith), less),
    )
