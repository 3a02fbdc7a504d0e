use Rattle.std.proofs.Common.{arith}
use Rattle.mlp_unit.proofs.SegmentPlaces.{segment_place}
use Rattle.mlp_contents.proofs.TakenLaws.{bytes_few, fault_near}
use Rattle.mlp_contents.proofs.reading.read_next.Goals as goal

pub take-requires-clause-size : goal.take-requires-clause-size
take-requires-clause-size c = omega (arith, bytes_few c.args.unit.now c.segment_bytes-bytes.result.now c.args.outer.now c.args.at c.segment_bytes-bytes.ensures, c.requires.size)

pub in_unit-requires-clause-start : goal.in_unit-requires-clause-start
in_unit-requires-clause-start c = omega (arith, segment_place c.args.unit.now c.args.outer.now c.args.at c.requires.inside c.requires.exists, c.requires.size)

pub in_unit-requires-clause-near : goal.in_unit-requires-clause-near
in_unit-requires-clause-near c =
    let few = bytes_few c.args.unit.now c.segment_bytes-bytes.result.now c.args.outer.now c.args.at c.segment_bytes-bytes.ensures in
    fault_near c.args.place.now c.known_by-known.result c.args.substream.now.force c.is_checked-checked.result c.segment_bytes-bytes.result.now c.in-Err.broken (omega (arith, few, c.requires.size)) c.in-Err.ensures.read
