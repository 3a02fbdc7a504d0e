use Rattle.std.proofs.Common.{ℕ, ◌-◌, ap, arith}
use Rattle.mlp_unit.proofs.SegmentPlaces.{segment_place}
use Rattle.mlp_sessions.proofs.list_line.extra_bytes.Goals as goal

pub overflow_sub-result-2 : goal.overflow_sub-result-2
overflow_sub-result-2 c =
    let place = segment_place c.args.unit.now c.args.outer.now (c.len-substreams.result - 1) c.requires.inside (omega arith) in
    omega (arith, place.1, ap (λ (range : ℕ × ℕ). range.1) c.segment_range-end.ensures)
