use Rattle.std.proofs.Common.{◌≡◌, ◌<◌, ◌+◌, ◌-◌, ◌*◌, ◌++◌, ℕ, List, length, drop, ap, ◌∙◌, arith}
use Rattle.std.proofs.lemmas.List.{length-append, length-drop}
use Rattle.mlp_bits.specs.Bits.{bits_of}
use Rattle.mlp_bits.proofs.Words.{bits_of-append}
use Rattle.mlp_unit.specs.Shape.{end_before}
use Rattle.mlp_unit.proofs.SegmentPlaces.{segment_place}
use Rattle.mlp_retime.proofs.Stamps.{end_behind}
use Rattle.mlp_retime.proofs.stamping.stamp_body.Goals as goal

pub bytes_from-requires : goal.bytes_from-requires
bytes_from-requires c =
    let last : c.args.count - 1 < length c.args.outer.now.entries.items = omega (arith, c.requires.some, c.requires.there) in
    let place = segment_place c.args.unit.now c.args.outer.now (c.args.count - 1) c.requires.inside last in
    omega (arith, place.1, ap (λ (range : ℕ × ℕ). range.1) c.segment_range-end.ensures)

pub push_bytes-requires : goal.push_bytes-requires
push_bytes-requires c =
    let end = c.segment_range-end.result.1 in
    let last : c.args.count - 1 < length c.args.outer.now.entries.items = omega (arith, c.requires.some, c.requires.there) in
    let place = segment_place c.args.unit.now c.args.outer.now (c.args.count - 1) c.requires.inside last in
    omega (
      arith,
      place.1,
      ap (λ (range : ℕ × ℕ). range.1) c.segment_range-end.ensures,
      end_behind c.args.outer.now.entries.items c.args.count c.requires.some,
      c.push_segments.ensures.size,
      ap (λ (xs : List ℕ). length xs) c.bytes_from.ensures,
      length-drop end c.args.unit.now,
      c.requires.small,
    )

pub returns-clause-text : goal.returns-clause-text
returns-clause-text c =
    let old = c.push_segments.new.out.items in
    let end : c.segment_range-end.result.1 ≡ c.args.outer.now.body + 2 * end_before c.args.outer.now.entries.items c.args.count =
    omega (arith, ap (λ (range : ℕ × ℕ). range.1) c.segment_range-end.ensures, end_behind c.args.outer.now.entries.items c.args.count c.requires.some) in
    let behind : c.bytes_from.result.now ≡ drop (c.args.outer.now.body + 2 * end_before c.args.outer.now.entries.items c.args.count) c.args.unit.now = c.bytes_from.ensures ∙ ap (λ (n : ℕ). drop n c.args.unit.now) end in
    ap bits_of c.push_bytes.ensures ∙ bits_of-append old c.bytes_from.result.now ∙ (λ i. c.push_segments.ensures.text i ++ bits_of (behind i))

pub returns-clause-size : goal.returns-clause-size
returns-clause-size c =
    let end = c.segment_range-end.result.1 in
    let last : c.args.count - 1 < length c.args.outer.now.entries.items = omega (arith, c.requires.some, c.requires.there) in
    let place = segment_place c.args.unit.now c.args.outer.now (c.args.count - 1) c.requires.inside last in
    omega (
      arith,
      place.1,
      ap (λ (range : ℕ × ℕ). range.1) c.segment_range-end.ensures,
      end_behind c.args.outer.now.entries.items c.args.count c.requires.some,
      c.push_segments.ensures.size,
      ap (λ (xs : List ℕ). length xs) c.bytes_from.ensures,
      length-drop end c.args.unit.now,
      ap (λ (xs : List ℕ). length xs) c.push_bytes.ensures,
      length-append c.push_segments.new.out.items c.bytes_from.result.now,
    )
