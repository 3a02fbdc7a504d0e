use Rattle.std.proofs.Common.{◌≡◌, ℕ, ◌+◌, ◌-◌, ◌*◌, take, drop, ap, arith}
use Rattle.std.specs.Option.{option_copied}
use Rattle.std.specs.Prelude.{option_map}
use Rattle.mlp_major.specs.MajorSync.{smaller}
use Rattle.mlp_unit.specs.Shape.{end_at}
use Rattle.mlp_unit.proofs.SegmentPlaces.{segment_place}
use Rattle.mlp_bits.specs.Bits.{bits_of}
use Rattle.mlp_substream.specs.Checks.{bytes_of}
use Rattle.mlp_extract.proofs.UnitBytes.{put_writable, put_bytes}
use Rattle.mlp_extract.proofs.extractor.put_unit.Goals as goal

pub slice_bounds-body-end : goal.slice_bounds-body-end
slice_bounds-body-end c =
    let place = segment_place c.args.unit.now c.args.outer.now c.args.presentation c.requires.inside c.requires.has.there in
    omega (arith, place.1, ap (λ (range : ℕ × ℕ). range.1) c.segment_range-end.ensures)

pub write_unit-fits-requires : goal.write_unit-fits-requires
write_unit-fits-requires c =
    let k = c.args.presentation in
    let o = c.args.outer.now in
    let m : option_copied c.as_ref.result ≡ option_map (smaller k) o.major = cc in
    let e : take (c.from.result + 1) c.deref.result.now ≡ take (k + 1) o.entries.items = cc in
    let size : c.segment_range-end.result.1 - o.body ≡ 2 * end_at o.entries.items k = omega (arith, ap (λ (range : ℕ × ℕ). range.1) c.segment_range-end.ensures) in
    let b : take (c.segment_range-end.result.1 - o.body) (drop o.body c.args.unit.now) ≡ take (2 * end_at o.entries.items k) (drop o.body c.args.unit.now) = ap (λ (n : ℕ). take n (drop o.body c.args.unit.now)) size in
    put_writable k c.args.unit.now o c.requires _ _ _ m e b

pub returns : goal.returns
returns c =
    let k = c.args.presentation in
    let o = c.args.outer.now in
    let m : option_copied c.as_ref.result ≡ option_map (smaller k) o.major = cc in
    let e : take (c.from.result + 1) c.deref.result.now ≡ take (k + 1) o.entries.items = cc in
    let size : c.segment_range-end.result.1 - o.body ≡ 2 * end_at o.entries.items k = omega (arith, ap (λ (range : ℕ × ℕ). range.1) c.segment_range-end.ensures) in
    let b : take (c.segment_range-end.result.1 - o.body) (drop o.body c.args.unit.now) ≡ take (2 * end_at o.entries.items k) (drop o.body c.args.unit.now) = ap (λ (n : ℕ). take n (drop o.body c.args.unit.now)) size in
    let own : bytes_of (bits_of c.write_unit-fits.new.out.items) ≡ c.write_unit-fits.new.out.items = cc in
    put_bytes k c.args.unit.now o c.requires _ _ _ m e b c.write_unit-fits.result c.write_unit-fits.new.out.items own c.write_unit-fits.ensures.too_long c.write_unit-fits.ensures.written
