use Rattle.std.proofs.Common.{◌≡◌, ◌-◌, ◌*◌, ◌/◌, ap, arith}
use Rattle.mlp_bits.specs.Cursor.{Cursor}
use Rattle.mlp_bits.proofs.Peeking.{bits_of-between}
use Rattle.mlp_bits.proofs.reader.BitReader.bytes_between.Goals as goal

pub returns : goal.returns
returns c =
    let bytes = c.self.inside.bytes.now in
    let place = ap (λ (d : Cursor). d.place) c.self.view_is in
    let f : 8 * (c.args.first / 8) ≡ c.args.first = omega (arith, c.requires.first) in
    let n : 8 * (c.args.end / 8 - c.args.first / 8) ≡ c.args.end - c.args.first = omega (arith, c.requires.first, c.requires.end) in
    let h = bits_of-between bytes (c.args.first / 8) (c.args.end / 8 - c.args.first / 8) (omega (arith, c.requires.taken, c.requires.order, c.self.invariant.0, place)) in
    rw (f, n, ap (λ (d : Cursor). d.all) c.self.view_is) at h
