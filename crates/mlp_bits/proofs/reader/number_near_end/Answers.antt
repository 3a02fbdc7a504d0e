use Rattle.std.proofs.Common.{◌≡◌, ◌+◌, ◌-◌, ◌*◌, length, arith}
use Rattle.mlp_bits.specs.Bits.{bits_of}
use Rattle.mlp_bits.proofs.Words.{word-part}
use Rattle.mlp_bits.proofs.reader.number_near_end.Goals as goal

pub returns : goal.returns
returns c =
    let first = 8 * (length c.args.bytes.now - 8) in
    let e : first + (c.args.place - first) ≡ c.args.place = omega arith in
    let unused : 64 - (c.args.place - first) - c.args.width ≡ length c.args.bytes.now * 8 - c.args.place - c.args.width = omega arith in
    let h = word-part (bits_of c.args.bytes.now) _ first (c.args.place - first) c.args.width c.word_at-word.result c.word_at-word.ensures (omega arith) (omega arith) in
    rw (e, unused) at h
