use Rattle.std.proofs.Common.{◌≡◌, ◌<◌, ◌*◌, length, take, ap, ◌∙◌, arith, refl}
use Rattle.mlp_bits.specs.Bits.{number}
use Rattle.mlp_bits.specs.Cursor.{Cursor, left}
use Rattle.mlp_bits.proofs.BitLists.{length-bits_of}
use Rattle.mlp_major.proofs.reading.first_word.Goals as goal

pub returns-in_default : goal.returns-in_default
returns-in_default c =
    let short : length (left c.new-r.result) < 32 = c.in_default.ensures.short.0 refl in
    let all : length (left c.new-r.result) ≡ 8 * length c.args.bytes.now = ap (λ (r : Cursor). length (left r)) c.new-r.ensures ∙ length-bits_of c.args.bytes.now in
    absurd (omega (arith, short, all, c.requires.low))

pub returns : goal.returns
returns c = c.in-Ok.ensures.value ∙ ap (λ (r : Cursor). number (take 32 (left r))) c.new-r.ensures
