use Rattle.std.proofs.Common.{◌≡◌, ◌<◌, ◌-◌, ◌*◌, length, take, drop, ap, ◌∙◌, arith, refl}
use Rattle.std.proofs.lemmas.List.{length-take, length-drop}
use Rattle.mlp_bits.specs.Cursor.{Cursor, left}
use Rattle.mlp_bits.proofs.BitLists.{length-bits_of}
use Rattle.mlp_unit.proofs.UnitReading.{bits_behind}
use Rattle.mlp_unit.proofs.outer.has_sync.Goals as goal

pub returns-in_default : goal.returns-in_default
returns-in_default c =
    let unit = c.args.unit.now in
    let short : length (left c.new-r.result) < 31 = c.in_default.ensures.short.0 refl in
    let all : length (left c.new-r.result) ≡ 8 * length (take (length unit - 4) (drop 4 unit)) = ap (λ (r : Cursor). length (left r)) c.new-r.ensures ∙ length-bits_of (take (length unit - 4) (drop 4 unit)) in
    absurd (omega (arith, short, all, c.if-unit-lt8.false, length-take (length unit - 4) (drop 4 unit), length-drop 4 unit))

pub returns : goal.returns
returns c = bits_behind c.in-Ok.bits c.args.unit.now c.new-r.result c.if-unit-lt8.false c.new-r.ensures c.in-Ok.ensures.value
