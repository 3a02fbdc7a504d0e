use Rattle.std.proofs.Common.{◌≡◌, ℕ, ◌<◌, ◌^◌, List, drop, arith, ◌∙◌, ap, w16}
use Rattle.std.proofs.lemmas.Int.{ints}
use Rattle.std.proofs.lemmas.List.{get_or-drop, take_rest}
use Rattle.std.specs.Prelude.{slice_index}
use Rattle.std.specs.Int.{cast_signed}
use Rattle.byteorder.specs.Endian.{little_number}
use Rattle.mlp_pcm.specs.Samples.{sample_in}
use Rattle.mlp_pcm.proofs.SampleBytes.{by_low_byte}
use Rattle.mlp_pcm.proofs.samples.sample.Goals as goal

pub returns-else-width-eq2 : goal.returns-else-width-eq2
unfolding sample_in
returns-else-width-eq2 c =
    let bytes = c.args.bytes.now in
    let low : slice_index bytes 0 < 256 = omega (arith, c.type_inv.bytes 0) in
    let upper : little_number 2 (drop 1 bytes) < 2 ^ 16 = omega (arith, c.type_inv.bytes 1, c.type_inv.bytes 2, get_or-drop 1 bytes 0 0, get_or-drop 1 bytes 1 0) in
    let e = by_low_byte bytes low upper in
    let w : c.args.width ≡ 3 = omega arith in
    let z = c.read_i16-else-width-eq2.ensures ∙ ap (λ (xs : List ℕ). cast_signed w16 (little_number 2 xs)) (take_rest bytes 1) in
    rw w (omega (arith, ints, e, z))
