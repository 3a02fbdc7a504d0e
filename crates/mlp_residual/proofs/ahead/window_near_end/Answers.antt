use Rattle.std.proofs.Common.{◌≡◌, ℕ, ◌+◌, ◌*◌, ◌%◌, ◌^◌, ◌-◌, ◌≤◌, subst, arith}
use Rattle.mlp_bits.specs.Bits.{bits_of}
use Rattle.mlp_residual.specs.Lookups.{IsWindow}
use Rattle.mlp_residual.proofs.AheadLaws.{window_at, narrower}
use Rattle.mlp_residual.proofs.ahead.window_near_end.Goals as goal

pub returns : goal.returns
returns c count few left =
    let at = c.min-at.result in
    let s = c.args.place - 8 * at in
    let is = c.min-at.ensures in
    let short : s ≤ 63 = omega (arith, is, c.requires.place, c.requires.eight) in
    let back : 8 * at + s ≡ c.args.place = omega (arith, is) in
    let enough : count ≤ 64 - s = omega (arith, is, few, left, c.requires.place, c.requires.eight) in
    let window = c.word_at.result * 2 ^ s % 2 ^ 64 in
    let here = window_at (bits_of c.args.bytes.now) _ (8 * at) s c.word_at.result c.word_at.ensures short in
    subst (λ (p : ℕ). IsWindow window count (bits_of c.args.bytes.now) p) back (narrower window (64 - s) count (bits_of c.args.bytes.now) (8 * at + s) enough here)
