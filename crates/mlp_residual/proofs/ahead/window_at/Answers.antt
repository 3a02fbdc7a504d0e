use Rattle.std.proofs.Common.{◌≡◌, ℕ, ◌+◌, ◌*◌, ◌/◌, ◌%◌, ◌^◌, ◌-◌, subst, arith}
use Rattle.mlp_bits.specs.Bits.{bits_of}
use Rattle.mlp_residual.specs.Lookups.{IsWindow}
use Rattle.mlp_residual.proofs.AheadLaws.{window_at, narrower}
use Rattle.mlp_residual.proofs.ahead.window_at.Goals as goal

pub returns : goal.returns
returns c =
    let e : 8 * (c.args.place / 8) + c.args.place % 8 ≡ c.args.place = omega arith in
    let here = window_at (bits_of c.args.bytes.now) _ (8 * (c.args.place / 8)) (c.args.place % 8) c.word_at.result c.word_at.ensures (omega arith) in
    let window = c.word_at.result * 2 ^ (c.args.place % 8) % 2 ^ 64 in
    subst (λ (p : ℕ). IsWindow window 57 (bits_of c.args.bytes.now) p) e (narrower window (64 - c.args.place % 8) 57 (bits_of c.args.bytes.now) (8 * (c.args.place / 8) + c.args.place % 8) (omega arith) here)
