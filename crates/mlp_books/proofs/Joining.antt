-- Two numbers side by side, as one number.
use Rattle.std.proofs.Common.{◌≡◌, ℕ, ◌+◌, ◌*◌, ◌%◌, ◌^◌, ◌<◌, ◌≤◌, ◌++◌, Bool, List, ap, ◌∙◌, arith}
use Rattle.std.proofs.lemmas.Nat.{shl_whole, pow-add}
use lib.Pow.{pow_mono, high}
use Rattle.mlp_bits.specs.Bits.{bits}
use Rattle.mlp_bits.proofs.BitLists.{bits-split}
use Rattle.mlp_bits.proofs.Words.{bits-low}

-- a number of p, which has c bits, and of v behind it, which has w
pub record Joined (c w p v : ℕ) : Type 0 where
  pub whole : p * 2 ^ w % 2 ^ 32 ≡ p * 2 ^ w
  pub below : p * 2 ^ w + v < 2 ^ (c + w)
  pub fits : p * 2 ^ w + v < 2 ^ 32
  pub text : bits (c + w) (p * 2 ^ w + v) ≡ bits c p ++ bits w v

pub joined : (c w p v : ℕ) → p < 2 ^ c → v < 2 ^ w → c + w ≤ 32 → Joined c w p v
joined c w p v a b most =
    let g : (p + 1) * 2 ^ w ≤ 2 ^ c * 2 ^ w = grind arith in
    let e : 2 ^ (c + w) ≡ 2 ^ c * 2 ^ w = pow-add 2 c w in
    let h : p * 2 ^ w + v < 2 ^ (c + w) = omega (arith, g, b, e) in
    let m : 2 ^ (c + w) ≤ 2 ^ 32 = pow_mono most in
    record {
      whole = shl_whole p c w 32 a most;
      below = h;
      fits = omega (arith, h, m);
      text = bits-split c w (p * 2 ^ w + v) ∙ ap (λ (k : ℕ). bits c k ++ bits w (p * 2 ^ w + v)) (high p w b)
          ∙ ap (λ (t : List Bool). bits c p ++ t) (bits-low w w p v (omega arith));
    }
