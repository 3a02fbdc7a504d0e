-- The frames of the generator are PCM that can be sent.
use Rattle.std.proofs.Common.{◌≡◌, ℕ, zero, suc, ◌+◌, ◌-◌, ◌*◌, ◌/◌, ◌^◌, ◌<◌, ◌≤◌, List, map, replicate, ℤ, pos, neg_ℤ, FitsSigned, w32, w64, to_z, of_z, ◌+ℤ◌, ◌*ℤ◌, ◌≤ℤ◌, ◌<ℤ◌, sym, ap, ◌∙◌, subst, arith, suc-mul}
use Rattle.std.proofs.lemmas.Int.{ints, to_z-of_z}
use Rattle.std.specs.List.{range_with_len}
use Rattle.std.proofs.lemmas.List.{get_or_append_left}
use Rattle.std.proofs.lemmas.List.FromFn.{length-map-range_with_len, get_or-map-range_with_len}
use Rattle.mlp_arith.specs.Words.{clear}
use Rattle.mlp_arith.proofs.Residues.{clear_le, lt_clear, clear-clear}
use Rattle.std.proofs.lemmas.Nat.{pow_below}
use Rattle.mlp_fold.specs.Mix.{at, IsSample, AreSamples}
use Rattle.mlp_gen.specs.Generator.{next_state, state_after, noise, phase, triangle, sample, frame_from}

-- ---- states

pub state_more : (seed m n : ℕ) → state_after (state_after seed m) n ≡ state_after seed (m + n)
unfolding state_after
state_more seed m zero = let z : m ≡ m + 0 = omega arith in ap (state_after seed) z
state_more seed m (suc n) = let z : suc (m + n) ≡ m + suc n = omega arith in ap next_state (state_more seed m n) ∙ ap (state_after seed) z

pub state_next : (seed n : ℕ) → next_state (state_after seed n) ≡ state_after seed (n + 1)
unfolding state_after
state_next seed n = let z : suc n ≡ n + 1 = omega arith in ap (state_after seed) z

pub state_first : (seed n : ℕ) → seed ≡ state_after seed (0 * n)
unfolding state_after
state_first seed n = let z : 0 ≡ 0 * n = omega arith in ap (state_after seed) z

pub more_times : (a b n : ℕ) → (a + b) * n + n ≡ (a + (b + 1)) * n
more_times a b n =
    let e : suc (a + b) ≡ a + (b + 1) = omega arith in
    sym (suc-mul (a + b) n) ∙ ap (λ k. k * n) e

-- ---- samples

pub noise_least : (s : ℕ) → neg_ℤ (pos 128) ≤ℤ noise s
noise_least s = omega (arith, ints)

pub noise_most : (s : ℕ) → s < 2 ^ 32 → noise s ≤ℤ pos 127
noise_most s lt = let z : s / 16777216 ≤ 255 = omega arith in omega (arith, ints, z)

pub triangle_least : (i c : ℕ) → neg_ℤ (pos 1024) ≤ℤ triangle i c
triangle_least i c = omega (arith, ints)

pub triangle_most : (i c : ℕ) → triangle i c ≤ℤ pos 1024
triangle_most i c = let z : (phase i c - 2048) + (2048 - phase i c) ≤ 2048 = omega arith in omega (arith, ints, z)

power_most : (q : ℕ) → q ≤ 8 → 2 ^ q < 2 ^ 9
power_most q few = pow_below q 9 (omega (arith, few))

-- in words of 64 bits
pub value_by : (t n : ℤ) → neg_ℤ (pos 1024) ≤ℤ t → t ≤ℤ pos 1024 → neg_ℤ (pos 128) ≤ℤ n → n ≤ℤ pos 127
    → to_z w64 (of_z w64 (to_z w64 (of_z w64 (to_z w64 (of_z w64 t) *ℤ pos 4096)) +ℤ to_z w64 (of_z w64 (to_z w64 (of_z w64 n) *ℤ pos 16)))) ≡ t *ℤ pos 4096 +ℤ n *ℤ pos 16
value_by t n a b c d =
    ap (λ x. to_z w64 (of_z w64 (to_z w64 (of_z w64 (x *ℤ pos 4096)) +ℤ to_z w64 (of_z w64 (to_z w64 (of_z w64 n) *ℤ pos 16))))) (to_z-of_z w64 t (omega (arith, ints, a, b)))
    ∙ ap (λ y. to_z w64 (of_z w64 (to_z w64 (of_z w64 (t *ℤ pos 4096)) +ℤ to_z w64 (of_z w64 (y *ℤ pos 16))))) (to_z-of_z w64 n (omega (arith, ints, c, d)))
    ∙ ap (λ x. to_z w64 (of_z w64 (x +ℤ to_z w64 (of_z w64 (n *ℤ pos 16))))) (to_z-of_z w64 (t *ℤ pos 4096) (omega (arith, ints, a, b)))
    ∙ ap (λ y. to_z w64 (of_z w64 (t *ℤ pos 4096 +ℤ y))) (to_z-of_z w64 (n *ℤ pos 16) (omega (arith, ints, c, d)))
    ∙ to_z-of_z w64 (t *ℤ pos 4096 +ℤ n *ℤ pos 16) (omega (arith, ints, a, b, c, d))

-- cleared it has 32 bits
pub clear_fits : (q : ℕ) (v : ℤ) → q ≤ 8 → neg_ℤ (pos 4196352) ≤ℤ v → v ≤ℤ pos 4196336 → FitsSigned w32 (clear q v)
clear_fits q v few low high = omega (arith, ints, clear_le q v, lt_clear q v, power_most q few, low, high)

abbrev pub value : ℕ → ℕ → ℕ → ℤ
value s i c = triangle i c *ℤ pos 4096 +ℤ noise s *ℤ pos 16

pub value_low : (s i c : ℕ) → neg_ℤ (pos 4196352) ≤ℤ (triangle i c *ℤ pos 4096 +ℤ noise s *ℤ pos 16)
value_low s i c = omega (arith, ints, triangle_least i c, noise_least s)

pub value_high : (s i c : ℕ) → s < 2 ^ 32 → (triangle i c *ℤ pos 4096 +ℤ noise s *ℤ pos 16) ≤ℤ pos 4196336
value_high s i c lt = omega (arith, ints, triangle_most i c, noise_most s lt)

pub sample_low : (q s i c : ℕ) → q ≤ 8 → neg_ℤ (pos 8388608) ≤ℤ sample q s i c
sample_low q s i c few = omega (arith, ints, lt_clear q (value s i c), power_most q few, value_low s i c)

pub sample_high : (q s i c : ℕ) → s < 2 ^ 32 → sample q s i c <ℤ pos 8388608
sample_high q s i c lt = omega (arith, ints, clear_le q (value s i c), value_high s i c lt)

pub state_small : (s n : ℕ) → state_after s (suc n) < 2 ^ 32
unfolding state_after
state_small s n = omega arith

pub sample_is : (q s i c : ℕ) → q ≤ 8 → IsSample q (sample q (state_after s (suc c)) i c)
sample_is q s i c few = record {
  low = sample_low q (state_after s (suc c)) i c few;
  high = sample_high q (state_after s (suc c)) i c (state_small s c);
  cleared = clear-clear q (triangle i c *ℤ pos 4096 +ℤ noise (state_after s (suc c)) *ℤ pos 16);
}

-- ---- frames

pub frame_samples : (q channels s i : ℕ) → q ≤ 8 → AreSamples q channels (frame_from q channels s i)
frame_samples q channels s i few c lt =
    let f : ℕ → ℤ = λ c. sample q (state_after s (c + 1)) i c in
    let made : List ℤ = map f (range_with_len 0 channels) in
    let one : c + 1 ≡ suc c = omega arith in
    let here : at (frame_from q channels s i) c ≡ sample q (state_after s (suc c)) i c =
    get_or_append_left made (replicate (8 - channels) (pos 0)) (pos 0) c (omega (arith, lt, length-map-range_with_len f 0 channels))
    ∙ get_or-map-range_with_len f 0 channels c c (pos 0) lt (omega arith) ∙ ap (λ (n : ℕ). sample q (state_after s n) i c) one in
    subst (IsSample q) (sym here) (sample_is q s i c few)
