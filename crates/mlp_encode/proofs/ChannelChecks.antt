-- The running check of a presentation, channel by channel.
use Rattle.std.proofs.Common.{◌≡◌, ℕ, zero, suc, ◌+◌, ◌*◌, ◌%◌, ◌^◌, ◌<◌, ◌≤◌, ℤ, Bool, true, false, List, [], ◌∷◌, map, length, take, bit_xor, w32, refl, sym, ap, ◌∙◌, arith}
use lib.Bits.{xor_assoc, xor_zero_l, xor_zero_r}
use Rattle.std.specs.Prelude.{◌==◌, if◌then◌else◌}
use Rattle.std.specs.Int.{cast_unsigned}
use Rattle.std.proofs.lemmas.Nat.{pow_pos, xor_comm, xor_mod, xor_block}
use Rattle.mlp_output.specs.Output.{check_from, check_of}
use Rattle.mlp_output.proofs.Sums.{part}
use Rattle.mlp_fold.specs.declared.profile.Mix.{Mix}
use Rattle.mlp_fold.specs.declared.profile.Mix.TheVariants.{Split, Fold, Bypass, Side}
use Rattle.mlp_fold.specs.Mix.{at, channels_of, presented_of}
use Rattle.mlp_fold.specs.Sums.{sum_of}

-- ---- sums without carries

crossed : (a b c d : ℕ) → bit_xor (bit_xor a b) (bit_xor c d) ≡ bit_xor (bit_xor a c) (bit_xor b d)
crossed a b c d =
    xor_assoc a b (bit_xor c d)
    ∙ ap (bit_xor a) (sym (xor_assoc b c d) ∙ ap (λ (n : ℕ). bit_xor n d) (xor_comm b c) ∙ xor_assoc c b d)
    ∙ sym (xor_assoc a c (bit_xor b d))

joined_part : (c a b : ℕ) → bit_xor (part c a) (part c b) ≡ part c (bit_xor a b)
joined_part c a b =
    let m : ℕ = a % 2 ^ 24 in
    let n : ℕ = b % 2 ^ 24 in
    let e : m * 2 ^ c + 0 ≡ m * 2 ^ c = omega arith in
    let f : n * 2 ^ c + 0 ≡ n * 2 ^ c = omega arith in
    let g : bit_xor m n * 2 ^ c + 0 ≡ bit_xor m n * 2 ^ c = omega arith in
    ap (λ (k : ℕ). bit_xor k (n * 2 ^ c)) (sym e)
    ∙ ap (bit_xor (m * 2 ^ c + 0)) (sym f)
    ∙ xor_block c m n 0 0 (pow_pos c) (pow_pos c)
    ∙ g
    ∙ ap (λ (k : ℕ). k * 2 ^ c) (sym (xor_mod a b 24))

no_part : (running c : ℕ) → bit_xor running (part c 0) ≡ running
no_part running c =
    let e : part c 0 ≡ 0 = omega arith in
    ap (bit_xor running) e ∙ xor_zero_r running

-- ---- a channel more

check_taken : (d c : ℕ) (v : List ℤ) → c < length v → check_from d (take (suc c) v) ≡ bit_xor (check_from d (take c v)) (part (d + c) (cast_unsigned w32 (at v c)))
check_taken d c [] lt = absurd (omega arith)
check_taken d zero (x ∷ v) lt =
    let e : d ≡ d + 0 = omega arith in
    xor_zero_r (part d (cast_unsigned w32 x))
    ∙ ap (λ (k : ℕ). part k (cast_unsigned w32 x)) e
    ∙ sym (xor_zero_l (part (d + 0) (cast_unsigned w32 x)))
check_taken d (suc c) (x ∷ v) lt =
    let p : ℕ = part d (cast_unsigned w32 x) in
    let e : d + 1 + c ≡ d + suc c = omega arith in
    ap (bit_xor p) (check_taken (d + 1) c v (omega arith))
    ∙ sym (xor_assoc p (check_from (d + 1) (take c v)) (part (d + 1 + c) (cast_unsigned w32 (at v c))))
    ∙ ap (λ (k : ℕ). bit_xor (bit_xor p (check_from (d + 1) (take c v))) (part k (cast_unsigned w32 (at v c)))) e

module _ (f : List ℤ → List ℤ) (long : (x : List ℤ) → length (f x) ≡ 8) where
  pub none_taken : (running : ℕ) (frames : List (List ℤ)) → check_of running (map (λ x. take 0 (f x)) frames) ≡ running
  none_taken running [] = refl
  none_taken running (x ∷ frames) = ap (λ (r : ℕ). check_of r (map (λ x. take 0 (f x)) frames)) (xor_zero_r running) ∙ none_taken running frames

  more_taken : (c running sum : ℕ) (frames : List (List ℤ)) → c < 8
      → check_of (bit_xor running (part c sum)) (map (λ x. take (suc c) (f x)) frames)
      ≡ bit_xor (check_of running (map (λ x. take c (f x)) frames)) (part c (sum_of sum (map (λ x. at (f x) c) frames)))
  more_taken c running sum [] lt = refl
  more_taken c running sum (x ∷ frames) lt =
      let rest : List (List ℤ) = map (λ x. take (suc c) (f x)) frames in
      let before : ℕ = check_from 0 (take c (f x)) in
      let word : ℕ = cast_unsigned w32 (at (f x) c) in
      let e : 0 + c ≡ c = omega arith in
      ap (λ (n : ℕ). check_of (bit_xor (bit_xor running (part c sum)) n) rest) (check_taken 0 c (f x) (omega (arith, long x, lt)) ∙ ap (λ (k : ℕ). bit_xor before (part k word)) e)
      ∙ ap (λ (n : ℕ). check_of n rest) (crossed running (part c sum) before (part c word) ∙ ap (bit_xor (bit_xor running before)) (joined_part c sum word))
      ∙ more_taken c (bit_xor running before) (bit_xor sum word) frames lt

  pub channel_more : (c running : ℕ) (frames : List (List ℤ)) → c < 8
      → bit_xor (check_of running (map (λ x. take c (f x)) frames)) (part c (sum_of 0 (map (λ x. at (f x) c) frames))) ≡ check_of running (map (λ x. take (c + 1) (f x)) frames)
  channel_more c running frames lt =
      let e : suc c ≡ c + 1 = omega arith in
      sym (more_taken c running 0 frames lt)
      ∙ ap (λ (r : ℕ). check_of r (map (λ x. take (suc c) (f x)) frames)) (no_part running c)
      ∙ ap (λ (n : ℕ). check_of running (map (λ x. take n (f x)) frames)) e

-- ---- the eight places of a presentation

pub channels_most : (k : ℕ) → channels_of k ≤ 8
channels_most zero = omega arith
channels_most (suc zero) = omega arith
channels_most (suc (suc k)) = omega arith

pub eight_places : (mix : Mix) (q channels j : ℕ) (x : List ℤ) → length (presented_of mix q channels j x) ≡ 8
eight_places Split q channels j x = refl
eight_places Bypass q channels j x = refl
eight_places Side q channels j x = refl
eight_places Fold q channels j x = pick (channels == 6) j
  where
    pick : (t : Bool) (j : ℕ) → length (if t then presented_of Fold q 6 j x else presented_of Fold q 8 j x) ≡ 8
    pick true zero = refl
    pick true (suc j) = refl
    pick false zero = refl
    pick false (suc zero) = refl
    pick false (suc (suc j)) = refl

in_check : (mix : Mix) (q channels j : ℕ) (x : List ℤ) → check_from 0 (take (channels_of j) (presented_of mix q channels j x)) ≡ check_from 0 (presented_of mix q channels j x)
in_check Split q channels zero x = refl
in_check Split q channels (suc zero) x = refl
in_check Split q channels (suc (suc j)) x = refl
in_check Bypass q channels zero x = refl
in_check Bypass q channels (suc zero) x = refl
in_check Bypass q channels (suc (suc j)) x = refl
in_check Side q channels zero x = refl
in_check Side q channels (suc zero) x = refl
in_check Side q channels (suc (suc j)) x = refl
in_check Fold q channels j x = pick (channels == 6) j
  where
    pick : (t : Bool) (j : ℕ) → let v : List ℤ = if t then presented_of Fold q 6 j x else presented_of Fold q 8 j x in check_from 0 (take (channels_of j) v) ≡ check_from 0 v
    pick true zero = refl
    pick true (suc zero) = refl
    pick true (suc (suc j)) = refl
    pick false zero = refl
    pick false (suc zero) = refl
    pick false (suc (suc j)) = refl

-- the check over the channels of a presentation is that over its eight places
pub checks_same : (mix : Mix) (q channels j running : ℕ) (pcm : List (List ℤ))
    → check_of running (map (λ x. take (channels_of j) (presented_of mix q channels j x)) pcm) ≡ check_of running (map (presented_of mix q channels j) pcm)
checks_same mix q channels j running [] = refl
checks_same mix q channels j running (x ∷ pcm) =
    let later : List (List ℤ) = map (λ x. take (channels_of j) (presented_of mix q channels j x)) pcm in
    ap (λ (n : ℕ). check_of (bit_xor running n) later) (in_check mix q channels j x)
    ∙ checks_same mix q channels j (bit_xor running (check_from 0 (presented_of mix q channels j x))) pcm
