-- The channels of presentations.
use Rattle.std.proofs.Common.{◌≡◌, ◌≢◌, ℕ, zero, suc, ◌+◌, ◌<◌, ◌≤◌, List, [], ◌∷◌, ℤ, pos, ◌+ℤ◌, Bool, cond, map, bit_xor, w32, refl, sym, ap, ◌∙◌, arith}
use Rattle.std.specs.Prelude.{nat_lt}
use Rattle.std.specs.Int.{cast_unsigned}
use Rattle.std.proofs.lemmas.Bool.{lt-ltb}
use Rattle.mlp_fold.specs.declared.profile.Mix.{Mix}
use Rattle.mlp_fold.specs.declared.profile.Mix.TheVariants.{Split, Fold, Bypass, Side}
use Rattle.mlp_fold.specs.Mix.{at, channels_of, shown, stereo, front6, front8, halved, presented_of, presented_fold6, presented_fold8}
use Rattle.mlp_fold.specs.Sums.{sum_of}

pub stereo6_at : (q c : ℕ) (x : List ℤ) → c < 2 → stereo q (front6 q (at x c) (at x 2) (at x (c + 4))) ≡ at (presented_fold6 q 0 x) c
stereo6_at q zero x lt = refl
stereo6_at q (suc zero) x lt = refl
stereo6_at q (suc (suc c)) x lt = absurd (omega arith)

pub stereo8_at : (q c : ℕ) (x : List ℤ) → c < 2 → stereo q (front8 q (at x c) (at x 2) (at x (c + 4) +ℤ at x (c + 6))) ≡ at (presented_fold8 q 0 x) c
stereo8_at q zero x lt = refl
stereo8_at q (suc zero) x lt = refl
stereo8_at q (suc (suc c)) x lt = absurd (omega arith)

pub side_at : (q c : ℕ) (x : List ℤ) → 4 ≤ c → c < 6 → halved q (at x c +ℤ at x (c + 2)) ≡ at (presented_fold8 q 1 x) c
side_at q zero x le lt = absurd (omega arith)
side_at q (suc zero) x le lt = absurd (omega arith)
side_at q (suc (suc zero)) x le lt = absurd (omega arith)
side_at q (suc (suc (suc zero))) x le lt = absurd (omega arith)
side_at q (suc (suc (suc (suc zero)))) x le lt = refl
side_at q (suc (suc (suc (suc (suc zero))))) x le lt = refl
side_at q (suc (suc (suc (suc (suc (suc c)))))) x le lt = absurd (omega arith)

-- ---- channels that are those of PCM

in_front : (n c : ℕ) (v : ℤ) → c < n → v ≡ cond (nat_lt c n) v (pos 0)
in_front n c v lt = ap (λ (b : Bool). cond b v (pos 0)) (sym (lt-ltb c n lt))

shown_at : (n c : ℕ) (x : List ℤ) → c < n → n ≤ 8 → at x c ≡ at (shown n x) c
shown_at n zero x lt le = in_front n 0 (at x 0) lt
shown_at n (suc zero) x lt le = in_front n 1 (at x 1) lt
shown_at n (suc (suc zero)) x lt le = in_front n 2 (at x 2) lt
shown_at n (suc (suc (suc zero))) x lt le = in_front n 3 (at x 3) lt
shown_at n (suc (suc (suc (suc zero)))) x lt le = in_front n 4 (at x 4) lt
shown_at n (suc (suc (suc (suc (suc zero))))) x lt le = in_front n 5 (at x 5) lt
shown_at n (suc (suc (suc (suc (suc (suc zero)))))) x lt le = in_front n 6 (at x 6) lt
shown_at n (suc (suc (suc (suc (suc (suc (suc zero))))))) x lt le = in_front n 7 (at x 7) lt
shown_at n (suc (suc (suc (suc (suc (suc (suc (suc c)))))))) x lt le = absurd (omega arith)

first_at : (k c : ℕ) (x : List ℤ) → c < channels_of k → at x c ≡ at (shown (channels_of k) x) c
first_at zero c x lt = shown_at 2 c x lt (omega arith)
first_at (suc zero) c x lt = shown_at 6 c x lt (omega arith)
first_at (suc (suc k)) c x lt = shown_at 8 c x lt (omega arith)

-- ---- sums

sum_same : (f : List ℤ → List ℤ) (c : ℕ) → ((x : List ℤ) → at x c ≡ at (f x) c) → (sum : ℕ) (frames : List (List ℤ)) → sum_of sum (map (λ x. at x c) frames) ≡ sum_of sum (map (λ x. at (f x) c) frames)
sum_same f c same sum [] = refl
sum_same f c same sum (x ∷ frames) =
    sum_same f c same (bit_xor sum (cast_unsigned w32 (at x c))) frames
    ∙ ap (λ (v : ℤ). sum_of (bit_xor sum (cast_unsigned w32 v)) (map (λ x. at (f x) c) frames)) (same x)

pub sum_shown : (mix : Mix) (q channels k c : ℕ) (frames : List (List ℤ)) → mix ≢ Fold → c < channels_of k
    → sum_of 0 (map (λ x. at x c) frames) ≡ sum_of 0 (map (λ x. at (presented_of mix q channels k x) c) frames)
sum_shown Split q channels k c frames other lt = sum_same (shown (channels_of k)) c (λ x. first_at k c x lt) 0 frames
sum_shown Fold q channels k c frames other lt = absurd (other refl)
sum_shown Bypass q channels k c frames other lt = sum_same (shown (channels_of k)) c (λ x. first_at k c x lt) 0 frames
sum_shown Side q channels k c frames other lt = sum_same (shown (channels_of k)) c (λ x. first_at k c x lt) 0 frames
