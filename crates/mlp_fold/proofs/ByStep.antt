-- What is coded has no bits below the steps, and the channels of the substreams.
use Rattle.std.proofs.Common.{◌≡◌, ◌≢◌, ℕ, zero, suc, ◌+◌, ◌-◌, ◌<◌, ◌≤◌, ◌^◌, List, ℤ, pos, neg_ℤ, ◌+ℤ◌, ◌-ℤ◌, ◌*ℤ◌, Bool, true, false, cond, arith, refl, sym, ◌∙◌, ap, subst, inl, inr}
use Rattle.std.specs.Prelude.{nat_lt, IsTrue}
use Rattle.std.proofs.lemmas.Int.{ints}
use Rattle.std.proofs.lemmas.Bool.{ltb-true}
use Rattle.std.proofs.lemmas.Bool.Decides.{eqb_tells, nat_tests}
use Rattle.mlp_arith.specs.Words.{floor_by, clear}
use Rattle.mlp_arith.proofs.Residues.{clear_zero, clear_add, clear_multiple, clear-clear}
use Rattle.mlp_matrix.specs.Matrix.{step_of}
use Rattle.mlp_syntax.specs.declared.major.Kind.{Kind}
use Rattle.mlp_syntax.specs.declared.major.Kind.TheVariants.{Fbb, Fba}
use Rattle.mlp_fold.specs.declared.profile.Mix.TheVariants.{Split, Fold, Bypass, Side}
use Rattle.mlp_fold.specs.Profile.{has_channels}
use Rattle.mlp_fold.specs.Mix.{at, AreSamples, channels_of, place, shown, lowered, front6, front8, coded_fold6, coded_fold8, coded_bypass, coded_side, coded_of}
use Rattle.mlp_fold.specs.Rows.{steps_by, bypass_steps}
use Rattle.mlp_fold.specs.Substreams.{substreams_of, first_channel, last_channel, EachSubstream, CodesByStep}
use Rattle.mlp_fold.proofs.Samples.{eight}

-- ---- numbers without low bits

abbrev IsCleared : ℕ → ℤ → Type 0
IsCleared q v = clear q v ≡ v

sum_cleared : (q : ℕ) (x y : ℤ) → IsCleared q x → IsCleared q y → IsCleared q (x +ℤ y)
sum_cleared q x y h k =
    ap (λ z. clear q (x +ℤ z)) (sym k) ∙ clear_add q x (floor_by q y) ∙ ap (λ z. z +ℤ clear q y) h ∙ ap (λ z. x +ℤ z) k

difference_cleared : (q : ℕ) (x y : ℤ) → IsCleared q x → IsCleared q y → IsCleared q (x -ℤ y)
difference_cleared q x y h k =
    let back : (x -ℤ y) +ℤ clear q y ≡ x = omega (arith, ints, k) in
    let split : clear q x ≡ clear q (x -ℤ y) +ℤ clear q y = ap (clear q) (sym back) ∙ clear_add q (x -ℤ y) (floor_by q y) in
    omega (arith, ints, h, k, split)

lowered_cleared : (q : ℕ) (x s : ℤ) → IsCleared q x → IsCleared q (lowered q x s)
lowered_cleared q x s h = difference_cleared q x (clear q (floor_by 14 s)) h (clear-clear q (floor_by 14 s))

all_cleared : (v : ℤ) → IsCleared 0 v
all_cleared v = let e : v *ℤ pos (2 ^ 0) ≡ v = omega (arith, ints) in ap (clear 0) (sym e) ∙ clear_multiple 0 v ∙ e

-- ---- each mix: q bits at every place, but in Bypass

either_cleared : (q : ℕ) (b : Bool) (v : ℤ) → (b ≡ true → IsCleared q v) → IsCleared q (cond b v (pos 0))
either_cleared q true v f = f refl
either_cleared q false v f = clear_zero q

shown_cleared : (q channels : ℕ) (x : List ℤ) → AreSamples q channels x → (c : ℕ) → IsCleared q (at (shown channels x) c)
shown_cleared q channels x h =
    eight (IsCleared q) (clear_zero q) (place channels x 0) (place channels x 1) (place channels x 2) (place channels x 3)
    (place channels x 4) (place channels x 5) (place channels x 6) (place channels x 7) (one 0) (one 1) (one 2) (one 3) (one 4) (one 5) (one 6) (one 7)
  where
    one : (c : ℕ) → IsCleared q (place channels x c)
    one c = either_cleared q (nat_lt c channels) (at x c) (λ e. (h c (ltb-true c channels e)).cleared)

fold6_cleared : (q : ℕ) (x : List ℤ) → AreSamples q 6 x → (c : ℕ) → IsCleared q (at (coded_fold6 q x) c)
fold6_cleared q x h =
    eight (IsCleared q) (clear_zero q) (front6 q (at x 0) (at x 2) (at x 4)) (front6 q (at x 1) (at x 2) (at x 5)) (at x 2) (at x 3) (at x 4) (at x 5) (pos 0) (pos 0)
    (lowered_cleared q (at x 0) (neg_ℤ (pos 11585) *ℤ at x 2 +ℤ neg_ℤ (pos 11585) *ℤ at x 4) (h 0 (omega arith)).cleared)
    (lowered_cleared q (at x 1) (neg_ℤ (pos 11585) *ℤ at x 2 +ℤ neg_ℤ (pos 11585) *ℤ at x 5) (h 1 (omega arith)).cleared)
    (h 2 (omega arith)).cleared (h 3 (omega arith)).cleared (h 4 (omega arith)).cleared (h 5 (omega arith)).cleared (clear_zero q) (clear_zero q)

fold8_cleared : (q : ℕ) (x : List ℤ) → AreSamples q 8 x → (c : ℕ) → IsCleared q (at (coded_fold8 q x) c)
fold8_cleared q x h =
    eight (IsCleared q) (clear_zero q) (front8 q (at x 0) (at x 2) (at x 4 +ℤ at x 6)) (front8 q (at x 1) (at x 2) (at x 5 +ℤ at x 7)) (at x 2) (at x 3)
    (at x 4 +ℤ at x 6) (at x 5 +ℤ at x 7) (at x 6) (at x 7)
    (lowered_cleared q (at x 0) (neg_ℤ (pos 11585) *ℤ at x 2 +ℤ neg_ℤ (pos 5793) *ℤ (at x 4 +ℤ at x 6)) (h 0 (omega arith)).cleared)
    (lowered_cleared q (at x 1) (neg_ℤ (pos 11585) *ℤ at x 2 +ℤ neg_ℤ (pos 5793) *ℤ (at x 5 +ℤ at x 7)) (h 1 (omega arith)).cleared)
    (h 2 (omega arith)).cleared (h 3 (omega arith)).cleared
    (sum_cleared q (at x 4) (at x 6) (h 4 (omega arith)).cleared (h 6 (omega arith)).cleared) (sum_cleared q (at x 5) (at x 7) (h 5 (omega arith)).cleared (h 7 (omega arith)).cleared)
    (h 6 (omega arith)).cleared (h 7 (omega arith)).cleared

fold_cleared : (q channels : ℕ) (x : List ℤ) → (6 ≤ channels) × (channels ≢ 6 → channels ≡ 8) → AreSamples q channels x → (c : ℕ) → IsCleared q (at (coded_of Fold q channels x) c)
fold_cleared q channels x shape h c =
    let P : ℕ → Type 0 = λ n. IsCleared q (at (coded_of Fold q n x) c) in
    elim (eqb_tells channels 6) [
      | inl e ↦ subst P (sym e.1) (fold6_cleared q x (λ i m. h i (omega (arith, e.1))) c)
      | inr e ↦ let f : channels ≡ 8 = shape.1 e.1 in subst P (sym f) (fold8_cleared q x (λ i m. h i (omega (arith, f))) c)
    ]

side_cleared : (q : ℕ) (x : List ℤ) → AreSamples q 2 x → (c : ℕ) → IsCleared q (at (coded_side x) c)
side_cleared q x h =
    eight (IsCleared q) (clear_zero q) (at x 0) (at x 1 -ℤ at x 0) (pos 0) (pos 0) (pos 0) (pos 0) (pos 0) (pos 0)
    (h 0 (omega arith)).cleared (difference_cleared q (at x 1) (at x 0) (h 1 (omega arith)).cleared (h 0 (omega arith)).cleared)
    (clear_zero q) (clear_zero q) (clear_zero q) (clear_zero q) (clear_zero q) (clear_zero q)

-- the step of each channel
each_step : (k q c : ℕ) → c < channels_of k → step_of (steps_by k q) c ≡ q
each_step zero q zero h = refl
each_step zero q (suc zero) h = refl
each_step zero q (suc (suc c)) h = absurd (omega arith)
each_step (suc zero) q zero h = refl
each_step (suc zero) q (suc zero) h = refl
each_step (suc zero) q (suc (suc zero)) h = refl
each_step (suc zero) q (suc (suc (suc zero))) h = refl
each_step (suc zero) q (suc (suc (suc (suc zero)))) h = refl
each_step (suc zero) q (suc (suc (suc (suc (suc zero))))) h = refl
each_step (suc zero) q (suc (suc (suc (suc (suc (suc c)))))) h = absurd (omega arith)
each_step (suc (suc k)) q zero h = refl
each_step (suc (suc k)) q (suc zero) h = refl
each_step (suc (suc k)) q (suc (suc zero)) h = refl
each_step (suc (suc k)) q (suc (suc (suc zero))) h = refl
each_step (suc (suc k)) q (suc (suc (suc (suc zero)))) h = refl
each_step (suc (suc k)) q (suc (suc (suc (suc (suc zero))))) h = refl
each_step (suc (suc k)) q (suc (suc (suc (suc (suc (suc zero)))))) h = refl
each_step (suc (suc k)) q (suc (suc (suc (suc (suc (suc (suc zero))))))) h = refl
each_step (suc (suc k)) q (suc (suc (suc (suc (suc (suc (suc (suc c)))))))) h = absurd (omega arith)

at_step : (k q c : ℕ) (v : ℤ) → c < channels_of k → IsCleared q v → IsCleared (step_of (steps_by k q) c) v
at_step k q c v l h = ap (λ (s : ℕ). clear s v) (each_step k q c l) ∙ h

bypass_by_step : (x : List ℤ) (k c : ℕ) → c < channels_of k → channels_of k ≤ 6 → IsCleared (step_of (bypass_steps k) c) (at (coded_bypass x) c)
bypass_by_step x zero zero l n = all_cleared (at x 0)
bypass_by_step x zero (suc zero) l n = all_cleared (at x 1)
bypass_by_step x zero (suc (suc c)) l n = absurd (omega arith)
bypass_by_step x (suc zero) zero l n = all_cleared (at x 0)
bypass_by_step x (suc zero) (suc zero) l n = all_cleared (at x 1)
bypass_by_step x (suc zero) (suc (suc zero)) l n = clear-clear 1 (at x 2)
bypass_by_step x (suc zero) (suc (suc (suc zero))) l n = clear-clear 1 (at x 3)
bypass_by_step x (suc zero) (suc (suc (suc (suc zero)))) l n = clear-clear 1 (at x 4)
bypass_by_step x (suc zero) (suc (suc (suc (suc (suc zero))))) l n = clear-clear 1 (at x 5)
bypass_by_step x (suc zero) (suc (suc (suc (suc (suc (suc c)))))) l n = absurd (omega arith)
bypass_by_step x (suc (suc k)) c l n = absurd (omega arith)

pub by_step : EachSubstream CodesByStep
by_step Split depth channels k m n x c h l = at_step k (24 - depth) c (at (shown channels x) c) l (shown_cleared (24 - depth) channels x h c)
by_step Fold depth channels k m n x c h l =
    at_step k (24 - depth) c (at (coded_of Fold (24 - depth) channels x) c) l (fold_cleared (24 - depth) channels x m.shape h c)
by_step Bypass depth channels k m n x c h l = bypass_by_step x k c l (omega (arith, m.shape.0))
by_step Side depth channels k m n x c h l =
    at_step k (24 - depth) c (at (coded_side x) c) l (side_cleared (24 - depth) x (λ i j. h i (omega (arith, m.shape))) c)

-- ---- the channels

pub channels_next : (k : ℕ) → first_channel (k + 1) ≡ last_channel k + 1
channels_next k = ap first_channel (let e : k + 1 ≡ suc k = omega arith in e) ∙ there k
  where
    there : (k : ℕ) → channels_of k ≡ last_channel k + 1
    there zero = refl
    there (suc zero) = refl
    there (suc (suc k)) = refl

pub channels_top : (kind : Kind) (n : ℕ) → IsTrue (has_channels kind n) → channels_of (substreams_of n - 1) ≡ n
channels_top kind n h =
    let P : ℕ → Type 0 = λ m. channels_of (substreams_of m - 1) ≡ m in
    elim (eqb_tells n 2) [
      | inl e ↦ subst P (sym e.1) refl
      | inr e ↦ elim (eqb_tells n 6) [
        | inl f ↦ subst P (sym f.1) refl
        | inr f ↦ subst P (sym (eight_left kind n h e.1 f.1)) refl
      ]
    ]
  where
    eight_left : (kind : Kind) (n : ℕ) → IsTrue (has_channels kind n) → n ≢ 2 → n ≢ 6 → n ≡ 8
    eight_left Fbb n h a b = grind (arith, nat_tests)
    eight_left Fba n h a b = grind (arith, nat_tests)
