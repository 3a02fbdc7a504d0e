-- What is coded has 26 bits.
use Rattle.std.proofs.Common.{◌≡◌, ◌≢◌, ℕ, ◌-◌, ◌≤◌, List, ℤ, pos, negsuc, neg_ℤ, ◌+ℤ◌, ◌-ℤ◌, ◌*ℤ◌, ◌≤ℤ◌, Bool, true, false, cond, arith, refl, sym, subst, inl, inr}
use Rattle.std.proofs.lemmas.Int.{ints}
use Rattle.std.proofs.lemmas.Bool.{ltb-true}
use Rattle.std.proofs.lemmas.Bool.Decides.{eqb_tells}
use Rattle.std.specs.Prelude.{nat_lt, slice_index_or, map, All}
use Rattle.std.proofs.lemmas.List.Elements.{All-map}
use Rattle.mlp_arith.specs.Words.{clear}
use Rattle.mlp_arith.proofs.Residues.{clear_le, lt_clear}
use Rattle.mlp_fold.specs.declared.profile.Mix.{Mix}
use Rattle.mlp_fold.specs.declared.profile.Mix.TheVariants.{Split, Fold, Bypass, Side}
use Rattle.mlp_fold.specs.Profile.{AreMixed}
use Rattle.mlp_arith.specs.Ranges.{Is26}
use Rattle.mlp_fold.specs.Mix.{at, IsSample, AreSamples, IsCoded, coded_frame, place, shown, lowered, front6, front8, coded_fold6, coded_fold8, coded_bypass, coded_side, coded_of}
use Rattle.mlp_fold.proofs.Samples.{eight}
use Rattle.mlp_fold.proofs.Mixes.{lowered_bounds}

zero26 : Is26 (pos 0)
zero26 = record { low = omega (arith, ints); high = omega (arith, ints) }

sample26 : (q : ℕ) (x : ℤ) → IsSample q x → Is26 x
sample26 q x h = record { low = omega (arith, ints, h.low); high = omega (arith, ints, h.high) }

-- sums and differences of two samples
sum26 : (q : ℕ) (x y : ℤ) → IsSample q x → IsSample q y → Is26 (x +ℤ y)
sum26 q x y h k = record { low = omega (arith, ints, h.low, k.low); high = omega (arith, ints, h.high, k.high) }

difference26 : (q : ℕ) (x y : ℤ) → IsSample q x → IsSample q y → Is26 (x -ℤ y)
difference26 q x y h k = record { low = omega (arith, ints, h.low, k.high); high = omega (arith, ints, h.high, k.low) }

cleared26 : (q : ℕ) (x : ℤ) → IsSample q x → Is26 (clear 1 x)
cleared26 q x h = record { low = omega (arith, ints, lt_clear 1 x, h.low); high = omega (arith, ints, clear_le 1 x, h.high) }

lowered26 : (q : ℕ) (v s : ℤ) → q ≤ 8 → IsSample q v → neg_ℤ (pos 274877906944) ≤ℤ s → s ≤ℤ pos 274877906944 → Is26 (lowered q v s)
lowered26 q v s l f a b = let h = lowered_bounds q v s l f a b in record { low = h.0; high = h.1 }

pub front6-26 : (q : ℕ) (x y z : ℤ) → q ≤ 8 → IsSample q x → IsSample q y → IsSample q z → Is26 (front6 q x y z)
front6-26 q x y z l f g h =
    lowered26 q x (negsuc 11584 *ℤ y +ℤ negsuc 11584 *ℤ z) l f (omega (arith, ints, g.low, g.high, h.low, h.high)) (omega (arith, ints, g.low, g.high, h.low, h.high))

pub front8-26 : (q : ℕ) (x y z w : ℤ) → q ≤ 8 → IsSample q x → IsSample q y → IsSample q z → IsSample q w → Is26 (front8 q x y (z +ℤ w))
front8-26 q x y z w l f g h k =
    lowered26 q x (negsuc 11584 *ℤ y +ℤ negsuc 5792 *ℤ (z +ℤ w)) l f (omega (arith, ints, g.low, g.high, h.low, h.high, k.low, k.high)) (omega (arith, ints, g.low, g.high, h.low, h.high, k.low, k.high))

either26 : (b : Bool) (v : ℤ) → (b ≡ true → Is26 v) → Is26 (cond b v (pos 0))
either26 true v f = f refl
either26 false v f = zero26

place26 : (q channels c : ℕ) (x : List ℤ) → AreSamples q channels x → Is26 (place channels x c)
place26 q channels c x h = either26 (nat_lt c channels) (at x c) (λ e. sample26 q (at x c) (h c (ltb-true c channels e)))

shown26 : (q channels : ℕ) (x : List ℤ) → AreSamples q channels x → (c : ℕ) → Is26 (at (shown channels x) c)
shown26 q channels x h = eight Is26 zero26 (place channels x 0) (place channels x 1) (place channels x 2) (place channels x 3) (place channels x 4) (place channels x 5) (place channels x 6)
    (place channels x 7) (place26 q channels 0 x h) (place26 q channels 1 x h) (place26 q channels 2 x h) (place26 q channels 3 x h) (place26 q channels 4 x h) (place26 q channels 5 x h)
    (place26 q channels 6 x h) (place26 q channels 7 x h)

pub fold6-26 : (q : ℕ) (x : List ℤ) → q ≤ 8 → AreSamples q 6 x → (c : ℕ) → Is26 (at (coded_fold6 q x) c)
fold6-26 q x l h =
    let h0 = h 0 (omega arith) in
    let h1 = h 1 (omega arith) in
    let h2 = h 2 (omega arith) in
    let h3 = h 3 (omega arith) in
    let h4 = h 4 (omega arith) in
    let h5 = h 5 (omega arith) in
    eight Is26 zero26 (front6 q (at x 0) (at x 2) (at x 4)) (front6 q (at x 1) (at x 2) (at x 5)) (at x 2) (at x 3) (at x 4) (at x 5) (pos 0) (pos 0)
    (front6-26 q (at x 0) (at x 2) (at x 4) l h0 h2 h4) (front6-26 q (at x 1) (at x 2) (at x 5) l h1 h2 h5)
    (sample26 q (at x 2) h2) (sample26 q (at x 3) h3) (sample26 q (at x 4) h4) (sample26 q (at x 5) h5) zero26 zero26

pub fold8-26 : (q : ℕ) (x : List ℤ) → q ≤ 8 → AreSamples q 8 x → (c : ℕ) → Is26 (at (coded_fold8 q x) c)
fold8-26 q x l h =
    let h0 = h 0 (omega arith) in
    let h1 = h 1 (omega arith) in
    let h2 = h 2 (omega arith) in
    let h3 = h 3 (omega arith) in
    let h4 = h 4 (omega arith) in
    let h5 = h 5 (omega arith) in
    let h6 = h 6 (omega arith) in
    let h7 = h 7 (omega arith) in
    eight Is26 zero26 (front8 q (at x 0) (at x 2) (at x 4 +ℤ at x 6)) (front8 q (at x 1) (at x 2) (at x 5 +ℤ at x 7)) (at x 2) (at x 3) (at x 4 +ℤ at x 6) (at x 5 +ℤ at x 7) (at x 6) (at x 7)
    (front8-26 q (at x 0) (at x 2) (at x 4) (at x 6) l h0 h2 h4 h6) (front8-26 q (at x 1) (at x 2) (at x 5) (at x 7) l h1 h2 h5 h7)
    (sample26 q (at x 2) h2) (sample26 q (at x 3) h3) (sum26 q (at x 4) (at x 6) h4 h6) (sum26 q (at x 5) (at x 7) h5 h7) (sample26 q (at x 6) h6) (sample26 q (at x 7) h7)

fold26 : (q channels : ℕ) (x : List ℤ) → q ≤ 8 → (6 ≤ channels) × (channels ≢ 6 → channels ≡ 8) → AreSamples q channels x → (c : ℕ) → Is26 (at (coded_of Fold q channels x) c)
fold26 q channels x l shape h c =
    let P : ℕ → Type 0 = λ n. Is26 (at (coded_of Fold q n x) c) in
    elim (eqb_tells channels 6) [
      | inl e ↦ subst P (sym e.1) (fold6-26 q x l (λ i m. h i (omega (arith, e.1))) c)
      | inr e ↦ let f : channels ≡ 8 = shape.1 e.1 in subst P (sym f) (fold8-26 q x l (λ i m. h i (omega (arith, f))) c)
    ]

bypass26 : (q : ℕ) (x : List ℤ) → AreSamples q 6 x → (c : ℕ) → Is26 (at (coded_bypass x) c)
bypass26 q x h =
    eight Is26 zero26 (at x 0) (at x 1) (clear 1 (at x 2)) (clear 1 (at x 3)) (clear 1 (at x 4)) (clear 1 (at x 5)) (pos 0) (pos 0)
    (sample26 q (at x 0) (h 0 (omega arith))) (sample26 q (at x 1) (h 1 (omega arith))) (cleared26 q (at x 2) (h 2 (omega arith))) (cleared26 q (at x 3) (h 3 (omega arith)))
    (cleared26 q (at x 4) (h 4 (omega arith))) (cleared26 q (at x 5) (h 5 (omega arith))) zero26 zero26

side26 : (q : ℕ) (x : List ℤ) → AreSamples q 2 x → (c : ℕ) → Is26 (at (coded_side x) c)
side26 q x h =
    eight Is26 zero26 (at x 0) (at x 1 -ℤ at x 0) (pos 0) (pos 0) (pos 0) (pos 0) (pos 0) (pos 0)
    (sample26 q (at x 0) (h 0 (omega arith))) (difference26 q (at x 1) (at x 0) (h 1 (omega arith)) (h 0 (omega arith))) zero26 zero26 zero26 zero26 zero26 zero26

pub coded26 : (mix : Mix) (depth channels : ℕ) (x : List ℤ) → AreMixed mix depth channels → AreSamples (24 - depth) channels x → (c : ℕ) → Is26 (at (coded_of mix (24 - depth) channels x) c)
coded26 Split depth channels x m h = shown26 (24 - depth) channels x h
coded26 Fold depth channels x m h = fold26 (24 - depth) channels x (omega (arith, m.depth_least)) m.shape h
coded26 Bypass depth channels x m h = bypass26 (24 - depth) x (λ c i. h c (omega (arith, m.shape.0)))
coded26 Side depth channels x m h = side26 (24 - depth) x (λ c i. h c (omega (arith, m.shape)))

pub all_coded : (mix : Mix) (depth channels : ℕ) (frames : List (List ℤ)) → AreMixed mix depth channels → All (AreSamples (24 - depth) channels) frames → All IsCoded (map (coded_frame mix (24 - depth) channels) frames)
all_coded mix depth channels frames m h = All-map IsCoded (coded_frame mix (24 - depth) channels) frames (λ k d i. coded26 mix depth channels (slice_index_or frames k d) m (h k d i))
