-- What a presentation shows has 24 bits.
use Rattle.std.proofs.Common.{◌≡◌, ◌≢◌, ℕ, zero, suc, ◌-◌, ◌<◌, ◌≤◌, List, ℤ, pos, negsuc, neg_ℤ, ◌+ℤ◌, ◌*ℤ◌, ◌≤ℤ◌, ◌<ℤ◌, Bool, true, false, cond, arith, refl, sym, subst, inl, inr}
use Rattle.std.proofs.lemmas.Int.{ints}
use Rattle.std.proofs.lemmas.Bool.{ltb-true}
use Rattle.std.proofs.lemmas.Bool.Decides.{eqb_tells}
use Rattle.std.proofs.Math.Pow.{pow-lt}
use Rattle.std.specs.Prelude.{nat_lt}
use Rattle.mlp_arith.specs.Words.{floor_by, clear}
use Rattle.mlp_arith.proofs.Floors.{floor_le, lt_floor}
use Rattle.mlp_arith.proofs.Residues.{clear_le, lt_clear}
use Rattle.mlp_fold.specs.declared.profile.Mix.{Mix}
use Rattle.mlp_fold.specs.declared.profile.Mix.TheVariants.{Split, Fold, Bypass, Side}
use Rattle.mlp_fold.specs.Profile.{AreMixed}
use Rattle.mlp_fold.proofs.Samples.{eight}
use Rattle.mlp_arith.specs.Ranges.{Is24}
use Rattle.mlp_fold.specs.Mix.{at, IsSample, channels_of, place, shown, lowered, stereo, halved, front6, front8, presented_of, presented_fold6, presented_fold8}

zero24 : Is24 (pos 0)
zero24 = record { low = omega (arith, ints); high = omega (arith, ints) }

sample24 : (q : ℕ) (x : ℤ) → IsSample q x → Is24 x
sample24 q x h = record { low = h.low; high = h.high }

either24 : (b : Bool) (v : ℤ) → (b ≡ true → Is24 v) → Is24 (cond b v (pos 0))
either24 true v f = f refl
either24 false v f = zero24

place24 : (q n channels c : ℕ) (x : List ℤ) → n ≤ channels → ((c : ℕ) → c < channels → IsSample q (at x c)) → Is24 (place n x c)
place24 q n channels c x l h = either24 (nat_lt c n) (at x c) (λ e. let k : c < n = ltb-true c n e in sample24 q (at x c) (h c (omega arith)))

shown24 : (q n channels : ℕ) (x : List ℤ) → n ≤ channels → ((c : ℕ) → c < channels → IsSample q (at x c)) → (c : ℕ) → Is24 (at (shown n x) c)
shown24 q n channels x l h = eight Is24 zero24 (place n x 0) (place n x 1) (place n x 2) (place n x 3) (place n x 4) (place n x 5) (place n x 6) (place n x 7) (place24 q n channels 0 x l h)
    (place24 q n channels 1 x l h) (place24 q n channels 2 x l h) (place24 q n channels 3 x l h) (place24 q n channels 4 x l h) (place24 q n channels 5 x l h) (place24 q n channels 6 x l h)
    (place24 q n channels 7 x l h)

-- clearing low bits doesn't leave 24 bits
clear_ge : (q : ℕ) (v : ℤ) → q ≤ 8 → neg_ℤ (pos 8388608) ≤ℤ v → neg_ℤ (pos 8388608) ≤ℤ clear q v
clear_ge zero v l h = let k = lt_floor v 1 (omega arith) in omega (arith, ints, k, h)
clear_ge (suc zero) v l h = let k = lt_floor v 2 (omega arith) in omega (arith, ints, k, h)
clear_ge (suc (suc zero)) v l h = let k = lt_floor v 4 (omega arith) in omega (arith, ints, k, h)
clear_ge (suc (suc (suc zero))) v l h = let k = lt_floor v 8 (omega arith) in omega (arith, ints, k, h)
clear_ge (suc (suc (suc (suc zero)))) v l h = let k = lt_floor v 16 (omega arith) in omega (arith, ints, k, h)
clear_ge (suc (suc (suc (suc (suc zero))))) v l h = let k = lt_floor v 32 (omega arith) in omega (arith, ints, k, h)
clear_ge (suc (suc (suc (suc (suc (suc zero)))))) v l h = let k = lt_floor v 64 (omega arith) in omega (arith, ints, k, h)
clear_ge (suc (suc (suc (suc (suc (suc (suc zero))))))) v l h = let k = lt_floor v 128 (omega arith) in omega (arith, ints, k, h)
clear_ge (suc (suc (suc (suc (suc (suc (suc (suc zero)))))))) v l h = let k = lt_floor v 256 (omega arith) in omega (arith, ints, k, h)
clear_ge (suc (suc (suc (suc (suc (suc (suc (suc (suc q))))))))) v l h = absurd (omega arith)

cleared24 : (q : ℕ) (v : ℤ) → q ≤ 8 → neg_ℤ (pos 8388608) ≤ℤ v → v <ℤ pos 8388608 → Is24 (clear q v)
cleared24 q v l a b = record { low = clear_ge q v l a; high = omega (arith, ints, clear_le q v, b) }

stereo24 : (q : ℕ) (x s : ℤ) → q ≤ 8 → IsSample q x → neg_ℤ (pos 194372448256) ≤ℤ s → s ≤ℤ pos 194372448256 → Is24 (stereo q (lowered q x s))
stereo24 q x s l f a b =
    let z : ℤ = lowered q x s in
    let low : neg_ℤ (pos 20253000) ≤ℤ lowered q x s = omega (
      arith,
      ints,
      clear_le q (floor_by 14 s),
      lt_clear q (floor_by 14 s),
      floor_le s 16384 (omega arith),
      lt_floor s 16384 (omega arith),
      pow-lt {i = q} {j = 9} (omega arith),
      f.low,
      f.high,
      a,
      b,
    ) in
    let high : lowered q x s ≤ℤ pos 20253000 = omega (
      arith,
      ints,
      clear_le q (floor_by 14 s),
      lt_clear q (floor_by 14 s),
      floor_le s 16384 (omega arith),
      lt_floor s 16384 (omega arith),
      pow-lt {i = q} {j = 9} (omega arith),
      f.low,
      f.high,
      a,
      b,
    ) in
    part q z l low high
  where
    part : (q : ℕ) (z : ℤ) → q ≤ 8 → neg_ℤ (pos 20253000) ≤ℤ z → z ≤ℤ pos 20253000 → Is24 (clear q (floor_by 14 (pos 6786 *ℤ z)))
    part q z l a b =
        let p : ℤ = pos 6786 *ℤ z in
        cleared24 q (floor_by 14 p) l (omega (arith, ints, floor_le p 16384 (omega arith), lt_floor p 16384 (omega arith), a, b)) (omega (arith, ints, floor_le p 16384 (omega arith), lt_floor p 16384 (omega arith), a, b))

halved24 : (q : ℕ) (y z : ℤ) → q ≤ 8 → IsSample q y → IsSample q z → Is24 (halved q (y +ℤ z))
halved24 q y z l f g =
    cleared24 q (floor_by 1 (y +ℤ z)) l
    (omega (arith, ints, floor_le (y +ℤ z) 2 (omega arith), lt_floor (y +ℤ z) 2 (omega arith), f.low, f.high, g.low, g.high))
    (omega (arith, ints, floor_le (y +ℤ z) 2 (omega arith), lt_floor (y +ℤ z) 2 (omega arith), f.low, f.high, g.low, g.high))

fold6_24 : (q k : ℕ) (x : List ℤ) → q ≤ 8 → ((c : ℕ) → c < 6 → IsSample q (at x c)) → (c : ℕ) → Is24 (at (presented_fold6 q k x) c)
fold6_24 q zero x l h =
    let h2 : IsSample q (at x 2) = h 2 (omega arith) in
    let h4 : IsSample q (at x 4) = h 4 (omega arith) in
    let h5 : IsSample q (at x 5) = h 5 (omega arith) in
    eight Is24 zero24 (stereo q (front6 q (at x 0) (at x 2) (at x 4))) (stereo q (front6 q (at x 1) (at x 2) (at x 5))) (pos 0) (pos 0) (pos 0) (pos 0) (pos 0) (pos 0)
    (stereo24 q (at x 0) (negsuc 11584 *ℤ at x 2 +ℤ negsuc 11584 *ℤ at x 4) l (h 0 (omega arith)) (omega (arith, ints, h2.low, h2.high, h4.low, h4.high)) (omega (arith, ints, h2.low, h2.high, h4.low, h4.high)))
    (stereo24 q (at x 1) (negsuc 11584 *ℤ at x 2 +ℤ negsuc 11584 *ℤ at x 5) l (h 1 (omega arith)) (omega (arith, ints, h2.low, h2.high, h5.low, h5.high)) (omega (arith, ints, h2.low, h2.high, h5.low, h5.high)))
    zero24 zero24 zero24 zero24 zero24 zero24
fold6_24 q (suc k) x l h = shown24 q 6 6 x (omega arith) h

fold8_24 : (q k : ℕ) (x : List ℤ) → q ≤ 8 → ((c : ℕ) → c < 8 → IsSample q (at x c)) → (c : ℕ) → Is24 (at (presented_fold8 q k x) c)
fold8_24 q zero x l h =
    let h2 : IsSample q (at x 2) = h 2 (omega arith) in
    let h4 : IsSample q (at x 4) = h 4 (omega arith) in
    let h5 : IsSample q (at x 5) = h 5 (omega arith) in
    let h6 : IsSample q (at x 6) = h 6 (omega arith) in
    let h7 : IsSample q (at x 7) = h 7 (omega arith) in
    eight Is24 zero24 (stereo q (front8 q (at x 0) (at x 2) (at x 4 +ℤ at x 6))) (stereo q (front8 q (at x 1) (at x 2) (at x 5 +ℤ at x 7))) (pos 0) (pos 0) (pos 0) (pos 0) (pos 0) (pos 0)
    (stereo24 q (at x 0) (negsuc 11584 *ℤ at x 2 +ℤ negsuc 5792 *ℤ (at x 4 +ℤ at x 6)) l (h 0 (omega arith)) (omega (arith, ints, h2.low, h2.high, h4.low, h4.high, h6.low, h6.high))
    (omega (arith, ints, h2.low, h2.high, h4.low, h4.high, h6.low, h6.high)))
    (stereo24 q (at x 1) (negsuc 11584 *ℤ at x 2 +ℤ negsuc 5792 *ℤ (at x 5 +ℤ at x 7)) l (h 1 (omega arith)) (omega (arith, ints, h2.low, h2.high, h5.low, h5.high, h7.low, h7.high))
    (omega (arith, ints, h2.low, h2.high, h5.low, h5.high, h7.low, h7.high)))
    zero24 zero24 zero24 zero24 zero24 zero24
fold8_24 q (suc zero) x l h =
    eight Is24 zero24 (at x 0) (at x 1) (at x 2) (at x 3) (halved q (at x 4 +ℤ at x 6)) (halved q (at x 5 +ℤ at x 7)) (pos 0) (pos 0)
    (sample24 q (at x 0) (h 0 (omega arith))) (sample24 q (at x 1) (h 1 (omega arith))) (sample24 q (at x 2) (h 2 (omega arith))) (sample24 q (at x 3) (h 3 (omega arith)))
    (halved24 q (at x 4) (at x 6) l (h 4 (omega arith)) (h 6 (omega arith))) (halved24 q (at x 5) (at x 7) l (h 5 (omega arith)) (h 7 (omega arith))) zero24 zero24
fold8_24 q (suc (suc k)) x l h = shown24 q 8 8 x (omega arith) h

fold24 : (q channels k : ℕ) (x : List ℤ) → q ≤ 8 → (6 ≤ channels) × (channels ≢ 6 → channels ≡ 8) → ((c : ℕ) → c < channels → IsSample q (at x c)) → (c : ℕ) → Is24 (at (presented_of Fold q channels k x) c)
fold24 q channels k x l shape h c =
    let P : ℕ → Type 0 = λ n. Is24 (at (presented_of Fold q n k x) c) in
    elim (eqb_tells channels 6) [
      | inl e ↦ subst P (sym e.1) (fold6_24 q k x l (λ i m. h i (omega (arith, e.1))) c)
      | inr e ↦ let f : channels ≡ 8 = shape.1 e.1 in subst P (sym f) (fold8_24 q k x l (λ i m. h i (omega (arith, f))) c)
    ]

pub wide : (mix : Mix) (depth channels k : ℕ) (x : List ℤ) → AreMixed mix depth channels → channels_of k ≤ channels → ((c : ℕ) → c < channels → IsSample (24 - depth) (at x c)) → (c : ℕ) →
    Is24 (at (presented_of mix (24 - depth) channels k x) c)
wide Split depth channels k x m n h = shown24 (24 - depth) (channels_of k) channels x n h
wide Fold depth channels k x m n h = fold24 (24 - depth) channels k x (omega (arith, m.depth_least)) m.shape h
wide Bypass depth channels k x m n h = shown24 (24 - depth) (channels_of k) channels x n h
wide Side depth channels k x m n h = shown24 (24 - depth) (channels_of k) channels x n h
