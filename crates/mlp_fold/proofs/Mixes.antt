-- Rows make presentations of coded channels.
use Rattle.std.proofs.Common.{
  ◌≡◌,
  ◌≢◌,
  ℕ,
  zero,
  suc,
  ◌+◌,
  ◌-◌,
  ◌*◌,
  ◌<◌,
  ◌≤◌,
  List,
  [],
  ◌∷◌,
  ◌++◌,
  take,
  ℤ,
  pos,
  negsuc,
  neg_ℤ,
  ◌+ℤ◌,
  ◌-ℤ◌,
  ◌*ℤ◌,
  ◌≤ℤ◌,
  ◌<ℤ◌,
  Bool,
  true,
  false,
  cond,
  FitsSigned,
  w32,
  arith,
  refl,
  sym,
  ◌∙◌,
  ap,
  subst,
  inl,
  inr,
}
use Rattle.std.proofs.lemmas.Int.{ints, int_wrap_fits}
use Rattle.mlp_arith.specs.Words.{floor_by, clear, wrap}
use Rattle.mlp_arith.proofs.Floors.{floor_le, lt_floor, floor_only}
use Rattle.mlp_arith.proofs.Residues.{floor_by-add, clear_le, lt_clear, clear_add, clear_rest, clear-clear}
use Rattle.std.proofs.lemmas.Bool.{lt-ltb, eqb-true, eq-eqb}
use Rattle.std.proofs.lemmas.Bool.Decides.{eqb_tells}
use Rattle.std.proofs.Math.Pow.{pow-lt}
use Rattle.std.specs.Prelude.{Some, None, not, ◌==◌, ◌/◌, ◌%◌}
use Rattle.mlp_predict.specs.Prediction.{dot}
use Rattle.mlp_matrix.specs.Matrix.{weights, has_bit, applied, is_even, bit_of}
use Rattle.mlp_fold.specs.declared.profile.Mix.{Mix}
use Rattle.mlp_fold.specs.declared.profile.Mix.TheVariants.{Split, Fold, Bypass, Side}
use Rattle.mlp_fold.specs.Profile.{AreMixed}
use Rattle.mlp_fold.specs.Mix.{at, IsSample, channels_of, place, shown, lowered, front6, front8, stereo, halved, coded_of, coded_fold6, coded_fold8, coded_bypass, bypass_of, presented_of}
use Rattle.mlp_fold.specs.Rows.{row, left, right, on, side_row, rows_of, fold_rows, bypass_rows, steps_of, steps_by, bypass_steps}
use Rattle.mlp_fold.proofs.Samples.{sample_fits, stereo_fits, halved_fits}

-- ---- one row

-- what was lowered by a part of the others comes back with that part
pub raised : (q : ℕ) (x s : ℤ) → IsSample q x → wrap (clear q (floor_by 14 (pos 16384 *ℤ lowered q x s +ℤ s)) +ℤ pos 0) ≡ x
raised q x s h =
    let f : ℤ = floor_by 14 s in
    let u : ℤ = lowered q x s in
    let sum : floor_by 14 (pos 16384 *ℤ u +ℤ s) ≡ f +ℤ u = ap (floor_by 14) (let e : pos 16384 *ℤ u +ℤ s ≡ s +ℤ u *ℤ pos 16384 = omega (arith, ints) in e) ∙ floor_by-add 14 s u in
    let split : f +ℤ u ≡ (f -ℤ clear q f) +ℤ clear q x = omega (arith, ints, h.cleared) in
    let back : clear q (f +ℤ u) ≡ x = ap (clear q) split ∙ clear_add q (f -ℤ clear q f) (floor_by q x) ∙ omega (arith, ints, clear_rest q f, h.cleared) in
    ap (λ z. wrap (clear q z +ℤ pos 0)) sum ∙ ap (λ z. wrap (z +ℤ pos 0)) back ∙ ap wrap (let e : x +ℤ pos 0 ≡ x = omega (arith, ints) in e) ∙ int_wrap_fits w32 x (sample_fits q x h)

-- a sum that is a whole number of 2^14
pub exact : (q : ℕ) (x s : ℤ) → IsSample q x → s ≡ x *ℤ pos 16384 → wrap (clear q (floor_by 14 s) +ℤ pos 0) ≡ x
exact q x s h e =
    let f : floor_by 14 s ≡ x = floor_only s x 16384 (omega arith) (omega (arith, ints, e)) (omega (arith, ints, e)) in
    ap (λ z. wrap (clear q z +ℤ pos 0)) f ∙ ap (λ z. wrap (z +ℤ pos 0)) h.cleared ∙ ap wrap (let k : x +ℤ pos 0 ≡ x = omega (arith, ints) in k) ∙ int_wrap_fits w32 x (sample_fits q x h)

-- a value that fits is kept
pub kept : (v w : ℤ) → FitsSigned w32 v → w ≡ v → wrap (w +ℤ pos 0) ≡ v
kept v w f e = ap (λ z. wrap (z +ℤ pos 0)) e ∙ ap wrap (let k : v +ℤ pos 0 ≡ v = omega (arith, ints) in k) ∙ int_wrap_fits w32 v f

-- ---- places

place_in : (n : ℕ) (x : List ℤ) (c : ℕ) → c < n → place n x c ≡ at x c
place_in n x c h = ap (λ b. cond b (at x c) (pos 0)) (lt-ltb c n h)

-- ---- sums of rows

dot_left6 : (z0 z1 c2 c3 c4 c5 a b : ℤ) (more : List ℤ)
    → dot (weights (row 0 14 false (left (negsuc 11584)))) (z0 ∷ z1 ∷ c2 ∷ c3 ∷ c4 ∷ c5 ∷ a ∷ b ∷ more) ≡ pos 16384 *ℤ z0 +ℤ (negsuc 11584 *ℤ c2 +ℤ negsuc 11584 *ℤ c4)
dot_left6 z0 z1 c2 c3 c4 c5 a b more = omega (arith, ints)

dot_right6 : (z0 z1 c2 c3 c4 c5 a b : ℤ) (more : List ℤ)
    → dot (weights (row 1 14 false (right (negsuc 11584)))) (z0 ∷ z1 ∷ c2 ∷ c3 ∷ c4 ∷ c5 ∷ a ∷ b ∷ more) ≡ pos 16384 *ℤ z1 +ℤ (negsuc 11584 *ℤ c2 +ℤ negsuc 11584 *ℤ c5)
dot_right6 z0 z1 c2 c3 c4 c5 a b more = omega (arith, ints)

dot_left8 : (z0 z1 c2 c3 c4 c5 a b : ℤ) (more : List ℤ)
    → dot (weights (row 0 14 false (left (negsuc 5792)))) (z0 ∷ z1 ∷ c2 ∷ c3 ∷ c4 ∷ c5 ∷ a ∷ b ∷ more) ≡ pos 16384 *ℤ z0 +ℤ (negsuc 11584 *ℤ c2 +ℤ negsuc 5792 *ℤ c4)
dot_left8 z0 z1 c2 c3 c4 c5 a b more = omega (arith, ints)

dot_right8 : (z0 z1 c2 c3 c4 c5 a b : ℤ) (more : List ℤ)
    → dot (weights (row 1 14 false (right (negsuc 5792)))) (z0 ∷ z1 ∷ c2 ∷ c3 ∷ c4 ∷ c5 ∷ a ∷ b ∷ more) ≡ pos 16384 *ℤ z1 +ℤ (negsuc 11584 *ℤ c2 +ℤ negsuc 5792 *ℤ c5)
dot_right8 z0 z1 c2 c3 c4 c5 a b more = omega (arith, ints)

dot_half4 : (z0 z1 c2 c3 c4 c5 a b : ℤ) (more : List ℤ) → dot (weights (row 4 14 false (on ((4, pos 8192) ∷ [])))) (z0 ∷ z1 ∷ c2 ∷ c3 ∷ c4 ∷ c5 ∷ a ∷ b ∷ more) ≡ pos 8192 *ℤ c4
dot_half4 z0 z1 c2 c3 c4 c5 a b more = omega (arith, ints)

dot_half5 : (z0 z1 c2 c3 c4 c5 a b : ℤ) (more : List ℤ) → dot (weights (row 5 14 false (on ((5, pos 8192) ∷ [])))) (z0 ∷ z1 ∷ c2 ∷ c3 ∷ c4 ∷ c5 ∷ a ∷ b ∷ more) ≡ pos 8192 *ℤ c5
dot_half5 z0 z1 c2 c3 c4 c5 a b more = omega (arith, ints)

dot_back4 : (z0 z1 c2 c3 c4 c5 a b : ℤ) (more : List ℤ) → dot (weights (row 4 14 false (on ((4, pos 16384) ∷ (6, negsuc 16383) ∷ [])))) (z0 ∷ z1 ∷ c2 ∷ c3 ∷ c4 ∷ c5 ∷ a ∷ b ∷ more) ≡ (c4 -ℤ a) *ℤ pos 16384
dot_back4 z0 z1 c2 c3 c4 c5 a b more = omega (arith, ints)

dot_back5 : (z0 z1 c2 c3 c4 c5 a b : ℤ) (more : List ℤ) → dot (weights (row 5 14 false (on ((5, pos 16384) ∷ (7, negsuc 16383) ∷ [])))) (z0 ∷ z1 ∷ c2 ∷ c3 ∷ c4 ∷ c5 ∷ a ∷ b ∷ more) ≡ (c5 -ℤ b) *ℤ pos 16384
dot_back5 z0 z1 c2 c3 c4 c5 a b more = omega (arith, ints)

pub dot_one2 : (z0 z1 c2 c3 c4 c5 a b : ℤ) (more : List ℤ) → dot (weights (row 2 0 true (on ((2, pos 1) ∷ [])))) (z0 ∷ z1 ∷ c2 ∷ c3 ∷ c4 ∷ c5 ∷ a ∷ b ∷ more) ≡ c2 *ℤ pos 16384
dot_one2 z0 z1 c2 c3 c4 c5 a b more = omega (arith, ints)

pub dot_one3 : (z0 z1 c2 c3 c4 c5 a b : ℤ) (more : List ℤ) → dot (weights (row 3 0 true (on ((3, pos 1) ∷ [])))) (z0 ∷ z1 ∷ c2 ∷ c3 ∷ c4 ∷ c5 ∷ a ∷ b ∷ more) ≡ c3 *ℤ pos 16384
dot_one3 z0 z1 c2 c3 c4 c5 a b more = omega (arith, ints)

pub dot_one4 : (z0 z1 c2 c3 c4 c5 a b : ℤ) (more : List ℤ) → dot (weights (row 4 0 true (on ((4, pos 1) ∷ [])))) (z0 ∷ z1 ∷ c2 ∷ c3 ∷ c4 ∷ c5 ∷ a ∷ b ∷ more) ≡ c4 *ℤ pos 16384
dot_one4 z0 z1 c2 c3 c4 c5 a b more = omega (arith, ints)

pub dot_one5 : (z0 z1 c2 c3 c4 c5 a b : ℤ) (more : List ℤ) → dot (weights (row 5 0 true (on ((5, pos 1) ∷ [])))) (z0 ∷ z1 ∷ c2 ∷ c3 ∷ c4 ∷ c5 ∷ a ∷ b ∷ more) ≡ c5 *ℤ pos 16384
dot_one5 z0 z1 c2 c3 c4 c5 a b more = omega (arith, ints)

dot_stereo0 : (z0 z1 a b : ℤ) (more : List ℤ) → dot (weights (row 0 14 false (Some (pos 6786) ∷ None ∷ None ∷ None ∷ []))) (z0 ∷ z1 ∷ a ∷ b ∷ more) ≡ pos 6786 *ℤ z0
dot_stereo0 z0 z1 a b more = omega (arith, ints)

dot_stereo1 : (z0 z1 a b : ℤ) (more : List ℤ) → dot (weights (row 1 14 false (None ∷ Some (pos 6786) ∷ None ∷ None ∷ []))) (z0 ∷ z1 ∷ a ∷ b ∷ more) ≡ pos 6786 *ℤ z1
dot_stereo1 z0 z1 a b more = omega (arith, ints)

dot_side : (x0 x1 a b : ℤ) (more : List ℤ) → dot (weights side_row) (x0 ∷ (x1 -ℤ x0) ∷ a ∷ b ∷ more) ≡ x1 *ℤ pos 16384
dot_side x0 x1 a b more = omega (arith, ints)

-- ---- bounds of what is lowered

pub lowered_bounds : (q : ℕ) (v s : ℤ) → q ≤ 8 → IsSample q v → neg_ℤ (pos 274877906944) ≤ℤ s → s ≤ℤ pos 274877906944 → (neg_ℤ (pos 33554432) ≤ℤ lowered q v s) × (lowered q v s <ℤ pos 33554432)
lowered_bounds q v s l f a b = (
  omega (arith, ints, clear_le q (floor_by 14 s), lt_clear q (floor_by 14 s), floor_le s 16384 (omega arith), lt_floor s 16384 (omega arith), pow-lt {i = q} {j = 9} (omega arith), f.low, f.high, a, b),
  omega (arith, ints, clear_le q (floor_by 14 s), lt_clear q (floor_by 14 s), floor_le s 16384 (omega arith), lt_floor s 16384 (omega arith), pow-lt {i = q} {j = 9} (omega arith), f.low, f.high, a, b),
)

stereo_kept : (q : ℕ) (v s d : ℤ) → q ≤ 8 → IsSample q v → neg_ℤ (pos 274877906944) ≤ℤ s → s ≤ℤ pos 274877906944
    → d ≡ pos 6786 *ℤ lowered q v s → wrap (clear q (floor_by 14 d) +ℤ pos 0) ≡ stereo q (lowered q v s)
stereo_kept q v s d l f a b e =
    let h = lowered_bounds q v s l f a b in
    kept (stereo q (lowered q v s)) (clear q (floor_by 14 d)) (stereo_fits q (lowered q v s) l h.0 h.1) (ap (λ z. clear q (floor_by 14 z)) e)

halved_kept : (q : ℕ) (z d : ℤ) → q ≤ 8 → neg_ℤ (pos 33554432) ≤ℤ z → z <ℤ pos 33554432 → d ≡ pos 8192 *ℤ z → wrap (clear q (floor_by 14 d) +ℤ pos 0) ≡ halved q z
halved_kept q z d l a b e =
    let f : floor_by 14 d ≡ floor_by 1 z = floor_only d (floor_by 1 z) 16384 (omega arith) (omega (arith, ints, e, floor_le z 2 (omega arith), lt_floor z 2 (omega arith)))
    (omega (arith, ints, e, floor_le z 2 (omega arith), lt_floor z 2 (omega arith))) in
    kept (halved q z) (clear q (floor_by 14 d)) (halved_fits q z l a b) (ap (clear q) f)

-- ---- Fold

raised_by : (q : ℕ) (x s d : ℤ) → IsSample q x → d ≡ pos 16384 *ℤ lowered q x s +ℤ s → wrap (clear q (floor_by 14 d) +ℤ pos 0) ≡ x
raised_by q x s d h e = ap (λ z. wrap (clear q (floor_by 14 z) +ℤ pos 0)) e ∙ raised q x s h

pub fold6_top : (q : ℕ) (x : List ℤ) (a b : ℤ) (more : List ℤ) → ((c : ℕ) → c < 6 → IsSample q (at x c)) →
    applied (fold_rows 1 6) (steps_by 1 q) 0 (take 6 (coded_fold6 q x) ++ a ∷ b ∷ more) ≡ at x 0 ∷ at x 1 ∷ at x 2 ∷ at x 3 ∷ at x 4 ∷ at x 5 ∷ a ∷ b ∷ more
fold6_top q x a b more h =
    let z0 : ℤ = front6 q (at x 0) (at x 2) (at x 4) in
    let z1 : ℤ = front6 q (at x 1) (at x 2) (at x 5) in
    let s0 : ℤ = negsuc 11584 *ℤ at x 2 +ℤ negsuc 11584 *ℤ at x 4 in
    let s1 : ℤ = negsuc 11584 *ℤ at x 2 +ℤ negsuc 11584 *ℤ at x 5 in
    let e0 = raised_by q (at x 0) s0 (dot (weights (row 0 14 false (left (negsuc 11584)))) (z0 ∷ z1 ∷ at x 2 ∷ at x 3 ∷ at x 4 ∷ at x 5 ∷ a ∷ b ∷ more))
    (h 0 (omega arith)) (dot_left6 z0 z1 (at x 2) (at x 3) (at x 4) (at x 5) a b more) in
    let e1 = raised_by q (at x 1) s1 (dot (weights (row 1 14 false (right (negsuc 11584)))) (at x 0 ∷ z1 ∷ at x 2 ∷ at x 3 ∷ at x 4 ∷ at x 5 ∷ a ∷ b ∷ more)) (h 1 (omega arith))
    (dot_right6 (at x 0) z1 (at x 2) (at x 3) (at x 4) (at x 5) a b more) in
    ap (λ (v : ℤ). v ∷ wrap (clear q (floor_by 14 (dot (weights (row 1 14 false (right (negsuc 11584)))) (v ∷ z1 ∷ at x 2 ∷ at x 3 ∷ at x 4 ∷ at x 5 ∷ a ∷ b ∷ more))) +ℤ pos 0)
    ∷ at x 2 ∷ at x 3 ∷ at x 4 ∷ at x 5 ∷ a ∷ b ∷ more) e0
    ∙ ap (λ (v : ℤ). at x 0 ∷ v ∷ at x 2 ∷ at x 3 ∷ at x 4 ∷ at x 5 ∷ a ∷ b ∷ more) e1

stereo_top : (q : ℕ) (x0 x1 s0 s1 a b : ℤ) (more : List ℤ) (n : ℕ) → q ≤ 8 → IsSample q x0 → IsSample q x1
    → neg_ℤ (pos 274877906944) ≤ℤ s0 → s0 ≤ℤ pos 274877906944 → neg_ℤ (pos 274877906944) ≤ℤ s1 → s1 ≤ℤ pos 274877906944 →
    applied (fold_rows 0 n) (steps_by 0 q) 0 (lowered q x0 s0 ∷ lowered q x1 s1 ∷ a ∷ b ∷ more) ≡ stereo q (lowered q x0 s0) ∷ stereo q (lowered q x1 s1) ∷ a ∷ b ∷ more
stereo_top q x0 x1 s0 s1 a b more n l f g i j k m =
    let z0 : ℤ = lowered q x0 s0 in
    let z1 : ℤ = lowered q x1 s1 in
    let e0 = stereo_kept q x0 s0 (dot (weights (row 0 14 false (Some (pos 6786) ∷ None ∷ None ∷ None ∷ []))) (z0 ∷ z1 ∷ a ∷ b ∷ more)) l f i j (dot_stereo0 z0 z1 a b more) in
    let e1 = stereo_kept q x1 s1 (dot (weights (row 1 14 false (None ∷ Some (pos 6786) ∷ None ∷ None ∷ []))) (stereo q z0 ∷ z1 ∷ a ∷ b ∷ more)) l g k m (dot_stereo1 (stereo q z0) z1 a b more) in
    ap (λ (v : ℤ). v ∷ wrap (clear q (floor_by 14 (dot (weights (row 1 14 false (None ∷ Some (pos 6786) ∷ None ∷ None ∷ []))) (v ∷ z1 ∷ a ∷ b ∷ more))) +ℤ pos 0) ∷ a ∷ b ∷ more) e0
    ∙ ap (λ (v : ℤ). stereo q z0 ∷ v ∷ a ∷ b ∷ more) e1

fold8_middle : (q : ℕ) (x : List ℤ) (a b : ℤ) (more : List ℤ) → q ≤ 8 → ((c : ℕ) → c < 8 → IsSample q (at x c)) →
    applied (fold_rows 1 8) (steps_by 1 q) 0 (take 6 (coded_fold8 q x) ++ a ∷ b ∷ more) ≡ at x 0 ∷ at x 1 ∷ at x 2 ∷ at x 3 ∷ halved q (at x 4 +ℤ at x 6) ∷ halved q (at x 5 +ℤ at x 7) ∷ a ∷ b ∷ more
fold8_middle q x a b more l h =
    let z4 : ℤ = at x 4 +ℤ at x 6 in
    let z5 : ℤ = at x 5 +ℤ at x 7 in
    let z0 : ℤ = front8 q (at x 0) (at x 2) z4 in
    let z1 : ℤ = front8 q (at x 1) (at x 2) z5 in
    let s0 : ℤ = negsuc 11584 *ℤ at x 2 +ℤ negsuc 5792 *ℤ z4 in
    let s1 : ℤ = negsuc 11584 *ℤ at x 2 +ℤ negsuc 5792 *ℤ z5 in
    let f0 : IsSample q (at x 4) = h 4 (omega arith) in
    let f1 : IsSample q (at x 6) = h 6 (omega arith) in
    let f2 : IsSample q (at x 5) = h 5 (omega arith) in
    let f3 : IsSample q (at x 7) = h 7 (omega arith) in
    let e0 = raised_by q (at x 0) s0 (dot (weights (row 0 14 false (left (negsuc 5792)))) (z0 ∷ z1 ∷ at x 2 ∷ at x 3 ∷ z4 ∷ z5 ∷ a ∷ b ∷ more)) (h 0 (omega arith)) (dot_left8 z0 z1 (at x 2) (at x 3) z4 z5 a b more) in
    let e1 = raised_by q (at x 1) s1 (dot (weights (row 1 14 false (right (negsuc 5792)))) (at x 0 ∷ z1 ∷ at x 2 ∷ at x 3 ∷ z4 ∷ z5 ∷ a ∷ b ∷ more))
    (h 1 (omega arith)) (dot_right8 (at x 0) z1 (at x 2) (at x 3) z4 z5 a b more) in
    let e4 = halved_kept q z4 (dot (weights (row 4 14 false (on ((4, pos 8192) ∷ [])))) (at x 0 ∷ at x 1 ∷ at x 2 ∷ at x 3 ∷ z4 ∷ z5 ∷ a ∷ b ∷ more)) l (omega (arith, ints, f0.low, f1.low))
    (omega (arith, ints, f0.high, f1.high)) (dot_half4 (at x 0) (at x 1) (at x 2) (at x 3) z4 z5 a b more) in
    let e5 = halved_kept q z5 (dot (weights (row 5 14 false (on ((5, pos 8192) ∷ [])))) (at x 0 ∷ at x 1 ∷ at x 2 ∷ at x 3 ∷ halved q z4 ∷ z5 ∷ a ∷ b ∷ more)) l (omega (arith, ints, f2.low, f3.low))
    (omega (arith, ints, f2.high, f3.high)) (dot_half5 (at x 0) (at x 1) (at x 2) (at x 3) (halved q z4) z5 a b more) in
    ap (λ (v : ℤ). v ∷ wrap (clear q (floor_by 14 (dot (weights (row 1 14 false (right (negsuc 5792)))) (v ∷ z1 ∷ at x 2 ∷ at x 3 ∷ z4 ∷ z5 ∷ a ∷ b ∷ more))) +ℤ pos 0) ∷ at x 2 ∷ at x 3 ∷ wrap
    (clear q (floor_by 14 (dot (weights (row 4 14 false (on ((4, pos 8192) ∷ []))))
    (v ∷ wrap (clear q (floor_by 14 (dot (weights (row 1 14 false (right (negsuc 5792)))) (v ∷ z1 ∷ at x 2 ∷ at x 3 ∷ z4 ∷ z5 ∷ a ∷ b ∷ more))) +ℤ pos 0) ∷ at x 2 ∷ at x 3 ∷ z4 ∷ z5 ∷ a ∷ b ∷
    more))) +ℤ pos 0) ∷ wrap (clear q (floor_by 14 (dot (weights (row 5 14 false (on ((5, pos 8192) ∷ []))))
    (v ∷ wrap (clear q (floor_by 14 (dot (weights (row 1 14 false (right (negsuc 5792)))) (v ∷ z1 ∷ at x 2 ∷ at x 3 ∷ z4 ∷ z5 ∷ a ∷ b ∷ more))) +ℤ pos 0) ∷ at x 2 ∷ at x 3 ∷ wrap
    (clear q (floor_by 14 (dot (weights (row 4 14 false (on ((4, pos 8192) ∷ []))))
    (v ∷ wrap (clear q (floor_by 14 (dot (weights (row 1 14 false (right (negsuc 5792)))) (v ∷ z1 ∷ at x 2 ∷ at x 3 ∷ z4 ∷ z5 ∷ a ∷ b ∷ more))) +ℤ pos 0) ∷ at x 2 ∷ at x 3 ∷ z4 ∷ z5 ∷ a ∷ b ∷
    more))) +ℤ pos 0) ∷ z5 ∷ a ∷ b ∷ more))) +ℤ pos 0) ∷ a ∷ b ∷ more) e0
    ∙ ap (λ (v : ℤ). at x 0 ∷ v ∷ at x 2 ∷ at x 3 ∷ wrap (clear q (floor_by 14 (dot (weights (row 4 14 false (on ((4, pos 8192) ∷ [])))) (at x 0 ∷ v ∷ at x 2 ∷ at x 3 ∷ z4 ∷ z5 ∷ a ∷ b ∷ more))) +ℤ
    pos 0) ∷ wrap (clear q (floor_by 14 (dot (weights (row 5 14 false (on ((5, pos 8192) ∷ []))))
    (at x 0 ∷ v ∷ at x 2 ∷ at x 3 ∷ wrap (clear q (floor_by 14 (dot (weights (row 4 14 false (on ((4, pos 8192) ∷ [])))) (at x 0 ∷ v ∷ at x 2 ∷ at x 3 ∷ z4 ∷ z5 ∷ a ∷ b ∷ more))) +ℤ pos 0) ∷ z5 ∷
    a ∷ b ∷ more))) +ℤ pos 0) ∷ a ∷ b ∷ more) e1
    ∙ ap (λ (v : ℤ). at x 0 ∷ at x 1 ∷ at x 2 ∷ at x 3 ∷ v
    ∷ wrap (clear q (floor_by 14 (dot (weights (row 5 14 false (on ((5, pos 8192) ∷ [])))) (at x 0 ∷ at x 1 ∷ at x 2 ∷ at x 3 ∷ v ∷ z5 ∷ a ∷ b ∷ more))) +ℤ pos 0) ∷ a ∷ b ∷ more) e4
    ∙ ap (λ (v : ℤ). at x 0 ∷ at x 1 ∷ at x 2 ∷ at x 3 ∷ halved q (at x 4 +ℤ at x 6) ∷ v ∷ a ∷ b ∷ more) e5

fold8_top : (q : ℕ) (x : List ℤ) (a b : ℤ) (more : List ℤ) → q ≤ 8 → ((c : ℕ) → c < 8 → IsSample q (at x c)) →
    applied (fold_rows 2 8) (steps_by 2 q) 0 (take 8 (coded_fold8 q x) ++ a ∷ b ∷ more) ≡ at x 0 ∷ at x 1 ∷ at x 2 ∷ at x 3 ∷ at x 4 ∷ at x 5 ∷ at x 6 ∷ at x 7 ∷ a ∷ b ∷ more
fold8_top q x a b more l h =
    let z4 : ℤ = at x 4 +ℤ at x 6 in
    let z5 : ℤ = at x 5 +ℤ at x 7 in
    let z0 : ℤ = front8 q (at x 0) (at x 2) z4 in
    let z1 : ℤ = front8 q (at x 1) (at x 2) z5 in
    let s0 : ℤ = negsuc 11584 *ℤ at x 2 +ℤ negsuc 5792 *ℤ z4 in
    let s1 : ℤ = negsuc 11584 *ℤ at x 2 +ℤ negsuc 5792 *ℤ z5 in
    let f0 : IsSample q (at x 4) = h 4 (omega arith) in
    let f1 : IsSample q (at x 6) = h 6 (omega arith) in
    let f2 : IsSample q (at x 5) = h 5 (omega arith) in
    let f3 : IsSample q (at x 7) = h 7 (omega arith) in
    let e0 = raised_by q (at x 0) s0 (dot (weights (row 0 14 false (left (negsuc 5792)))) (z0 ∷ z1 ∷ at x 2 ∷ at x 3 ∷ z4 ∷ z5 ∷ at x 6 ∷ at x 7 ∷ a ∷ b ∷ more)) (h 0 (omega arith))
    (dot_left8 z0 z1 (at x 2) (at x 3) z4 z5 (at x 6) (at x 7) (a ∷ b ∷ more)) in
    let e1 = raised_by q (at x 1) s1 (dot (weights (row 1 14 false (right (negsuc 5792)))) (at x 0 ∷ z1 ∷ at x 2 ∷ at x 3 ∷ z4 ∷ z5 ∷ at x 6 ∷ at x 7 ∷ a ∷ b ∷ more)) (h 1 (omega arith))
    (dot_right8 (at x 0) z1 (at x 2) (at x 3) z4 z5 (at x 6) (at x 7) (a ∷ b ∷ more)) in
    let e4 = exact q (at x 4) (dot (weights (row 4 14 false (on ((4, pos 16384) ∷ (6, negsuc 16383) ∷ [])))) (at x 0 ∷ at x 1 ∷ at x 2 ∷ at x 3 ∷ z4 ∷ z5 ∷ at x 6 ∷ at x 7 ∷ a ∷ b ∷ more)) f0
    (dot_back4 (at x 0) (at x 1) (at x 2) (at x 3) z4 z5 (at x 6) (at x 7) (a ∷ b ∷ more) ∙ omega (arith, ints)) in
    let e5 = exact q (at x 5) (dot (weights (row 5 14 false (on ((5, pos 16384) ∷ (7, negsuc 16383) ∷ [])))) (at x 0 ∷ at x 1 ∷ at x 2 ∷ at x 3 ∷ at x 4 ∷ z5 ∷ at x 6 ∷ at x 7 ∷ a ∷ b ∷ more)) f2
    (dot_back5 (at x 0) (at x 1) (at x 2) (at x 3) (at x 4) z5 (at x 6) (at x 7) (a ∷ b ∷ more) ∙ omega (arith, ints)) in
    ap (λ (v : ℤ). v ∷ wrap (clear q (floor_by 14 (dot (weights (row 1 14 false (right (negsuc 5792)))) (v ∷ z1 ∷ at x 2 ∷ at x 3 ∷ z4 ∷ z5 ∷ at x 6 ∷ at x 7 ∷ a ∷ b ∷ more))) +ℤ pos 0) ∷ at x 2 ∷ at
    x 3 ∷ wrap (clear q (floor_by 14 (dot (weights (row 4 14 false (on ((4, pos 16384) ∷ (6, negsuc 16383) ∷ []))))
    (v ∷ wrap (clear q (floor_by 14 (dot (weights (row 1 14 false (right (negsuc 5792)))) (v ∷ z1 ∷ at x 2 ∷ at x 3 ∷ z4 ∷ z5 ∷ at x 6 ∷ at x 7 ∷ a ∷ b ∷ more))) +ℤ pos 0) ∷ at x 2 ∷ at x 3 ∷ z4
    ∷ z5 ∷ at x 6 ∷ at x 7 ∷ a ∷ b ∷ more))) +ℤ pos 0) ∷ wrap
    (clear q (floor_by 14 (dot (weights (row 5 14 false (on ((5, pos 16384) ∷ (7, negsuc 16383) ∷ []))))
    (v ∷ wrap (clear q (floor_by 14 (dot (weights (row 1 14 false (right (negsuc 5792)))) (v ∷ z1 ∷ at x 2 ∷ at x 3 ∷ z4 ∷ z5 ∷ at x 6 ∷ at x 7 ∷ a ∷ b ∷ more))) +ℤ pos 0) ∷ at x 2 ∷ at x 3 ∷
    wrap (clear q (floor_by 14 (dot (weights (row 4 14 false (on ((4, pos 16384) ∷ (6, negsuc 16383) ∷ []))))
    (v ∷ wrap (clear q (floor_by 14 (dot (weights (row 1 14 false (right (negsuc 5792)))) (v ∷ z1 ∷ at x 2 ∷ at x 3 ∷ z4 ∷ z5 ∷ at x 6 ∷ at x 7 ∷ a ∷ b ∷ more))) +ℤ pos 0) ∷ at x 2 ∷ at x 3 ∷ z4
    ∷ z5 ∷ at x 6 ∷ at x 7 ∷ a ∷ b ∷ more))) +ℤ pos 0) ∷ z5 ∷ at x 6 ∷ at x 7 ∷ a ∷ b ∷ more))) +ℤ pos 0) ∷ at x 6 ∷ at x 7 ∷ a ∷ b ∷ more) e0
    ∙ ap (λ (v : ℤ). at x 0 ∷ v ∷ at x 2 ∷ at x 3 ∷ wrap (clear q
    (floor_by 14 (dot (weights (row 4 14 false (on ((4, pos 16384) ∷ (6, negsuc 16383) ∷ [])))) (at x 0 ∷ v ∷ at x 2 ∷ at x 3 ∷ z4 ∷ z5 ∷ at x 6 ∷ at x 7 ∷ a ∷ b ∷ more))) +ℤ pos 0) ∷ wrap
    (clear q (floor_by 14 (dot (weights (row 5 14 false (on ((5, pos 16384) ∷ (7, negsuc 16383) ∷ []))))
    (at x 0 ∷ v ∷ at x 2 ∷ at x 3 ∷ wrap (clear q (floor_by 14
    (dot (weights (row 4 14 false (on ((4, pos 16384) ∷ (6, negsuc 16383) ∷ [])))) (at x 0 ∷ v ∷ at x 2 ∷ at x 3 ∷ z4 ∷ z5 ∷ at x 6 ∷ at x 7 ∷ a ∷ b ∷ more))) +ℤ pos 0) ∷ z5 ∷ at x 6 ∷ at x 7 ∷ a
    ∷ b ∷ more))) +ℤ pos 0) ∷ at x 6 ∷ at x 7 ∷ a ∷ b ∷ more) e1
    ∙ ap (λ (v : ℤ). at x 0 ∷ at x 1 ∷ at x 2 ∷ at x 3 ∷ v ∷ wrap
    (clear q (floor_by 14 (dot (weights (row 5 14 false (on ((5, pos 16384) ∷ (7, negsuc 16383) ∷ [])))) (at x 0 ∷ at x 1 ∷ at x 2 ∷ at x 3 ∷ v ∷ z5 ∷ at x 6 ∷ at x 7 ∷ a ∷ b ∷ more))) +ℤ pos 0)
    ∷ at x 6 ∷ at x 7 ∷ a ∷ b ∷ more) e4
    ∙ ap (λ (v : ℤ). at x 0 ∷ at x 1 ∷ at x 2 ∷ at x 3 ∷ at x 4 ∷ v ∷ at x 6 ∷ at x 7 ∷ a ∷ b ∷ more) e5

-- ---- Bypass

bit0 : (b2 b3 b4 b5 : Bool) → has_bit (cond b2 0 1 + 2 * cond b3 0 1 + 4 * cond b4 0 1 + 8 * cond b5 0 1) 0 ≡ not b2
bit0 true true true true = refl
bit0 true true true false = refl
bit0 true true false true = refl
bit0 true true false false = refl
bit0 true false true true = refl
bit0 true false true false = refl
bit0 true false false true = refl
bit0 true false false false = refl
bit0 false true true true = refl
bit0 false true true false = refl
bit0 false true false true = refl
bit0 false true false false = refl
bit0 false false true true = refl
bit0 false false true false = refl
bit0 false false false true = refl
bit0 false false false false = refl

bit1 : (b2 b3 b4 b5 : Bool) → has_bit (cond b2 0 1 + 2 * cond b3 0 1 + 4 * cond b4 0 1 + 8 * cond b5 0 1) 1 ≡ not b3
bit1 true true true true = refl
bit1 true true true false = refl
bit1 true true false true = refl
bit1 true true false false = refl
bit1 true false true true = refl
bit1 true false true false = refl
bit1 true false false true = refl
bit1 true false false false = refl
bit1 false true true true = refl
bit1 false true true false = refl
bit1 false true false true = refl
bit1 false true false false = refl
bit1 false false true true = refl
bit1 false false true false = refl
bit1 false false false true = refl
bit1 false false false false = refl

bit2 : (b2 b3 b4 b5 : Bool) → has_bit (cond b2 0 1 + 2 * cond b3 0 1 + 4 * cond b4 0 1 + 8 * cond b5 0 1) 2 ≡ not b4
bit2 true true true true = refl
bit2 true true true false = refl
bit2 true true false true = refl
bit2 true true false false = refl
bit2 true false true true = refl
bit2 true false true false = refl
bit2 true false false true = refl
bit2 true false false false = refl
bit2 false true true true = refl
bit2 false true true false = refl
bit2 false true false true = refl
bit2 false true false false = refl
bit2 false false true true = refl
bit2 false false true false = refl
bit2 false false false true = refl
bit2 false false false false = refl

bit3 : (b2 b3 b4 b5 : Bool) → has_bit (cond b2 0 1 + 2 * cond b3 0 1 + 4 * cond b4 0 1 + 8 * cond b5 0 1) 3 ≡ not b5
bit3 true true true true = refl
bit3 true true true false = refl
bit3 true true false true = refl
bit3 true true false false = refl
bit3 true false true true = refl
bit3 true false true false = refl
bit3 true false false true = refl
bit3 true false false false = refl
bit3 false true true true = refl
bit3 false true true false = refl
bit3 false true false true = refl
bit3 false true false false = refl
bit3 false false true true = refl
bit3 false false true false = refl
bit3 false false false true = refl
bit3 false false false false = refl

split_pos : (n : ℕ) (e : Bool) → (n % 2 == 0) ≡ e → pos (n / 2) *ℤ pos 2 +ℤ bit_of (not e) ≡ pos n
split_pos n true h = let k : n % 2 ≡ 0 = eqb-true (n % 2) 0 h in omega (arith, ints, k)
split_pos n false h = let k : n % 2 ≢ 0 = λ e. absurd (cc (h, eq-eqb (n % 2) 0 e)) in omega (arith, ints, k)

split_neg : (n : ℕ) (e : Bool) → (n % 2 == 1) ≡ e → negsuc (n / 2) *ℤ pos 2 +ℤ bit_of (not e) ≡ negsuc n
split_neg n true h = let k : n % 2 ≡ 1 = eqb-true (n % 2) 1 h in omega (arith, ints, k)
split_neg n false h = let k : n % 2 ≢ 1 = λ e. absurd (cc (h, eq-eqb (n % 2) 1 e)) in omega (arith, ints, k)

low_bit_back : (x : ℤ) → clear 1 x +ℤ bit_of (not (is_even x)) ≡ x
low_bit_back (pos n) = split_pos n (n % 2 == 0) refl
low_bit_back (negsuc n) = split_neg n (n % 2 == 1) refl

bit_put : (x d : ℤ) (e : Bool) → FitsSigned w32 x → d ≡ clear 1 x *ℤ pos 16384 → e ≡ not (is_even x) → wrap (clear 1 (floor_by 14 d) +ℤ bit_of e) ≡ x
bit_put x d e f h k =
    let quotient : floor_by 14 d ≡ clear 1 x = floor_only d (clear 1 x) 16384 (omega arith) (omega (arith, ints, h)) (omega (arith, ints, h)) in
    ap (λ z. wrap (clear 1 z +ℤ bit_of e)) quotient ∙ ap (λ z. wrap (z +ℤ bit_of e)) (clear-clear 1 x) ∙ ap (λ c. wrap (clear 1 x +ℤ bit_of c)) k ∙ ap wrap (low_bit_back x) ∙ int_wrap_fits w32 x f

bypass_top : (q : ℕ) (x : List ℤ) (a b : ℤ) (more : List ℤ) → ((c : ℕ) → c < 6 → IsSample q (at x c)) →
    applied (bypass_rows 1) (bypass_steps 1) (bypass_of Bypass x) (take 6 (coded_bypass x) ++ a ∷ b ∷ more) ≡ at x 0 ∷ at x 1 ∷ at x 2 ∷ at x 3 ∷ at x 4 ∷ at x 5 ∷ a ∷ b ∷ more
bypass_top q x a b more h =
    let n : ℕ = bypass_of Bypass x in
    let e2 = bit_put (at x 2) (dot (weights (row 2 0 true (on ((2, pos 1) ∷ [])))) (at x 0 ∷ at x 1 ∷ clear 1 (at x 2) ∷ clear 1 (at x 3) ∷ clear 1 (at x 4) ∷ clear 1 (at x 5) ∷ a ∷ b ∷ more))
    (has_bit n 0) (sample_fits q (at x 2) (h 2 (omega arith))) (dot_one2 (at x 0) (at x 1) (clear 1 (at x 2)) (clear 1 (at x 3)) (clear 1 (at x 4)) (clear 1 (at x 5)) a b more)
    (bit0 (is_even (at x 2)) (is_even (at x 3)) (is_even (at x 4)) (is_even (at x 5))) in
    let e3 = bit_put (at x 3) (dot (weights (row 3 0 true (on ((3, pos 1) ∷ [])))) (at x 0 ∷ at x 1 ∷ at x 2 ∷ clear 1 (at x 3) ∷ clear 1 (at x 4) ∷ clear 1 (at x 5) ∷ a ∷ b ∷ more)) (has_bit n 1)
    (sample_fits q (at x 3) (h 3 (omega arith))) (dot_one3 (at x 0) (at x 1) (at x 2) (clear 1 (at x 3)) (clear 1 (at x 4)) (clear 1 (at x 5)) a b more)
    (bit1 (is_even (at x 2)) (is_even (at x 3)) (is_even (at x 4)) (is_even (at x 5))) in
    let e4 = bit_put (at x 4) (dot (weights (row 4 0 true (on ((4, pos 1) ∷ [])))) (at x 0 ∷ at x 1 ∷ at x 2 ∷ at x 3 ∷ clear 1 (at x 4) ∷ clear 1 (at x 5) ∷ a ∷ b ∷ more)) (has_bit n 2)
    (sample_fits q (at x 4) (h 4 (omega arith))) (dot_one4 (at x 0) (at x 1) (at x 2) (at x 3) (clear 1 (at x 4)) (clear 1 (at x 5)) a b more)
    (bit2 (is_even (at x 2)) (is_even (at x 3)) (is_even (at x 4)) (is_even (at x 5))) in
    let e5 = bit_put (at x 5) (dot (weights (row 5 0 true (on ((5, pos 1) ∷ [])))) (at x 0 ∷ at x 1 ∷ at x 2 ∷ at x 3 ∷ at x 4 ∷ clear 1 (at x 5) ∷ a ∷ b ∷ more)) (has_bit n 3)
    (sample_fits q (at x 5) (h 5 (omega arith))) (dot_one5 (at x 0) (at x 1) (at x 2) (at x 3) (at x 4) (clear 1 (at x 5)) a b more)
    (bit3 (is_even (at x 2)) (is_even (at x 3)) (is_even (at x 4)) (is_even (at x 5))) in
    ap (λ (v : ℤ). at x 0 ∷ at x 1 ∷ v ∷ wrap (clear 1 (floor_by 14
    (dot (weights (row 3 0 true (on ((3, pos 1) ∷ [])))) (at x 0 ∷ at x 1 ∷ v ∷ clear 1 (at x 3) ∷ clear 1 (at x 4) ∷ clear 1 (at x 5) ∷ a ∷ b ∷ more))) +ℤ bit_of (has_bit n 1)) ∷ wrap
    (clear 1 (floor_by 14 (dot (weights (row 4 0 true (on ((4, pos 1) ∷ []))))
    (at x 0 ∷ at x 1 ∷ v ∷ wrap (clear 1 (floor_by 14 (dot (weights (row 3 0 true (on ((3, pos 1) ∷ []))))
    (at x 0 ∷ at x 1 ∷ v ∷ clear 1 (at x 3) ∷ clear 1 (at x 4) ∷ clear 1 (at x 5) ∷ a ∷ b ∷ more))) +ℤ bit_of (has_bit n 1)) ∷ clear 1 (at x 4) ∷ clear 1 (at x 5) ∷ a ∷ b ∷ more))) +ℤ bit_of
    (has_bit n 2)) ∷ wrap (clear 1 (floor_by 14 (dot (weights (row 5 0 true (on ((5, pos 1) ∷ []))))
    (at x 0 ∷ at x 1 ∷ v ∷ wrap (clear 1 (floor_by 14 (dot (weights (row 3 0 true (on ((3, pos 1) ∷ []))))
    (at x 0 ∷ at x 1 ∷ v ∷ clear 1 (at x 3) ∷ clear 1 (at x 4) ∷ clear 1 (at x 5) ∷ a ∷ b ∷ more))) +ℤ bit_of (has_bit n 1)) ∷ wrap
    (clear 1 (floor_by 14 (dot (weights (row 4 0 true (on ((4, pos 1) ∷ []))))
    (at x 0 ∷ at x 1 ∷ v ∷ wrap (clear 1 (floor_by 14 (dot (weights (row 3 0 true (on ((3, pos 1) ∷ []))))
    (at x 0 ∷ at x 1 ∷ v ∷ clear 1 (at x 3) ∷ clear 1 (at x 4) ∷ clear 1 (at x 5) ∷ a ∷ b ∷ more))) +ℤ bit_of (has_bit n 1)) ∷ clear 1 (at x 4) ∷ clear 1 (at x 5) ∷ a ∷ b ∷ more))) +ℤ bit_of
    (has_bit n 2)) ∷ clear 1 (at x 5) ∷ a ∷ b ∷ more))) +ℤ bit_of (has_bit n 3)) ∷ a ∷ b ∷ more) e2
    ∙ ap (λ (v : ℤ). at x 0 ∷ at x 1 ∷ at x 2 ∷ v ∷ wrap (clear 1
    (floor_by 14 (dot (weights (row 4 0 true (on ((4, pos 1) ∷ [])))) (at x 0 ∷ at x 1 ∷ at x 2 ∷ v ∷ clear 1 (at x 4) ∷ clear 1 (at x 5) ∷ a ∷ b ∷ more))) +ℤ bit_of (has_bit n 2)) ∷ wrap
    (clear 1 (floor_by 14 (dot (weights (row 5 0 true (on ((5, pos 1) ∷ []))))
    (at x 0 ∷ at x 1 ∷ at x 2 ∷ v ∷ wrap (clear 1 (floor_by 14
    (dot (weights (row 4 0 true (on ((4, pos 1) ∷ [])))) (at x 0 ∷ at x 1 ∷ at x 2 ∷ v ∷ clear 1 (at x 4) ∷ clear 1 (at x 5) ∷ a ∷ b ∷ more))) +ℤ bit_of (has_bit n 2)) ∷ clear 1 (at x 5) ∷ a ∷ b
    ∷ more))) +ℤ bit_of (has_bit n 3)) ∷ a ∷ b ∷ more) e3
    ∙ ap (λ (v : ℤ). at x 0 ∷ at x 1 ∷ at x 2 ∷ at x 3 ∷ v ∷ wrap
    (clear 1 (floor_by 14 (dot (weights (row 5 0 true (on ((5, pos 1) ∷ [])))) (at x 0 ∷ at x 1 ∷ at x 2 ∷ at x 3 ∷ v ∷ clear 1 (at x 5) ∷ a ∷ b ∷ more))) +ℤ bit_of (has_bit n 3)) ∷ a ∷ b ∷ more)
    e4
    ∙ ap (λ (v : ℤ). at x 0 ∷ at x 1 ∷ at x 2 ∷ at x 3 ∷ at x 4 ∷ v ∷ a ∷ b ∷ more) e5

-- ---- Side

side_top : (q : ℕ) (x : List ℤ) (a b : ℤ) (more : List ℤ) → IsSample q (at x 1) → applied (side_row ∷ []) (steps_by 0 q) 0 (at x 0 ∷ (at x 1 -ℤ at x 0) ∷ a ∷ b ∷ more) ≡ at x 0 ∷ at x 1 ∷ a ∷ b ∷ more
side_top q x a b more h = ap (λ (v : ℤ). at x 0 ∷ v ∷ a ∷ b ∷ more) (exact q (at x 1) (dot (weights side_row) (at x 0 ∷ (at x 1 -ℤ at x 0) ∷ a ∷ b ∷ more)) h (dot_side (at x 0) (at x 1) a b more))

-- ---- each mix, at each presentation

split_case : (q channels k : ℕ) (x : List ℤ) (a b : ℤ) (more : List ℤ) → channels_of k ≤ channels →
    take (channels_of k) (applied [] (steps_by k q) 0 (take (channels_of k) (shown channels x) ++ a ∷ b ∷ more)) ≡ take (channels_of k) (shown (channels_of k) x)
split_case q channels zero x a b more l = cc (place_in channels x 0 (omega arith), place_in channels x 1 (omega arith))
split_case q channels (suc zero) x a b more l =
    cc (place_in channels x 0 (omega arith), place_in channels x 1 (omega arith), place_in channels x 2 (omega arith), place_in channels x 3 (omega arith), place_in channels x 4 (omega arith), place_in channels x 5 (omega arith))
split_case q channels (suc (suc k)) x a b more l =
    cc (
      place_in channels x 0 (omega arith),
      place_in channels x 1 (omega arith),
      place_in channels x 2 (omega arith),
      place_in channels x 3 (omega arith),
      place_in channels x 4 (omega arith),
      place_in channels x 5 (omega arith),
      place_in channels x 6 (omega arith),
      place_in channels x 7 (omega arith),
    )

fold6_case : (q k : ℕ) (x : List ℤ) (a b : ℤ) (more : List ℤ) → q ≤ 8 → channels_of k ≤ 6 → ((c : ℕ) → c < 6 → IsSample q (at x c)) →
    take (channels_of k) (applied (fold_rows k 6) (steps_by k q) 0 (take (channels_of k) (coded_of Fold q 6 x) ++ a ∷ b ∷ more)) ≡ take (channels_of k) (presented_of Fold q 6 k x)
fold6_case q zero x a b more l n h =
    let h2 : IsSample q (at x 2) = h 2 (omega arith) in
    let h4 : IsSample q (at x 4) = h 4 (omega arith) in
    let h5 : IsSample q (at x 5) = h 5 (omega arith) in
    ap (take 2) (stereo_top q (at x 0) (at x 1) (negsuc 11584 *ℤ at x 2 +ℤ negsuc 11584 *ℤ at x 4) (negsuc 11584 *ℤ at x 2 +ℤ negsuc 11584 *ℤ at x 5) a b more 6 l (h 0 (omega arith)) (h 1 (omega arith))
    (omega (arith, ints, h2.low, h2.high, h4.low, h4.high)) (omega (arith, ints, h2.low, h2.high, h4.low, h4.high)) (omega (arith, ints, h2.low, h2.high, h5.low, h5.high)) (omega (arith, ints, h2.low, h2.high, h5.low, h5.high)))
fold6_case q (suc zero) x a b more l n h = ap (take 6) (fold6_top q x a b more h)
fold6_case q (suc (suc k)) x a b more l n h = absurd (omega arith)

fold8_case : (q k : ℕ) (x : List ℤ) (a b : ℤ) (more : List ℤ) → q ≤ 8 → ((c : ℕ) → c < 8 → IsSample q (at x c)) →
    take (channels_of k) (applied (fold_rows k 8) (steps_by k q) 0 (take (channels_of k) (coded_of Fold q 8 x) ++ a ∷ b ∷ more)) ≡ take (channels_of k) (presented_of Fold q 8 k x)
fold8_case q zero x a b more l h =
    let h2 : IsSample q (at x 2) = h 2 (omega arith) in
    let h4 : IsSample q (at x 4) = h 4 (omega arith) in
    let h5 : IsSample q (at x 5) = h 5 (omega arith) in
    let h6 : IsSample q (at x 6) = h 6 (omega arith) in
    let h7 : IsSample q (at x 7) = h 7 (omega arith) in
    ap (take 2) (stereo_top q (at x 0) (at x 1) (negsuc 11584 *ℤ at x 2 +ℤ negsuc 5792 *ℤ (at x 4 +ℤ at x 6)) (negsuc 11584 *ℤ at x 2 +ℤ negsuc 5792 *ℤ (at x 5 +ℤ at x 7)) a b more 8 l (h 0 (omega arith)) (h 1 (omega arith))
    (omega (arith, ints, h2.low, h2.high, h4.low, h4.high, h6.low, h6.high)) (omega (arith, ints, h2.low, h2.high, h4.low, h4.high, h6.low, h6.high))
    (omega (arith, ints, h2.low, h2.high, h5.low, h5.high, h7.low, h7.high)) (omega (arith, ints, h2.low, h2.high, h5.low, h5.high, h7.low, h7.high)))
fold8_case q (suc zero) x a b more l h = ap (take 6) (fold8_middle q x a b more l h)
fold8_case q (suc (suc k)) x a b more l h = ap (take 8) (fold8_top q x a b more l h)

fold_case : (q channels k : ℕ) (x : List ℤ) (a b : ℤ) (more : List ℤ) → q ≤ 8 → (6 ≤ channels) × (channels ≢ 6 → channels ≡ 8)
    → channels_of k ≤ channels → ((c : ℕ) → c < channels → IsSample q (at x c)) →
    take (channels_of k) (applied (fold_rows k channels) (steps_by k q) 0 (take (channels_of k) (coded_of Fold q channels x) ++ a ∷ b ∷ more)) ≡ take (channels_of k) (presented_of Fold q channels k x)
fold_case q channels k x a b more l shape n h =
    let P : ℕ → Type 0 = λ c. take (channels_of k) (applied (fold_rows k c) (steps_by k q) 0 (take (channels_of k) (coded_of Fold q c x) ++ a ∷ b ∷ more)) ≡ take (channels_of k) (presented_of Fold q c k x) in
    elim (eqb_tells channels 6) [
      | inl e ↦ subst P (sym e.1) (fold6_case q k x a b more l (omega (arith, e.1)) (λ c i. h c (omega (arith, e.1))))
      | inr e ↦ let f : channels ≡ 8 = shape.1 e.1 in subst P (sym f) (fold8_case q k x a b more l (λ c i. h c (omega (arith, f))))
    ]

bypass_case : (q channels k : ℕ) (x : List ℤ) (a b : ℤ) (more : List ℤ) → channels ≡ 6 → channels_of k ≤ channels → ((c : ℕ) → c < channels → IsSample q (at x c)) →
    take (channels_of k) (applied (bypass_rows k) (bypass_steps k) (bypass_of Bypass x) (take (channels_of k) (coded_bypass x) ++ a ∷ b ∷ more)) ≡ take (channels_of k) (shown (channels_of k) x)
bypass_case q channels zero x a b more e n h = refl
bypass_case q channels (suc zero) x a b more e n h = ap (take 6) (bypass_top q x a b more (λ c i. h c (omega (arith, e))))
bypass_case q channels (suc (suc k)) x a b more e n h = absurd (omega (arith, e))

side_case : (q channels k : ℕ) (x : List ℤ) (a b : ℤ) (more : List ℤ) → channels ≡ 2 → channels_of k ≤ channels → ((c : ℕ) → c < channels → IsSample q (at x c)) →
    take (channels_of k) (applied (side_row ∷ []) (steps_by k q) 0 (take (channels_of k) (coded_of Side q channels x) ++ a ∷ b ∷ more)) ≡ take (channels_of k) (shown (channels_of k) x)
side_case q channels zero x a b more e n h = ap (take 2) (side_top q x a b more (h 1 (omega (arith, e))))
side_case q channels (suc zero) x a b more e n h = absurd (omega (arith, e))
side_case q channels (suc (suc k)) x a b more e n h = absurd (omega (arith, e))

pub mixes : (mix : Mix) (depth channels k : ℕ) (x : List ℤ) (a b : ℤ) (more : List ℤ) → AreMixed mix depth channels → channels_of k ≤ channels → ((c : ℕ) → c < channels → IsSample (24 - depth) (at x c)) →
    take (channels_of k) (applied (rows_of mix k channels) (steps_of mix (24 - depth) k) (bypass_of mix x) (take (channels_of k) (coded_of mix (24 - depth) channels x) ++ a ∷ b ∷ more)) ≡ take
    (channels_of k) (presented_of mix (24 - depth) channels k x)
mixes Split depth channels k x a b more m n h = split_case (24 - depth) channels k x a b more n
mixes Fold depth channels k x a b more m n h = fold_case (24 - depth) channels k x a b more (omega (arith, m.depth_least)) m.shape n h
mixes Bypass depth channels k x a b more m n h = bypass_case (24 - depth) channels k x a b more m.shape.0 n h
mixes Side depth channels k x a b more m n h = side_case (24 - depth) channels k x a b more m.shape n h
