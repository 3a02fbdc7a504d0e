-- Samples over a power of two, and the bounds of lags.
use Rattle.std.proofs.Common.{◌≡◌, ℕ, suc, ◌*◌, ◌≤◌, ◌^◌, List, [], ◌∷◌, length, drop, get_or, ℤ, pos, negsuc, neg_ℤ, ◌/◌, ◌≤ℤ◌, arith, sym, subst}
use Rattle.std.specs.Prelude.{All}
use Rattle.std.proofs.Math.Nat.{div-le_self}
use Rattle.std.proofs.lemmas.Int.{ints}
use Rattle.std.proofs.lemmas.List.{length-drop, length-map}
use Rattle.std.proofs.lemmas.List.Elements.{All-cons, All-map, All-drop}
use Rattle.mlp_arith.specs.Words.{floor_by}
use Rattle.mlp_arith.specs.Ranges.{Is26}
use Rattle.mlp_predict.specs.Prediction.{dot}
use Rattle.mlp_levinson.specs.Computed.{at, over, lag, lags, IsLag}
use Rattle.mlp_levinson.proofs.Products.{product26}

-- ---- samples over 2^step

floor26 : (step : ℕ) (x : ℤ) → Is26 x → Is26 (floor_by step x)
floor26 step (pos a) h =
    let m : a / 2 ^ step ≤ a = div-le_self a (2 ^ step) in
    record { low = omega (arith, ints); high = omega (arith, ints, m, h.high) }
floor26 step (negsuc a) h =
    let m : a / 2 ^ step ≤ a = div-le_self a (2 ^ step) in
    record { low = omega (arith, ints, m, h.low); high = omega (arith, ints) }

pub over26 : (step : ℕ) (xs : List ℤ) → All Is26 xs → All Is26 (over step xs)
over26 step xs h = All-map Is26 (floor_by step) xs (λ i d l. floor26 step (get_or xs i d) (h i d l))

-- ---- lags

record Below (b : ℕ) (v : ℤ) : Type 0 where
  low : neg_ℤ (pos b) ≤ℤ v
  high : v ≤ℤ pos b

dot26 : (xs ys : List ℤ) → All Is26 xs → All Is26 ys → Below (1125899906842624 * length xs) (dot xs ys)
dot26 [] ys f g = record { low = omega (arith, ints); high = omega (arith, ints) }
dot26 (x ∷ xs) [] f g = record { low = omega (arith, ints); high = omega (arith, ints) }
dot26 (x ∷ xs) (y ∷ ys) f g =
    let p = product26 x y (f 0 x (omega arith)) (g 0 y (omega arith)) in
    let r = dot26 xs ys (λ i d l. f (suc i) d (omega arith)) (λ i d l. g (suc i) d (omega arith)) in
    record { low = omega (arith, ints, p.0, r.low); high = omega (arith, ints, p.1, r.high) }

pub lag_small : (ys : List ℤ) (j : ℕ) → length ys ≤ 160 → All Is26 ys → IsLag (lag ys j)
lag_small ys j n h =
    let b = dot26 (drop j ys) ys (All-drop Is26 j ys h) h in
    let few : length (drop j ys) ≤ 160 = omega (arith, length-drop j ys) in
    record { low = omega (arith, ints, b.low, few); high = omega (arith, ints, b.high, few) }

pub lags_small : (ys : List ℤ) → length ys ≤ 160 → All Is26 ys → All IsLag (lags ys)
lags_small ys n h =
    let t8 : List ℤ = lag ys 8 ∷ [] in
    let t7 : List ℤ = lag ys 7 ∷ t8 in
    let t6 : List ℤ = lag ys 6 ∷ t7 in
    let t5 : List ℤ = lag ys 5 ∷ t6 in
    let t4 : List ℤ = lag ys 4 ∷ t5 in
    let t3 : List ℤ = lag ys 3 ∷ t4 in
    let t2 : List ℤ = lag ys 2 ∷ t3 in
    let t1 : List ℤ = lag ys 1 ∷ t2 in
    more 0 t1 (more 1 t2 (more 2 t3 (more 3 t4 (more 4 t5 (more 5 t6 (more 6 t7 (more 7 t8 (more 8 [] none))))))))
  where
    none : All IsLag []
    none i d l = absurd (omega arith)

    more : (j : ℕ) (rs : List ℤ) → All IsLag rs → All IsLag (lag ys j ∷ rs)
    more j rs t = All-cons IsLag (lag ys j) rs (lag_small ys j n h) t

-- the lags of samples, as they are computed
pub lags_of_small : (step : ℕ) (xs rs : List ℤ) → length xs ≤ 160 → All Is26 xs → rs ≡ lags (over step xs) → All IsLag rs
lags_of_small step xs rs n h e =
    let P : List ℤ → Type 0 = λ zs. All IsLag zs in
    subst P (sym e) (lags_small (over step xs) (omega (arith, n, length-map xs (floor_by step))) (over26 step xs h))

pub first_small : (step : ℕ) (xs rs : List ℤ) → length xs ≤ 160 → All Is26 xs → rs ≡ lags (over step xs) → IsLag (at rs 0)
first_small step xs rs n h e =
    let P : List ℤ → Type 0 = λ zs. IsLag (at zs 0) in
    subst P (sym e) (lag_small (over step xs) 0 (omega (arith, n, length-map xs (floor_by step))) (over26 step xs h))
