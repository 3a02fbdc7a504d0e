-- Scaled values, and coefficients with zeros behind them.
use Rattle.std.proofs.Common.{◌≡◌, ℕ, zero, suc, ◌+◌, ◌-◌, ◌<◌, ◌≤◌, ◌^◌, List, [], ◌∷◌, ◌++◌, length, take, drop, get_or, ℤ, pos, ◌+ℤ◌, ◌*ℤ◌, arith, refl, sym, ◌∙◌, ap, add-one, replicate, append_assoc}
use Rattle.std.proofs.Math.ListN.{set}
use Rattle.std.proofs.Math.Seq.{drop-cons, set-append_seam}
use Rattle.std.proofs.lemmas.List.{length-take-le}
use Rattle.std.proofs.Common.{FitsSigned, w32}
use Rattle.std.proofs.lemmas.Int.{ints}
use Rattle.mlp_predict.specs.Prediction.{dot, IsCoefficient}
use Rattle.mlp_predict.specs.Filters.{scaled}

pub length-scaled : (s : ℕ) (vs : List ℤ) → length (scaled s vs) ≡ length vs
length-scaled s [] = refl
length-scaled s (v ∷ vs) = ap suc (length-scaled s vs)

pub get_or-scaled : (s : ℕ) (vs : List ℤ) (i : ℕ) (d : ℤ) → i < length vs → get_or (scaled s vs) i d ≡ get_or vs i (pos 0) *ℤ pos (2 ^ s)
get_or-scaled s [] i d h = absurd (omega arith)
get_or-scaled s (v ∷ vs) zero d h = refl
get_or-scaled s (v ∷ vs) (suc i) d h = get_or-scaled s vs i d (omega arith)

take_suc-scaled : (s : ℕ) (vs : List ℤ) (i : ℕ) → i < length vs → scaled s (take (suc i) vs) ≡ scaled s (take i vs) ++ (get_or vs i (pos 0) *ℤ pos (2 ^ s)) ∷ []
take_suc-scaled s [] i h = absurd (omega arith)
take_suc-scaled s (v ∷ vs) zero h = refl
take_suc-scaled s (v ∷ vs) (suc i) h = ap (λ ys. (v *ℤ pos (2 ^ s)) ∷ ys) (take_suc-scaled s vs i (omega arith))

set_behind : (front : List ℤ) (r : ℕ) (x : ℤ) → set (front ++ replicate (suc r) (pos 0)) (length front) x ≡ (front ++ x ∷ []) ++ replicate r (pos 0)
set_behind [] r x = refl
set_behind (a ∷ front) r x = ap (λ ys. a ∷ ys) (set_behind front r x)

-- one coefficient more in front of the zeros
pub filled : (s n : ℕ) (vs : List ℤ) (i : ℕ) → i < length vs → length vs ≤ n →
    set (scaled s (take i vs) ++ replicate (n - i) (pos 0)) i (get_or vs i (pos 0) *ℤ pos (2 ^ s)) ≡ scaled s (take (i + 1) vs) ++ replicate (n - (i + 1)) (pos 0)
filled s n vs i h k =
    let front : List ℤ = scaled s (take i vs) in
    let x : ℤ = get_or vs i (pos 0) *ℤ pos (2 ^ s) in
    let e : length front ≡ i = length-scaled s (take i vs) ∙ length-take-le i vs (omega arith) in
    rw (add-one, take_suc-scaled s vs i h)
    (ap (λ (j : ℕ). set (front ++ replicate j (pos 0)) i x) (let k : n - i ≡ suc (n - suc i) = omega arith in k)
    ∙ ap (λ (j : ℕ). set (front ++ replicate (suc (n - suc i)) (pos 0)) j x) (sym e)
    ∙ set_behind front (n - suc i) x)

-- zeros behind the coefficients change no sum
pub dot-zeros : (cs vs : List ℤ) (n : ℕ) → dot (cs ++ replicate n (pos 0)) vs ≡ dot cs vs
dot-zeros [] [] zero = refl
dot-zeros [] [] (suc n) = refl
dot-zeros [] (v ∷ vs) zero = refl
dot-zeros [] (v ∷ vs) (suc n) = let e : dot (replicate n (pos 0)) vs ≡ pos 0 = dot-zeros [] vs n in omega (arith, ints, e)
dot-zeros (c ∷ cs) [] n = refl
dot-zeros (c ∷ cs) (v ∷ vs) n = ap (λ z. c *ℤ v +ℤ z) (dot-zeros cs vs n)

pub coefficient_fits : (c : ℤ) → IsCoefficient c → FitsSigned w32 c
coefficient_fits c h = omega (arith, ints, h.low, h.high)

-- a value of a state in the place of an older difference
pub state_set : (s : ℕ) (vs ds : List ℤ) (i : ℕ) → i < length vs → i < length ds →
    set (scaled s (take i vs) ++ drop i ds) i (get_or vs i (pos 0) *ℤ pos (2 ^ s)) ≡ scaled s (take (i + 1) vs) ++ drop (i + 1) ds
state_set s vs ds i h k =
    let front : List ℤ = scaled s (take i vs) in
    let x : ℤ = get_or vs i (pos 0) *ℤ pos (2 ^ s) in
    let e : length front ≡ i = length-scaled s (take i vs) ∙ length-take-le i vs (omega arith) in
    rw (add-one, take_suc-scaled s vs i h)
    (ap (λ ys. set (front ++ ys) i x) (drop-cons ds i (pos 0) k)
    ∙ ap (λ (j : ℕ). set (front ++ get_or ds i (pos 0) ∷ drop (suc i) ds) j x) (sym e)
    ∙ set-append_seam front (get_or ds i (pos 0)) (drop (suc i) ds) x
    ∙ sym (append_assoc front (x ∷ []) (drop (suc i) ds)))
