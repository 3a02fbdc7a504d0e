-- The first time that is within a bound.
use Rattle.std.proofs.Common.{◌≡◌, ℕ, zero, suc, ◌+◌, ◌<◌, ◌≤◌, cond, Bool, arith, refl, sym, ap, subst}
use Rattle.std.specs.Prelude.{nat_le}
use Rattle.std.proofs.lemmas.Bool.{le-leb, lt-leb}
use Rattle.std.proofs.Math.Decide.{dec_lt, dec_le}
use Rattle.mlp_fifo.specs.Placed.{first_time}

-- y is the least number from x on at which f is within a bound
pub record IsFirst (f : ℕ → ℕ) (bound x y : ℕ) : Type 0 where
  pub start : x ≤ y
  pub fits : f y ≤ bound
  pub least : (z : ℕ) → x ≤ z → f z ≤ bound → y ≤ z

abbrev pub within : (ℕ → ℕ) → ℕ → ℕ → Bool
within f bound x = nat_le (f x) bound

first_here : (f : ℕ → ℕ) (bound more x : ℕ) → f x ≤ bound → first_time (within f bound) (suc more) x ≡ x
unfolding first_time
first_here f bound more x h = ap (λ c. cond c x (first_time (within f bound) more (suc x))) (le-leb (f x) bound h)

first_later : (f : ℕ → ℕ) (bound more x : ℕ) → bound < f x → first_time (within f bound) (suc more) x ≡ first_time (within f bound) more (suc x)
unfolding first_time
first_later f bound more x h = ap (λ c. cond c x (first_time (within f bound) more (suc x))) (lt-leb (f x) bound h)

first_none : (f : ℕ → ℕ) (bound x : ℕ) → first_time (within f bound) 0 x ≡ x
unfolding first_time
first_none f bound x = refl

here_first : (f : ℕ → ℕ) (bound x : ℕ) → f x ≤ bound → IsFirst f bound x x
here_first f bound x h = record { start = omega arith; fits = h; least = λ z l m. l }

-- .. where it is so within so many more
pub first_is : (f : ℕ → ℕ) (bound more x : ℕ) → f (x + more) ≤ bound → IsFirst f bound x (first_time (within f bound) more x)
first_is f bound zero x h =
    let e : x + zero ≡ x = omega arith in
    subst (IsFirst f bound x) (sym (first_none f bound x)) (here_first f bound x (subst (λ y. f y ≤ bound) e h))
first_is f bound (suc more) x h = elim (dec_le (f x) bound) [
  | yes m ↦ subst (IsFirst f bound x) (sym (first_here f bound more x m)) (here_first f bound x m)
  | no m ↦ (let e : x + suc more ≡ suc x + more = omega arith in
      let r = first_is f bound more (suc x) (subst (λ y. f y ≤ bound) e h) in
      subst (IsFirst f bound x) (sym (first_later f bound more x (omega arith))) (record {
        start = omega (arith, r.start);
        fits = r.fits;
        least = λ z l k. elim (dec_lt x z) [
          | yes n ↦ r.least z n k
          | no n ↦ absurd (let g : z ≡ x = omega arith in m (subst (λ y. f y ≤ bound) g k))
        ];
      }))
]
