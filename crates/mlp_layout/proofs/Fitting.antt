-- What fits, and what may be written, by its parts.
use Rattle.std.proofs.Common.{◌≡◌, ℕ, zero, suc, ◌<◌, Bool, true, false, List, [], ◌∷◌, length, get_or, Some, refl, arith}
use Rattle.mlp_layout.specs.Layout.{Layout, number_of, seen, made, item}
use Rattle.mlp_layout.specs.Combined.{flag, chosen, present, times}
use Rattle.mlp_layout.specs.Allowed.{Allowed}

pub flag_fits : (b : Bool) → flag.Fits b
unfolding flag seen number_of
flag_fits true = (omega arith, refl)
flag_fits false = (omega arith, refl)

-- bytes
abbrev pub Small : List ℕ → Type 0
Small bytes = (i : ℕ) → get_or bytes i 0 < 256

pub times_fit : (n : ℕ) (bytes : List ℕ) → length bytes ≡ n → Small bytes → (times n (number_of 8)).Fits bytes
unfolding times made item number_of
times_fit zero [] e small = refl
times_fit zero (b ∷ bs) e small = absurd (omega arith)
times_fit (suc n) [] e small = absurd (omega arith)
times_fit (suc n) (b ∷ bs) e small = (small 0, times_fit n bs (omega arith) (λ i. small (suc i)))

-- ---- a value that is there

pub some_allowed : {A : Type 0} (l : Layout A) (x : A) → Allowed (present true l) (Some x) → Allowed l x
unfolding present chosen seen
some_allowed l x a = record { fits = a.fits.0; meets = a.meets }
