-- One coefficient more, and one order more.
use Rattle.std.proofs.Common.{◌≡◌, ℕ, zero, suc, ◌+◌, ◌-◌, ◌<◌, List, [], ◌∷◌, ◌++◌, length, drop, get_or, ℤ, pos, ◌-ℤ◌, ◌*ℤ◌, arith, refl, sym, ◌∙◌, ap, append_assoc}
use Rattle.std.proofs.Math.Seq.{drop-cons}
use Rattle.mlp_arith.specs.Words.{floor_by}
use Rattle.mlp_levinson.specs.Computed.{at, lags_down, lessened}

-- the lags from the last one down
pub lags_down-at : (rs : List ℤ) (m j : ℕ) → j < m → get_or (lags_down rs m) j (pos 0) ≡ at rs (m - j)
lags_down-at rs zero j h = absurd (omega arith)
lags_down-at rs (suc m) zero h = ap (at rs) (let e : suc m ≡ suc m - 0 = omega arith in e)
lags_down-at rs (suc m) (suc j) h = lags_down-at rs m j (omega arith) ∙ ap (at rs) (let e : m - j ≡ suc m - suc j = omega arith in e)

pub length-lags_down : (rs : List ℤ) (m : ℕ) → length (lags_down rs m) ≡ m
length-lags_down rs zero = refl
length-lags_down rs (suc m) = ap suc (length-lags_down rs m)

-- one coefficient more
pub lessened_step : (k : ℤ) (ps bs done all : List ℤ) (j : ℕ) (a : ℤ) → j < length ps → j < length bs → a ≡ get_or ps j (pos 0) -ℤ floor_by 20 (k *ℤ get_or bs j (pos 0)) →
    done ++ lessened k (drop j ps) (drop j bs) ≡ all → (done ++ a ∷ []) ++ lessened k (drop (j + 1) ps) (drop (j + 1) bs) ≡ all
lessened_step k ps bs done all j a h g is e =
    let one : j + 1 ≡ suc j = omega arith in
    append_assoc done (a ∷ []) (lessened k (drop (j + 1) ps) (drop (j + 1) bs))
    ∙ ap (λ (n : ℕ). done ++ a ∷ lessened k (drop n ps) (drop n bs)) one
    ∙ ap (λ z. done ++ z ∷ lessened k (drop (suc j) ps) (drop (suc j) bs)) is
    ∙ sym (ap (λ xs. done ++ lessened k xs (drop j bs)) (drop-cons ps j (pos 0) h)
    ∙ ap (λ xs. done ++ lessened k (get_or ps j (pos 0) ∷ drop (suc j) ps) xs) (drop-cons bs j (pos 0) g))
    ∙ e
