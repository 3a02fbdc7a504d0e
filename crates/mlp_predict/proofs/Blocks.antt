-- Steps over blocks, and how much of the past they see.
use Rattle.std.proofs.Common.{◌≡◌, ℕ, zero, suc, ◌+◌, ◌-◌, ◌<◌, ◌≤◌, List, [], ◌∷◌, ◌++◌, length, take, drop, get_or, ℤ, pos, ◌+ℤ◌, ◌-ℤ◌, ◌*ℤ◌, arith, refl, sym, ◌∙◌, ap, add-one, append_assoc}
use Rattle.std.proofs.Math.ListN.{set}
use Rattle.std.proofs.Common.{All}
use Rattle.std.proofs.Math.Seq.{drop-cons, take-suc, take-suc-set}
use Rattle.std.proofs.lemmas.List.{take-take, take_all}
use Rattle.std.proofs.Common.{replicate}
use Rattle.mlp_predict.proofs.Scaling.{dot-zeros}
use Rattle.mlp_arith.specs.Words.{floor_by, clear, wrap}
use Rattle.mlp_syntax.specs.declared.params.Filter.{Filter}
use Rattle.mlp_predict.specs.Filters.{scaled, coefficients, shift_where, filters_of}
use Rattle.mlp_predict.specs.Prediction.{dot, Past, Filters, predicted, restored, reduced, past_after, latest, outputs_of, residuals_of, past_of}

-- ---- the past is seen as far as the filters reach

pub dot-take : (cs vs : List ℤ) (n : ℕ) → length cs ≤ n → dot cs (take n vs) ≡ dot cs vs
dot-take [] vs n h = refl
dot-take (c ∷ cs) vs zero h = absurd (omega arith)
dot-take (c ∷ cs) [] (suc n) h = refl
dot-take (c ∷ cs) (v ∷ vs) (suc n) h = ap (λ z. c *ℤ v +ℤ z) (dot-take cs vs n (omega arith))

pub predicted-latest : (m n : ℕ) (f : Filters) (past : Past) → length f.fir ≤ m → length f.iir ≤ n → predicted f (latest m n past) ≡ predicted f past
predicted-latest m n f past a b =
    ap (λ z. floor_by f.shift (z +ℤ dot f.iir (take n past.differences))) (dot-take f.fir past.outputs m a)
    ∙ ap (λ z. floor_by f.shift (dot f.fir past.outputs +ℤ z)) (dot-take f.iir past.differences n b)

take_front : {A : Type 0} (n : ℕ) (x : A) (xs : List A) → take n (x ∷ take n xs) ≡ take n (x ∷ xs)
take_front zero x xs = refl
take_front (suc n) x xs = ap (λ ys. x ∷ ys) (take-take n (suc n) xs (omega arith))

pub latest_after : (m n : ℕ) (f : Filters) (past : Past) (x : ℤ) → length f.fir ≤ m → length f.iir ≤ n → latest m n (past_after f (latest m n past) x) ≡ latest m n (past_after f past x)
latest_after m n f past x a b =
    let d : ℤ = wrap (x -ℤ predicted f past) in
    ap (λ z. latest m n (record { outputs = x ∷ take m past.outputs; differences = wrap (x -ℤ z) ∷ take n past.differences })) (predicted-latest m n f past a b)
    ∙ ap (λ (xs : List ℤ). record { outputs = xs; differences = take n (d ∷ take n past.differences) }) (take_front m x past.outputs)
    ∙ ap (λ (es : List ℤ). record { outputs = take m (x ∷ past.outputs); differences = es }) (take_front n d past.differences)

pub outputs_of-latest : (m n : ℕ) (f : Filters) (past : Past) (q : ℕ) (rs : List ℤ) → length f.fir ≤ m → length f.iir ≤ n → outputs_of f (latest m n past) q rs ≡ outputs_of f past q rs
outputs_of-latest m n f past q [] a b = refl
outputs_of-latest m n f past q (r ∷ rs) a b =
    let x : ℤ = restored f past q r in
    let e : restored f (latest m n past) q r ≡ x = ap (λ p. wrap (clear q (p +ℤ r))) (predicted-latest m n f past a b) in
    ap (λ z. z ∷ outputs_of f (past_after f (latest m n past) z) q rs) e
    ∙ ap (λ ys. x ∷ ys)
    (sym (outputs_of-latest m n f (past_after f (latest m n past) x) q rs a b)
    ∙ ap (λ past'. outputs_of f past' q rs) (latest_after m n f past x a b)
    ∙ outputs_of-latest m n f (past_after f past x) q rs a b)

pub residuals_of-latest : (m n : ℕ) (f : Filters) (past : Past) (q : ℕ) (xs : List ℤ) → length f.fir ≤ m → length f.iir ≤ n → residuals_of f (latest m n past) q xs ≡ residuals_of f past q xs
residuals_of-latest m n f past q [] a b = refl
residuals_of-latest m n f past q (x ∷ xs) a b =
    ap (λ p. (x -ℤ clear q p) ∷ residuals_of f (past_after f (latest m n past) x) q xs) (predicted-latest m n f past a b)
    ∙ ap (λ ys. reduced f past q x ∷ ys)
    (sym (residuals_of-latest m n f (past_after f (latest m n past) x) q xs a b)
    ∙ ap (λ past'. residuals_of f past' q xs) (latest_after m n f past x a b)
    ∙ residuals_of-latest m n f (past_after f past x) q xs a b)

-- ---- one step more

pub past_of-append : (f : Filters) (past : Past) (xs : List ℤ) (x : ℤ) → past_of f past (xs ++ x ∷ []) ≡ past_after f (past_of f past xs) x
past_of-append f past [] x = refl
past_of-append f past (y ∷ ys) x = past_of-append f (past_after f past y) ys x

-- ---- filters that predict the same

pub outputs_of-same : (f g : Filters) (past : Past) (q : ℕ) (rs : List ℤ) → ((p : Past) → predicted f p ≡ predicted g p) → outputs_of f past q rs ≡ outputs_of g past q rs
outputs_of-same f g past q [] s = refl
outputs_of-same f g past q (r ∷ rs) s =
    let x : ℤ = restored g past q r in
    ap (λ p. wrap (clear q (p +ℤ r)) ∷ outputs_of f (past_after f past (wrap (clear q (p +ℤ r)))) q rs) (s past)
    ∙ ap (λ p. x ∷ outputs_of f (record { outputs = x ∷ past.outputs; differences = wrap (x -ℤ p) ∷ past.differences }) q rs) (s past)
    ∙ ap (λ ys. x ∷ ys) (outputs_of-same f g (past_after g past x) q rs s)

pub residuals_of-same : (f g : Filters) (past : Past) (q : ℕ) (xs : List ℤ) → ((p : Past) → predicted f p ≡ predicted g p) → residuals_of f past q xs ≡ residuals_of g past q xs
residuals_of-same f g past q [] s = refl
residuals_of-same f g past q (x ∷ xs) s =
    ap (λ p. (x -ℤ clear q p) ∷ residuals_of f (record { outputs = x ∷ past.outputs; differences = wrap (x -ℤ p) ∷ past.differences }) q xs) (s past)
    ∙ ap (λ ys. reduced g past q x ∷ ys) (residuals_of-same f g (past_after g past x) q xs s)

pub past_of-same : (f g : Filters) (past : Past) (xs : List ℤ) → ((p : Past) → predicted f p ≡ predicted g p) → past_of f past xs ≡ past_of g past xs
past_of-same f g past [] s = refl
past_of-same f g past (x ∷ xs) s =
    ap (λ p. past_of f (record { outputs = x ∷ past.outputs; differences = wrap (x -ℤ p) ∷ past.differences }) xs) (s past)
    ∙ past_of-same f g (past_after g past x) xs s

-- zeros behind the coefficients change no prediction
pub predicted-zeros : (cs ds : List ℤ) (a b s : ℕ) (past : Past) → predicted (record { fir = cs ++ replicate a (pos 0); iir = ds ++ replicate b (pos 0); shift = s }) past ≡ predicted (record { fir = cs; iir = ds; shift = s }) past
predicted-zeros cs ds a b s past =
    ap (λ z. floor_by s (z +ℤ dot (ds ++ replicate b (pos 0)) past.differences)) (dot-zeros cs past.outputs a)
    ∙ ap (λ z. floor_by s (dot cs past.outputs +ℤ z)) (dot-zeros ds past.differences b)

-- ---- what is put in front

pub take_pushed : {A : Type 0} (n : ℕ) (x : A) (xs : List A) → 0 < n → take n (x ∷ xs) ≡ x ∷ take (n - 1) xs
take_pushed zero x xs h = absurd (omega arith)
take_pushed (suc n) x xs h = ap (λ (k : ℕ). x ∷ take k xs) (let e : n ≡ suc n - 1 = omega arith in e)

pub latest_all : (m n : ℕ) (past : Past) → length past.outputs ≡ m → length past.differences ≡ n → past ≡ latest m n past
latest_all m n past a b = sym
    (ap (λ (xs : List ℤ). record { outputs = xs; differences = take n past.differences }) (take_all m past.outputs (omega arith))
    ∙ ap (λ (es : List ℤ). record { outputs = past.outputs; differences = es }) (take_all n past.differences (omega arith)))

-- prepared coefficients predict as the filters that they are from
pub prepared : {F I : ℕ} (fir : Filter F) (iir : Filter I) (cs ds xs ys : List ℤ) (a b shift : ℕ) → xs ≡ fir.coeffs.items → ys ≡ iir.coeffs.items →
    cs ≡ scaled fir.coeff_shift xs ++ replicate a (pos 0) → ds ≡ scaled iir.coeff_shift ys ++ replicate b (pos 0) → shift ≡ shift_where fir.coeffs.items fir.shift iir.shift →
    (past : Past) → predicted (record { fir = cs; iir = ds; shift = shift }) past ≡ predicted (filters_of fir iir) past
prepared fir iir cs ds xs ys a b shift e1 e2 e3 e4 e5 past =
    let c : cs ≡ coefficients fir ++ replicate a (pos 0) = e3 ∙ ap (λ zs. scaled fir.coeff_shift zs ++ replicate a (pos 0)) e1 in
    let d : ds ≡ coefficients iir ++ replicate b (pos 0) = e4 ∙ ap (λ zs. scaled iir.coeff_shift zs ++ replicate b (pos 0)) e2 in
    ap (λ zs. predicted (record { fir = zs; iir = ds; shift = shift }) past) c
    ∙ ap (λ zs. predicted (record { fir = coefficients fir ++ replicate a (pos 0); iir = zs; shift = shift }) past) d
    ∙ ap (λ n. predicted (record { fir = coefficients fir ++ replicate a (pos 0); iir = coefficients iir ++ replicate b (pos 0); shift = n }) past) e5
    ∙ predicted-zeros (coefficients fir) (coefficients iir) a b (shift_where fir.coeffs.items fir.shift iir.shift) past

-- ---- residuals, one step more

pub residuals_step : (m n : ℕ) (f : Filters) (past : Past) (q : ℕ) (xs out all : List ℤ) (i : ℕ) (r : ℤ) (after : Past) → length f.fir ≤ m → length f.iir ≤ n → i < length xs → i < length out →
    r ≡ reduced f past q (get_or xs i (pos 0)) → after ≡ latest m n (past_after f past (get_or xs i (pos 0))) →
    take i out ++ residuals_of f past q (drop i xs) ≡ all → take (i + 1) (set out i r) ++ residuals_of f after q (drop (i + 1) xs) ≡ all
residuals_step m n f past q xs out all i r after a b h k v w e =
    let x : ℤ = get_or xs i (pos 0) in
    let head : residuals_of f past q (drop i xs) ≡ r ∷ residuals_of f (past_after f past x) q (drop (suc i) xs) =
    ap (residuals_of f past q) (drop-cons xs i (pos 0) h) ∙ ap (λ z. z ∷ residuals_of f (past_after f past x) q (drop (suc i) xs)) (sym v) in
    rw add-one
    (ap (λ ys. ys ++ residuals_of f after q (drop (suc i) xs)) (take-suc-set out i r k)
    ∙ append_assoc (take i out) (r ∷ []) (residuals_of f after q (drop (suc i) xs))
    ∙ ap (λ past'. take i out ++ (r ∷ residuals_of f past' q (drop (suc i) xs))) w
    ∙ ap (λ ys. take i out ++ (r ∷ ys)) (residuals_of-latest m n f (past_after f past x) q (drop (suc i) xs) a b)
    ∙ sym (ap (λ ys. take i out ++ ys) head)
    ∙ e)

-- the past that samples leave, of which one more is seen
pub past_step_seen : (m n : ℕ) (f : Filters) (first past : Past) (xs : List ℤ) (i : ℕ) (after : Past) → length f.fir ≤ m → length f.iir ≤ n → i < length xs →
    after ≡ latest m n (past_after f past (get_or xs i (pos 0))) → past ≡ latest m n (past_of f first (take i xs)) → after ≡ latest m n (past_of f first (take (i + 1) xs))
past_step_seen m n f first past xs i after a b h w e =
    let x : ℤ = get_or xs i (pos 0) in
    let before : Past = past_of f first (take i xs) in
    w ∙ ap (λ past'. latest m n (past_after f past' x)) e ∙ latest_after m n f before x a b
    ∙ sym (rw add-one (ap (λ ys. latest m n (past_of f first ys)) (take-suc xs i (pos 0) h) ∙ ap (latest m n) (past_of-append f first (take i xs) x)))

-- a residual that doesn't fit is one of them
pub refuted : (P : ℤ → Type 0) (front rest all : List ℤ) (r : ℤ) → front ++ r ∷ rest ≡ all → All P all → P r
refuted P front rest all r e h = there P front rest r (rw (← e) at h)
  where
    there : (P : ℤ → Type 0) (front rest : List ℤ) (r : ℤ) → All P (front ++ r ∷ rest) → P r
    there P [] rest r h = h 0 (pos 0) (omega arith)
    there P (y ∷ front) rest r h = there P front rest r (λ k d l. h (suc k) d (omega arith))

-- each value so far passes, and so does one more
pub fit_step : (P : ℤ → Type 0) (xs : List ℤ) (i : ℕ) (y : ℤ) → i < length xs → P y → All P (take i xs) → All P (take (i + 1) (set xs i y))
fit_step P xs i y h p all = rw (add-one, take-suc-set xs i y h) (behind P (take i xs) y p all)
  where
    behind : (P : ℤ → Type 0) (xs : List ℤ) (y : ℤ) → P y → All P xs → All P (xs ++ y ∷ [])
    behind P [] y p all zero d l = p
    behind P [] y p all (suc k) d l = absurd (omega arith)
    behind P (x ∷ xs) y p all zero d l = all zero d (omega arith)
    behind P (x ∷ xs) y p all (suc k) d l = behind P xs y p (λ j e m. all (suc j) e (omega arith)) k d (omega arith)
