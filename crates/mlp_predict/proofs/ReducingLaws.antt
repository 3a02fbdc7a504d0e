-- The residuals of a block of a channel without an IIR, from the line that it lies in.
use Rattle.std.proofs.Common.{◌≡◌, ℕ, ◌+◌, ◌-◌, ◌<◌, List, [], ◌∷◌, ◌++◌, length, take, drop, get_or, reverse, replicate, ℤ, pos, ◌-ℤ◌, arith, refl, sym, ◌∙◌, ap, append_assoc, suc}
use Rattle.std.proofs.Math.ListN.{set}
use Rattle.std.proofs.Math.Seq.{drop-cons, take-suc, take-suc-set}
use Rattle.std.proofs.lemmas.List.{take_at, drop_at, reverse-append, length-append, length-replicate, length-reverse}
use Rattle.mlp_arith.specs.Words.{wrap, clear}
use Rattle.mlp_predict.specs.Prediction.{Past, Filters, predicted, reduced, past_after, residuals_of, with_zeros}
use Rattle.mlp_predict.proofs.Padding.{predicted-with_zeros, past_after-with_zeros}
use Rattle.mlp_predict.proofs.Blocks.{residuals_of-same}
use Rattle.mlp_predict.proofs.LineLaws.{front_reversed}
use Rattle.mlp_predict.proofs.AloneLaws.{fir_alone, past_by}

-- which differences there were changes no residual
residuals_of-alone : (fs : List ℤ) (s q : ℕ) (xs ds es rs : List ℤ) → residuals_of (fir_alone fs s) (past_by xs ds) q rs ≡ residuals_of (fir_alone fs s) (past_by xs es) q rs
residuals_of-alone fs s q xs ds es [] = refl
residuals_of-alone fs s q xs ds es (x ∷ rs) =
    let d : ℤ = wrap (x -ℤ predicted (fir_alone fs s) (past_by xs ds)) in
    ap (λ (ys : List ℤ). reduced (fir_alone fs s) (past_by xs ds) q x ∷ ys) (residuals_of-alone fs s q (x ∷ xs) (d ∷ ds) (d ∷ es) rs)

-- zeros behind a past change no residual
residuals_of-with_zeros : (m n : ℕ) (f : Filters) (past : Past) (q : ℕ) (xs : List ℤ) → residuals_of f (with_zeros m n past) q xs ≡ residuals_of f past q xs
residuals_of-with_zeros m n f past q [] = refl
residuals_of-with_zeros m n f past q (x ∷ xs) =
    let older : Past = with_zeros m n past in
    ap (λ p. (x -ℤ clear q p) ∷ residuals_of f (past_after f older x) q xs) (predicted-with_zeros m n f past)
    ∙ ap (λ (p : Past). reduced f past q x ∷ residuals_of f p q xs) (past_after-with_zeros m n f past x)
    ∙ ap (λ (ys : List ℤ). reduced f past q x ∷ ys) (residuals_of-with_zeros m n f (past_after f past x) q xs)

-- the residuals of what stands in a line from place j on
abbrev pub left_at : List ℤ → ℕ → ℕ → List ℤ → ℕ → List ℤ
left_at fs s q line j = residuals_of (fir_alone fs s) (past_by (reverse (take j line)) []) q (drop j line)

-- the first of them
pub left_first : (fs : List ℤ) (s q : ℕ) (line : List ℤ) (j : ℕ) → j < length line →
    left_at fs s q line j ≡ reduced (fir_alone fs s) (past_by (reverse (take j line)) []) q (get_or line j (pos 0)) ∷ left_at fs s q line (suc j)
left_first fs s q line j h =
    let f : Filters = fir_alone fs s in
    let older : List ℤ = reverse (take j line) in
    let x : ℤ = get_or line j (pos 0) in
    let d : ℤ = wrap (x -ℤ predicted f (past_by older [])) in
    let latest : reverse (take (suc j) line) ≡ x ∷ older = ap reverse (take-suc line j (pos 0) h) ∙ reverse-append (take j line) (x ∷ []) in
    ap (residuals_of f (past_by older []) q) (drop-cons line j (pos 0) h)
    ∙ ap (λ (ys : List ℤ). reduced f (past_by older []) q x ∷ ys) (residuals_of-alone fs s q (x ∷ older) (d ∷ []) [] (drop (suc j) line))
    ∙ ap (λ (ys : List ℤ). reduced f (past_by older []) q x ∷ residuals_of f (past_by ys []) q (drop (suc j) line)) (sym latest)

-- one more is put
pub left_step : (fs : List ℤ) (s q : ℕ) (line out all : List ℤ) (i : ℕ) (r : ℤ) → 16 + i < length line → i < length out →
    r ≡ reduced (fir_alone fs s) (past_by (reverse (take (16 + i) line)) []) q (get_or line (16 + i) (pos 0)) →
    take i out ++ left_at fs s q line (16 + i) ≡ all → take (i + 1) (set out i r) ++ left_at fs s q line (16 + (i + 1)) ≡ all
left_step fs s q line out all i r h k v e =
    let j : ℕ = 16 + i in
    let next : 16 + (i + 1) ≡ suc j = omega arith in
    let more : i + 1 ≡ suc i = omega arith in
    let later : List ℤ = left_at fs s q line (suc j) in
    ap (λ (n : ℕ). take (i + 1) (set out i r) ++ left_at fs s q line n) next
    ∙ ap (λ (n : ℕ). take n (set out i r) ++ later) more
    ∙ ap (λ (ys : List ℤ). ys ++ later) (take-suc-set out i r k)
    ∙ append_assoc (take i out) (r ∷ []) later
    ∙ ap (λ (y : ℤ). take i out ++ y ∷ later) v
    ∙ ap (λ (ys : List ℤ). take i out ++ ys) (sym (left_first fs s q line j h))
    ∙ e

-- the whole block behind the latest outputs
pub left_in_line : (fs : List ℤ) (s q k : ℕ) (vs ds block line : List ℤ) → length vs + k ≡ 16 → line ≡ (replicate k (pos 0) ++ reverse vs) ++ block →
    left_at fs s q line 16 ≡ residuals_of (fir_alone fs s) (past_by vs ds) q block
left_in_line fs s q k vs ds block line sum e =
    let f : Filters = fir_alone fs s in
    let older : List ℤ = replicate k (pos 0) ++ reverse vs in
    let long : length older ≡ 16 = omega (arith, sum, length-append (replicate k (pos 0)) (reverse vs), length-replicate k (pos 0), length-reverse vs) in
    let front : reverse (take 16 line) ≡ vs ++ replicate k (pos 0) = ap reverse (ap (take 16) e ∙ take_at older block 16 long) ∙ front_reversed k vs in
    let behind : drop 16 line ≡ block = ap (drop 16) e ∙ drop_at older block 16 long in
    ap (λ (ys : List ℤ). residuals_of f (past_by ys []) q (drop 16 line)) front
    ∙ ap (residuals_of f (past_by (vs ++ replicate k (pos 0)) []) q) behind
    ∙ residuals_of-with_zeros k 0 f (past_by vs []) q block
    ∙ residuals_of-alone fs s q vs [] ds block

-- filters that predict the same, and what there was before the latest outputs
pub left_by : (fs : List ℤ) (s q : ℕ) (vs ds : List ℤ) (past : Past) (given : Filters) (xs : List ℤ) → past_by vs ds ≡ past → ((p : Past) → predicted (fir_alone fs s) p ≡ predicted given p) →
    residuals_of (fir_alone fs s) (past_by vs []) q xs ≡ residuals_of given past q xs
left_by fs s q vs ds past given xs here same =
    residuals_of-alone fs s q vs [] ds xs
    ∙ ap (λ (p : Past). residuals_of (fir_alone fs s) p q xs) here
    ∙ residuals_of-same (fir_alone fs s) given past q xs same
