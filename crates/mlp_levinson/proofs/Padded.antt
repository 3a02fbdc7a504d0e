-- Values with zeros behind them.
use Rattle.std.proofs.Common.{◌≡◌, ℕ, zero, suc, ◌+◌, ◌-◌, List, [], ◌∷◌, ◌++◌, length, take, drop, set, replicate, ℤ, pos, ◌*ℤ◌, ◌+ℤ◌, arith, refl, sym, ◌∙◌, ap, subst}
use Rattle.std.specs.Prelude.{All}
use Rattle.std.proofs.lemmas.Int.{ints}
use Rattle.std.proofs.lemmas.List.{drop-drop, drop-replicate, drop-set-lt, take-append-drop}
use Rattle.std.proofs.lemmas.List.Elements.{All-append, All-replicate}
use Rattle.mlp_arith.specs.Ranges.{Is26}
use Rattle.mlp_predict.specs.Prediction.{dot}
use Rattle.mlp_predict.proofs.Padding.{dot-zeros_behind}
use Rattle.mlp_levinson.specs.Computed.{over, lag}
use Rattle.mlp_levinson.proofs.LagBounds.{over26}

drop-zeros : (j m : ℕ) (ys : List ℤ) → drop j (ys ++ replicate m (pos 0)) ≡ drop j ys ++ replicate (m - (j - length ys)) (pos 0)
drop-zeros zero m ys = ap (λ n. ys ++ replicate n (pos 0)) (omega arith)
drop-zeros (suc j) m [] = drop-replicate (suc j) m (pos 0) ∙ ap (λ n. replicate n (pos 0)) (omega arith)
drop-zeros (suc j) m (y ∷ ys) = drop-zeros j m ys ∙ ap (λ n. drop j ys ++ replicate (m - n) (pos 0)) (omega arith)

dot-swap : (xs ys : List ℤ) → dot xs ys ≡ dot ys xs
dot-swap [] [] = refl
dot-swap [] (y ∷ ys) = refl
dot-swap (x ∷ xs) [] = refl
dot-swap (x ∷ xs) (y ∷ ys) =
    let e = dot-swap xs ys in
    let p : x *ℤ y ≡ y *ℤ x = omega (arith, ints) in
    ap (λ z. z +ℤ dot xs ys) p ∙ ap (λ z. y *ℤ x +ℤ z) e

-- each value with the one that stands j behind it, or with a zero
pub lag_is : (line : List ℤ) (n j : ℕ) → drop n line ≡ replicate (168 - n) (pos 0) → dot (take n line) (drop j line) ≡ lag (take n line) j
lag_is line n j e =
    let ys : List ℤ = take n line in
    let whole : line ≡ ys ++ replicate (168 - n) (pos 0) = sym (take-append-drop n line) ∙ ap (λ zs. ys ++ zs) e in
    ap (λ (xs : List ℤ). dot (take n line) (drop j xs)) whole
    ∙ ap (λ xs. dot ys xs) (drop-zeros j (168 - n) ys)
    ∙ dot-zeros_behind ys (drop j ys) (168 - n - (j - length ys))
    ∙ dot-swap ys (drop j ys)

-- the next value put before the zeros
pub zeros_after : (line : List ℤ) (i : ℕ) (v : ℤ) → drop i line ≡ replicate (168 - i) (pos 0) → drop (i + 1) (set line i v) ≡ replicate (168 - (i + 1)) (pos 0)
zeros_after line i v e =
    drop-set-lt (i + 1) line i v (omega arith)
    ∙ sym (drop-drop 1 i line)
    ∙ ap (drop 1) e
    ∙ drop-replicate 1 (168 - i) (pos 0)
    ∙ ap (λ n. replicate n (pos 0)) (omega arith)

-- all of it has 26 bits
pub padded26 : (line : List ℤ) (step n : ℕ) (samples : List ℤ) → take n line ≡ over step samples → drop n line ≡ replicate (168 - n) (pos 0) → All Is26 samples → All Is26 line
padded26 line step n samples first rest h =
    let P : List ℤ → Type 0 = λ zs. All Is26 zs in
    let zero26 : Is26 (pos 0) = record { low = omega (arith, ints); high = omega (arith, ints) } in
    let front : P (take n line) = subst P (sym first) (over26 step samples h) in
    let behind : P (drop n line) = subst P (sym rest) (All-replicate Is26 (168 - n) (pos 0) zero26) in
    subst P (take-append-drop n line) (All-append Is26 (take n line) (drop n line) front behind)
