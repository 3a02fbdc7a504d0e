-- Zeros behind a past: no filter sees them.
use Rattle.std.proofs.Common.{◌≡◌, ℕ, zero, suc, ◌+◌, ◌≤◌, List, [], ◌∷◌, ◌++◌, length, take, ℤ, pos, ◌+ℤ◌, ◌-ℤ◌, ◌*ℤ◌, arith, refl, sym, ◌∙◌, ap, replicate}
use Rattle.std.proofs.lemmas.Int.{ints}
use Rattle.std.proofs.lemmas.List.{take-replicate, take-append-le}
use Rattle.std.proofs.Math.Seq.{drop-nil, take-nil}
use Rattle.mlp_arith.specs.Words.{floor_by, clear, wrap}
use Rattle.mlp_predict.specs.Prediction.{dot, Past, Filters, predicted, restored, replaced, past_after, with_state, latest, with_zeros, outputs_of, past_of}

-- ---- one list

-- zeros as values add nothing to a sum
pub dot-zeros_behind : (cs vs : List ℤ) (n : ℕ) → dot cs (vs ++ replicate n (pos 0)) ≡ dot cs vs
dot-zeros_behind [] vs n = refl
dot-zeros_behind (c ∷ cs) [] zero = refl
dot-zeros_behind (c ∷ cs) [] (suc n) = let e : dot cs (replicate n (pos 0)) ≡ dot cs [] = dot-zeros_behind cs [] n in nothing cs e
  where
    nothing : (ds : List ℤ) → dot ds (replicate n (pos 0)) ≡ dot ds [] → c *ℤ pos 0 +ℤ dot ds (replicate n (pos 0)) ≡ pos 0
    nothing [] e = omega (arith, ints)
    nothing (d ∷ ds) e = omega (arith, ints, e)
dot-zeros_behind (c ∷ cs) (v ∷ vs) n = ap (λ z. c *ℤ v +ℤ z) (dot-zeros_behind cs vs n)

-- the first n values, if there are enough zeros
take_zeros : (n a b : ℕ) (vs : List ℤ) → n ≤ length vs + a → n ≤ length vs + b → take n (vs ++ replicate a (pos 0)) ≡ take n (vs ++ replicate b (pos 0))
take_zeros n a b [] h k = take-replicate n a (pos 0) (omega arith) ∙ sym (take-replicate n b (pos 0) (omega arith))
take_zeros zero a b (v ∷ vs) h k = refl
take_zeros (suc n) a b (v ∷ vs) h k = ap (λ (xs : List ℤ). v ∷ xs) (take_zeros n a b vs (omega arith) (omega arith))

-- a state goes in front of the zeros
replaced_zeros : (n a b : ℕ) (state vs : List ℤ) → length state ≤ n → n ≤ length vs + a → n ≤ length vs + b →
    take n (replaced state (vs ++ replicate a (pos 0))) ≡ take n (replaced state vs ++ replicate b (pos 0))
replaced_zeros n a b [] vs l h k = take_zeros n a b vs h k
replaced_zeros zero a b (s ∷ state) vs l h k = refl
replaced_zeros (suc n) a b (s ∷ state) (v ∷ vs) l h k = ap (λ (xs : List ℤ). s ∷ xs) (replaced_zeros n a b state vs (omega arith) (omega arith) (omega arith))
replaced_zeros (suc n) zero b (s ∷ state) [] l h k = absurd (omega arith)
replaced_zeros (suc n) (suc a) b (s ∷ state) [] l h k =
    ap (λ (xs : List ℤ). s ∷ xs)
    (replaced_zeros n a b state [] (omega arith) (omega arith) (omega arith)
    ∙ ap (λ (xs : List ℤ). take n ((state ++ xs) ++ replicate b (pos 0))) (drop-nil (length state)))

-- the latest values with a state in front
take-replaced : (n : ℕ) (state vs : List ℤ) → length state ≤ n → replaced state (take n vs) ≡ take n (replaced state vs)
take-replaced n [] vs l = refl
take-replaced zero (s ∷ state) vs l = absurd (omega arith)
take-replaced (suc n) (s ∷ state) [] l = ap (λ (xs : List ℤ). s ∷ xs)
    (ap (λ (xs : List ℤ). state ++ xs) (sym (drop-nil (length state)))
    ∙ ap (λ (xs : List ℤ). replaced state xs) (sym (take-nil n))
    ∙ take-replaced n state [] (omega arith)
    ∙ ap (λ (xs : List ℤ). take n (state ++ xs)) (drop-nil (length state)))
take-replaced (suc n) (s ∷ state) (v ∷ vs) l = ap (λ (xs : List ℤ). s ∷ xs) (take-replaced n state vs (omega arith))

-- ---- a past

pub predicted-with_zeros : (m n : ℕ) (f : Filters) (past : Past) → predicted f (with_zeros m n past) ≡ predicted f past
predicted-with_zeros m n f past =
    ap (λ z. floor_by f.shift (z +ℤ dot f.iir (past.differences ++ replicate n (pos 0)))) (dot-zeros_behind f.fir past.outputs m)
    ∙ ap (λ z. floor_by f.shift (dot f.fir past.outputs +ℤ z)) (dot-zeros_behind f.iir past.differences n)

pub past_after-with_zeros : (m n : ℕ) (f : Filters) (past : Past) (x : ℤ) → past_after f (with_zeros m n past) x ≡ with_zeros m n (past_after f past x)
past_after-with_zeros m n f past x =
    let older : Past = with_zeros m n past in
    ap (λ p. record { outputs = x ∷ older.outputs; differences = wrap (x -ℤ p) ∷ older.differences }) (predicted-with_zeros m n f past)

pub with_state-latest : (m n : ℕ) (state : List ℤ) (past : Past) → length state ≤ n → with_state state (latest m n past) ≡ latest m n (with_state state past)
with_state-latest m n state past l = ap (λ (es : List ℤ). record { outputs = take m past.outputs; differences = es }) (take-replaced n state past.differences l)

pub with_state-with_zeros : (m n : ℕ) (state : List ℤ) (past : Past) → length state ≤ n → latest m n (with_state state (with_zeros m n past)) ≡ latest m n (with_zeros m n (with_state state past))
with_state-with_zeros m n state past l =
    ap (λ (es : List ℤ). record { outputs = take m (past.outputs ++ replicate m (pos 0)); differences = es })
    (replaced_zeros n n n state past.differences l (omega arith) (omega arith))

-- ---- a block

pub outputs_of-with_zeros : (m n : ℕ) (f : Filters) (past : Past) (q : ℕ) (rs : List ℤ) → outputs_of f (with_zeros m n past) q rs ≡ outputs_of f past q rs
outputs_of-with_zeros m n f past q [] = refl
outputs_of-with_zeros m n f past q (r ∷ rs) =
    let x : ℤ = restored f past q r in
    let older : Past = with_zeros m n past in
    ap (λ p. wrap (clear q (p +ℤ r)) ∷ outputs_of f (past_after f older (wrap (clear q (p +ℤ r)))) q rs) (predicted-with_zeros m n f past)
    ∙ ap (λ (p : Past). x ∷ outputs_of f p q rs) (past_after-with_zeros m n f past x)
    ∙ ap (λ (xs : List ℤ). x ∷ xs) (outputs_of-with_zeros m n f (past_after f past x) q rs)

pub past_of-with_zeros : (m n : ℕ) (f : Filters) (past : Past) (xs : List ℤ) → past_of f (with_zeros m n past) xs ≡ with_zeros m n (past_of f past xs)
past_of-with_zeros m n f past [] = refl
past_of-with_zeros m n f past (x ∷ xs) = ap (λ (p : Past). past_of f p xs) (past_after-with_zeros m n f past x) ∙ past_of-with_zeros m n f (past_after f past x) xs

-- as long as a past was, it is behind a block, and the latest values aren't the zeros
record IsLong (m n : ℕ) (past : Past) : Type 0 where
  outputs : m ≤ length past.outputs
  differences : n ≤ length past.differences

past_of_long : (m n : ℕ) (f : Filters) (past : Past) (xs : List ℤ) → IsLong m n past → IsLong m n (past_of f past xs)
past_of_long m n f past [] h = h
past_of_long m n f past (x ∷ xs) h = past_of_long m n f (past_after f past x) xs (record { outputs = omega (arith, h.outputs); differences = omega (arith, h.differences) })

pub latest-past_of : (m n a b : ℕ) (f : Filters) (past : Past) (xs : List ℤ) → m ≤ length past.outputs → n ≤ length past.differences →
    latest m n (with_zeros a b (past_of f past xs)) ≡ latest m n (past_of f past xs)
latest-past_of m n a b f past xs k l =
    let h : IsLong m n (past_of f past xs) = past_of_long m n f past xs (record { outputs = k; differences = l }) in
    let after : Past = past_of f past xs in
    ap (λ (ys : List ℤ). record { outputs = ys; differences = take n (after.differences ++ replicate b (pos 0)) }) (take-append-le m after.outputs (replicate a (pos 0)) h.outputs)
    ∙ ap (λ (ys : List ℤ). record { outputs = take m after.outputs; differences = ys }) (take-append-le n after.differences (replicate b (pos 0)) h.differences)
