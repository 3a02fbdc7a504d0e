-- Lists made one item after the other.
use Rattle.std.proofs.Common.{◌≡◌, ℕ, zero, suc, ◌+◌, ◌-◌, ◌<◌, ◌≤◌, List, [], ◌∷◌, ◌++◌, take, drop, map, length, sym, ap, ◌∙◌, arith, append_assoc}
use Rattle.std.proofs.Math.ListN.{set}
use Rattle.std.proofs.lemmas.List.{length-append, length-take-le, set-append_right, drop_more}
use Rattle.std.proofs.lemmas.List.FromFn.{map-range_with_len_more, length-map-range_with_len}
use Rattle.std.specs.List.{range_with_len}

pub range_more : (a n j : ℕ) → a + n ≡ j → range_with_len a (n + 1) ≡ range_with_len a n ++ j ∷ []
range_more a zero j e = let h : a ≡ j = omega (arith, e) in ap (λ (k : ℕ). k ∷ []) h
range_more a (suc n) j e =
    let s : suc n + 1 ≡ suc (n + 1) = omega arith in
    ap (range_with_len a) s ∙ ap (λ (ks : List ℕ). a ∷ ks) (range_more (a + 1) n j (omega (arith, e)))

-- one item more is put after those from one on
pub range_put : {A : Type 0} (old now : List A) (f : ℕ → A) (first k : ℕ) (d : A) → first ≤ k → k < length old → now ≡ (take first old ++ map f (range_with_len first (k - first))) ++ drop k old
    → set now k (f k) ≡ (take first old ++ map f (range_with_len first (k + 1 - first))) ++ drop (k + 1) old
range_put {A} old now f first k d from below e =
    let made : List A = map f (range_with_len first (k - first)) in
    let front : List A = take first old ++ made in
    let count : length front ≡ k = omega (arith, length-append (take first old) made, length-take-le first old (omega arith), length-map-range_with_len f first (k - first)) in
    let z : k - k ≡ 0 = omega arith in
    let n : k + 1 - first ≡ k - first + 1 = omega arith in
    let more : map f (range_with_len first (k + 1 - first)) ≡ made ++ f k ∷ [] =
    ap (λ (m : ℕ). map f (range_with_len first m)) n ∙ map-range_with_len_more f first (k - first) k (omega arith) in
    ap (λ (xs : List A). set xs k (f k)) e
    ∙ set-append_right front (drop k old) k k (f k) count (omega arith)
    ∙ ap (λ (m : ℕ). front ++ set (drop k old) m (f k)) z
    ∙ ap (λ (xs : List A). front ++ set xs 0 (f k)) (drop_more old k d below)
    ∙ sym (append_assoc front (f k ∷ []) (drop (k + 1) old))
    ∙ ap (λ (xs : List A). xs ++ drop (k + 1) old) (append_assoc (take first old) made (f k ∷ []))
    ∙ ap (λ (xs : List A). (take first old ++ xs) ++ drop (k + 1) old) (sym more)
