-- Folded values, one after the other.
use Rattle.std.proofs.Common.{◌≡◌, ℕ, zero, suc, ◌<◌, ◌≤◌, ℤ, pos, negsuc, neg_ℤ, ◌-ℤ◌, ◌*ℤ◌, ◌≤ℤ◌, List, [], ◌∷◌, length, get_or, arith, refl, sym, ◌∙◌, ap, inl, inr}
use Rattle.std.specs.Prelude.{max, ◌⊎◌}
use Rattle.std.specs.Int.{int_min, int_max}
use Rattle.std.proofs.lemmas.Int.{ints, clamps}
use Rattle.std.proofs.lemmas.Bool.{cases_lt}
use Rattle.mlp_search.specs.Candidates.{least_from, least_of, greatest_from, greatest_of}
use Rattle.mlp_search.specs.Folded.{folded, all_folded, top_of, all_symbol_bits}

-- ---- one more value

pub element_below : (m : ℤ) (vs : List ℤ) (i : ℕ) → i < length vs → folded (get_or vs i (pos 0) -ℤ m) ≤ top_of (all_folded m vs)
element_below m [] i lt = absurd (omega (arith, lt))
element_below m (v ∷ vs) zero lt = omega arith
element_below m (v ∷ vs) (suc i) lt = let later = element_below m vs i (omega (arith, lt)) in omega (arith, later)

pub no_symbols : (b : ℕ) (us : List ℕ) → all_symbol_bits 0 b us ≡ 0
no_symbols b [] = refl
no_symbols b (u ∷ us) = let later = no_symbols b us in omega (arith, later)

-- ---- the greatest by the least and the greatest value

between : (a x b : ℤ) → a ≤ℤ x → x ≤ℤ b → folded x ≤ max (folded a) (folded b)
between a (pos n) (pos k) l h = omega (arith, ints, h)
between a (pos n) (negsuc k) l h = absurd (omega (arith, ints, h))
between (pos k) (negsuc n) b l h = absurd (omega (arith, ints, l))
between (negsuc k) (negsuc n) b l h = omega (arith, ints, l)

within : (l g x m : ℤ) → l ≤ℤ x → x ≤ℤ g → folded (x -ℤ m) ≤ max (folded (l -ℤ m)) (folded (g -ℤ m))
within l g x m a b = between (l -ℤ m) (x -ℤ m) (g -ℤ m) (omega (arith, ints, a)) (omega (arith, ints, b))

order_cases : (a b : ℤ) → (a ≤ℤ b) ⊎ (b ≤ℤ a)
order_cases (pos a) (pos b) = elim (cases_lt a b) [ inl lt ↦ inl (omega (arith, ints, lt)) | inr ge ↦ inr (omega (arith, ints, ge)) ]
order_cases (pos a) (negsuc b) = inr (omega (arith, ints))
order_cases (negsuc a) (pos b) = inl (omega (arith, ints))
order_cases (negsuc a) (negsuc b) = elim (cases_lt a b) [ inl lt ↦ inr (omega (arith, ints, lt)) | inr ge ↦ inl (omega (arith, ints, ge)) ]

spread : (l g w m : ℤ) → l ≤ℤ g → max (max (folded (l -ℤ m)) (folded (g -ℤ m))) (folded (w -ℤ m)) ≡ max (folded (int_min l w -ℤ m)) (folded (int_max g w -ℤ m))
spread l g w m le = elim (order_cases l w) [
  | inl above ↦ elim (order_cases g w) [
    | inl over ↦
        let low : int_min l w ≡ l = grind (arith, ints, above) in
        let high : int_max g w ≡ w = grind (arith, ints, over) in
        omega (arith, within l w g m le over, ap (λ (z : ℤ). folded (z -ℤ m)) low, ap (λ (z : ℤ). folded (z -ℤ m)) high)
    | inr under ↦
        let low : int_min l w ≡ l = grind (arith, ints, above) in
        let high : int_max g w ≡ g = grind (arith, ints, under) in
        omega (arith, within l g w m above under, ap (λ (z : ℤ). folded (z -ℤ m)) low, ap (λ (z : ℤ). folded (z -ℤ m)) high)
  ]
  | inr below ↦
      let low : int_min l w ≡ w = grind (arith, ints, below) in
      let high : int_max g w ≡ g = grind (arith, ints, below, le) in
      omega (arith, within w g l m below le, ap (λ (z : ℤ). folded (z -ℤ m)) low, ap (λ (z : ℤ). folded (z -ℤ m)) high)
]

tops : (m l g : ℤ) (vs : List ℤ) → l ≤ℤ g → max (max (folded (l -ℤ m)) (folded (g -ℤ m))) (top_of (all_folded m vs)) ≡ max (folded (least_from l vs -ℤ m)) (folded (greatest_from g vs -ℤ m))
tops m l g [] le = omega arith
tops m l g (w ∷ vs) le =
    let first : max (max (folded (l -ℤ m)) (folded (g -ℤ m))) (max (folded (w -ℤ m)) (top_of (all_folded m vs))) ≡ max (max (max (folded (l -ℤ m)) (folded (g -ℤ m))) (folded (w -ℤ m))) (top_of (all_folded m vs)) = omega arith in
    let still : int_min l w ≤ℤ int_max g w = grind (arith, ints, le) in
    first ∙ ap (λ (n : ℕ). max n (top_of (all_folded m vs))) (spread l g w m le) ∙ tops m (int_min l w) (int_max g w) vs still

pub top_is : (m : ℤ) (vs : List ℤ) → 0 < length vs → top_of (all_folded m vs) ≡ max (folded (least_of vs -ℤ m)) (folded (greatest_of vs -ℤ m))
top_is m [] lt = absurd (omega (arith, lt))
top_is m (v ∷ vs) lt =
    let twice : max (folded (v -ℤ m)) (top_of (all_folded m vs)) ≡ max (max (folded (v -ℤ m)) (folded (v -ℤ m))) (top_of (all_folded m vs)) = omega arith in
    twice ∙ tops m v v vs (omega (arith, ints))

ordered : (l g : ℤ) (vs : List ℤ) → l ≤ℤ g → least_from l vs ≤ℤ greatest_from g vs
ordered l g [] le = le
ordered l g (v ∷ vs) le = ordered (int_min l v) (int_max g v) vs (grind (arith, ints, le))

pub ends_ordered : (vs : List ℤ) → least_of vs ≤ℤ greatest_of vs
ends_ordered [] = omega (arith, ints)
ends_ordered (v ∷ vs) = ordered v v vs (omega (arith, ints))

-- the greater folded value of two is that of the greater or that of the less
folded_ends : (b a : ℤ) → b ≤ℤ a → pos (max (folded b) (folded a)) ≡ int_max (pos 2 *ℤ a) (neg_ℤ (pos 1) -ℤ pos 2 *ℤ b)
folded_ends (pos m) (pos n) le = omega (arith, ints, clamps, le)
folded_ends (pos m) (negsuc n) le = absurd (omega (arith, ints, le))
folded_ends (negsuc m) (pos n) le = omega (arith, ints, clamps, le)
folded_ends (negsuc m) (negsuc n) le = omega (arith, ints, clamps, le)

top_ends : (m : ℤ) (vs : List ℤ) → (length vs ≡ 0 → m ≡ pos 0) → pos (top_of (all_folded m vs)) ≡ int_max (pos 2 *ℤ (greatest_of vs -ℤ m)) (neg_ℤ (pos 1) -ℤ pos 2 *ℤ (least_of vs -ℤ m))
top_ends m [] none = let e : m ≡ pos 0 = none refl in omega (arith, ints, clamps, e)
top_ends m (v ∷ vs) none =
    ap pos (top_is m (v ∷ vs) (omega arith))
    ∙ folded_ends (least_of (v ∷ vs) -ℤ m) (greatest_of (v ∷ vs) -ℤ m) (omega (arith, ints, ends_ordered (v ∷ vs)))

pub top_of_ends : (m a b l g : ℤ) (vs : List ℤ) → a ≡ pos 2 *ℤ (g -ℤ m) → b ≡ neg_ℤ (pos 1) -ℤ pos 2 *ℤ (l -ℤ m) → l ≡ least_of vs → g ≡ greatest_of vs → (length vs ≡ 0 → m ≡ pos 0)
    → int_max a b ≡ pos (top_of (all_folded m vs))
top_of_ends m a b l g vs above below least greatest none =
    ap (λ (x : ℤ). int_max x b) (above ∙ ap (λ (v : ℤ). pos 2 *ℤ (v -ℤ m)) greatest)
    ∙ ap (λ (y : ℤ). int_max (pos 2 *ℤ (greatest_of vs -ℤ m)) y) (below ∙ ap (λ (v : ℤ). neg_ℤ (pos 1) -ℤ pos 2 *ℤ (v -ℤ m)) least)
    ∙ sym (top_ends m vs none)
