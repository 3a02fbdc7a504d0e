-- The bits of values in a book, told by their folded values.
use Rattle.std.proofs.Common.{◌≡◌, ℕ, zero, suc, ◌+◌, ◌-◌, ◌*◌, ◌/◌, ◌^◌, ◌<◌, ◌≤◌, ℤ, pos, ◌+ℤ◌, ◌-ℤ◌, Bool, true, false, List, [], ◌∷◌, length, map, Option, Some, None, arith, refl, sym, ◌∙◌, ap, subst, inl, inr, pow-suc, add-one}
use Rattle.std.specs.Prelude.{max, nat_lt, ◌||◌, if◌then◌else◌}
use Rattle.std.specs.Option.{option_map}
use Rattle.std.specs.Ordering.{int_eq}
use Rattle.std.proofs.lemmas.Int.{ints}
use Rattle.std.proofs.lemmas.Bool.{cases_lt, lt-ltb, le-ltb, ltb-true, ltb-false}
use Rattle.std.proofs.lemmas.Bool.Decides.{Decides-int_eq}
use Rattle.std.proofs.lemmas.Nat.{div-add-mod'}
use Rattle.std.proofs.Math.Nat.{mod-lt, div-mul-le_self, mul-le-mul_right, le_of_mul-le-mul_right}
use Rattle.std.proofs.Math.Pow.{pow_pos}
use Rattle.mlp_arith.specs.Words.{floor_by, clear}
use Rattle.mlp_residual.specs.Coding.{symbols_of, sign_offset, length_of}
use Rattle.mlp_residual.proofs.Codes.{floor_multiple, clear_whole}
use Rattle.mlp_search.specs.Candidates.{middle, middle_of}
use Rattle.mlp_search.specs.Cost.{is_offset, code_at, code_for, sum_of, bits_for}
use Rattle.mlp_search.specs.Folded.{stepped, folded, symbol_bits, all_folded, top_of, all_symbol_bits, raised_sum}
use Rattle.mlp_search.proofs.BoundLaws.{same_order}
use Rattle.mlp_search.proofs.FoldLaws.{told, told_some, told_none, length_told}

-- ---- one value

floor_back : (step : ℕ) (v : ℤ) → floor_by step (stepped step v) ≡ v
floor_back step v = floor_multiple v (2 ^ step) (pow_pos step)

same_floor : (v : ℤ) → floor_by 0 v ≡ v
same_floor v = let one : v ≡ stepped 0 v = omega (arith, ints) in ap (floor_by 0) one ∙ floor_back 0 v

floors_back : (step : ℕ) (vs : List ℤ) → map (floor_by step) (map (stepped step) vs) ≡ vs
floors_back step [] = refl
floors_back step (v ∷ vs) = ap (λ (w : ℤ). w ∷ map (floor_by step) (map (stepped step) vs)) (floor_back step v) ∙ ap (λ (ws : List ℤ). v ∷ ws) (floors_back step vs)

-- values that are no longer counted in steps
pub no_floors : (vs : List ℤ) → map (floor_by 0) vs ≡ vs
no_floors [] = refl
no_floors (v ∷ vs) = ap (λ (w : ℤ). w ∷ map (floor_by 0) vs) (same_floor v) ∙ ap (λ (ws : List ℤ). v ∷ ws) (no_floors vs)

pub same_middle : (step : ℕ) (vs : List ℤ) → middle_of 0 vs ≡ middle_of step (map (stepped step) vs)
same_middle step vs = ap middle (no_floors vs ∙ sym (floors_back step vs))

pub middle_offset : (step : ℕ) (vs : List ℤ) (m : ℤ) → m ≡ middle_of 0 vs → is_offset step (map (stepped step) vs) m ≡ true
middle_offset step vs m e =
    let t : int_eq m (middle_of step (map (stepped step) vs)) ≡ true = (Decides-int_eq m (middle_of step (map (stepped step) vs))).1 (e ∙ same_middle step vs) in
    ap (λ (b : Bool). int_eq m (pos 0) || b) t ∙ or_true (int_eq m (pos 0))
  where
    or_true : (a : Bool) → (a || true) ≡ true
    or_true true = refl
    or_true false = refl

value_told : (book b step : ℕ) (m v : ℤ) → option_map (length_of book b) (code_for book b m step (stepped step v)) ≡ told book b (folded (v -ℤ m) / 2 ^ b)
value_told book b step m v =
    let r : ℤ = stepped step v in
    let whole : int_eq (clear step r) r ≡ true = (Decides-int_eq (clear step r) r).1 (clear_whole step v r refl) in
    ap (λ (t : Bool). option_map (length_of book b) (if t then code_at book b (floor_by step r -ℤ m +ℤ pos (sign_offset book b)) else None)) whole
    ∙ ap (λ (w : ℤ). option_map (length_of book b) (code_at book b (w -ℤ m +ℤ pos (sign_offset book b)))) (floor_back step v)
    ∙ length_told book b (v -ℤ m)

none_sum : (o : Option ℕ) → sum_of o None ≡ None
none_sum None = refl
none_sum (Some n) = refl

-- ---- all values

-- one value beyond the book
pub none_fit : (book b step : ℕ) (m : ℤ) (vs : List ℤ) → symbols_of book ≤ top_of (all_folded m vs) / 2 ^ b → 0 < symbols_of book → bits_for book b m step (map (stepped step) vs) ≡ None
none_fit book b step m [] h some = absurd (let z : 0 / 2 ^ b ≡ 0 = omega arith in omega (arith, h, some, z))
none_fit book b step m (v ∷ vs) h some =
    let u = folded (v -ℤ m) in
    let rest : Option ℕ = bits_for book b m step (map (stepped step) vs) in
    ap (λ (o : Option ℕ). sum_of o rest) (value_told book b step m v)
    ∙ (elim (cases_lt (folded (v -ℤ m) / 2 ^ b) (symbols_of book)) [
      | inr ge ↦ ap (λ (o : Option ℕ). sum_of o rest) (told_none book b (folded (v -ℤ m) / 2 ^ b) ge)
      | inl lt ↦
          let later : symbols_of book ≤ top_of (all_folded m vs) / 2 ^ b = greater (folded (v -ℤ m)) (top_of (all_folded m vs)) lt h in
          ap (sum_of (told book b (folded (v -ℤ m) / 2 ^ b))) (none_fit book b step m vs later some) ∙ none_sum (told book b (folded (v -ℤ m) / 2 ^ b))
    ])
  where
    greater : (u t : ℕ) → u / 2 ^ b < symbols_of book → symbols_of book ≤ max u t / 2 ^ b → symbols_of book ≤ t / 2 ^ b
    greater u t lt le = elim (cases_lt t u) [
      | inl less ↦ absurd (let e : max u t ≡ u = omega arith in omega (arith, lt, le, ap (λ (n : ℕ). n / 2 ^ b) e))
      | inr more ↦ let e : max u t ≡ t = omega arith in omega (arith, le, ap (λ (n : ℕ). n / 2 ^ b) e)
    ]

-- all values within it
pub all_fit : (book b step : ℕ) (m : ℤ) (vs : List ℤ) → top_of (all_folded m vs) / 2 ^ b < symbols_of book → bits_for book b m step (map (stepped step) vs) ≡ Some (length vs * b + all_symbol_bits book b (all_folded m vs))
all_fit book b step m [] h = ap Some (let e : 0 ≡ length {A = ℤ} [] * b + 0 = omega arith in e)
all_fit book b step m (v ∷ vs) h =
    let u = folded (v -ℤ m) in
    let t = top_of (all_folded m vs) in
    let here : folded (v -ℤ m) / 2 ^ b < symbols_of book =
    omega (arith, h, same_order (folded (v -ℤ m)) (max (folded (v -ℤ m)) (top_of (all_folded m vs))) (2 ^ b) (pow_pos b) (omega arith))
    in
    let later : top_of (all_folded m vs) / 2 ^ b < symbols_of book =
    omega (arith, h, same_order (top_of (all_folded m vs)) (max (folded (v -ℤ m)) (top_of (all_folded m vs))) (2 ^ b) (pow_pos b) (omega arith))
    in
    ap (λ (o : Option ℕ). sum_of o (bits_for book b m step (map (stepped step) vs))) (value_told book b step m v ∙ told_some book b (folded (v -ℤ m) / 2 ^ b) here)
    ∙ ap (sum_of (Some (b + symbol_bits book (folded (v -ℤ m) / 2 ^ b)))) (all_fit book b step m vs later)
    ∙ ap Some (let e : b + symbol_bits book (folded (v -ℤ m) / 2 ^ b) + (length vs * b + all_symbol_bits book b (all_folded m vs))
    ≡ suc (length vs) * b + (symbol_bits book (folded (v -ℤ m) / 2 ^ b) + all_symbol_bits book b (all_folded m vs)) = omega arith in e)

-- ---- at least

-- the low bits by which the bits of a code are bounded
abbrev pub bound_of : ℕ → ℕ → ℕ
bound_of zero b = b
bound_of (suc zero) b = b + 1
bound_of (suc (suc book)) b = b

-- what is over the least of a quotient
under_next : (u d : ℕ) → 0 < d → u + 1 ≤ (u / d + 1) * d
under_next u d some = omega (arith, div-add-mod' u d, mod-lt u some)

first_bits : (p : ℕ) → p + 7 ≤ 4 * symbol_bits 1 p
first_bits p = elim (cases_lt p 2) [
  | inl two ↦ both true true (lt-ltb p 2 two) (lt-ltb p 4 (omega (arith, two)))
  | inr from ↦ elim (cases_lt p 4) [
    | inl four ↦ both false true (le-ltb p 2 from) (lt-ltb p 4 four)
    | inr on ↦ both false false (le-ltb p 2 from) (le-ltb p 4 on)
  ]
]
  where
    both : (s t : Bool) → nat_lt p 2 ≡ s → nat_lt p 4 ≡ t → p + 7 ≤ 4 * (1 + p / 2 + (if nat_lt p 2 then 1 else 0) + (if nat_lt p 4 then 1 else 0))
    both true true e f = rw (e, f) (omega arith)
    both true false e f = let a : p < 2 = ltb-true p 2 e in let b : 4 ≤ p = ltb-false p 4 f in absurd (omega (arith, a, b))
    both false true e f = let a : 2 ≤ p = ltb-false p 2 e in let b : p < 4 = ltb-true p 4 f in rw (e, f) (omega (arith, a, b))
    both false false e f = let b : 4 ≤ p = ltb-false p 4 f in rw (e, f) (omega (arith, b))

second_bits : (p : ℕ) → p + 2 ≤ 2 * symbol_bits 2 p
second_bits p = omega arith

third_bits : (book p : ℕ) → p + 2 ≤ 2 * symbol_bits (suc (suc (suc book))) p
third_bits book zero = omega arith
third_bits book (suc p) =
    let e : nat_lt (suc p) 1 ≡ false = le-ltb (suc p) 1 (omega arith) in
    subst (λ (t : Bool). suc p + 2 ≤ 2 * (2 + (suc p - suc p / 2) - (if t then 1 else 0))) (sym e) (omega arith)

-- one code
one_bound : (book b u : ℕ) → 2 ^ bound_of (suc book) b * (2 * bound_of (suc book) b + 1) + (u + 1) ≤ 2 ^ bound_of (suc book) b * (2 * (b + symbol_bits (suc book) (u / 2 ^ b)))
one_bound zero b u =
    let p = u / 2 ^ b in
    let twice : 2 ^ (b + 1) ≡ 2 ^ b * 2 = rw add-one (pow-suc 2 b) in
    let more : (u / 2 ^ b + 7) * 2 ^ b ≤ 4 * symbol_bits 1 (u / 2 ^ b) * 2 ^ b = mul-le-mul_right (2 ^ b) (first_bits (u / 2 ^ b)) in
    rw twice (omega (arith, more, under_next u (2 ^ b) (pow_pos b)))
one_bound (suc zero) b u =
    let more : (u / 2 ^ b + 2) * 2 ^ b ≤ 2 * symbol_bits 2 (u / 2 ^ b) * 2 ^ b = mul-le-mul_right (2 ^ b) (second_bits (u / 2 ^ b)) in
    omega (arith, more, under_next u (2 ^ b) (pow_pos b))
one_bound (suc (suc book)) b u =
    let more : (u / 2 ^ b + 2) * 2 ^ b ≤ 2 * symbol_bits (suc (suc (suc book))) (u / 2 ^ b) * 2 ^ b = mul-le-mul_right (2 ^ b) (third_bits book (u / 2 ^ b)) in
    omega (arith, more, under_next u (2 ^ b) (pow_pos b))

-- all codes
all_bound : (book b : ℕ) (us : List ℕ) → 2 ^ bound_of (suc book) b * (2 * bound_of (suc book) b + 1) * length us + raised_sum us ≤ 2 ^ bound_of (suc book) b * (2 * (length us * b + all_symbol_bits (suc book) b us))
all_bound book b [] = omega arith
all_bound book b (u ∷ us) =
    let here = one_bound book b u in
    let later = all_bound book b us in
    omega (arith, here, later)

-- .. over the power
pub fewest_codes : (book b sum : ℕ) (us : List ℕ) → sum ≤ raised_sum us → (2 * bound_of (suc book) b + 1) * length us + sum / 2 ^ bound_of (suc book) b ≤ 2 * (length us * b + all_symbol_bits (suc book) b us)
fewest_codes book b sum us le =
    let d = 2 ^ bound_of (suc book) b in
    let all = all_bound book b us in
    let under : sum / 2 ^ bound_of (suc book) b * 2 ^ bound_of (suc book) b ≤ sum = div-mul-le_self sum (2 ^ bound_of (suc book) b) in
    let less : ((2 * bound_of (suc book) b + 1) * length us + sum / 2 ^ bound_of (suc book) b) * 2 ^ bound_of (suc book) b
    ≤ 2 * (length us * b + all_symbol_bits (suc book) b us) * 2 ^ bound_of (suc book) b = omega (arith, all, under, le) in
    le_of_mul-le-mul_right less (pow_pos (bound_of (suc book) b))

-- .. of any of the three books
pub fewest_any : (book b sum : ℕ) (us : List ℕ) → 0 < book → sum ≤ raised_sum us → (2 * bound_of book b + 1) * length us + sum / 2 ^ bound_of book b ≤ 2 * (length us * b + all_symbol_bits book b us)
fewest_any zero b sum us some le = absurd (omega (arith, some))
fewest_any (suc book) b sum us some le = fewest_codes book b sum us le

-- the least symbols
pub least_symbols : (book b symbol : ℕ) (us : List ℕ) → ((p : ℕ) → symbol ≤ symbol_bits book p) → length us * symbol ≤ all_symbol_bits book b us
least_symbols book b symbol [] each = omega arith
least_symbols book b symbol (u ∷ us) each = omega (arith, each (u / 2 ^ b), least_symbols book b symbol us each)
