-- Counting bits over several numbers of low bits.
use Rattle.std.proofs.Common.{◌≡◌, ◌≢◌, ℕ, zero, suc, ◌+◌, ◌*◌, ◌<◌, ◌^◌, ℤ, pos, ◌+ℤ◌, ◌-ℤ◌, ◌*ℤ◌, Bool, true, false, List, [], ◌∷◌, length, map, drop, get_or, Option, None, arith, refl, sym, ◌∙◌, ap, subst, inl, inr}
use Rattle.std.specs.Prelude.{◌↔◌}
use Rattle.std.proofs.Math.ListN.{get_or-map, set}
use Rattle.std.proofs.lemmas.List.{drop_more, length-map, get_or-set_same, get_or-set_other}
use Rattle.std.proofs.lemmas.Bool.{cases_lt}
use Rattle.std.proofs.lemmas.Int.{ints}
use Rattle.mlp_syntax.specs.declared.segment.Code.{Code}
use Rattle.mlp_books.specs.Books.{symbol_in}
use Rattle.mlp_residual.specs.Coding.{sign_offset, Spells, TakeBits, Counts}
use Rattle.mlp_residual.proofs.Codes.{place_of, spelled}
use Rattle.mlp_residual.proofs.Counting.{Takes, length_is, symbols_fit}

-- so many steps
abbrev pub stepped : ℕ → ℤ → ℤ
stepped step v = v *ℤ pos (2 ^ step)

-- what is known of a book's lengths and the least value
pub record Scale (book b : ℕ) (offset base : ℤ) (lengths : List ℕ) : Type 0 where
  pub above : base ≡ pos (sign_offset book b) -ℤ offset
  pub each : (s : ℕ) → (symbol_in book).Fits s → get_or lengths s 0 ≡ length ((symbol_in book).spelling s)
  pub fits : (s : ℕ) → (symbol_in book).Fits s ↔ (s < length lengths)

-- a value within the book takes the bits of its symbol
pub value_takes : (book b step n symbol low : ℕ) (offset base v : ℤ) (lengths : List ℕ) → Scale book b offset base lengths → symbol < length lengths → low < 2 ^ b → v +ℤ base ≡ pos (symbol * 2 ^ b + low)
    → n ≡ get_or lengths symbol 0 + b → Takes book b offset step (v *ℤ pos (2 ^ step)) n
value_takes book b step n symbol low offset base v lengths k s l p is =
    let code : Code = record { symbol = symbol; low = low } in
    let fits = (k.fits symbol).1 s in
    let place : v -ℤ offset +ℤ pos (sign_offset book b) ≡ pos (symbol * 2 ^ b + low) = omega (arith, ints, p, k.above) in
    record {
      code = code;
      spells = spelled book b step code offset v (v *ℤ pos (2 ^ step)) refl place ((symbols_fit book symbol).0 fits) l;
      bits = is ∙ ap (λ (m : ℕ). m + b) (k.each symbol fits) ∙ sym (length_is book b code);
    }

-- .. and one that is not has no code
pub value_never : (book b step : ℕ) (offset base v : ℤ) (lengths : List ℕ) → Scale book b offset base lengths
    → ((symbol low : ℕ) → symbol < length lengths → low < 2 ^ b → v +ℤ base ≡ pos (symbol * 2 ^ b + low) → ⊥)
    → (code : Code) → Spells book b offset step (v *ℤ pos (2 ^ step)) code → ⊥
value_never book b step offset base v lengths k none code s =
    let place = place_of book b step code offset v (v *ℤ pos (2 ^ step)) refl s in
    none code.symbol code.low ((k.fits code.symbol).0 ((symbols_fit book code.symbol).1 s.symbol_in)) s.low_in (omega (arith, ints, place, k.above))

-- the next of what a function makes of a list
pub map_next : (f : ℤ → ℤ) (xs : List ℤ) (i : ℕ) → i < length xs → drop i (map f xs) ≡ f (get_or xs i (pos 0)) ∷ drop (i + 1) (map f xs)
map_next f xs i lt = drop_more (map f xs) i (f (pos 0)) (rw (length-map xs f) lt) ∙ ap (λ (z : ℤ). z ∷ drop (i + 1) (map f xs)) (get_or-map f xs i (pos 0))

-- a residual that is no whole number of steps
pub no_whole : (book b step n i : ℕ) (offset : ℤ) (rs : List ℤ) → i < length rs → ((v : ℤ) → v *ℤ pos (2 ^ step) ≡ get_or rs i (pos 0) → ⊥) → TakeBits book b offset step rs n → ⊥
unfolding TakeBits
no_whole book b step n i offset [] lt none h = absurd (omega (arith, lt))
no_whole book b step n zero offset (r ∷ rs) lt none h = none _ h.2.value
no_whole book b step n (suc i) offset (r ∷ rs) lt none h = no_whole book b step h.1 i offset rs (omega (arith, lt)) none h.3

-- what is counted of values holds of the residuals
pub width_counts : (whole : Bool) (book b step : ℕ) (offset : ℤ) (rs values : List ℤ) (o : Option ℕ)
    → (whole ≡ true → map (stepped step) values ≡ rs) → (whole ≡ false → (n : ℕ) → TakeBits book b offset step rs n → ⊥)
    → (whole ≡ true → Counts book b offset step (map (stepped step) values) o) → (whole ≡ false → o ≡ None) → Counts book b offset step rs o
width_counts true book b step offset rs values o all some is none = subst (λ (xs : List ℤ). Counts book b offset step xs o) (all refl) (is refl)
width_counts false book b step offset rs values o all some is none = subst (λ (x : Option ℕ). Counts book b offset step rs x) (sym (none refl)) (some refl)

-- one more place of a list is filled
pub filled_more : (P : ℕ → Option ℕ → Type 0) (xs : List (Option ℕ)) (i : ℕ) (x : Option ℕ) → i < length xs
    → ((j : ℕ) → j < i → P j (get_or xs j None)) → P i x → (j : ℕ) → j < i + 1 → P j (get_or (set xs i x) j None)
filled_more P xs i x lt before here j below = elim (cases_lt j i) [
  | inl less ↦
      let other : j ≢ i = λ e. absurd (omega (arith, less, e)) in
      rw (get_or-set_other xs i j x None other) (before j less)
  | inr same ↦
      let e : j ≡ i = omega (arith, same, below) in
      rw (e, get_or-set_same xs i x None lt) here
]
