-- Filters that can be written, and how many bits they take.
use Rattle.std.proofs.Common.{◌≡◌, ◌≢◌, ℕ, zero, suc, ◌+◌, ◌-◌, ◌*◌, ◌/◌, ◌<◌, ◌≤◌, ◌^◌, ℤ, pos, negsuc, Bool, true, false, cond, List, [], ◌∷◌, ◌++◌, length, replicate, Option, Some, None, arith, refl, sym, ◌∙◌, ap, subst, pow-suc}
use Rattle.std.specs.Prelude.{All, ◌==◌, nat_lt, nat_le, ◌&&◌, not, is_some, if◌then◌else◌}
use Rattle.std.proofs.lemmas.Int.{ints}
use Rattle.std.proofs.lemmas.Bool.{lt-ltb, le-ltb, le-leb, ne_eqb, eq-eqb, eqb-true, and_from}
use Rattle.std.proofs.lemmas.List.{length-append}
use Rattle.std.proofs.Math.Nat.{mul_comm}
use Rattle.std.proofs.Math.Pow.{pow_mono}
use Rattle.mlp_syntax.specs.declared.params.FilterState.{FilterState}
use Rattle.mlp_syntax.specs.declared.params.Filter.{Filter}
use Rattle.mlp_bits.specs.Bits.{bits}
use Rattle.mlp_bits.specs.Signed.{signed, unsigned}
use Rattle.mlp_bits.proofs.BitLists.{length-bits}
use Rattle.mlp_layout.specs.Layout.{Layout, number_of, seen, FitsAs, MeetsAs, ruled, part, made, item}
use Rattle.mlp_layout.specs.Combined.{flag, signed_of, chosen, present, group, times}
use Rattle.mlp_layout.specs.Allowed.{Allowed}
use Rattle.mlp_layout.proofs.Fitting.{flag_fits}
use Rattle.mlp_layout.proofs.Sizes.{Takes, number_takes, seen_takes, times_takes, flag_takes, total-same}
use Rattle.mlp_layout.proofs.WritingGroups.{fields}
use Rattle.mlp_params.specs.Filters.{order_of, absent, widths, filter_state, filter, behind_order}
use Rattle.mlp_params.proofs.WritingFilters.{absent_is, filter_text, filter_fits}
use Rattle.mlp_levinson.specs.Best.{HasBits}
use Rattle.mlp_search.specs.Candidates.{filter_with}
use Rattle.mlp_search.specs.Given.{with_zeros}
use Rattle.mlp_search.specs.Cost.{filter_bits}

-- ---- signed fields

positive_fits : (w n : ℕ) → n < 2 ^ (w - 1) → FitsAs (signed w) (λ k. k < 2 ^ w) (unsigned w (pos n)) (pos n)
positive_fits w n lt =
    let t : nat_lt n (2 ^ (w - 1)) ≡ true = lt-ltb n (2 ^ (w - 1)) lt in
    let le : 2 ^ (w - 1) ≤ 2 ^ w = let m : w - 1 ≤ w = omega arith in pow_mono m in
    let back : signed w n ≡ pos n = ap (λ (b : Bool). if b then pos n else negsuc (2 ^ w - suc n)) t in
    let there : unsigned w (pos n) ≡ Some n = ap (λ (b : Bool). if b then Some n else None) t in
    subst (λ (o : Option ℕ). FitsAs (signed w) (λ k. k < 2 ^ w) o (pos n)) (sym there) (omega (arith, lt, le), back)

negative_fits : (w n : ℕ) → 0 < w → n < 2 ^ (w - 1) → FitsAs (signed w) (λ k. k < 2 ^ w) (unsigned w (negsuc n)) (negsuc n)
negative_fits zero n some lt = absurd (omega arith)
negative_fits (suc w) n some lt =
    let same : suc w - 1 ≡ w = omega arith in
    let less : n < 2 ^ w = subst (λ (k : ℕ). n < 2 ^ k) same lt in
    let two : 2 ^ suc w ≡ 2 ^ w * 2 = pow-suc 2 w in
    let half : n < 2 ^ suc w / 2 = omega (arith, less, two) in
    let t : nat_lt n (2 ^ suc w / 2) ≡ true = lt-ltb n (2 ^ suc w / 2) half in
    let there : unsigned (suc w) (negsuc n) ≡ Some (2 ^ suc w - suc n) = ap (λ (b : Bool). if b then Some (2 ^ suc w - suc n) else None) t in
    let high : 2 ^ (suc w - 1) ≤ 2 ^ suc w - suc n = subst (λ (k : ℕ). 2 ^ k ≤ 2 ^ suc w - suc n) (sym same) (omega (arith, less, two)) in
    let u : nat_lt (2 ^ suc w - suc n) (2 ^ (suc w - 1)) ≡ false = le-ltb (2 ^ suc w - suc n) (2 ^ (suc w - 1)) high in
    let first : signed (suc w) (2 ^ suc w - suc n) ≡ negsuc (2 ^ suc w - suc (2 ^ suc w - suc n)) = ap (λ (b : Bool). if b then pos (2 ^ suc w - suc n) else negsuc (2 ^ suc w - suc (2 ^ suc w - suc n))) u in
    let again : 2 ^ suc w - suc (2 ^ suc w - suc n) ≡ n = omega (arith, less, two) in
    subst (λ (o : Option ℕ). FitsAs (signed (suc w)) (λ k. k < 2 ^ suc w) o (negsuc n)) (sym there) (omega (arith, less, two), first ∙ ap negsuc again)

-- a number of so many bits has a field
pub field_fits : (w : ℕ) (z : ℤ) → 0 < w → HasBits w z → (signed_of w).Fits z
unfolding signed_of seen number_of
field_fits w (pos n) some h = positive_fits w n (omega (arith, ints, h.high))
field_fits w (negsuc n) some h = negative_fits w n some (omega (arith, ints, h.low))

any_meets : (o : Option ℕ) → MeetsAs (λ n. Unit {0}) o
any_meets None = tt
any_meets (Some n) = tt

pub field_meets : (w : ℕ) (z : ℤ) → (signed_of w).Meets z
unfolding signed_of seen number_of
field_meets w z = any_meets (unsigned w z)

fields_fit : (w : ℕ) (zs : List ℤ) → 0 < w → All (HasBits w) zs → (times (length zs) (signed_of w)).Fits zs
unfolding times item made
fields_fit w [] some h = refl
fields_fit w (z ∷ zs) some h = (field_fits w z some (h 0 z (omega arith)), fields_fit w zs some (λ i d l. h (suc i) d (omega arith)))

fields_meet : (w n : ℕ) (zs : List ℤ) → (times n (signed_of w)).Fits zs → (times n (signed_of w)).Meets zs
unfolding times item made
fields_meet w zero zs fits = tt
fields_meet w (suc n) [] fits = absurd fits
fields_meet w (suc n) (z ∷ zs) fits = (field_meets w z, fields_meet w n zs fits.1)

pub signed_takes : (w : ℕ) → Takes (signed_of w) (λ z. w)
unfolding signed_of
signed_takes w = seen_takes (signed w) (unsigned w) (number_of w) (λ n. w) (λ z. w) (number_takes w) (λ n. refl)

-- so many fields take so many bits
fields_take : (w n : ℕ) (zs : List ℤ) → (times n (signed_of w)).Fits zs → length ((times n (signed_of w)).spelling zs) ≡ w * length zs
fields_take w n zs fits = (times_takes n (signed_of w) (λ z. w) (signed_takes w)).takes zs fits ∙ total-same w zs

-- ---- groups

pub none_length : {A : Type 0} (l : Layout A) → length ((group true l).spelling None) ≡ 1
unfolding group chosen part present made
none_length l = let one = flag_takes.takes false (flag_fits false) in omega (arith, length-append (flag.spelling false) [], one)

pub some_length : {A : Type 0} (l : Layout A) (x : A) → length ((group true l).spelling (Some x)) ≡ 1 + length (l.spelling x)
unfolding group chosen part present seen made
some_length l x = let one = flag_takes.takes true (flag_fits true) in omega (arith, length-append (flag.spelling true) (l.spelling x), one)

-- ---- the parts of a filter's layout

module _ {A : Type 0} (l m : Layout A) (x : A) where
  pub first_allowed : (t : Bool) → t ≡ true → Allowed (chosen t l m) x → Allowed l x
  unfolding chosen
  first_allowed true e a = a
  first_allowed false e a = absurd cc

  pub second_allowed : (t : Bool) → t ≡ false → Allowed (chosen t l m) x → Allowed m x
  unfolding chosen
  second_allowed true e a = absurd cc
  second_allowed false e a = a

  pub first_back : (t : Bool) → t ≡ true → Allowed l x → Allowed (chosen t l m) x
  unfolding chosen
  first_back true e a = a
  first_back false e a = absurd cc

  pub second_back : (t : Bool) → t ≡ false → Allowed m x → Allowed (chosen t l m) x
  unfolding chosen
  second_back true e a = absurd cc
  second_back false e a = a

module _ (n : ℕ) (b : Bool) (f : Filter n) where
  abbrev Chosen : Layout (Filter n)
  Chosen = chosen (order_of f == 0) (made absent) (behind_order n b (order_of f))

  parts : Allowed (filter n b) f → Allowed Chosen f
  unfolding filter part
  parts a = record { fits = a.fits.1; meets = a.meets.1 }

  absent_made : Allowed (made absent) f → f ≡ absent
  unfolding made
  absent_made a = a.fits

  -- a filter without coefficients is absent
  pub absent_is_absent : Allowed (filter n b) f → (order_of f == 0) ≡ true → f ≡ absent
  absent_is_absent a e = absent_made (first_allowed (made absent) (behind_order n b (order_of f)) f (order_of f == 0) e (parts a))

  pub behind_allowed : Allowed (filter n b) f → (order_of f == 0) ≡ false → Allowed (behind_order n b (order_of f)) f
  behind_allowed a e = second_allowed (made absent) (behind_order n b (order_of f)) f (order_of f == 0) e (parts a)

  few : Allowed (filter n b) f → (order_of f < 16) × (cond {A = Option ℕ} (nat_le (order_of f) n) None (Some 0) ≡ None)
  unfolding filter part ruled number_of
  few a = (a.fits.0, a.meets.0.1)

  whole : (order_of f < 16) → cond {A = Option ℕ} (nat_le (order_of f) n) None (Some 0) ≡ None → Allowed Chosen f → Allowed (filter n b) f
  unfolding filter part ruled number_of
  whole lt le a = record { fits = (lt, a.fits); meets = ((tt, le), a.meets) }

-- ---- filters without a state

holds_none : (b : Bool) (at : ℕ) → b ≡ true → cond {A = Option ℕ} b None (Some at) ≡ None
holds_none true at e = refl
holds_none false at e = absurd cc

flag_meets : (b : Bool) → flag.Meets b
unfolding flag seen number_of
flag_meets true = tt
flag_meets false = tt

plain_behind : (n shift w : ℕ) (cs : List ℤ) → shift < 16 → 0 < w → w ≤ 16 → All (HasBits w) cs → Allowed (behind_order n false (length cs)) (filter_with shift w cs)
unfolding part ruled number_of made widths chosen present
plain_behind n shift w cs s low high h =
    let values = fields_fit w cs low h in
    let wide : (nat_lt 0 w && nat_le w 16) ≡ true = and_from (nat_lt 0 w) (nat_le w 16) (lt-ltb 0 w low) (le-leb w 16 high) in
    let sum : nat_le (w + 0) 16 ≡ true = le-leb (w + 0) 16 (omega arith) in
    record {
      fits = (omega arith, ((omega arith, (omega arith, refl)), (values, (flag_fits false, (refl, refl)))));
      meets = (tt, ((((tt, holds_none (nat_lt 0 w && nat_le w 16) 0 wide), (tt, tt)), holds_none (nat_le (w + 0) 16) 0 sum), (fields_meet w (length cs) cs values, ((flag_meets false, refl), (tt, tt)))));
    }

-- a filter of coefficients that have its width
pub plain_allowed : (n shift w : ℕ) (cs : List ℤ) → n < 16 → 0 < length cs → length cs ≤ n → shift < 16 → 0 < w → w ≤ 16 → All (HasBits w) cs → Allowed (filter n false) (filter_with shift w cs)
plain_allowed n shift w cs small some less s low high h =
    let f : Filter n = filter_with shift w cs in
    let positive : (length cs == 0) ≡ false = ne_eqb (length cs) 0 (λ e. absurd (omega (arith, some, e))) in
    let behind = plain_behind n shift w cs s low high h in
    whole n false f (omega arith) (holds_none (nat_le (length cs) n) 0 (le-leb (length cs) n less)) (second_back (made absent) (behind_order n false (length cs)) f (length cs == 0) positive behind)

-- ---- a filter of a channel in force

no_state_flag : (o : Option FilterState) → cond {A = Option ℕ} (not (is_some o)) None (Some 0) ≡ None → o ≡ None
no_state_flag None e = refl
no_state_flag (Some s) e = absurd cc

behind_state : (n : ℕ) (f : Filter n) → (behind_order n false (order_of f)).Meets f → f.state ≡ None
unfolding part ruled widths flag seen
behind_state n f m = no_state_flag f.state m.1.1.1.0.1

pub no_state : (n : ℕ) (f : Filter n) → Allowed (filter n false) f → f.state ≡ None
no_state n f a = pick (order_of f == 0) refl
  where
    pick : (t : Bool) → (order_of f == 0) ≡ t → f.state ≡ None
    pick true e = ap (λ (g : Filter n). g.state) (absent_is_absent n false f a e)
    pick false e = behind_state n f (behind_allowed n false f a e).meets

four_fields : (a b c d : ℕ) (later : List Bool) → length (fields ((a, 4) ∷ (b, 4) ∷ (c, 5) ∷ (d, 3) ∷ []) later) ≡ 16 + length later
four_fields a b c d later =
    omega (
      arith,
      length-append (bits 4 a) (bits 4 b ++ (bits 5 c ++ (bits 3 d ++ later))),
      length-append (bits 4 b) (bits 5 c ++ (bits 3 d ++ later)),
      length-append (bits 5 c) (bits 3 d ++ later),
      length-append (bits 3 d) later,
      length-bits 4 a,
      length-bits 4 b,
      length-bits 5 c,
      length-bits 3 d,
    )

-- its bits
pub filter_length : (n : ℕ) (f : Filter n) → Allowed (filter n false) f → length ((filter n false).spelling f) ≡ filter_bits f
filter_length n f a = pick (order_of f == 0) refl
  where
    pick : (t : Bool) → (order_of f == 0) ≡ t → length ((filter n false).spelling f) ≡ (if t then 4 else 17 + order_of f * f.coeff_bits)
    pick true e = ap (λ (bs : List Bool). length bs) (sym (absent_is n false f (eqb-true (order_of f) 0 e))) ∙ length-bits 4 0
    pick false e =
        let some : order_of f ≢ 0 = λ z. let s : true ≡ false = sym (eq-eqb (order_of f) 0 z) ∙ e in cc in
        let text = filter_text n false f some in
        let fits = filter_fits n false f some a in
        let values = fields_take f.coeff_bits (order_of f) f.coeffs.items fits.values in
        let state : length ((group true (filter_state (order_of f))).spelling f.state) ≡ 1 =
        ap (λ (o : Option FilterState). length ((group true (filter_state (order_of f))).spelling o)) (no_state n f a) ∙ none_length (filter_state (order_of f)) in
        let joined = length-append ((times (order_of f) (signed_of f.coeff_bits)).spelling f.coeffs.items) ((group true (filter_state (order_of f))).spelling f.state) in
        let product : f.coeff_bits * order_of f ≡ order_of f * f.coeff_bits = mul_comm f.coeff_bits (order_of f) in
        let four = four_fields (order_of f) f.shift f.coeff_bits f.coeff_shift ((times (order_of f) (signed_of f.coeff_bits)).spelling f.coeffs.items ++ (group true (filter_state (order_of f))).spelling f.state) in
        ap (λ (bs : List Bool). length bs) (sym text) ∙ four ∙ omega (arith, joined, values, state, product)

-- ---- a state of zeros

zero_field : (signed_of 0).Fits (pos 0)
unfolding signed_of seen number_of
zero_field = (omega arith, refl)

zeros_fit : (n : ℕ) → (times n (signed_of 0)).Fits (replicate n (pos 0))
unfolding times item made
zeros_fit zero = refl
zeros_fit (suc n) = (zero_field, zeros_fit n)

abbrev zeros : ℕ → FilterState
zeros n = record { bits = 0; shift = 0; values = record { items = replicate n (pos 0) } }

state_fits : (n : ℕ) → (filter_state n).Fits (zeros n)
unfolding filter_state part number_of made
state_fits n = (omega arith, (omega arith, (zeros_fit n, refl)))

state_meets : (n : ℕ) → (filter_state n).Meets (zeros n)
unfolding filter_state part number_of made
state_meets n = (tt, (tt, (fields_meet 0 n (replicate n (pos 0)) (zeros_fit n), tt)))

state_length : (n : ℕ) → length ((filter_state n).spelling (zeros n)) ≡ 8
unfolding filter_state part number_of made
state_length n =
    let values = fields_take 0 n (replicate n (pos 0)) (zeros_fit n) in
    omega (
      arith,
      length-append (bits 4 0) (bits 4 0 ++ ((times n (signed_of 0)).spelling (replicate n (pos 0)) ++ [])),
      length-append (bits 4 0) ((times n (signed_of 0)).spelling (replicate n (pos 0)) ++ []),
      length-append ((times n (signed_of 0)).spelling (replicate n (pos 0))) [],
      length-bits 4 0,
      values,
    )

abbrev zeroed : Filter 4 → Filter 4
zeroed f = record f { state = Some (zeros (order_of f)) }

behind_zeros : (f : Filter 4) → Allowed (behind_order 4 false (order_of f)) f → Allowed (behind_order 4 true (order_of f)) (zeroed f)
unfolding part ruled chosen present made seen
behind_zeros f a =
    let h = a.fits in
    let m = a.meets in
    record {
      fits = (h.0, (h.1.0, (h.1.1.0, (flag_fits true, ((state_fits (order_of f), refl), refl)))));
      meets = (m.0, (m.1.0, (m.1.1.0, ((flag_meets true, refl), (state_meets (order_of f), tt)))));
    }

-- with a state of zeros it can be written as an IIR
pub zeros_allowed : (f : Filter 4) → Allowed (filter 4 false) f → Allowed (filter 4 true) (with_zeros f)
zeros_allowed f a = pick (order_of f == 0) refl
  where
    pick : (t : Bool) → (order_of f == 0) ≡ t → Allowed (filter 4 true) (if t then f else zeroed f)
    pick true e =
        let made_one = first_allowed (made absent) (behind_order 4 false (order_of f)) f (order_of f == 0) e (parts 4 false f a) in
        whole 4 true f (few 4 false f a).0 (few 4 false f a).1 (first_back (made absent) (behind_order 4 true (order_of f)) f (order_of f == 0) e made_one)
    pick false e =
        let behind = behind_zeros f (behind_allowed 4 false f a e) in
        whole 4 true (zeroed f) (few 4 false f a).0 (few 4 false f a).1 (second_back (made absent) (behind_order 4 true (order_of f)) (zeroed f) (order_of f == 0) e behind)

abbrev iir_size : Filter 4 → ℕ
iir_size f = filter_bits f + (if order_of f == 0 then 0 else 8)

pub zeros_length : (f : Filter 4) → Allowed (filter 4 false) f → length ((filter 4 true).spelling (with_zeros f)) ≡ iir_size (with_zeros f)
zeros_length f a = pick (order_of f == 0) refl
  where
    absent_length : (g : Filter 4) → order_of g ≡ 0 → length ((filter 4 true).spelling g) ≡ iir_size g
    absent_length g z =
        let e : (order_of g == 0) ≡ true = eq-eqb (order_of g) 0 z in
        ap (λ (bs : List Bool). length bs) (sym (absent_is 4 true g z)) ∙ length-bits 4 0 ∙ sym (ap (λ (b : Bool). (if b then 4 else 17 + order_of g * g.coeff_bits) + (if b then 0 else 8)) e)

    zeroed_length : order_of f ≢ 0 → length ((filter 4 true).spelling (zeroed f)) ≡ 25 + order_of f * f.coeff_bits
    zeroed_length some =
        let text = filter_text 4 true (zeroed f) some in
        let fits = filter_fits 4 false f some a in
        let values = fields_take f.coeff_bits (order_of f) f.coeffs.items fits.values in
        let state = some_length (filter_state (order_of f)) (zeros (order_of f)) in
        let eight = state_length (order_of f) in
        let joined = length-append ((times (order_of f) (signed_of f.coeff_bits)).spelling f.coeffs.items) ((group true (filter_state (order_of f))).spelling (Some (zeros (order_of f)))) in
        let product : f.coeff_bits * order_of f ≡ order_of f * f.coeff_bits = mul_comm f.coeff_bits (order_of f) in
        let four = four_fields (order_of f) f.shift f.coeff_bits f.coeff_shift ((times (order_of f) (signed_of f.coeff_bits)).spelling f.coeffs.items ++ (group true (filter_state (order_of f))).spelling (Some (zeros (order_of f)))) in
        ap (λ (bs : List Bool). length bs) (sym text) ∙ four ∙ omega (arith, joined, values, state, eight, product)

    pick : (t : Bool) → (order_of f == 0) ≡ t → length ((filter 4 true).spelling (if t then f else zeroed f)) ≡ iir_size (if t then f else zeroed f)
    pick true e = absent_length f (eqb-true (order_of f) 0 e)
    pick false e =
        let some : order_of f ≢ 0 = λ z. let s : true ≡ false = sym (eq-eqb (order_of f) 0 z) ∙ e in cc in
        let sizes : 25 + order_of f * f.coeff_bits ≡ (17 + order_of f * f.coeff_bits) + 8 = omega arith in
        zeroed_length some ∙ sizes ∙ sym (ap (λ (b : Bool). (if b then 4 else 17 + order_of f * f.coeff_bits) + (if b then 0 else 8)) e)
