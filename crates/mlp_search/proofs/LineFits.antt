-- What filters without an IIR leave of a line fits 32 bits, and is what they leave of the block.
use Rattle.std.proofs.Common.{◌≡◌, ℕ, zero, suc, ◌+◌, ◌-◌, ◌*◌, ◌/◌, ◌^◌, ◌<◌, ◌≤◌, ℤ, pos, negsuc, ◌-ℤ◌, ◌*ℤ◌, Bool, true}
use Rattle.std.proofs.Common.{false, List, [], ◌∷◌, ◌++◌, length, take, drop, map, get_or, reverse, replicate, arith, refl, sym, ◌∙◌, ap, subst, w32}
use Rattle.std.specs.Prelude.{All, FitsSigned, unsigned_abs, ◌==◌, if◌then◌else◌}
use Rattle.std.proofs.Math.Nat.{mul-le-mul_right, mul-le-mul_left, div-mul-le_self, pow-le-pow_right}
use Rattle.std.proofs.Math.Pow.{pow_pos}
use Rattle.std.proofs.lemmas.Int.{ints, unsigned_abs-mul, fits_signed_from_abs}
use Rattle.std.proofs.lemmas.List.{get_or-map, get_or_default, length-reverse, reverse-reverse, take_at, drop_at, take-map, drop-map, length-map, length-drop, length-append, append-nil, drop_all, ext_get_or}
use borrow.Rule.Slice.PartMut.{put_mid, post_of}
use Rattle.std.proofs.lemmas.List.Elements.{All-take, All-map, All-append}
use Rattle.mlp_arith.specs.Words.{floor_by}
use Rattle.mlp_arith.specs.Ranges.{Is26}
use Rattle.mlp_syntax.specs.declared.params.Filter.{Filter}
use Rattle.mlp_params.specs.Filters.{order_of}
use Rattle.mlp_predict.specs.Prediction.{Past, Filters, dot, residuals_of, with_state, IsCoefficient}
use Rattle.mlp_predict.specs.Filters.{scaled, filters_of, shift_where, IsFilter}
use Rattle.mlp_predict.proofs.AloneLaws.{fir_alone, past_by}
use Rattle.mlp_search.specs.declared.pair.Pair.{Pair}
use Rattle.mlp_search.specs.Candidates.{past_for, residuals_for}
use Rattle.mlp_search.specs.Folded.{stepped}
use Rattle.mlp_search.specs.Lines.{low_part, IsLight, IsLine, alone_by, left_in}
use Rattle.mlp_search.proofs.LineLaws.{all_reverse, map_reverse, dot_within, floor_size, floor_nest, residuals_stepped, left_at, left_length, coefficient_sizes}

-- ---- sizes

size_steps : (v : ℤ) (n : ℕ) → unsigned_abs (v *ℤ pos n) ≡ unsigned_abs v * n
size_steps v n = unsigned_abs-mul v (pos n)

from_map : (q : ℕ) (vs : List ℤ) → All Is26 (map (stepped q) vs) → (k : ℕ) (d : ℤ) → k < length vs → Is26 (stepped q (get_or vs k d))
from_map q vs h k d l = subst Is26 (get_or-map (stepped q) vs k d (stepped q d) l) (h k (stepped q d) (omega (arith, l, length-map vs (stepped q))))

sized : (v : ℤ) (p : ℕ) → Is26 (v *ℤ pos p) → unsigned_abs v * p ≤ 33554432
sized v p h = let e : unsigned_abs (v *ℤ pos p) ≤ 33554432 = omega (arith, ints, h.low, h.high) in omega (arith, e, size_steps v p)

all_sized : (q : ℕ) (vs : List ℤ) → All Is26 (map (stepped q) vs) → All (λ (v : ℤ). unsigned_abs v * 2 ^ q ≤ 33554432) vs
all_sized q vs h = λ k d l. sized (get_or vs k d) (2 ^ q) (from_map q vs h k d l)

-- 26 bits in steps are 26 bits
one_unscaled : (v : ℤ) (p : ℕ) → 0 < p → Is26 (v *ℤ pos p) → Is26 v
one_unscaled (pos n) (suc p) some h = let m : n * 1 ≤ n * suc p = mul-le-mul_left n (let e : 1 ≤ suc p = omega arith in e) in omega (arith, ints, m, h.low, h.high)
one_unscaled (negsuc n) (suc p) some h = let m : suc n * 1 ≤ suc n * suc p = mul-le-mul_left (suc n) (let e : 1 ≤ suc p = omega arith in e) in omega (arith, ints, m, h.low, h.high)
one_unscaled v zero some h = absurd (omega (arith, some))

pub unscaled : (q : ℕ) (vs : List ℤ) → All Is26 (map (stepped q) vs) → All Is26 vs
unscaled q vs h = λ k d l. one_unscaled (get_or vs k d) (2 ^ q) (pow_pos q) (from_map q vs h k d l)

-- the size of a difference
difference_size : (y f : ℤ) (p m : ℕ) → unsigned_abs y * p ≤ 33554432 → unsigned_abs f * p ≤ m → unsigned_abs ((y -ℤ f) *ℤ pos p) ≤ 33554432 + m
difference_size y f p m a b =
    let both : unsigned_abs (y -ℤ f) ≤ unsigned_abs y + unsigned_abs f = omega (arith, ints) in
    let more : unsigned_abs (y -ℤ f) * p ≤ (unsigned_abs y + unsigned_abs f) * p = mul-le-mul_right p both in
    omega (arith, more, a, b, size_steps (y -ℤ f) p)

-- all that is left is small where each floor is
pub all_small : (fs : List ℤ) (s q m : ℕ) (whole : List ℤ) → All Is26 (map (stepped q) whole) → ((k : ℕ) → unsigned_abs (floor_by s (dot fs (reverse (take (8 + k) whole)))) * 2 ^ q ≤ m)
    → All (λ (v : ℤ). unsigned_abs v ≤ 33554432 + m) (map (stepped q) (residuals_of (fir_alone fs s) (past_by (reverse (take 8 whole)) []) 0 (drop 8 whole)))
all_small fs s q m whole small floors =
    let rs : List ℤ = residuals_of (fir_alone fs s) (past_by (reverse (take 8 whole)) []) 0 (drop 8 whole) in
    All-map (λ (v : ℤ). unsigned_abs v ≤ 33554432 + m) (stepped q) rs (λ k d l.
    let lt : 8 + k < length whole = omega (arith, l, left_length fs s 0 (reverse (take 8 whole)) [] (drop 8 whole), length-drop 8 whole) in
    let is : get_or rs k d ≡ get_or whole (8 + k) (pos 0) -ℤ floor_by s (dot fs (reverse (take (8 + k) whole))) = get_or_default rs k d (pos 0) l ∙ left_at fs s whole k lt in
    subst (λ (v : ℤ). unsigned_abs (stepped q v) ≤ 33554432 + m) (sym is)
    (difference_size (get_or whole (8 + k) (pos 0)) (floor_by s (dot fs (reverse (take (8 + k) whole)))) (2 ^ q) m (all_sized q whole small (8 + k) (pos 0) lt) (floors k)))

-- .. and fits
all_fit : (fs : List ℤ) (s q : ℕ) (whole : List ℤ) → All Is26 (map (stepped q) whole) → ((k : ℕ) → unsigned_abs (floor_by s (dot fs (reverse (take (8 + k) whole)))) * 2 ^ q ≤ 2013265920)
    → All (FitsSigned w32) (map (stepped q) (residuals_of (fir_alone fs s) (past_by (reverse (take 8 whole)) []) 0 (drop 8 whole)))
all_fit fs s q whole small floors =
    let rs : List ℤ = map (stepped q) (residuals_of (fir_alone fs s) (past_by (reverse (take 8 whole)) []) 0 (drop 8 whole)) in
    λ k d l. fits_signed_from_abs w32 (get_or rs k d) (omega (arith, all_small fs s q 2013265920 whole small floors k d l))

-- the floor of a sum by coefficients of a size of at most a
floor_within : (a s q : ℕ) (fs whole : List ℤ) (k : ℕ) → All (λ (c : ℤ). unsigned_abs c ≤ a) fs → All Is26 (map (stepped q) whole) → unsigned_abs (floor_by s (dot fs (reverse (take (8 + k) whole)))) * 2 ^ q ≤ length fs * (a * 33554432)
floor_within a s q fs whole k sizes small =
    let P : ℤ → Type 0 = λ (v : ℤ). unsigned_abs v * 2 ^ q ≤ 33554432 in
    let seen = all_reverse P (take (8 + k) whole) (All-take P (8 + k) whole (all_sized q whole small)) in
    let all = dot_within a 33554432 (2 ^ q) fs (reverse (take (8 + k) whole)) sizes seen in
    let under : unsigned_abs (floor_by s (dot fs (reverse (take (8 + k) whole)))) * 2 ^ q ≤ unsigned_abs (dot fs (reverse (take (8 + k) whole))) * 2 ^ q = mul-le-mul_right (2 ^ q) (floor_size s (dot fs (reverse (take (8 + k) whole)))) in
    omega (arith, all, under)

pub light_fit : (fs : List ℤ) (s q : ℕ) (whole : List ℤ) → length fs ≤ 4 → All IsLight fs → All Is26 (map (stepped q) whole)
    → All (FitsSigned w32) (map (stepped q) (residuals_of (fir_alone fs s) (past_by (reverse (take 8 whole)) []) 0 (drop 8 whole)))
light_fit fs s q whole few light small =
    let sizes : All (λ (c : ℤ). unsigned_abs c ≤ 15) fs = λ k d l. (let h = light k d l in omega (arith, ints, h.low, h.high)) in
    all_fit fs s q whole small (λ k. omega (arith, floor_within 15 s q fs whole k sizes small, few))

-- first and second differences
pub rises_small : (fs : List ℤ) (q : ℕ) (whole : List ℤ) → length fs ≤ 2 → All (λ (c : ℤ). unsigned_abs c ≤ 2) fs → All Is26 (map (stepped q) whole)
    → All (λ (d : ℤ). unsigned_abs d ≤ 268435456) (map (stepped q) (left_in (alone_by fs 0) whole))
rises_small fs q whole few sizes small =
    let all = all_small fs 0 q 134217728 whole small (λ k. omega (arith, floor_within 2 0 q fs whole k sizes small, few)) in
    λ k d l. omega (arith, all k d l)

floor_less : (v : ℤ) → unsigned_abs (floor_by 13 v) ≤ unsigned_abs v / 8192 + 1
floor_less (pos n) = omega arith
floor_less (negsuc n) = omega arith

split_floor : (s q : ℕ) (d : ℤ) → 13 ≤ s → q ≤ 8 → unsigned_abs d * 2 ^ q ≤ 8796093022208 → unsigned_abs (floor_by s d) * 2 ^ q ≤ 2013265920
split_floor s q d le few size =
    let nest : floor_by (s - 13) (floor_by 13 d) ≡ floor_by s d = floor_nest 13 (s - 13) d ∙ ap (λ (n : ℕ). floor_by n d) (let k : 13 + (s - 13) ≡ s = omega (arith, le) in k) in
    let outer : unsigned_abs (floor_by s d) ≤ unsigned_abs d / 8192 + 1 = omega (arith, ap unsigned_abs nest, floor_size (s - 13) (floor_by 13 d), floor_less d) in
    let power : 2 ^ q ≤ 2 ^ 8 = pow-le-pow_right (omega arith) few in
    let times : unsigned_abs (floor_by s d) * 2 ^ q ≤ (unsigned_abs d / 8192 + 1) * 2 ^ q = mul-le-mul_right (2 ^ q) outer in
    let under : unsigned_abs d / 8192 * 8192 ≤ unsigned_abs d = div-mul-le_self (unsigned_abs d) 8192 in
    let scaled : unsigned_abs d / 8192 * 8192 * 2 ^ q ≤ unsigned_abs d * 2 ^ q = mul-le-mul_right (2 ^ q) under in
    omega (arith, times, scaled, size, power)

pub split_fit : (fs : List ℤ) (s q : ℕ) (whole : List ℤ) → length fs ≤ 8 → 13 ≤ s → q ≤ 8 → All IsCoefficient fs → All Is26 (map (stepped q) whole)
    → All (FitsSigned w32) (map (stepped q) (residuals_of (fir_alone fs s) (past_by (reverse (take 8 whole)) []) 0 (drop 8 whole)))
split_fit fs s q whole few le step coeffs small =
    all_fit fs s q whole small (λ k.
    let P : ℤ → Type 0 = λ (v : ℤ). unsigned_abs v * 2 ^ q ≤ 33554432 in
    let seen = all_reverse P (take (8 + k) whole) (All-take P (8 + k) whole (all_sized q whole small)) in
    let all = dot_within 32768 33554432 (2 ^ q) fs (reverse (take (8 + k) whole)) (coefficient_sizes fs coeffs) seen in
    split_floor s q (dot fs (reverse (take (8 + k) whole))) le step (omega (arith, all, few)))

-- ---- the residuals of a block

pub scaled_none : (vs : List ℤ) → scaled 0 vs ≡ vs
scaled_none [] = refl
scaled_none (v ∷ vs) = ap (λ (w : ℤ). w ∷ scaled 0 vs) (let e : v *ℤ pos (2 ^ 0) ≡ v = omega (arith, ints) in e) ∙ ap (λ (ws : List ℤ). v ∷ ws) (scaled_none vs)

-- filters without an IIR, and without a shift of their coefficients
pub alone_is : (pair : Pair) → pair.fir.coeff_shift ≡ 0 → pair.iir.coeffs.items ≡ [] → filters_of pair.fir pair.iir ≡ alone_by pair.fir.coeffs.items (shift_where pair.fir.coeffs.items pair.fir.shift pair.iir.shift)
alone_is pair e none =
    ap (λ (fs : List ℤ). record { fir = fs; iir = scaled pair.iir.coeff_shift pair.iir.coeffs.items; shift = shift_where pair.fir.coeffs.items pair.fir.shift pair.iir.shift })
    (ap (λ (n : ℕ). scaled n pair.fir.coeffs.items) e ∙ scaled_none pair.fir.coeffs.items)
    ∙ ap (λ (vs : List ℤ). record { fir = pair.fir.coeffs.items; iir = scaled pair.iir.coeff_shift vs; shift = shift_where pair.fir.coeffs.items pair.fir.shift pair.iir.shift }) none

same_past : (n : ℕ) (pair : Pair) (past : Past) → pair.iir.coeffs.items ≡ [] → past_for n pair past ≡ past
same_past n pair past none = ap (λ (k : ℕ). with_state (replicate k (pos 0)) past) (pick (n == 0))
  where
    pick : (t : Bool) → (if t then 0 else order_of pair.iir) ≡ 0
    pick true = refl
    pick false = ap (λ (vs : List ℤ). length vs) none

-- what lies before the block, and the block, in steps
pub line_outputs : (step : ℕ) (past : Past) (samples whole high low : List ℤ) → IsLine step past samples whole high low → map (stepped step) (reverse (take 8 whole)) ≡ past.outputs
line_outputs step past samples whole high low is =
    let long : length (reverse past.outputs) ≡ 8 = omega (arith, is.eight, length-reverse past.outputs) in
    map_reverse (stepped step) (take 8 whole)
    ∙ ap reverse (sym (take-map (stepped step) 8 whole) ∙ ap (take 8) is.steps ∙ take_at (reverse past.outputs) samples 8 long)
    ∙ reverse-reverse past.outputs

pub line_samples : (step : ℕ) (past : Past) (samples whole high low : List ℤ) → IsLine step past samples whole high low → map (stepped step) (drop 8 whole) ≡ samples
line_samples step past samples whole high low is =
    let long : length (reverse past.outputs) ≡ 8 = omega (arith, is.eight, length-reverse past.outputs) in
    sym (drop-map (stepped step) 8 whole) ∙ ap (drop 8) is.steps ∙ drop_at (reverse past.outputs) samples 8 long

pub block_is : (pair : Pair) (step : ℕ) (past : Past) (samples whole high low : List ℤ) (n shift : ℕ) (values : List ℤ) → IsLine step past samples whole high low → pair.fir.coeff_shift ≡ 0 → pair.iir.coeffs.items ≡ []
    → shift ≡ shift_where pair.fir.coeffs.items pair.fir.shift pair.iir.shift → values ≡ left_in (alone_by pair.fir.coeffs.items shift) whole → map (stepped step) values ≡ residuals_for past step samples n pair
block_is pair step past samples whole high low n shift values is e none at left =
    let fs : List ℤ = pair.fir.coeffs.items in
    ap (map (stepped step)) left
    ∙ sym (residuals_stepped fs shift step (reverse (take 8 whole)) past.differences [] (drop 8 whole))
    ∙ ap (λ (xs : List ℤ). residuals_of (fir_alone fs shift) (past_by xs past.differences) step (map (stepped step) (drop 8 whole))) (line_outputs step past samples whole high low is)
    ∙ ap (λ (xs : List ℤ). residuals_of (fir_alone fs shift) past step xs) (line_samples step past samples whole high low is)
    ∙ ap (λ (k : ℕ). residuals_of (fir_alone fs k) past step samples) at
    ∙ ap (λ (f : Filters). residuals_of f past step samples) (sym (alone_is pair e none))
    ∙ ap (λ (p : Past). residuals_of (filters_of pair.fir pair.iir) p step samples) (sym (same_past n pair past none))

-- ---- the filter's parts

pub all_turned : (P : ℤ → Type 0) (taps cs : List ℤ) → reverse taps ≡ cs → All P cs → All P taps
all_turned P taps cs e h = subst (λ (xs : List ℤ). All P xs) (ap reverse (sym e) ∙ reverse-reverse taps) (all_reverse P cs h)

pub coefficients_are : (f : Filter 8) (cs : List ℤ) → IsFilter f → f.coeff_shift ≡ 0 → cs ≡ f.coeffs.items → All IsCoefficient cs
coefficients_are f cs h e at = subst (λ (xs : List ℤ). All IsCoefficient xs) (ap (λ (n : ℕ). scaled n f.coeffs.items) e ∙ scaled_none f.coeffs.items ∙ sym at) h.coefficients

pub shift_is : (cs : List ℤ) (a b shift : ℕ) → (length cs ≡ 0 → shift ≡ b) → (0 < length cs → shift ≡ a) → shift ≡ shift_where cs a b
shift_is [] a b shift none some = none refl
shift_is (c ∷ cs) a b shift none some = some (omega arith)

-- ---- the line

-- values that are parts of others, one by one
pub mapped : (f : ℤ → ℤ) (xs ys : List ℤ) → length xs ≡ length ys → ((k : ℕ) → k < length ys → get_or ys k (pos 0) ≡ f (get_or xs k (pos 0))) → ys ≡ map f xs
mapped f xs ys e each =
    ext_get_or (pos 0) ys (map f xs) (omega (arith, e, length-map xs f))
    (λ i lt. each i lt ∙ sym (get_or-map f xs i (pos 0) (pos 0) (omega (arith, lt, e))))

-- all of a line
pub all_in_line : (P : ℤ → Type 0) (outputs samples : List ℤ) → All P outputs → All P samples → All P (reverse outputs ++ samples)
all_in_line P outputs samples a b = All-append P (reverse outputs) samples (all_reverse P outputs a) b

pub line_is : (step : ℕ) (past : Past) (samples whole high low : List ℤ) → length past.outputs ≡ 8 → map (stepped step) whole ≡ reverse past.outputs ++ samples → All Is26 past.outputs → All Is26 samples
    → high ≡ map (floor_by 13) whole → low ≡ map low_part whole → IsLine step past samples whole high low
line_is step past samples whole high low eight steps a b h l =
    let small : All Is26 (map (stepped step) whole) = subst (λ (xs : List ℤ). All Is26 xs) (sym steps) (all_in_line Is26 past.outputs samples a b) in
    record { eight = eight; steps = steps; small = small; words = unscaled step whole small; high_parts = h; low_parts = l }

-- values written behind the first 8
pub put_behind : (front rest behind : List ℤ) → length front ≡ 8 → put_mid 8 (length (front ++ rest) - 8) (front ++ rest) behind ≡ front ++ behind
put_behind front rest behind long =
    ap (λ (xs : List ℤ). xs ++ (behind ++ post_of 8 (length (front ++ rest) - 8) (front ++ rest))) (take_at front rest 8 long)
    ∙ ap (λ (xs : List ℤ). front ++ (behind ++ xs)) (drop_all (length (front ++ rest) - 8) (drop 8 (front ++ rest)) (omega (arith, length-drop 8 (front ++ rest))))
    ∙ ap (λ (xs : List ℤ). front ++ xs) (append-nil behind)

pub line_length : (step : ℕ) (past : Past) (samples whole high low : List ℤ) → IsLine step past samples whole high low → length whole ≡ 8 + length samples
line_length step past samples whole high low is =
    omega (arith, length-map whole (stepped step), ap (λ (xs : List ℤ). length xs) is.steps, length-append (reverse past.outputs) samples, length-reverse past.outputs, is.eight)
