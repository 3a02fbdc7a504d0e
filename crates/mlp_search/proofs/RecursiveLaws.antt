-- What filters leave whose IIR takes half of the latest difference away, by the rises of samples.
use Rattle.std.proofs.Common.{◌≡◌, ℕ, suc, ◌+◌, ◌^◌, ◌<◌, ◌≤◌, ℤ, pos, negsuc, neg_ℤ, ◌+ℤ◌, ◌-ℤ◌, ◌*ℤ◌, List, [], ◌∷◌, ◌++◌}
use Rattle.std.proofs.Common.{length, take, drop, map, get_or, reverse, arith, refl, sym, ◌∙◌, ap, subst, append_assoc, add-one, to_z, of_z, ◌%◌, ◌*◌, w32}
use Rattle.std.specs.Prelude.{All, FitsSigned, unsigned_abs}
use Rattle.std.proofs.Math.IntN.{*ℤ_comm, *ℤ-zero}
use Rattle.std.proofs.Math.ListN.{set}
use Rattle.std.proofs.Math.Pow.{pow_pos, pow-lt}
use Rattle.std.proofs.Math.Seq.{drop-cons, take-suc-set}
use Rattle.std.proofs.lemmas.Int.{ints, int_wrap_fits, wrapping_mul_is}
use Rattle.std.proofs.lemmas.List.{drop-set-lt, take_all, drop_all, append-nil}
use Rattle.std.proofs.lemmas.List.Elements.{All-cons, All-nil}
use Rattle.mlp_arith.specs.Words.{floor_by, clear, wrap}
use Rattle.mlp_arith.proofs.Floors.{add-mul}
use Rattle.mlp_arith.proofs.Residues.{floor_by-add, clear_le, lt_clear}
use Rattle.mlp_predict.specs.Prediction.{Past, dot, predicted, residuals_of}
use Rattle.mlp_predict.specs.Filters.{scaled, filters_of, shift_where}
use Rattle.mlp_predict.proofs.AloneLaws.{fir_alone, past_by}
use Rattle.mlp_residual.proofs.Codes.{floor_multiple}
use Rattle.mlp_search.specs.declared.pair.Pair.{Pair}
use Rattle.mlp_search.specs.Folded.{stepped}
use Rattle.mlp_search.specs.Lines.{IsLine, alone_by, left_in, halving, excesses}
use Rattle.mlp_search.proofs.LineLaws.{mul_moved, sub-mul, floor_nest, dot_stepped, no_zero, clear_none}
use Rattle.mlp_search.proofs.LineFits.{line_outputs, line_samples, scaled_none, shift_is}

-- ---- sizes

half_size : (g : ℤ) → unsigned_abs g ≤ 536870912 → unsigned_abs (floor_by 1 g) ≤ 268435456
half_size (pos n) le = omega (arith, le)
half_size (negsuc n) le = omega (arith, le)

pub excess_size : (g d : ℤ) → unsigned_abs g ≤ 536870912 → unsigned_abs d ≤ 268435456 → unsigned_abs (floor_by 1 g -ℤ d) ≤ 536870912
excess_size g d few rise = omega (arith, ints, half_size g few, rise)

pub small_fits : (v : ℤ) → unsigned_abs v ≤ 536870912 → FitsSigned w32 v
small_fits v few = omega (arith, ints, few)

pub steps_shifted : (q : ℕ) (v : ℤ) → q ≤ 8 → FitsSigned w32 v → unsigned_abs (stepped q v) ≤ 268435456 → to_z w32 (of_z w32 v * 2 ^ q % 4294967296) ≡ stepped q v
steps_shifted q v le f few =
    let p : 2 ^ q < 2 ^ 9 = pow-lt (let l : q < 9 = omega (arith, le) in l) in
    wrapping_mul_is w32 v (pos (2 ^ q)) f (omega (arith, ints, p)) ∙ int_wrap_fits w32 (stepped q v) (let h : FitsSigned w32 (stepped q v) = omega (arith, ints, few) in h)

-- ---- predictions

dot_scaled : (q : ℕ) (cs vs : List ℤ) → dot (scaled q cs) vs ≡ stepped q (dot cs vs)
dot_scaled q [] vs = omega (arith, ints)
dot_scaled q (c ∷ cs) [] = omega (arith, ints)
dot_scaled q (c ∷ cs) (v ∷ vs) =
    ap (λ (z : ℤ). z +ℤ dot (scaled q cs) vs)
    (*ℤ_comm (c *ℤ pos (2 ^ q)) v ∙ mul_moved v c (2 ^ q) ∙ ap (λ (z : ℤ). z *ℤ pos (2 ^ q)) (*ℤ_comm v c))
    ∙ ap (λ (z : ℤ). (c *ℤ v) *ℤ pos (2 ^ q) +ℤ z) (dot_scaled q cs vs)
    ∙ sym (add-mul (c *ℤ v) (dot cs vs) (pos (2 ^ q)))

half_more : (d g : ℤ) → floor_by 2 (stepped 2 d +ℤ (neg_ℤ (pos 2) *ℤ neg_ℤ g +ℤ pos 0)) ≡ d +ℤ floor_by 1 g
half_more d g =
    let twice : neg_ℤ (pos 2) *ℤ neg_ℤ g +ℤ pos 0 ≡ g *ℤ pos (2 ^ 1) = omega (arith, ints) in
    let under : floor_by 2 (g *ℤ pos (2 ^ 1)) ≡ floor_by 1 g = sym (floor_nest 1 1 (g *ℤ pos (2 ^ 1))) ∙ ap (floor_by 1) (floor_multiple g (2 ^ 1) (pow_pos 1)) in
    let turned : stepped 2 d +ℤ g *ℤ pos (2 ^ 1) ≡ g *ℤ pos (2 ^ 1) +ℤ d *ℤ pos (2 ^ 2) = omega (arith, ints) in
    let swapped : floor_by 1 g +ℤ d ≡ d +ℤ floor_by 1 g = omega (arith, ints) in
    ap (λ (z : ℤ). floor_by 2 (stepped 2 d +ℤ z)) twice
    ∙ ap (floor_by 2) turned
    ∙ floor_by-add 2 (g *ℤ pos (2 ^ 1)) d
    ∙ ap (λ (z : ℤ). z +ℤ d) under
    ∙ swapped

ahead : (cs : List ℤ) (q : ℕ) (ys es : List ℤ) (g : ℤ) → predicted (halving cs) (past_by (map (stepped q) ys) (neg_ℤ g ∷ es)) ≡ stepped q (dot cs ys) +ℤ floor_by 1 g
ahead cs q ys es g =
    ap (λ (z : ℤ). floor_by 2 (z +ℤ (neg_ℤ (pos 2) *ℤ neg_ℤ g +ℤ pos 0))) (dot_scaled 2 cs (map (stepped q) ys))
    ∙ half_more (dot cs (map (stepped q) ys)) g
    ∙ ap (λ (z : ℤ). z +ℤ floor_by 1 g) (dot_stepped q cs ys)

floor_none : (v : ℤ) → floor_by 0 v ≡ v
floor_none v = let one : v ≡ v *ℤ pos (2 ^ 0) = omega (arith, ints) in ap (floor_by 0) one ∙ floor_multiple v (2 ^ 0) (pow_pos 0)

-- a rise is what a sample has above its prediction without an IIR
rise_is : (cs ys : List ℤ) (z : ℤ) → z -ℤ clear 0 (floor_by 0 (dot cs ys +ℤ pos 0)) ≡ z -ℤ dot cs ys
rise_is cs ys z =
    ap (λ (d : ℤ). z -ℤ clear 0 (floor_by 0 d)) (no_zero (dot cs ys))
    ∙ ap (λ (d : ℤ). z -ℤ d) (clear_none (floor_by 0 (dot cs ys)) ∙ floor_none (dot cs ys))

neg_mul : (v : ℤ) (n : ℕ) → neg_ℤ v *ℤ pos n ≡ neg_ℤ (v *ℤ pos n)
neg_mul v n =
    let both = add-mul (neg_ℤ v) v (pos n) in
    let none : (neg_ℤ v +ℤ v) *ℤ pos n ≡ pos 0 = ap (λ (z : ℤ). z *ℤ pos n) (let e : neg_ℤ v +ℤ v ≡ pos 0 = omega (arith, ints) in e) ∙ *ℤ_comm (pos 0) (pos n) ∙ *ℤ-zero (pos n) in
    omega (arith, ints, both, none)

-- what is left of a sample, by how far the prediction is above it
left_less : (q : ℕ) (p z : ℤ) → stepped q z -ℤ clear q p ≡ stepped q (neg_ℤ (floor_by q (p -ℤ stepped q z)))
left_less q p z =
    let moved : p -ℤ stepped q z ≡ p +ℤ neg_ℤ z *ℤ pos (2 ^ q) = omega (arith, ints, neg_mul z (2 ^ q)) in
    let under : floor_by q (p -ℤ stepped q z) ≡ floor_by q p +ℤ neg_ℤ z = ap (floor_by q) moved ∙ floor_by-add q p (neg_ℤ z) in
    let turned : neg_ℤ (floor_by q p +ℤ neg_ℤ z) ≡ z -ℤ floor_by q p = omega (arith, ints) in
    sym (ap (λ (v : ℤ). stepped q (neg_ℤ v)) under ∙ ap (stepped q) turned ∙ sub-mul z (floor_by q p) (2 ^ q))

over : (half up p x m : ℤ) → up ≡ x -ℤ m → p ≡ m +ℤ half → half -ℤ up ≡ p -ℤ x
over half up p x m e a = omega (arith, ints, e, a)

difference : (p x next : ℤ) → next ≡ p -ℤ x → unsigned_abs next ≤ 536870912 → wrap (x -ℤ p) ≡ neg_ℤ next
difference p x next e few =
    let turned : x -ℤ p ≡ neg_ℤ next = omega (arith, ints, e) in
    ap wrap turned ∙ int_wrap_fits w32 (neg_ℤ next) (let f : FitsSigned w32 (neg_ℤ next) = omega (arith, ints, few) in f)

-- ---- all samples

-- What is left of samples, in quantisation steps, by their rises: what they have above predictions without an IIR. How
-- far a prediction is above its sample is half of how far the one before was, rounded down, less the rise.
abbrev pub halved : ℕ → ℤ → List ℤ → List ℤ
halved step excess [] = []
halved step excess (d ∷ ds) =
    neg_ℤ (floor_by step (floor_by 1 excess -ℤ stepped step d)) ∷ halved step (floor_by 1 excess -ℤ stepped step d) ds

-- .. by the excesses
pub halved_by : (q : ℕ) (g : ℤ) (ds : List ℤ) → map (λ (e : ℤ). neg_ℤ (floor_by q e)) (excesses q g ds) ≡ halved q g ds
halved_by q g [] = refl
halved_by q g (d ∷ ds) = ap (λ (vs : List ℤ). neg_ℤ (floor_by q (floor_by 1 g -ℤ stepped q d)) ∷ vs) (halved_by q (floor_by 1 g -ℤ stepped q d) ds)

pub excesses_few : (q : ℕ) (g : ℤ) (ds : List ℤ) → unsigned_abs g ≤ 536870912 → All (λ (d : ℤ). unsigned_abs d ≤ 268435456) (map (stepped q) ds) → All (λ (e : ℤ). unsigned_abs e ≤ 536870912) (excesses q g ds)
excesses_few q g [] few rises = All-nil (λ (e : ℤ). unsigned_abs e ≤ 536870912)
excesses_few q g (d ∷ ds) few rises =
    let size : unsigned_abs (floor_by 1 g -ℤ stepped q d) ≤ 536870912 = excess_size g (stepped q d) few (rises 0 (pos 0) (omega arith)) in
    All-cons (λ (e : ℤ). unsigned_abs e ≤ 536870912) (floor_by 1 g -ℤ stepped q d) (excesses q (floor_by 1 g -ℤ stepped q d) ds) size
    (excesses_few q (floor_by 1 g -ℤ stepped q d) ds size (λ k e l. rises (suc k) e (omega (arith, l))))

halved_is : (cs : List ℤ) (q : ℕ) (ys ds es zs : List ℤ) (g : ℤ) → unsigned_abs g ≤ 536870912
    → All (λ (d : ℤ). unsigned_abs d ≤ 268435456) (map (stepped q) (residuals_of (fir_alone cs 0) (past_by ys ds) 0 zs))
    → residuals_of (halving cs) (past_by (map (stepped q) ys) (neg_ℤ g ∷ es)) q (map (stepped q) zs) ≡ map (stepped q) (halved q g (residuals_of (fir_alone cs 0) (past_by ys ds) 0 zs))
halved_is cs q ys ds es [] g few rises = refl
halved_is cs q ys ds es (z ∷ zs) g few rises =
    let d : ℤ = z -ℤ clear 0 (floor_by 0 (dot cs ys +ℤ pos 0)) in
    let before : ℤ = wrap (z -ℤ predicted (fir_alone cs 0) (past_by ys ds)) in
    let next : ℤ = floor_by 1 g -ℤ stepped q d in
    let p : ℤ = predicted (halving cs) (past_by (map (stepped q) ys) (neg_ℤ g ∷ es)) in
    let x : ℤ = stepped q z in
    let above : next ≡ p -ℤ x =
    over (floor_by 1 g) (stepped q d) p x (stepped q (dot cs ys)) (ap (stepped q) (rise_is cs ys z) ∙ sub-mul z (dot cs ys) (2 ^ q)) (ahead cs q ys es g)
    in
    let size : unsigned_abs next ≤ 536870912 = excess_size g (stepped q d) few (rises 0 (pos 0) (omega arith)) in
    let rest : ℤ → List ℤ = λ (e : ℤ). residuals_of (halving cs) (past_by (map (stepped q) (z ∷ ys)) (e ∷ neg_ℤ g ∷ es)) q (map (stepped q) zs) in
    ap (λ (v : ℤ). v ∷ rest (wrap (x -ℤ p))) (left_less q p z ∙ ap (λ (v : ℤ). stepped q (neg_ℤ (floor_by q v))) (sym above))
    ∙ ap (λ (e : ℤ). stepped q (neg_ℤ (floor_by q next)) ∷ rest e) (difference p x next above size)
    ∙ ap (λ (vs : List ℤ). stepped q (neg_ℤ (floor_by q next)) ∷ vs)
    (halved_is cs q (z ∷ ys) (before ∷ ds) (neg_ℤ g ∷ es) zs next size (λ k e l. rises (suc k) e (omega (arith, l))))

pub halved_block : (cs : List ℤ) (step : ℕ) (past : Past) (samples es whole high low : List ℤ) (g : ℤ) → IsLine step past samples whole high low → past.differences ≡ neg_ℤ g ∷ es → unsigned_abs g ≤ 536870912
    → All (λ (d : ℤ). unsigned_abs d ≤ 268435456) (map (stepped step) (left_in (alone_by cs 0) whole))
    → map (stepped step) (halved step g (left_in (alone_by cs 0) whole)) ≡ residuals_of (halving cs) past step samples
halved_block cs step past samples es whole high low g is e few rises =
    sym (halved_is cs step (reverse (take 8 whole)) [] es (drop 8 whole) g few rises)
    ∙ ap (λ (xs : List ℤ). residuals_of (halving cs) (past_by xs (neg_ℤ g ∷ es)) step (map (stepped step) (drop 8 whole))) (line_outputs step past samples whole high low is)
    ∙ ap (λ (xs : List ℤ). residuals_of (halving cs) (past_by past.outputs (neg_ℤ g ∷ es)) step xs) (line_samples step past samples whole high low is)
    ∙ ap (λ (ds : List ℤ). residuals_of (halving cs) (past_by past.outputs ds) step samples) (sym e)

left_fits : (q : ℕ) (v : ℤ) → q ≤ 8 → unsigned_abs v ≤ 536870912 → FitsSigned w32 (stepped q (neg_ℤ (floor_by q v)))
left_fits q v le few =
    let p : 2 ^ q < 2 ^ 9 = pow-lt (let l : q < 9 = omega (arith, le) in l) in
    omega (arith, ints, few, p, clear_le q v, lt_clear q v, neg_mul (floor_by q v) (2 ^ q))

pub halved_fits : (q : ℕ) (g : ℤ) (ds : List ℤ) → q ≤ 8 → unsigned_abs g ≤ 536870912 → All (λ (d : ℤ). unsigned_abs d ≤ 268435456) (map (stepped q) ds) → All (FitsSigned w32) (map (stepped q) (halved q g ds))
halved_fits q g [] le few rises = All-nil (FitsSigned w32)
halved_fits q g (d ∷ ds) le few rises =
    let size : unsigned_abs (floor_by 1 g -ℤ stepped q d) ≤ 536870912 = excess_size g (stepped q d) few (rises 0 (pos 0) (omega arith)) in
    All-cons (FitsSigned w32) (stepped q (neg_ℤ (floor_by q (floor_by 1 g -ℤ stepped q d)))) (map (stepped q) (halved q (floor_by 1 g -ℤ stepped q d) ds)) (left_fits q (floor_by 1 g -ℤ stepped q d) le size)
    (halved_fits q (floor_by 1 g -ℤ stepped q d) ds le size (λ k e l. rises (suc k) e (omega (arith, l))))

-- ---- one sample more

pub excesses_more : (q : ℕ) (g : ℤ) (xs all : List ℤ) (i : ℕ) (next : ℤ) → i < length xs → next ≡ floor_by 1 g -ℤ stepped q (get_or xs i (pos 0))
    → take i xs ++ excesses q g (drop i xs) ≡ all → take (i + 1) (set xs i next) ++ excesses q next (drop (i + 1) (set xs i next)) ≡ all
excesses_more q g xs all i next h n e =
    let head : excesses q g (drop i xs) ≡ next ∷ excesses q next (drop (suc i) xs) =
    ap (excesses q g) (drop-cons xs i (pos 0) h) ∙ ap (λ (m : ℤ). m ∷ excesses q m (drop (suc i) xs)) (sym n)
    in
    rw add-one
    (ap (λ (ys : List ℤ). ys ++ excesses q next (drop (suc i) (set xs i next))) (take-suc-set xs i next h)
    ∙ ap (λ (ys : List ℤ). (take i xs ++ next ∷ []) ++ excesses q next ys) (drop-set-lt (suc i) xs i next (omega arith))
    ∙ append_assoc (take i xs) (next ∷ []) (excesses q next (drop (suc i) xs))
    ∙ ap (λ (ys : List ℤ). take i xs ++ ys) (sym head)
    ∙ e)

pub excesses_all : (q : ℕ) (g : ℤ) (xs all : List ℤ) (i : ℕ) → length xs ≤ i → take i xs ++ excesses q g (drop i xs) ≡ all → xs ≡ all
excesses_all q g xs all i done e =
    sym (append-nil xs)
    ∙ ap (λ (ys : List ℤ). ys ++ []) (sym (take_all i xs done))
    ∙ ap (λ (ys : List ℤ). take i xs ++ excesses q g ys) (sym (drop_all i xs done))
    ∙ e

-- the rises from place i on
abbrev pub RisesFrom : ℕ → ℕ → List ℤ → Type 0
RisesFrom q i xs = All (λ (d : ℤ). unsigned_abs d ≤ 268435456) (map (stepped q) (drop i xs))

rises_there : (q : ℕ) (xs : List ℤ) (i : ℕ) → i < length xs → RisesFrom q i xs → All (λ (d : ℤ). unsigned_abs d ≤ 268435456) (map (stepped q) (get_or xs i (pos 0) ∷ drop (suc i) xs))
rises_there q xs i h all = subst (λ (ys : List ℤ). All (λ (d : ℤ). unsigned_abs d ≤ 268435456) (map (stepped q) ys)) (drop-cons xs i (pos 0) h) all

pub rise_there : (q : ℕ) (xs : List ℤ) (i : ℕ) → i < length xs → RisesFrom q i xs → unsigned_abs (stepped q (get_or xs i (pos 0))) ≤ 268435456
rise_there q xs i h all = rises_there q xs i h all 0 (pos 0) (omega arith)

pub rises_more : (q : ℕ) (xs : List ℤ) (i : ℕ) (v : ℤ) → i < length xs → RisesFrom q i xs → RisesFrom q (i + 1) (set xs i v)
rises_more q xs i v h all =
    rw add-one
    (subst (λ (ys : List ℤ). All (λ (d : ℤ). unsigned_abs d ≤ 268435456) (map (stepped q) ys)) (sym (drop-set-lt (suc i) xs i v (omega arith)))
    (λ k d l. rises_there q xs i h all (suc k) d (omega (arith, l))))

-- ---- the filters

pub one_item : (xs : List ℤ) (a : ℤ) → length xs ≡ 1 → get_or xs 0 (pos 0) ≡ a → xs ≡ a ∷ []
one_item [] a n e = absurd (omega (arith, n))
one_item (x ∷ []) a n e = ap (λ (y : ℤ). y ∷ []) e
one_item (x ∷ y ∷ ys) a n e = absurd (omega (arith, n))

pub two_items : (xs : List ℤ) (a b : ℤ) → length xs ≡ 2 → get_or xs 0 (pos 0) ≡ a → get_or xs 1 (pos 0) ≡ b → xs ≡ a ∷ b ∷ []
two_items [] a b n e f = absurd (omega (arith, n))
two_items (x ∷ []) a b n e f = absurd (omega (arith, n))
two_items (x ∷ y ∷ []) a b n e f = ap (λ (z : ℤ). z ∷ y ∷ []) e ∙ ap (λ (z : ℤ). a ∷ z ∷ []) f
two_items (x ∷ y ∷ z ∷ zs) a b n e f = absurd (omega (arith, n))

pub filters_are : (pair : Pair) → pair.fir.shift ≡ 2 → pair.fir.coeff_shift ≡ 0 → pair.iir.coeff_shift ≡ 0 → pair.iir.coeffs.items ≡ neg_ℤ (pos 2) ∷ [] → 0 < length pair.fir.coeffs.items
    → filters_of pair.fir pair.iir ≡ record { fir = pair.fir.coeffs.items; iir = neg_ℤ (pos 2) ∷ []; shift = 2 }
filters_are pair shift a b iir some =
    let fs : List ℤ = pair.fir.coeffs.items in
    let there : pair.fir.shift ≡ shift_where pair.fir.coeffs.items pair.fir.shift pair.iir.shift =
    shift_is pair.fir.coeffs.items pair.fir.shift pair.iir.shift pair.fir.shift (λ z. absurd (omega (arith, z, some))) (λ l. refl)
    in
    ap (λ (k : ℕ). record { fir = scaled k fs; iir = scaled pair.iir.coeff_shift pair.iir.coeffs.items; shift = shift_where fs pair.fir.shift pair.iir.shift }) a
    ∙ ap (λ (cs : List ℤ). record { fir = cs; iir = scaled pair.iir.coeff_shift pair.iir.coeffs.items; shift = shift_where fs pair.fir.shift pair.iir.shift }) (scaled_none fs)
    ∙ ap (λ (k : ℕ). record { fir = fs; iir = scaled k pair.iir.coeffs.items; shift = shift_where fs pair.fir.shift pair.iir.shift }) b
    ∙ ap (λ (cs : List ℤ). record { fir = fs; iir = cs; shift = shift_where fs pair.fir.shift pair.iir.shift }) (scaled_none pair.iir.coeffs.items ∙ iir)
    ∙ ap (λ (k : ℕ). record { fir = fs; iir = neg_ℤ (pos 2) ∷ []; shift = k }) (sym there ∙ shift)
