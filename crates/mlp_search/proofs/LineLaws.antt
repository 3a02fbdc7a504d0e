-- Filters without an IIR over a block in one line, in quantisation steps.
use Rattle.std.proofs.Common.{◌≡◌, ℕ, zero, suc, ◌+◌, ◌-◌, ◌*◌, ◌/◌, ◌^◌, ◌<◌, ◌≤◌, ℤ, pos, negsuc, ◌+ℤ◌, ◌-ℤ◌, ◌*ℤ◌, List}
use Rattle.std.proofs.Common.{[], ◌∷◌, ◌++◌, length, take, drop, map, get_or, reverse, arith, refl, sym, ◌∙◌, ap, subst, append_assoc, to_z, of_z, w32}
use Rattle.std.specs.Prelude.{All, FitsSigned, unsigned_abs}
use Rattle.std.proofs.Math.IntN.{*ℤ_comm, *ℤ-zero, suc_ℤ-*ℤ}
use Rattle.std.proofs.Math.Nat.{div-div-eq-div-mul, div-le_self, mul-le-mul, mul-le-mul_left, mul-le-mul_right}
use Rattle.std.proofs.Math.Pow.{pow_pos, pow-add}
use Rattle.std.proofs.lemmas.Int.{ints, unsigned_abs-mul, to_z-of_z, int_wrap_fits}
use Rattle.std.proofs.lemmas.List.{reverse-append, get_or-drop, get_or-reverse, drop-take, take-take, take-append-drop, length-drop, length-reverse, take-map, map-append, ext_get_or}
use Rattle.std.proofs.lemmas.List.Elements.{All-take, All-map}
use Rattle.mlp_arith.specs.Words.{floor_by, clear, wrap}
use Rattle.mlp_arith.specs.Ranges.{Is26}
use Rattle.mlp_arith.proofs.Floors.{add-mul}
use Rattle.mlp_arith.proofs.Residues.{floor_by-add, clear_le, lt_clear}
use Rattle.mlp_predict.specs.Prediction.{dot, predicted, residuals_of, IsCoefficient}
use Rattle.mlp_predict.proofs.AloneLaws.{fir_alone, past_by}
use Rattle.mlp_residual.proofs.Codes.{floor_multiple}
use Rattle.mlp_search.specs.Folded.{sizes, stepped}
use Rattle.mlp_search.specs.Lines.{low_part, AreNear, AreShort, IsLight}

-- ---- products

mul_suc : (x : ℤ) (n : ℕ) → x *ℤ pos (suc n) ≡ x *ℤ pos n +ℤ x
mul_suc x n = *ℤ_comm x (pos (suc n)) ∙ suc_ℤ-*ℤ (pos n) x ∙ ap (λ (z : ℤ). z +ℤ x) (*ℤ_comm (pos n) x)

add_right : (a u b : ℤ) → a *ℤ (u +ℤ b) ≡ a *ℤ u +ℤ a *ℤ b
add_right a u b = *ℤ_comm a (u +ℤ b) ∙ add-mul u b a ∙ ap (λ (z : ℤ). z +ℤ b *ℤ a) (*ℤ_comm u a) ∙ ap (λ (z : ℤ). a *ℤ u +ℤ z) (*ℤ_comm b a)

-- a factor of a product is one of its second factor
pub mul_moved : (a b : ℤ) (n : ℕ) → a *ℤ (b *ℤ pos n) ≡ (a *ℤ b) *ℤ pos n
mul_moved a b zero = ap (λ (z : ℤ). a *ℤ z) (*ℤ-zero b) ∙ *ℤ-zero a ∙ sym (*ℤ-zero (a *ℤ b))
mul_moved a b (suc n) =
    ap (λ (z : ℤ). a *ℤ z) (mul_suc b n)
    ∙ add_right a (b *ℤ pos n) b
    ∙ ap (λ (z : ℤ). z +ℤ a *ℤ b) (mul_moved a b n)
    ∙ sym (mul_suc (a *ℤ b) n)

pub sub-mul : (a b : ℤ) (n : ℕ) → (a -ℤ b) *ℤ pos n ≡ a *ℤ pos n -ℤ b *ℤ pos n
sub-mul a b n =
    let both = add-mul (a -ℤ b) b (pos n) in
    let whole : (a -ℤ b +ℤ b) *ℤ pos n ≡ a *ℤ pos n = ap (λ (z : ℤ). z *ℤ pos n) (let e : a -ℤ b +ℤ b ≡ a = omega (arith, ints) in e) in
    omega (arith, ints, both, whole)

-- ---- whole steps pass through sums and floors

pub dot_stepped : (q : ℕ) (cs vs : List ℤ) → dot cs (map (stepped q) vs) ≡ stepped q (dot cs vs)
dot_stepped q [] vs = omega (arith, ints)
dot_stepped q (c ∷ cs) [] = omega (arith, ints)
dot_stepped q (c ∷ cs) (v ∷ vs) =
    ap (λ (z : ℤ). z +ℤ dot cs (map (stepped q) vs)) (mul_moved c v (2 ^ q))
    ∙ ap (λ (z : ℤ). (c *ℤ v) *ℤ pos (2 ^ q) +ℤ z) (dot_stepped q cs vs)
    ∙ sym (add-mul (c *ℤ v) (dot cs vs) (pos (2 ^ q)))

-- a floor of a floor
pub floor_nest : (a b : ℕ) (v : ℤ) → floor_by b (floor_by a v) ≡ floor_by (a + b) v
floor_nest a b (pos n) = ap pos (div-div-eq-div-mul n (2 ^ a) (2 ^ b) ∙ ap (λ (k : ℕ). n / k) (sym (pow-add 2 a b)))
floor_nest a b (negsuc n) = ap negsuc (div-div-eq-div-mul n (2 ^ a) (2 ^ b) ∙ ap (λ (k : ℕ). n / k) (sym (pow-add 2 a b)))

clear_floor : (q s : ℕ) (d : ℤ) → clear q (floor_by s (stepped q d)) ≡ stepped q (floor_by s d)
clear_floor q s d =
    ap (stepped q)
    (floor_nest s q (stepped q d)
    ∙ ap (λ (n : ℕ). floor_by n (stepped q d)) (let e : s + q ≡ q + s = omega arith in e)
    ∙ sym (floor_nest q s (stepped q d))
    ∙ ap (floor_by s) (floor_multiple d (2 ^ q) (pow_pos q)))

pub no_zero : (a : ℤ) → a +ℤ pos 0 ≡ a
no_zero a = omega (arith, ints)

pub clear_none : (v : ℤ) → clear 0 v ≡ v
clear_none v = let one : v ≡ v *ℤ pos (2 ^ 0) = omega (arith, ints) in ap (clear 0) one ∙ ap (λ (z : ℤ). z *ℤ pos (2 ^ 0)) (floor_multiple v (2 ^ 0) (pow_pos 0)) ∙ sym one

-- one residual
first_stepped : (fs : List ℤ) (s q : ℕ) (ys : List ℤ) (z : ℤ) → stepped q z -ℤ clear q (floor_by s (dot fs (map (stepped q) ys) +ℤ pos 0)) ≡ stepped q (z -ℤ clear 0 (floor_by s (dot fs ys +ℤ pos 0)))
first_stepped fs s q ys z =
    ap (λ (d : ℤ). stepped q z -ℤ clear q (floor_by s d)) (no_zero (dot fs (map (stepped q) ys)) ∙ dot_stepped q fs ys)
    ∙ ap (λ (p : ℤ). stepped q z -ℤ p) (clear_floor q s (dot fs ys))
    ∙ sym (sub-mul z (floor_by s (dot fs ys)) (2 ^ q))
    ∙ ap (λ (p : ℤ). stepped q (z -ℤ p)) (sym (clear_none (floor_by s (dot fs ys))))
    ∙ ap (λ (d : ℤ). stepped q (z -ℤ clear 0 (floor_by s d))) (sym (no_zero (dot fs ys)))

-- all residuals
pub residuals_stepped : (fs : List ℤ) (s q : ℕ) (ys ds es zs : List ℤ) → residuals_of (fir_alone fs s) (past_by (map (stepped q) ys) ds) q (map (stepped q) zs) ≡ map (stepped q) (residuals_of (fir_alone fs s) (past_by ys es) 0 zs)
residuals_stepped fs s q ys ds es [] = refl
residuals_stepped fs s q ys ds es (z ∷ zs) =
    let d : ℤ = wrap (stepped q z -ℤ predicted (fir_alone fs s) (past_by (map (stepped q) ys) ds)) in
    let e : ℤ = wrap (z -ℤ predicted (fir_alone fs s) (past_by ys es)) in
    let rest = residuals_of (fir_alone fs s) (past_by (map (stepped q) (z ∷ ys)) (d ∷ ds)) q (map (stepped q) zs) in
    ap (λ (r : ℤ). r ∷ rest) (first_stepped fs s q ys z)
    ∙ ap (λ (rs : List ℤ). stepped q (z -ℤ clear 0 (floor_by s (dot fs ys +ℤ pos 0))) ∷ rs) (residuals_stepped fs s q (z ∷ ys) (d ∷ ds) (e ∷ es) zs)

-- ---- residual k

residual_at : (fs : List ℤ) (s : ℕ) (xs ds zs : List ℤ) (k : ℕ) → k < length zs → get_or (residuals_of (fir_alone fs s) (past_by xs ds) 0 zs) k (pos 0) ≡ get_or zs k (pos 0) -ℤ floor_by s (dot fs (reverse (take k zs) ++ xs))
residual_at fs s xs ds [] k lt = absurd (omega (arith, lt))
residual_at fs s xs ds (z ∷ zs) zero lt =
    ap (λ (d : ℤ). z -ℤ clear 0 (floor_by s d)) (no_zero (dot fs xs)) ∙ ap (λ (p : ℤ). z -ℤ p) (clear_none (floor_by s (dot fs xs)))
residual_at fs s xs ds (z ∷ zs) (suc k) lt =
    let d : ℤ = wrap (z -ℤ predicted (fir_alone fs s) (past_by xs ds)) in
    let older : reverse (take k zs) ++ z ∷ xs ≡ reverse (z ∷ take k zs) ++ xs =
    sym (append_assoc (reverse (take k zs)) (z ∷ []) xs) ∙ ap (λ (ys : List ℤ). ys ++ xs) (sym (reverse-append (z ∷ []) (take k zs)))
    in
    residual_at fs s (z ∷ xs) (d ∷ ds) zs k (omega (arith, lt)) ∙ ap (λ (ys : List ℤ). get_or zs k (pos 0) -ℤ floor_by s (dot fs ys)) older

seen : (xs : List ℤ) (k : ℕ) → take 8 xs ++ drop 8 (take (8 + k) xs) ≡ take (8 + k) xs
seen xs k =
    let shorter : take 8 (take (8 + k) xs) ≡ take 8 xs = take-take 8 (8 + k) xs (omega arith) in
    ap (λ (ys : List ℤ). ys ++ drop 8 (take (8 + k) xs)) (sym shorter) ∙ take-append-drop 8 (take (8 + k) xs)

pub left_at : (fs : List ℤ) (s : ℕ) (whole : List ℤ) (k : ℕ) → 8 + k < length whole
    → get_or (residuals_of (fir_alone fs s) (past_by (reverse (take 8 whole)) []) 0 (drop 8 whole)) k (pos 0) ≡ get_or whole (8 + k) (pos 0) -ℤ floor_by s (dot fs (reverse (take (8 + k) whole)))
left_at fs s whole k lt =
    let older : reverse (take k (drop 8 whole)) ++ reverse (take 8 whole) ≡ reverse (take (8 + k) whole) =
    sym (reverse-append (take 8 whole) (take k (drop 8 whole)))
    ∙ ap reverse (ap (λ (ys : List ℤ). take 8 whole ++ ys) (sym (drop-take 8 k whole)) ∙ seen whole k)
    in
    residual_at fs s (reverse (take 8 whole)) [] (drop 8 whole) k (omega (arith, lt, length-drop 8 whole))
    ∙ ap (λ (v : ℤ). v -ℤ floor_by s (dot fs (reverse (take k (drop 8 whole)) ++ reverse (take 8 whole)))) (get_or-drop 8 whole k (pos 0))
    ∙ ap (λ (ys : List ℤ). get_or whole (8 + k) (pos 0) -ℤ floor_by s (dot fs ys)) older

pub left_length : (fs : List ℤ) (s q : ℕ) (xs ds zs : List ℤ) → length (residuals_of (fir_alone fs s) (past_by xs ds) q zs) ≡ length zs
left_length fs s q xs ds [] = refl
left_length fs s q xs ds (z ∷ zs) = ap suc (left_length fs s q (z ∷ xs) (wrap (z -ℤ predicted (fir_alone fs s) (past_by xs ds)) ∷ ds) zs)

-- ---- bounds

-- a sum of products of sizes of at most a and b, counted in steps of p
pub dot_within : (a b p : ℕ) (cs vs : List ℤ) → All (λ (c : ℤ). unsigned_abs c ≤ a) cs → All (λ (v : ℤ). unsigned_abs v * p ≤ b) vs → unsigned_abs (dot cs vs) * p ≤ length cs * (a * b)
dot_within a b p [] vs ca vb = omega (arith, ints)
dot_within a b p (c ∷ cs) [] ca vb = omega (arith, ints)
dot_within a b p (c ∷ cs) (v ∷ vs) ca vb =
    let first : unsigned_abs c * (unsigned_abs v * p) ≤ a * b = mul-le-mul (ca 0 c (omega arith)) (vb 0 v (omega arith)) in
    let size : unsigned_abs (c *ℤ v) ≡ unsigned_abs c * unsigned_abs v = unsigned_abs-mul c v in
    let here : unsigned_abs (c *ℤ v) * p ≤ a * b = omega (arith, first, ap (λ (n : ℕ). n * p) size) in
    let later = dot_within a b p cs vs (λ i d l. ca (suc i) d (omega (arith, l))) (λ i d l. vb (suc i) d (omega (arith, l))) in
    let both : unsigned_abs (c *ℤ v +ℤ dot cs vs) ≤ unsigned_abs (c *ℤ v) + unsigned_abs (dot cs vs) = omega (arith, ints) in
    let less : unsigned_abs (c *ℤ v +ℤ dot cs vs) * p ≤ (unsigned_abs (c *ℤ v) + unsigned_abs (dot cs vs)) * p = mul-le-mul_right p both in
    omega (arith, less, here, later)

-- ---- high and low parts

-- a sum by the high and the low parts of the values
pub dot_split : (cs vs : List ℤ) → dot cs vs ≡ dot cs (map low_part vs) +ℤ dot cs (map (floor_by 13) vs) *ℤ pos (2 ^ 13)
dot_split [] vs = omega (arith, ints)
dot_split (c ∷ cs) [] = omega (arith, ints)
dot_split (c ∷ cs) (v ∷ vs) =
    let h : ℤ = floor_by 13 v in
    let later = dot_split cs vs in
    let parts : c *ℤ v ≡ c *ℤ low_part v +ℤ c *ℤ (floor_by 13 v *ℤ pos (2 ^ 13)) =
    ap (λ (z : ℤ). c *ℤ z) (let e : v ≡ low_part v +ℤ floor_by 13 v *ℤ pos (2 ^ 13) = omega (arith, ints) in e) ∙ add_right c (low_part v) (floor_by 13 v *ℤ pos (2 ^ 13))
    in
    let moved = mul_moved c (floor_by 13 v) (2 ^ 13) in
    let sums = add-mul (c *ℤ floor_by 13 v) (dot cs (map (floor_by 13) vs)) (pos (2 ^ 13)) in
    omega (arith, ints, parts, moved, sums, later)

-- .. and its floor
pub floor_split : (s : ℕ) (low high d : ℤ) → 13 ≤ s → d ≡ low +ℤ high *ℤ pos (2 ^ 13) → floor_by (s - 13) (high +ℤ floor_by 13 low) ≡ floor_by s d
floor_split s low high d le e =
    ap (floor_by (s - 13))
    (let turned : high +ℤ floor_by 13 low ≡ floor_by 13 low +ℤ high = omega (arith, ints) in turned ∙ sym (floor_by-add 13 low high) ∙ ap (floor_by 13) (sym e))
    ∙ floor_nest 13 (s - 13) d
    ∙ ap (λ (n : ℕ). floor_by n d) (let k : 13 + (s - 13) ≡ s = omega (arith, le) in k)

-- ---- sums that fit 32 bits

pub floor_size : (s : ℕ) (v : ℤ) → unsigned_abs (floor_by s v) ≤ unsigned_abs v
floor_size s (pos n) = div-le_self n (2 ^ s)
floor_size s (negsuc n) = omega (arith, div-le_self n (2 ^ s))

floor_small : (v : ℤ) → unsigned_abs v ≤ 2147221504 → unsigned_abs (floor_by 13 v) ≤ 262113
floor_small (pos n) le = omega (arith, le)
floor_small (negsuc n) le = omega (arith, le)

high_size : (v : ℤ) → Is26 v → unsigned_abs (floor_by 13 v) * 1 ≤ 4096
high_size (pos n) h = omega (arith, ints, h.low, h.high)
high_size (negsuc n) h = omega (arith, ints, h.low, h.high)

low_size : (v : ℤ) → unsigned_abs (low_part v) * 1 ≤ 8191
low_size v = omega (arith, ints, clear_le 13 v, lt_clear 13 v)

-- light coefficients over 26 bits
pub light_bound : (cs vs : List ℤ) → All IsLight cs → All Is26 vs → length cs ≤ 4 → unsigned_abs (dot cs vs) ≤ 2013265920
light_bound cs vs light small few =
    let sizes : All (λ (c : ℤ). unsigned_abs c ≤ 15) cs = λ k d l. (let h = light k d l in omega (arith, ints, h.low, h.high)) in
    let seen : All (λ (v : ℤ). unsigned_abs v * 1 ≤ 33554432) vs = λ k d l. (let h = small k d l in omega (arith, ints, h.low, h.high)) in
    let all = dot_within 15 33554432 1 cs vs sizes seen in
    omega (arith, all, few)

pub coefficient_sizes : (cs : List ℤ) → All IsCoefficient cs → All (λ (c : ℤ). unsigned_abs c ≤ 32768) cs
coefficient_sizes cs h = λ k d l. (let e = h k d l in omega (arith, ints, e.low, e.high))

-- 16 bits over high parts
high_bound : (cs vs : List ℤ) → All IsCoefficient cs → All Is26 vs → length cs ≤ 8 → unsigned_abs (dot cs (map (floor_by 13) vs)) ≤ 1073741824
high_bound cs vs coeffs small few =
    let all = dot_within 32768 4096 1 cs (map (floor_by 13) vs) (coefficient_sizes cs coeffs) (All-map (λ (v : ℤ). unsigned_abs v * 1 ≤ 4096) (floor_by 13) vs (λ k d l. high_size (get_or vs k d) (small k d l))) in
    omega (arith, all, few)

-- .. and over low parts
low_bound : (cs vs : List ℤ) → All IsCoefficient cs → length cs ≤ 8 → unsigned_abs (dot cs (map low_part vs)) ≤ 2147221504
low_bound cs vs coeffs few =
    let all = dot_within 32768 8191 1 cs (map low_part vs) (coefficient_sizes cs coeffs) (All-map (λ (v : ℤ). unsigned_abs v * 1 ≤ 8191) low_part vs (λ k d l. low_size (get_or vs k d))) in
    omega (arith, all, few)

-- ---- what the code computes

word_back : (v : ℤ) → FitsSigned w32 v → to_z w32 (of_z w32 v) ≡ v
word_back v f = to_z-of_z w32 v f

-- a value less the floor of a sum
pub record Less (s : ℕ) (y r p : ℤ) : Type 0 where
  pub fits : FitsSigned w32 (to_z w32 (of_z w32 y) -ℤ to_z w32 (of_z w32 (floor_by s (to_z w32 (of_z w32 r)))))
  pub value : to_z w32 (of_z w32 (to_z w32 (of_z w32 y) -ℤ to_z w32 (of_z w32 (floor_by s (to_z w32 (of_z w32 r)))))) ≡ y -ℤ p

pub less : (s : ℕ) (y r d p : ℤ) → Is26 y → unsigned_abs d ≤ 2013265920 → r ≡ d → floor_by s d ≡ p → Less s y r p
less s y r d p small size e at =
    let under : unsigned_abs (floor_by s d) ≤ unsigned_abs d = floor_size s d in
    let fd : FitsSigned w32 d = omega (arith, ints, size) in
    let ff : FitsSigned w32 (floor_by s d) = omega (arith, ints, size, under) in
    let fy : FitsSigned w32 y = omega (arith, ints, small.low, small.high) in
    let ft : FitsSigned w32 (y -ℤ floor_by s d) = omega (arith, ints, size, under, small.low, small.high) in
    let inner : to_z w32 (of_z w32 r) ≡ d = ap (λ (z : ℤ). to_z w32 (of_z w32 z)) e ∙ word_back d fd in
    let floor : to_z w32 (of_z w32 (floor_by s (to_z w32 (of_z w32 r)))) ≡ floor_by s d = ap (λ (z : ℤ). to_z w32 (of_z w32 (floor_by s z))) inner ∙ word_back (floor_by s d) ff in
    let whole : to_z w32 (of_z w32 y) -ℤ to_z w32 (of_z w32 (floor_by s (to_z w32 (of_z w32 r)))) ≡ y -ℤ floor_by s d =
    ap (λ (z : ℤ). z -ℤ to_z w32 (of_z w32 (floor_by s (to_z w32 (of_z w32 r))))) (word_back y fy) ∙ ap (λ (z : ℤ). y -ℤ z) floor
    in
    record {
      fits = subst (λ (z : ℤ). FitsSigned w32 z) (sym whole) ft;
      value = ap (λ (z : ℤ). to_z w32 (of_z w32 z)) whole ∙ word_back (y -ℤ floor_by s d) ft ∙ ap (λ (z : ℤ). y -ℤ z) at;
    }

pub light_less : (s : ℕ) (y r d : ℤ) → Is26 y → unsigned_abs d ≤ 2013265920 → r ≡ wrap d → Less s y r (floor_by s d)
light_less s y r d small size e = less s y r d (floor_by s d) small size (e ∙ int_wrap_fits w32 d (let f : FitsSigned w32 d = omega (arith, ints, size) in f)) refl

-- two sums, over the high and the low parts
pub record Split (s : ℕ) (y h l p : ℤ) : Type 0 where
  pub sum : FitsSigned w32 (to_z w32 (of_z w32 h) +ℤ to_z w32 (of_z w32 (floor_by 13 (to_z w32 (of_z w32 l)))))
  pub rest : Less (s - 13) y (to_z w32 (of_z w32 h) +ℤ to_z w32 (of_z w32 (floor_by 13 (to_z w32 (of_z w32 l))))) p

pub split_less : (s : ℕ) (y h l : ℤ) (cs highs lows vs : List ℤ) → 13 ≤ s → Is26 y → All IsCoefficient cs → All Is26 vs → length cs ≤ 8
    → highs ≡ map (floor_by 13) vs → lows ≡ map low_part vs → h ≡ wrap (dot cs highs) → l ≡ wrap (dot cs lows) → Split s y h l (floor_by s (dot cs vs))
split_less s y h l cs highs lows vs le small coeffs all few he le2 hs ls =
    let dh : ℤ = dot cs (map (floor_by 13) vs) in
    let dl : ℤ = dot cs (map low_part vs) in
    let bh : unsigned_abs (dot cs (map (floor_by 13) vs)) ≤ 1073741824 = high_bound cs vs coeffs all few in
    let bl : unsigned_abs (dot cs (map low_part vs)) ≤ 2147221504 = low_bound cs vs coeffs few in
    let bf : unsigned_abs (floor_by 13 (dot cs (map low_part vs))) ≤ 262113 = floor_small (dot cs (map low_part vs)) bl in
    let fh : FitsSigned w32 (dot cs (map (floor_by 13) vs)) = omega (arith, ints, bh) in
    let fl : FitsSigned w32 (dot cs (map low_part vs)) = omega (arith, ints, bl) in
    let ff : FitsSigned w32 (floor_by 13 (dot cs (map low_part vs))) = omega (arith, ints, bf) in
    let ft : FitsSigned w32 (dh +ℤ floor_by 13 dl) = omega (arith, ints, bh, bf) in
    let size : unsigned_abs (dh +ℤ floor_by 13 dl) ≤ 2013265920 = omega (arith, ints, bh, bf) in
    let high : to_z w32 (of_z w32 h) ≡ dh = ap (λ (z : ℤ). to_z w32 (of_z w32 z)) (hs ∙ ap (λ (xs : List ℤ). wrap (dot cs xs)) he ∙ int_wrap_fits w32 dh fh) ∙ word_back dh fh in
    let low : to_z w32 (of_z w32 l) ≡ dl = ap (λ (z : ℤ). to_z w32 (of_z w32 z)) (ls ∙ ap (λ (xs : List ℤ). wrap (dot cs xs)) le2 ∙ int_wrap_fits w32 dl fl) ∙ word_back dl fl in
    let floor : to_z w32 (of_z w32 (floor_by 13 (to_z w32 (of_z w32 l)))) ≡ floor_by 13 dl = ap (λ (z : ℤ). to_z w32 (of_z w32 (floor_by 13 z))) low ∙ word_back (floor_by 13 dl) ff in
    let whole : to_z w32 (of_z w32 h) +ℤ to_z w32 (of_z w32 (floor_by 13 (to_z w32 (of_z w32 l)))) ≡ dh +ℤ floor_by 13 dl =
    ap (λ (z : ℤ). z +ℤ to_z w32 (of_z w32 (floor_by 13 (to_z w32 (of_z w32 l))))) high ∙ ap (λ (z : ℤ). dh +ℤ z) floor
    in
    record {
      sum = subst (λ (z : ℤ). FitsSigned w32 z) (sym whole) ft;
      rest = less (s - 13) y (to_z w32 (of_z w32 h) +ℤ to_z w32 (of_z w32 (floor_by 13 (to_z w32 (of_z w32 l))))) (dh +ℤ floor_by 13 dl) (floor_by s (dot cs vs)) small size whole (floor_split s dl dh (dot cs vs) le (dot_split cs vs));
    }

-- ---- the values before a place, the latest first

pub all_reverse : (P : ℤ → Type 0) (xs : List ℤ) → All P xs → All P (reverse xs)
all_reverse P xs h = λ k d l.
    let lt : k < length xs = omega (arith, l, length-reverse xs) in
    subst P (sym (get_or-reverse xs k d lt)) (h (length xs - 1 - k) d (omega (arith, lt)))

pub map_reverse : (f : ℤ → ℤ) (xs : List ℤ) → map f (reverse xs) ≡ reverse (map f xs)
map_reverse f [] = refl
map_reverse f (x ∷ xs) =
    ap (map f) (reverse-append (x ∷ []) xs)
    ∙ map-append f (reverse xs) (x ∷ [])
    ∙ ap (λ (ys : List ℤ). ys ++ f x ∷ []) (map_reverse f xs)
    ∙ sym (reverse-append (f x ∷ []) (map f xs))

pub before_small : (xs : List ℤ) (n : ℕ) → All Is26 xs → All Is26 (reverse (take n xs))
before_small xs n h = all_reverse Is26 (take n xs) (All-take Is26 n xs h)

-- a sum of products of values that are no farther from 0 than this
dot_near : (far : ℕ) (cs vs : List ℤ) → AreNear far vs → unsigned_abs (dot cs vs) ≤ sizes cs * far
dot_near far [] vs near = omega (arith, ints)
dot_near far (c ∷ cs) [] near = omega (arith, ints)
dot_near far (c ∷ cs) (v ∷ vs) near =
    let first : unsigned_abs c * unsigned_abs v ≤ unsigned_abs c * far = mul-le-mul_left (unsigned_abs c) (near 0 v (omega arith)) in
    let size : unsigned_abs (c *ℤ v) ≡ unsigned_abs c * unsigned_abs v = unsigned_abs-mul c v in
    let later = dot_near far cs vs (λ i d l. near (suc i) d (omega (arith, l))) in
    let both : unsigned_abs (c *ℤ v +ℤ dot cs vs) ≤ unsigned_abs (c *ℤ v) + unsigned_abs (dot cs vs) = omega (arith, ints) in
    let parts : (unsigned_abs c + sizes cs) * far ≡ unsigned_abs c * far + sizes cs * far = mul-add (unsigned_abs c) (sizes cs) far in
    omega (arith, both, size, first, later, parts)
  where
    mul-add : (a b n : ℕ) → (a + b) * n ≡ a * n + b * n
    mul-add a b n = grind arith

pub short_near : (far : ℕ) (cs whole : List ℤ) → AreNear far whole → sizes cs * far ≤ 2013265920 → AreShort cs whole
short_near far cs whole near le n =
    let P : ℤ → Type 0 = λ (v : ℤ). unsigned_abs v ≤ far in
    omega (arith, le, dot_near far cs (reverse (take n whole)) (all_reverse P (take n whole) (All-take P n whole near)))

pub short_light : (cs whole : List ℤ) → All IsLight cs → All Is26 whole → length cs ≤ 4 → AreShort cs whole
short_light cs whole light small few n = light_bound cs (reverse (take n whole)) light (before_small whole n small) few

pub before_parts : (f : ℤ → ℤ) (xs parts : List ℤ) (n : ℕ) → parts ≡ map f xs → reverse (take n parts) ≡ map f (reverse (take n xs))
before_parts f xs parts n e = ap (λ (ys : List ℤ). reverse (take n ys)) e ∙ ap reverse (take-map f n xs) ∙ sym (map_reverse f (take n xs))

-- ---- a whole block

pub block_left : (fs : List ℤ) (s : ℕ) (whole values : List ℤ) → length whole ≡ 8 + length values
    → ((k : ℕ) → k < length values → get_or values k (pos 0) ≡ get_or whole (8 + k) (pos 0) -ℤ floor_by s (dot fs (reverse (take (8 + k) whole))))
    → values ≡ residuals_of (fir_alone fs s) (past_by (reverse (take 8 whole)) []) 0 (drop 8 whole)
block_left fs s whole values room each =
    ext_get_or (pos 0) values (residuals_of (fir_alone fs s) (past_by (reverse (take 8 whole)) []) 0 (drop 8 whole)) (omega (arith, room, length-drop 8 whole, left_length fs s 0 (reverse (take 8 whole)) [] (drop 8 whole)))
    (λ i lt. each i lt ∙ sym (left_at fs s whole i (omega (arith, lt, room))))
