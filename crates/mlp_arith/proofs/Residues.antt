-- Laws of cleared, wrapped and cut numbers.
use Rattle.std.proofs.Common.{◌≡◌, ℕ, ◌<◌, ◌^◌, ℤ, pos, negsuc, ◌+ℤ◌, ◌-ℤ◌, ◌*ℤ◌, neg_ℤ, ◌≤ℤ◌, ◌<ℤ◌, FitsSigned, arith, refl, sym, ◌∙◌, ap, subst}
use Rattle.std.proofs.lemmas.Int.{ints, int_wrap_fits, int_wrap-add_left, int_wrap-add_right, int_wrap-mul_right, SFits-int_wrap}
use Rattle.std.specs.Int.Signed.{shr_z}
use Rattle.std.specs.Int.{int_wrap, w32}
use Rattle.std.proofs.Math.Pow.{pow_pos}
use Rattle.mlp_arith.proofs.Floors.{floor_le, lt_floor, floor_only, floor_add, add-mul}
use Rattle.mlp_arith.specs.Words.{floor_by, floor_over, clear, wrap, low24, IsFloor, IsResidue}

-- ---- floors

-- the shift that rounds down is the floor over the power
pub shr-over : (n : ℕ) (v : ℤ) → shr_z v n ≡ floor_over n v
shr-over n (pos v) = refl
shr-over n (negsuc v) = refl

pub floor_is : (n : ℕ) (v : ℤ) → 0 < n → IsFloor n v (floor_over n v)
floor_is n v h =
    let e = add-mul (shr_z v n) (pos 1) (pos n) in
    let P : ℤ → Type 0 = λ q. IsFloor n v q in
    subst P (shr-over n v) (record { low = floor_le v n h; high = omega (arith, ints, e, lt_floor v n h) })

pub floor_unique : (n : ℕ) (v q : ℤ) → 0 < n → IsFloor n v q → floor_over n v ≡ q
floor_unique n v q h is =
    sym (shr-over n v) ∙ floor_only v q n h is.low (let e = add-mul q (pos 1) (pos n) in omega (arith, ints, e, is.high))

-- a multiple of the divisor passes through
pub floor_over-add : (n : ℕ) (v k : ℤ) → 0 < n → floor_over n (v +ℤ k *ℤ pos n) ≡ floor_over n v +ℤ k
floor_over-add n v k h =
    sym (shr-over n (v +ℤ k *ℤ pos n)) ∙ floor_add v k n h ∙ ap (λ z. z +ℤ k) (shr-over n v)

pub floor_by-add : (n : ℕ) (v k : ℤ) → floor_by n (v +ℤ k *ℤ pos (2 ^ n)) ≡ floor_by n v +ℤ k
floor_by-add n v k = floor_add v k (2 ^ n) (pow_pos n)

pub floor_by-over : (n : ℕ) (v : ℤ) → floor_by n v ≡ floor_over (2 ^ n) v
floor_by-over n v = shr-over (2 ^ n) v

-- ---- cleared low bits

-- clearing takes away less than 2^q
pub clear_le : (q : ℕ) (v : ℤ) → (clear q v) ≤ℤ v
clear_le q v = floor_le v (2 ^ q) (pow_pos q)

pub lt_clear : (q : ℕ) (v : ℤ) → v <ℤ (clear q v +ℤ pos (2 ^ q))
lt_clear q v = lt_floor v (2 ^ q) (pow_pos q)

-- a multiple passes through
pub clear_add : (q : ℕ) (v k : ℤ) → clear q (v +ℤ k *ℤ pos (2 ^ q)) ≡ clear q v +ℤ k *ℤ pos (2 ^ q)
clear_add q v k = ap (λ z. z *ℤ pos (2 ^ q)) (floor_add v k (2 ^ q) (pow_pos q)) ∙ add-mul (shr_z v (2 ^ q)) k (pos (2 ^ q))

-- what is left below the cleared part is cleared to zero
pub clear_rest : (q : ℕ) (v : ℤ) → clear q (v -ℤ clear q v) ≡ pos 0
clear_rest q v =
    let z : shr_z (v -ℤ clear q v) (2 ^ q) ≡ pos 0 = floor_only (v -ℤ clear q v) (pos 0) (2 ^ q) (pow_pos q) (omega (arith, ints, clear_le q v)) (omega (arith, ints, lt_clear q v)) in
    ap (λ z. z *ℤ pos (2 ^ q)) z ∙ omega (arith, ints)

pub clear_zero : (q : ℕ) → clear q (pos 0) ≡ pos 0
clear_zero q =
    let z : shr_z (pos 0) (2 ^ q) ≡ pos 0 = floor_only (pos 0) (pos 0) (2 ^ q) (pow_pos q) (omega (arith, ints)) (omega (arith, ints, pow_pos q)) in
    ap (λ z. z *ℤ pos (2 ^ q)) z ∙ omega (arith, ints)

-- multiples of 2^q are left as they are
pub clear_multiple : (q : ℕ) (k : ℤ) → clear q (k *ℤ pos (2 ^ q)) ≡ k *ℤ pos (2 ^ q)
clear_multiple q k =
    ap (clear q) (let e : k *ℤ pos (2 ^ q) ≡ pos 0 +ℤ k *ℤ pos (2 ^ q) = omega (arith, ints) in e) ∙ clear_add q (pos 0) k ∙ omega (arith, ints, clear_zero q)

pub clear-clear : (q : ℕ) (v : ℤ) → clear q (clear q v) ≡ clear q v
clear-clear q v = clear_multiple q (floor_by q v)

-- a sample with cleared low bits comes back from its residual
pub clear_back : (q : ℕ) (p x : ℤ) → clear q x ≡ x → FitsSigned w32 x → wrap (clear q (p +ℤ (x -ℤ clear q p))) ≡ x
clear_back q p x e fits =
    let split : p +ℤ (x -ℤ clear q p) ≡ (p -ℤ clear q p) +ℤ clear q x = omega (arith, ints, e) in
    let back : clear q (p +ℤ (x -ℤ clear q p)) ≡ x = ap (clear q) split ∙ clear_add q (p -ℤ clear q p) (shr_z x (2 ^ q)) ∙ omega (arith, ints, clear_rest q p, e) in
    ap wrap back ∙ int_wrap_fits w32 x fits

-- ---- wrapped values

zeroed : wrap (pos 4294967296) ≡ pos 0
unfolding int_wrap
zeroed = refl

-- a multiple of 2^32 is wrapped away
pub wrap_multiple : (a k : ℤ) → wrap (a +ℤ k *ℤ pos 4294967296) ≡ wrap a
wrap_multiple a k =
    let gone : wrap (k *ℤ pos 4294967296) ≡ wrap (pos 0) = sym (int_wrap-mul_right w32 k (pos 4294967296)) ∙ ap (λ z. wrap (k *ℤ z)) zeroed ∙ ap wrap (omega (arith, ints)) in
    sym (int_wrap-add_right w32 a (k *ℤ pos 4294967296)) ∙ ap (λ z. wrap (a +ℤ z)) gone ∙ int_wrap-add_right w32 a (pos 0) ∙ ap wrap (omega (arith, ints))

-- a wrapped value is a multiple of 2^32 away
pub wrap_away : (v : ℤ) → (k : ℤ) × (wrap v ≡ v +ℤ k *ℤ pos 4294967296)
wrap_away v =
    let t : ℤ = shr_z (v +ℤ pos 2147483648) 4294967296 in
    let lo : (t *ℤ pos 4294967296) ≤ℤ (v +ℤ pos 2147483648) = floor_le (v +ℤ pos 2147483648) 4294967296 (omega arith) in
    let hi : (v +ℤ pos 2147483648) <ℤ (t *ℤ pos 4294967296 +ℤ pos 4294967296) = lt_floor (v +ℤ pos 2147483648) 4294967296 (omega arith) in
    (neg_ℤ t, sym (wrap_multiple v (neg_ℤ t)) ∙ int_wrap_fits w32 (v +ℤ neg_ℤ t *ℤ pos 4294967296) (omega (arith, ints, lo, hi)))

pub wrap_is : (v : ℤ) → IsResidue 32 v (wrap v)
wrap_is v =
    let fits = SFits-int_wrap w32 v in
    let away = wrap_away v in
    record {
      low = omega (arith, ints, fits);
      high = omega (arith, ints, fits);
      congruent = (neg_ℤ away.0, omega (arith, ints, away.1));
    }

pub wrap_unique : (v r : ℤ) → IsResidue 32 v r → wrap v ≡ r
wrap_unique v r h = ap wrap h.congruent.1 ∙ wrap_multiple r h.congruent.0 ∙ int_wrap_fits w32 r (omega (arith, ints, h.low, h.high))

pub wrap-add : (a b : ℤ) → wrap (wrap a +ℤ wrap b) ≡ wrap (a +ℤ b)
wrap-add a b = int_wrap-add_left w32 a (wrap b) ∙ int_wrap-add_right w32 a b

-- ---- the low 24 bits

pub low24_is : (v : ℤ) → IsResidue 24 v (low24 v)
low24_is v =
    let t : ℤ = floor_by 24 (v +ℤ pos 8388608) in
    let lo : (t *ℤ pos 16777216) ≤ℤ (v +ℤ pos 8388608) = floor_le (v +ℤ pos 8388608) 16777216 (omega arith) in
    let hi : (v +ℤ pos 8388608) <ℤ (t *ℤ pos 16777216 +ℤ pos 16777216) = lt_floor (v +ℤ pos 8388608) 16777216 (omega arith) in
    record {
      low = omega (arith, ints, lo, hi);
      high = omega (arith, ints, lo, hi);
      congruent = (t, omega (arith, ints, lo, hi));
    }

pub low24_unique : (v r : ℤ) → IsResidue 24 v r → low24 v ≡ r
low24_unique v r h =
    let k : ℤ = h.congruent.0 in
    let e : v ≡ r +ℤ k *ℤ pos 16777216 = h.congruent.1 in
    let t : floor_by 24 (v +ℤ pos 8388608) ≡ k = floor_only (v +ℤ pos 8388608) k 16777216 (omega arith) (omega (arith, ints, e, h.low)) (omega (arith, ints, e, h.high)) in
    ap (λ (z : ℤ). v -ℤ z *ℤ pos 16777216) t ∙ omega (arith, ints, e)

-- a multiple of 2^24 is cut off
pub low24_multiple : (v k : ℤ) → low24 (v +ℤ k *ℤ pos 16777216) ≡ low24 v
low24_multiple v k =
    let h = low24_is v in
    let e = add-mul h.congruent.0 k (pos 16777216) in
    low24_unique (v +ℤ k *ℤ pos 16777216) (low24 v) (record { low = h.low; high = h.high; congruent = (h.congruent.0 +ℤ k, omega (arith, ints, e, h.congruent.1)) })

pub low24-wrap : (v : ℤ) → low24 (wrap v) ≡ low24 v
low24-wrap v =
    let a = wrap_away v in
    ap low24 (let e : wrap v ≡ v +ℤ (a.0 *ℤ pos 256) *ℤ pos 16777216 = omega (arith, ints, a.1) in e) ∙ low24_multiple v (a.0 *ℤ pos 256)
