use Rattle.std.proofs.Common.{◌≡◌, ℕ, suc, ◌*◌, ◌<◌, ◌≤◌, ℤ, pos, negsuc, ◌+ℤ◌, ◌*ℤ◌, ◌≤ℤ◌, ◌<ℤ◌, arith, ap}
use Rattle.std.proofs.lemmas.Int.{ints}
use Rattle.std.specs.Int.Signed.{shr_z}
use Rattle.std.proofs.Math.Nat.{mul-div-le, lt-div-mul-add, div-eq_of_lt-le, mul-le-mul_right}
use borrow.Author.Differences.{product_is, sum_is_lem, up, down}

-- the product distributes over a sum
pub add-mul : (a b c : ℤ) → (a +ℤ b) *ℤ c ≡ a *ℤ c +ℤ b *ℤ c
add-mul a b c = omega (arith, ints, product_is (a +ℤ b) c, product_is a c, product_is b c, ap (λ n. n * up c) (sum_is_lem a b), ap (λ n. n * down c) (sum_is_lem a b))

-- the floor's two bounds
pub floor_le : (v : ℤ) (m : ℕ) → 0 < m → (shr_z v m *ℤ pos m) ≤ℤ v
floor_le (pos a) m h = omega (arith, ints, mul-div-le a m)
floor_le (negsuc a) m h = omega (arith, ints, lt-div-mul-add {a = a} h)

pub lt_floor : (v : ℤ) (m : ℕ) → 0 < m → v <ℤ (shr_z v m *ℤ pos m +ℤ pos m)
lt_floor (pos a) m h = omega (arith, ints, lt-div-mul-add {a = a} h)
lt_floor (negsuc a) m h = omega (arith, ints, mul-div-le a m)

-- .. and what has them is the floor
pub floor_only : (v q : ℤ) (m : ℕ) → 0 < m → (q *ℤ pos m) ≤ℤ v → v <ℤ (q *ℤ pos m +ℤ pos m) → shr_z v m ≡ q
floor_only (pos a) (pos b) m h l u = ap pos (div-eq_of_lt-le m (omega (arith, ints, l, u)) (omega (arith, ints, l, u)))
floor_only (pos a) (negsuc b) m h l u =
    absurd (let k : m ≤ suc b * m = omega (arith, mul-le-mul_right m (let e : 1 ≤ suc b = omega arith in e)) in omega (arith, ints, u, k))
floor_only (negsuc a) (pos b) m h l u = absurd (omega (arith, ints, l))
floor_only (negsuc a) (negsuc b) m h l u = ap negsuc (div-eq_of_lt-le m (omega (arith, ints, l, u)) (omega (arith, ints, l, u)))

-- a multiple of the divisor passes through the floor
pub floor_add : (v k : ℤ) (m : ℕ) → 0 < m → shr_z (v +ℤ k *ℤ pos m) m ≡ shr_z v m +ℤ k
floor_add v k m h =
    floor_only (v +ℤ k *ℤ pos m) (shr_z v m +ℤ k) m h
    (let e = add-mul (shr_z v m) k (pos m) in omega (arith, ints, e, floor_le v m h))
    (let e = add-mul (shr_z v m) k (pos m) in omega (arith, ints, e, lt_floor v m h))
