-- One unit fewer held.
use Rattle.std.proofs.Common.{◌≡◌, ℕ, zero, suc, ◌+◌, ◌-◌, ◌<◌, ◌≤◌, arith, ap}
use Rattle.mlp_fifo.specs.Load.{sum_from}
use Rattle.mlp_fifo.proofs.Loads.{sum_front}

-- what passes the size is the bytes of some unit
pub some_held : (f : ℕ → ℕ) (k units sum bytes size : ℕ) → sum ≡ sum_from f k units → size < sum + bytes → bytes ≤ size → 0 < units
some_held f k zero sum bytes size e h l = absurd (omega arith)
some_held f k (suc units) sum bytes size e h l = omega arith

-- the first of the units held, and the others
pub sum_latest : (f : ℕ → ℕ) (count units : ℕ) → 0 < units → units ≤ count → sum_from f (count - units) units ≡ f (count - units) + sum_from f (count - (units - 1)) (units - 1)
sum_latest f count zero h l = absurd (omega arith)
sum_latest f count (suc units) h l =
    let e : suc (count - suc units) ≡ count - (suc units - 1) = omega arith in
    let m : units ≡ suc units - 1 = omega arith in
    omega (arith, sum_front f (count - suc units) units, ap (λ k. sum_from f k units) e, ap (λ k. sum_from f (count - (suc units - 1)) k) m)
