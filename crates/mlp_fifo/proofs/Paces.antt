-- Bounds of times.
use Rattle.std.proofs.Common.{ℕ, ◌+◌, ◌*◌, ◌^◌, ◌<◌, ◌≤◌, arith, refl}
use Rattle.std.proofs.lemmas.Bool.Decides.{nat_tests}
use Rattle.std.proofs.lemmas.Nat.{mul-le, le-div}
use Rattle.mlp_syntax.specs.declared.major.Kind.{Kind}
use Rattle.mlp_syntax.specs.declared.major.Kind.TheVariants.{Fbb, Fba}
use Rattle.mlp_fifo.specs.declared.pace.Pace.{Pace}
use Rattle.mlp_fifo.specs.Pace.{IsUsual, IsRate, peak_of, unit_of, size_of, pace_of}

pub start_below : (p : Pace) (i : ℕ) → IsUsual p → i ≤ 2 ^ 40 → i * p.unit < 2 ^ 48
start_below p i u h = omega (arith, mul-le i p.unit (2 ^ 40) 160 h u.unit_most)

pub output_below : (p : Pace) (i : ℕ) → IsUsual p → i ≤ 2 ^ 40 → (p.latency + i) * p.unit < 2 ^ 48
output_below p i u h = omega (arith, mul-le (p.latency + i) p.unit (2 ^ 40 + 90) 160 (omega (arith, u.latency_is)) u.unit_most)

rate_bounds : (rate : ℕ) → IsRate rate → (0 < rate) × (rate ≤ 192000)
rate_bounds rate h = grind (arith, nat_tests)

peak_positive : (kind : Kind) (rate : ℕ) → IsRate rate → 0 < peak_of kind rate
unfolding peak_of
peak_positive Fbb rate h = let r = rate_bounds rate h in omega (arith, le-div 1 153599992 rate r.0 (omega (arith, r.1)))
peak_positive Fba rate h = let r = rate_bounds rate h in omega (arith, le-div 1 287999992 rate r.0 (omega (arith, r.1)))

pub unit_most : (rate : ℕ) → unit_of rate ≤ 160
unfolding unit_of
unit_most rate = grind (arith, nat_tests)

pub usual : (kind : Kind) (rate : ℕ) → IsRate rate → IsUsual (pace_of kind rate)
unfolding pace_of size_of
usual Fbb rate h = record { unit_most = unit_most rate; latency_is = refl; peak_least = peak_positive Fbb rate h; size_least = omega arith; size_most = omega arith }
usual Fba rate h = record { unit_most = unit_most rate; latency_is = refl; peak_least = peak_positive Fba rate h; size_least = omega arith; size_most = omega arith }
