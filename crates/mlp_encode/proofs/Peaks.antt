-- The peak data rate has 15 bits.
use Rattle.std.proofs.Common.{◌<◌, ◌≤◌, ℕ, ◌^◌, arith}
use Rattle.std.proofs.lemmas.Bool.Decides.{nat_tests}
use Rattle.std.proofs.Math.Nat.{div-lt_iff_lt-mul}
use Rattle.mlp_syntax.specs.declared.major.Kind.{Kind}
use Rattle.mlp_syntax.specs.declared.major.Kind.TheVariants.{Fbb, Fba}
use Rattle.mlp_fifo.specs.Pace.{IsRate, peak_of}

least_rate : (rate : ℕ) → IsRate rate → 44100 ≤ rate
least_rate rate h = grind (arith, nat_tests)

pub peak_small : (kind : Kind) (rate : ℕ) → IsRate rate → peak_of kind rate < 2 ^ 15
unfolding peak_of
peak_small Fbb rate h = let r = least_rate rate h in (div-lt_iff_lt-mul {k = rate} {x = 153599992} {y = 32768} (omega (arith, r))).1 (omega (arith, r))
peak_small Fba rate h = let r = least_rate rate h in (div-lt_iff_lt-mul {k = rate} {x = 287999992} {y = 32768} (omega (arith, r))).1 (omega (arith, r))
