use Rattle.std.proofs.Common.{◌≡◌, take}
use Rattle.bench_kernels.proofs.filter.Given as goal

abbrev pub invariant-loop-i : goal.invariant-loop-i
invariant-loop-i g l = l.fields.items ≡ take l.i l.coeffs
