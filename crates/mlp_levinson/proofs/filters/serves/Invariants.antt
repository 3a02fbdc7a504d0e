use Rattle.std.proofs.Common.{◌≡◌, take, true}
use Rattle.mlp_levinson.specs.Computed.{serves}
use Rattle.mlp_levinson.proofs.filters.serves.Given as goal

abbrev pub invariant-loop-j : goal.invariant-loop-j
invariant-loop-j l = serves l.shift (take l.j l.coefficients) ≡ true
