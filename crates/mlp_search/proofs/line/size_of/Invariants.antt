use Rattle.std.proofs.Common.{◌≡◌, ◌+◌, ◌*◌, ◌≤◌, drop}
use Rattle.mlp_search.specs.Folded.{sizes}
use Rattle.mlp_search.proofs.line.size_of.Given as goal

abbrev pub invariant-loop-coeff : goal.invariant-loop-coeff
invariant-loop-coeff l = (l.sum + sizes (drop l.coeff-index l.coeffs) ≡ sizes l.coeffs) × (l.sum ≤ 32768 * l.coeff-index)
