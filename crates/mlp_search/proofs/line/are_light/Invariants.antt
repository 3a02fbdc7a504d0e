use Rattle.std.proofs.Common.{take}
use Rattle.std.specs.Prelude.{All}
use Rattle.mlp_search.specs.Lines.{IsLight}
use Rattle.mlp_search.proofs.line.are_light.Given as goal

abbrev pub invariant-loop-coeff : goal.invariant-loop-coeff
invariant-loop-coeff l = All IsLight (take l.coeff-index l.coeffs)
