use Rattle.std.proofs.Common.{◌≡◌, drop, length}
use Rattle.mlp_fold.specs.Rows.{placed, on}
use Rattle.mlp_fold.proofs.matrices.on.Given as goal

abbrev pub invariant-loop-i : goal.invariant-loop-i
invariant-loop-i l = record {
  rest : placed l.coeffs (drop l.i l.sources) ≡ on l.sources;
  count : length l.coeffs ≡ 8;
}
