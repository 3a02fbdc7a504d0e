use Rattle.std.proofs.Common.{◌≡◌, ◌^◌, pos, ◌*ℤ◌, map, take, length}
use Rattle.mlp_residual.proofs.widths.whole_values.Given as goal

abbrev pub invariant-loop-residual : goal.invariant-loop-residual
invariant-loop-residual l = record {
  whole : map (λ v. v *ℤ pos (2 ^ l.step)) l.values.items ≡ take l.residual-index l.residuals;
  count : length l.values.items ≡ l.residual-index;
}
