use Rattle.std.proofs.Common.{◌≡◌, ◌++◌, ◌+◌, take, reverse, All, FitsSigned, w32}
use Rattle.mlp_predict.proofs.ReducingLaws.{left_at}
use Rattle.mlp_predict.proofs.reducing.reduce_alone.Given as goal

abbrev pub invariant-loop-i : goal.invariant-loop-i
invariant-loop-i g l = record {
  values : take l.i l.residuals ++ left_at (reverse l.fir) l.shift l.step l.outputs (16 + l.i) ≡ left_at (reverse l.fir) l.shift l.step l.outputs 16;
  fit : All (FitsSigned w32) (take l.i l.residuals);
}
