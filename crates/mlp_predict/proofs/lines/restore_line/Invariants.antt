use Rattle.std.proofs.Common.{◌≡◌, ◌++◌, ◌+◌, take}
use Rattle.mlp_predict.specs.Prediction.{past_of}
use Rattle.mlp_predict.specs.Lines.{past_in, filters_in}
use Rattle.mlp_predict.proofs.LineLaws.{rest_outputs}
use Rattle.mlp_predict.proofs.lines.restore_line.Given as goal

abbrev pub invariant-loop-i : goal.invariant-loop-i
invariant-loop-i g l = record {
  outputs : take (16 + l.i) l.outputs ++ rest_outputs (filters_in l.fir l.iir l.shift) l.step (16 + l.i) l.outputs l.differences
      ≡ take 16 l.initial.outputs ++ rest_outputs (filters_in l.fir l.iir l.shift) l.step 16 l.initial.outputs l.initial.differences;
  past : past_of (filters_in l.fir l.iir l.shift) (past_in (take (16 + l.i) l.outputs) (take (16 + l.i) l.differences)) (rest_outputs (filters_in l.fir l.iir l.shift) l.step (16 + l.i) l.outputs l.differences)
      ≡ past_of (filters_in l.fir l.iir l.shift) (past_in (take 16 l.initial.outputs) (take 16 l.initial.differences)) (rest_outputs (filters_in l.fir l.iir l.shift) l.step 16 l.initial.outputs l.initial.differences);
}
