use Rattle.std.proofs.Common.{◌≡◌, ◌+◌, length, reverse}
use Rattle.mlp_predict.proofs.AloneLaws.{newest_in}
use Rattle.mlp_predict.proofs.alone.put_differences.Given as goal

abbrev pub invariant-loop-i : goal.invariant-loop-i
invariant-loop-i g l = record {
  newest : newest_in g.row.I (reverse l.fir) l.shift l.outputs (16 + l.i) l.differences ≡ newest_in g.row.I (reverse l.fir) l.shift l.outputs 16 l.initial.differences;
  count : length l.differences ≡ g.row.I;
}
