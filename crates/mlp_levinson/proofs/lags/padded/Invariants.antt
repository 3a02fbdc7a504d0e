use Rattle.std.proofs.Common.{◌≡◌, ◌-◌, take, drop, replicate, pos, map}
use Rattle.mlp_arith.specs.Words.{floor_by}
use Rattle.mlp_levinson.proofs.lags.padded.Given as goal

abbrev pub invariant-loop-i : goal.invariant-loop-i
invariant-loop-i l = record {
  so_far : take l.i l.line ≡ map (floor_by l.step) (take l.i l.samples);
  rest : drop l.i l.line ≡ replicate (168 - l.i) (pos 0);
}
