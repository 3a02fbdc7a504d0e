use Rattle.std.proofs.Common.{◌≡◌, length, take, replicate}
use Rattle.mlp_predict.specs.Prediction.{zeros}
use Rattle.mlp_channels.proofs.play.reset_all.Given as goal

abbrev pub invariant-loop-i : goal.invariant-loop-i
invariant-loop-i l = record { reset : take l.i l.predictors ≡ replicate l.i (zeros 8 4); count : length l.predictors ≡ 8 }
