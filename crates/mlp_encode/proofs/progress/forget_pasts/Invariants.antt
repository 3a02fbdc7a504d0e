use Rattle.std.proofs.Common.{◌≡◌, take, replicate, length}
use Rattle.mlp_predict.specs.Prediction.{zeros}
use Rattle.mlp_encode.proofs.progress.forget_pasts.Given as goal

abbrev pub invariant-loop-channel : goal.invariant-loop-channel
invariant-loop-channel l = record { so_far : take l.channel l.pasts ≡ replicate l.channel (zeros 8 4); count : length l.pasts ≡ 8 }
