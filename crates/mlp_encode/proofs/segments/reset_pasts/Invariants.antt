use Rattle.std.proofs.Common.{◌≡◌, ◌-◌, ◌++◌, take, drop, map, length}
use Rattle.std.specs.List.{range_with_len}
use Rattle.mlp_predict.specs.Prediction.{zeros}
use Rattle.mlp_fold.specs.Substreams.{first_channel}
use Rattle.mlp_encode.proofs.segments.reset_pasts.Given as goal

abbrev pub invariant-loop-channel : goal.invariant-loop-channel
invariant-loop-channel l = record {
  pasts : l.pasts ≡ (take (first_channel l.substream) l.initial.pasts ++ map (λ c. zeros 8 4) (range_with_len (first_channel l.substream) (l.channel - first_channel l.substream))) ++ drop l.channel l.initial.pasts;
  count : length l.pasts ≡ length l.initial.pasts;
}
