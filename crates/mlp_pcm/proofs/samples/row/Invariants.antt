use Rattle.std.proofs.Common.{◌≡◌, ◌-◌, ◌*◌, ◌≤◌, length, take, drop, replicate, ◌++◌, pos}
use Rattle.mlp_pcm.specs.Samples.{sample_in, pieces}
use Rattle.mlp_pcm.proofs.samples.row.Given as goal

abbrev pub invariant-loop-channel : goal.invariant-loop-channel
invariant-loop-channel l = record {
  enough : (l.channels - l.channel) * l.width ≤ length l.rest;
  done : take l.channel l.row ++ pieces (sample_in l.width) l.width (l.channels - l.channel) l.rest ≡ pieces (sample_in l.width) l.width l.channels l.bytes;
  eight : length l.row ≡ 8;
  rest_zero : drop l.channel l.row ≡ replicate (8 - l.channel) (pos 0);
}
