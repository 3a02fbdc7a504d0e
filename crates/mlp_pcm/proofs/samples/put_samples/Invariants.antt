use Rattle.std.proofs.Common.{◌≡◌, ◌+◌, ◌*◌, ◌≤◌, take, length, ◌++◌}
use Rattle.std.specs.List.{flat_map}
use Rattle.mlp_pcm.specs.Samples.{sample_bytes, are_clear}
use Rattle.mlp_pcm.proofs.samples.put_samples.Given as goal

abbrev pub invariant-loop-sample : goal.invariant-loop-sample
invariant-loop-sample l = record {
  bytes : take l.end l.out ≡ take l.place l.fn.out ++ flat_map (sample_bytes l.bits) (take l.sample-index l.samples);
  most : l.end ≤ l.place + 3 * l.sample-index;
  clear : l.all_clear ≡ are_clear l.bits (take l.sample-index l.samples);
  whole : length l.out ≡ length l.fn.out;
}
