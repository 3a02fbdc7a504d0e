use Rattle.std.proofs.Common.{◌≡◌, ◌*◌, ◌≤◌, take, length, IsTrue}
use Rattle.std.specs.List.{list_all}
use Rattle.mlp_pcm.specs.Samples.{is_packable, packed}
use Rattle.mlp_pcm.proofs.samples.pack_frames.Given as goal

abbrev pub invariant-loop-index : goal.invariant-loop-index
invariant-loop-index g l = record {
  bytes : take l.end l.bytes ≡ packed l.bits l.channels (take l.index l.frames);
  most : l.end ≤ l.index * (3 * l.channels);
  whole : length l.bytes ≡ length l.fn.bytes;
  clear : IsTrue (list_all (is_packable l.bits l.channels) (take l.index l.frames));
}
