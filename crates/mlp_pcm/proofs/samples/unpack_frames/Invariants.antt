use Rattle.std.proofs.Common.{◌≡◌, ◌-◌, ◌*◌, ◌≤◌, length, take, ◌++◌, IsTrue}
use Rattle.std.specs.List.{list_all}
use Rattle.mlp_pcm.specs.Samples.{row_in, pieces, are_clear}
use Rattle.mlp_pcm.proofs.samples.unpack_frames.Given as goal

abbrev pub invariant-loop-frame : goal.invariant-loop-frame
invariant-loop-frame l = record {
  channels : l.out.channels ≡ l.fn.out.channels;
  enough : (l.count - l.frame) * (l.channels * l.width) ≤ length l.rest;
  done : take l.frame l.out.rows.items ++ pieces (row_in l.width l.channels) (l.channels * l.width) (l.count - l.frame) l.rest ≡ pieces (row_in l.width l.channels) (l.channels * l.width) l.count l.bytes;
  there : length l.out.rows.items ≡ l.count;
  frames : length (take l.frame l.out.rows.items) ≡ l.frame;
  clear : IsTrue (list_all (are_clear l.depth) (take l.frame l.out.rows.items));
}
