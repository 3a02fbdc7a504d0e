use Rattle.std.proofs.Common.{◌≡◌, ◌+◌, ◌-◌, ◌<◌, List, [], length, get_or}
use Rattle.mlp_syntax.specs.declared.segment.Segment.{Segment}
use Rattle.mlp_bits.specs.Bits.{bits_of}
use Rattle.mlp_layout.specs.Contents.{segments}
use Rattle.mlp_walk.proofs.SegmentLoops.{SegmentsContinue}
use Rattle.mlp_unit.specs.Shape.{unit_with}
use Rattle.mlp_contents.specs.Units.{portion}
use Rattle.mlp_contents.proofs.Behind.{Behind}
use Rattle.mlp_contents.proofs.reading.read_each.Given as goal

abbrev pub invariant-loop-at : goal.invariant-loop-at
invariant-loop-at l =
    let last = length l.fn.substreams - 1 in
    let p = portion last l.place l.fn.substreams l.check (unit_with l.unit l.outer) in
    record {
      before : List Segment;
      count : length before ≡ l.at;
      so_far : SegmentsContinue p (last + 1 - l.at) before (bits_of l.unit) ((segments p (last + 1) []).read (bits_of l.unit));
      top : Segment;
      top_there : (other : Segment) → 0 < l.at → get_or l.latest (l.at - 1) other ≡ top;
      behind : Behind l.place l.fn.substreams before l.covered l.first l.substreams top l.frames;
    }
