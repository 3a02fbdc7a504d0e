use Rattle.mlp_substream.specs.Segment.{nested, unknown, blocks_from}
use Rattle.mlp_substream.proofs.WritingBlocks.{Going}
use Rattle.mlp_substream.proofs.writing_blocks.write_blocks.Given as goal
use Rattle.mlp_substream.specs.Blocks.{context_of}

abbrev pub invariant-loop-i : goal.invariant-loop-i
invariant-loop-i l = Going l.place unknown l.fn.state l.state l.heads l.codes l.i l.start l.fn.w l.w ((blocks_from l.place unknown 21 (context_of l.fn.state 0 l.place.major)).spelling (nested l.heads l.codes))
