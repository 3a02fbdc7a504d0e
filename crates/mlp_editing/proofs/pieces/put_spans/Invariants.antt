use Rattle.std.proofs.Common.{◌≡◌, List, take}
use Rattle.std.specs.Io.KnownBytes.{Appends}
use Rattle.mlp_recover.specs.Recovered.{Piece}
use Rattle.mlp_editing.specs.Told.{all_told, AreSpansOf}
use Rattle.mlp_editing.proofs.pieces.put_spans.Given as goal

abbrev pub invariant-loop-i : goal.invariant-loop-i
invariant-loop-i g l = record {
  puts :
      (ps : List Piece) → AreSpansOf l.k l.bytes l.spans ps
      → Appends (g.K.Sink.written l.fn.output) (g.K.Sink.written l.output) (all_told l.k (take l.i ps));
  writes : g.K.Sink.faults l.output ≡ g.K.Sink.faults l.fn.output;
}
