use Rattle.std.proofs.Common.{◌<◌, length, get_or, refl, ◌∙◌, arith}
use Rattle.mlp_recover.specs.Recovered.{Lost}
use Rattle.mlp_editing.proofs.Texts.{span_at, told_more, told_stops, told_all}
use Rattle.mlp_editing.proofs.pieces.put_spans.Goals as goal

pub put_span-requires-clause-piece : goal.put_span-requires-clause-piece
put_span-requires-clause-piece g c =
    let ps = c.requires.pieces in
    let lt : c.loop-i.i < length c.args.spans.now = omega (arith, c.len-i-end.ensures, c.loop-i-test.true) in
    (get_or ps.0 c.loop-i.i (Lost 0 0), span_at c.args.k c.args.bytes.now c.args.spans.now ps.0 ps.1 c.loop-i.i c.at-span.result lt c.at-span.ensures)

pub returns-in-Err-clause-puts : goal.returns-in-Err-clause-puts
returns-in-Err-clause-puts g c = λ ps are.
    let lt : c.loop-i.i < length c.args.spans.now = omega (arith, c.len-i-end.ensures, c.loop-i-test.true) in
    let span = span_at c.args.k c.args.bytes.now c.args.spans.now ps are c.loop-i.i c.at-span.result lt c.at-span.ensures in
    told_stops c.args.k c.args.bytes.now c.args.spans.now ps are c.loop-i.i (g.K.Sink.written c.args.output.now) (g.K.Sink.written c.loop-i.output) (g.K.Sink.written c.put_span.new.output)
    c.in-Err.stop lt (c.loop-i.invariant.puts ps are) (c.in-Err.ensures.puts (get_or ps c.loop-i.i (Lost 0 0)) span)

pub loop-i-preserved : goal.loop-i-preserved
loop-i-preserved g c = record {
  puts = λ ps are.
      let lt : c.loop-i.i < length c.args.spans.now = omega (arith, c.len-i-end.ensures, c.loop-i-test.true) in
      let span = span_at c.args.k c.args.bytes.now c.args.spans.now ps are c.loop-i.i c.at-span.result lt c.at-span.ensures in
      told_more c.args.k c.args.bytes.now c.args.spans.now ps are c.loop-i.i (g.K.Sink.written c.args.output.now) (g.K.Sink.written c.loop-i.output) (g.K.Sink.written c.put_span.new.output)
      lt (c.loop-i.invariant.puts ps are) (c.in_default.ensures.puts (get_or ps c.loop-i.i (Lost 0 0)) span);
  writes = c.in_default.ensures.cause.kept refl ∙ c.loop-i.invariant.writes;
}

pub returns-clause-puts : goal.returns-clause-puts
returns-clause-puts g c = λ ps are.
    told_all c.args.k c.args.bytes.now c.args.spans.now ps are c.loop-i.i (g.K.Sink.written c.args.output.now) (g.K.Sink.written c.loop-i.output)
    (omega (arith, c.len-i-end.ensures, c.loop-i-test.false)) (c.loop-i.invariant.puts ps are)
