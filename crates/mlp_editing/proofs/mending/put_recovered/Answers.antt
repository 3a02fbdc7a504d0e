use Rattle.std.proofs.Common.{Ok, Err}
use Rattle.mlp_editing.proofs.Telling.{spans_of, tells}
use Rattle.mlp_editing.proofs.mending.put_recovered.Goals as goal

pub returns-in-Ok-put_spans-clause-tells : goal.returns-in-Ok-put_spans-clause-tells
returns-in-Ok-put_spans-clause-tells g c =
    let a = c.in-Ok.ensures.spans in
    tells c.args.k c.args.bytes.now _ (record { before = g.K.Sink.written c.args.output.now; behind = g.K.Sink.written c.put_spans.new.output }) (Ok tt) c.requires.few a
    (c.in-Ok-put_spans.ensures.puts a.pieces (spans_of c.args.k c.args.bytes.now _ a))

pub returns-in-Ok-clause-tells : goal.returns-in-Ok-clause-tells
returns-in-Ok-clause-tells g c =
    let a = c.in-Ok.ensures.spans in
    tells c.args.k c.args.bytes.now _ (record { before = g.K.Sink.written c.args.output.now; behind = g.K.Sink.written c.put_spans.new.output }) (Err c.in-Err-put_spans.stop) c.requires.few a
    (c.in-Err-put_spans.ensures.puts a.pieces (spans_of c.args.k c.args.bytes.now _ a))
