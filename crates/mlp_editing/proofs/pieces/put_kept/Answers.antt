use Rattle.std.proofs.Common.{◌∙◌}
use Rattle.mlp_editing.proofs.Texts.{kept_stops, kept_puts}
use Rattle.mlp_editing.proofs.pieces.put_kept.Goals as goal

pub returns-in-Ok-clause-puts : goal.returns-in-Ok-clause-puts
returns-in-Ok-clause-puts g c = λ us piece.
    kept_puts c.args.k c.args.bytes.now c.args.span.now us piece (g.K.Sink.written c.args.output.now) (g.K.Sink.written c.put.new.output) (g.K.Sink.written c.put_samples.new.output)
    c.as_slice.result.now c.sample_bytes.result c.put_samples.result (c.as_slice.ensures.value ∙ c.kept_line-line.ensures) c.sample_bytes.ensures c.in-Ok.ensures.puts
    (c.put_samples.ensures.puts us piece.0.stream)

pub returns-in-Err-clause-puts : goal.returns-in-Err-clause-puts
returns-in-Err-clause-puts g c = λ us piece.
    kept_stops c.args.k c.args.bytes.now c.args.span.now us piece (record { before = g.K.Sink.written c.args.output.now; behind = g.K.Sink.written c.put.new.output })
    c.as_slice.result.now c.sample_bytes.result c.in-Err.stop (c.as_slice.ensures.value ∙ c.kept_line-line.ensures) c.sample_bytes.ensures c.in-Err.ensures.puts
