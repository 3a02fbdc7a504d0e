use Rattle.std.proofs.Common.{sym}
use Rattle.mlp_encoding.proofs.RawRuns.{encodes_pumped, encodes_unfit, encodes_nothing}
use Rattle.mlp_encoding.proofs.raw.encode_raw.Goals as goal

pub returns-in-Ok-open-clause-encodes : goal.returns-in-Ok-open-clause-encodes
returns-in-Ok-open-clause-encodes g c =
    encodes_pumped c.args.profile (g.S.Source.left c.args.input.now) (g.S.Source.left c.pump.new.input) (g.K.Sink.written c.args.output.now) (g.K.Sink.written c.pump.new.output)
    (sym c.in-Ok.ensures.value) c.in-Ok-open.session c.pump.new.session c.pump.result c.in-Ok-open.ensures c.pump.ensures.pumped c.end_of.result c.end_of.ensures

pub returns-in-Err-clause-encodes : goal.returns-in-Err-clause-encodes
returns-in-Err-clause-encodes g c =
    encodes_unfit c.args.profile (g.S.Source.left c.args.input.now) (g.S.Source.left c.args.input.now) (g.K.Sink.written c.args.output.now) (g.K.Sink.written c.args.output.now)
    c.in-Err.fault c.check.result c.check.ensures.value c.in-Err.is c.refused.result c.refused.ensures

pub returns-in-Err-open-clause-encodes : goal.returns-in-Err-open-clause-encodes
returns-in-Err-open-clause-encodes g c =
    encodes_nothing c.args.profile (g.S.Source.left c.args.input.now) (g.S.Source.left c.args.input.now) (g.K.Sink.written c.args.output.now) (g.K.Sink.written c.args.output.now)
    (sym c.in-Ok.ensures.value)
