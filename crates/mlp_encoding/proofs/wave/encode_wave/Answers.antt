use Rattle.std.proofs.Common.{Err, sym}
use Rattle.mlp_encoding.specs.Wave.{WaveEncoded}
use Rattle.mlp_encoding.proofs.Doing.{takes_few}
use Rattle.mlp_encoding.proofs.WaveRuns.{encodes_pumped, encodes_unfit, encodes_empty, encodes_header}
use Rattle.mlp_encoding.proofs.wave.encode_wave.Goals as goal

pub returns-in-Err-clause-encodes : goal.returns-in-Err-clause-encodes
returns-in-Err-clause-encodes g c =
    encodes_header c.args.kind c.args.mix (g.S.Source.left c.args.input.now) (g.S.Source.left c.read_wave_header.new.source) (g.K.Sink.written c.args.output.now)
    c.in-Err.refusal c.in-Err.ensures.err c.header_failure.result c.header_failure.ensures

pub returns-in-Err-clause-few : goal.returns-in-Err-clause-few
returns-in-Err-clause-few g c =
    takes_few (WaveEncoded c.args.kind c.args.mix) (g.S.Source.left c.args.input.now) (g.S.Source.left c.read_wave_header.new.source) (g.K.Sink.written c.args.output.now) (g.K.Sink.written c.args.output.now) (Err c.header_failure.result)
    (encodes_header c.args.kind c.args.mix (g.S.Source.left c.args.input.now) (g.S.Source.left c.read_wave_header.new.source) (g.K.Sink.written c.args.output.now)
    c.in-Err.refusal c.in-Err.ensures.err c.header_failure.result c.header_failure.ensures)

pub returns-in-Err-begin-clause-encodes : goal.returns-in-Err-begin-clause-encodes
returns-in-Err-begin-clause-encodes g c =
    encodes_unfit c.args.kind c.args.mix (g.S.Source.left c.args.input.now) (g.S.Source.left c.read_wave_header.new.source) (g.K.Sink.written c.args.output.now)
    c.in-Ok-read_wave_header.info c.in-Ok-read_wave_header.ensures.ok c.in-Err-begin.fault (sym c.in-Err-begin.ensures.value) c.refused.result c.refused.ensures

pub returns-then-info-eq0-clause-encodes : goal.returns-then-info-eq0-clause-encodes
returns-then-info-eq0-clause-encodes g c =
    encodes_empty c.args.kind c.args.mix (g.S.Source.left c.args.input.now) (g.S.Source.left c.read_wave_header.new.source) (g.K.Sink.written c.args.output.now)
    c.in-Ok-read_wave_header.info c.in-Ok-read_wave_header.ensures.ok (sym c.in-Ok-begin.ensures.value) c.if-info-eq0.true c.refused-then-info-eq0.result c.refused-then-info-eq0.ensures

pub returns-clause-encodes : goal.returns-clause-encodes
returns-clause-encodes g c =
    encodes_pumped c.args.kind c.args.mix (g.S.Source.left c.args.input.now) (g.S.Source.left c.read_wave_header.new.source) c.in-Ok-read_wave_header.info c.in-Ok-read_wave_header.ensures.ok
    (sym c.in-Ok-begin.ensures.value) c.if-info-eq0.false (g.S.Source.left c.pump.new.input) (g.K.Sink.written c.args.output.now) (g.K.Sink.written c.pump.new.output)
    c.begin.new.session c.pump.new.session c.pump.result c.in-Ok-begin.ensures.is c.pump.ensures.pumped c.end_of.result c.end_of.ensures

pub returns-clause-few : goal.returns-clause-few
returns-clause-few g c =
    takes_few (WaveEncoded c.args.kind c.args.mix) (g.S.Source.left c.args.input.now) (g.S.Source.left c.pump.new.input) (g.K.Sink.written c.args.output.now) (g.K.Sink.written c.pump.new.output) c.end_of.result
    (encodes_pumped c.args.kind c.args.mix (g.S.Source.left c.args.input.now) (g.S.Source.left c.read_wave_header.new.source) c.in-Ok-read_wave_header.info c.in-Ok-read_wave_header.ensures.ok
    (sym c.in-Ok-begin.ensures.value) c.if-info-eq0.false (g.S.Source.left c.pump.new.input) (g.K.Sink.written c.args.output.now) (g.K.Sink.written c.pump.new.output)
    c.begin.new.session c.pump.new.session c.pump.result c.in-Ok-begin.ensures.is c.pump.ensures.pumped c.end_of.result c.end_of.ensures)
