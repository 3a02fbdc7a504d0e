use Rattle.std.proofs.Common.{arith, ◌∙◌}
use Rattle.mlp_pcm.specs.WaveScan.{AllChunksSay, Says}
use Rattle.mlp_pcm.proofs.Turns.{ends_result}
use Rattle.mlp_pcm.proofs.wave_reader.read_wave_header.Goals as goal

pub returns-in-Ok-clause-err : goal.returns-in-Ok-clause-err
returns-in-Ok-clause-err g c =
    let e = c.in-Ok.ensures.ok in
    ends_result (g.S.Source.left c.args.source.now) (g.S.Source.left c.take_riff.new.source) (g.S.Source.left c.take_chunks.new.source) e.0 0 12 Says AllChunksSay c.take_chunks.result
    e.1 (omega (arith, e.2)) (λ ys says m. (m.0, e.3 m.0 ys ∙ m.1)) c.take_chunks.ensures.err
