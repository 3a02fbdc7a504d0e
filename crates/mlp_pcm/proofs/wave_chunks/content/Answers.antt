use Rattle.std.proofs.Common.{◌≡◌, length, arith, rules}
use Rattle.mlp_syntax.specs.declared.refusal.WaveField.TheVariants.{Chunk}
use Rattle.mlp_pcm.proofs.Stopping.{stops_result}
use Rattle.mlp_pcm.proofs.wave_chunks.content.Goals as goal

pub returns-in-Ok-clause-err : goal.returns-in-Ok-clause-err
returns-in-Ok-clause-err g c =
    let same : length c.take.new.buf ≡ length c.args.buf.now = search rules in
    let k = c.in-Ok.ensures.ok in
    stops_result (g.S.Source.left c.args.source.now) (g.S.Source.left c.take.new.source) (g.S.Source.left c.skip.new.source) c.take.new.buf c.args.taken c.in-Ok.at c.args.size _ Chunk c.skip.result
    k.2 k.0 (omega arith) c.skip.ensures.err
