use Rattle.std.proofs.Common.{◌++◌, arith, refl, ◌∙◌}
use Rattle.std.proofs.lemmas.List.{length-append}
use Rattle.mlp_io.proofs.Bytes.{Consumes-append}
use Rattle.mlp_syntax.specs.declared.refusal.WaveField.TheVariants.{Chunk}
use Rattle.mlp_pcm.proofs.Stopping.{stops_after}
use Rattle.mlp_pcm.proofs.wave_bytes.skip.Goals as goal

pub returns-in-Err-clause-err : goal.returns-in-Err-clause-err
returns-in-Err-clause-err g c =
    let v = c.loop-left.invariant in
    stops_after (g.S.Source.left c.args.source.now) (g.S.Source.left c.loop-left.source) (g.S.Source.left c.skip_some.new.source) v.bytes.0 c.args.taken c.loop-left.at c.args.count c.min-piece.result Chunk _
    v.bytes.1 (omega (arith, v.bytes.2, v.counted)) (omega (arith, v.bytes.2, c.min-piece.ensures)) c.in-Err.ensures.err

pub loop-left-preserved : goal.loop-left-preserved
loop-left-preserved g c =
    let v = c.loop-left.invariant in
    let e = c.in-Ok.ensures.ok in
    record {
      counted = omega (arith, v.counted, e.0, c.min-piece.ensures);
      within = e.1;
      most = omega (arith, v.most);
      bytes = (v.bytes.0 ++ e.2, Consumes-append _ _ _ v.bytes.0 e.2 v.bytes.1 e.3, omega (arith, length-append v.bytes.0 e.2, v.bytes.2, e.4, c.min-piece.ensures));
      faults = c.in-Ok.ensures.cause.kept refl ∙ v.faults;
    }
