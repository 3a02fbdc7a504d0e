use Rattle.std.proofs.Common.{◌≡◌, ◌+◌, ◌++◌, suc, None, [], arith, refl, sym, ◌∙◌, ap, subst}
use Rattle.std.proofs.lemmas.List.{append-nil, length-append}
use Rattle.mlp_io.proofs.Bytes.{Consumes-append, Consumes-none}
use Rattle.mlp_pcm.specs.WaveScan.{chunks, ChunksSay, AllChunksSay, IsTurn}
use Rattle.mlp_pcm.proofs.Turns.{ends_after, run_passed, run_says}
use Rattle.mlp_pcm.proofs.wave_reader.take_chunks.Goals as goal

pub loop-format-init : goal.loop-format-init
loop-format-init g c = record {
  within = omega arith;
  bytes = ([], Consumes-none (g.S.Source.left c.args.source.now), omega arith, 0, λ n rest. ap (λ m. chunks m None rest) (let e : 0 + n ≡ n = omega arith in e));
  faults = refl;
}

pub loop-format-preserved : goal.loop-format-preserved
loop-format-preserved g c =
    let v = c.loop-format.invariant in
    let b = v.bytes in
    let t = subst (IsTurn (g.S.Source.left c.loop-format.source) (g.S.Source.left c.next_chunk.new.source) c.loop-format.at (λ n xs. chunks (suc n) c.loop-format.seen xs)) c.in-Ok-Passed.field-0-is c.in-Ok-Passed.ensures.ok in
    record {
      within = t.3;
      bytes = (b.0 ++ t.0, Consumes-append _ _ _ b.0 t.0 b.1 t.1, omega (arith, length-append b.0 t.0, b.2, t.2), b.3 + 1, run_passed b.3 c.loop-format.seen b.0 t.0 b.4 c.in-Ok-Passed.format t.4);
      faults = c.in-Ok-Passed.ensures.cause.kept refl ∙ v.faults;
    }

pub returns-in-Ok-Data-clause-ok : goal.returns-in-Ok-Data-clause-ok
returns-in-Ok-Data-clause-ok g c =
    let b = c.loop-format.invariant.bytes in
    let t = subst (IsTurn (g.S.Source.left c.loop-format.source) (g.S.Source.left c.next_chunk.new.source) c.loop-format.at (λ n xs. chunks (suc n) c.loop-format.seen xs)) c.in-Ok-Data.field-0-is c.in-Ok-Data.ensures.ok in (
      b.0 ++ t.0,
      Consumes-append _ _ _ b.0 t.0 b.1 t.1,
      omega (arith, length-append b.0 t.0, b.2, t.2),
      t.3,
      (
        b.3 + suc 0,
        run_says b.3 c.loop-format.seen b.0 t.0 b.4 _ (ap (chunks (suc 0) c.loop-format.seen) (sym (append-nil t.0)) ∙ t.4 0 []),
      ),
    )

pub returns-in-Err-clause-err : goal.returns-in-Err-clause-err
returns-in-Err-clause-err g c =
    let b = c.loop-format.invariant.bytes in
    ends_after (g.S.Source.left c.args.source.now) (g.S.Source.left c.loop-format.source) (g.S.Source.left c.next_chunk.new.source) b.0 12 c.loop-format.at AllChunksSay (ChunksSay c.loop-format.seen) c.in-Err.refusal
    b.1 b.2 (λ ys says m. (b.3 + suc 0, run_says b.3 c.loop-format.seen b.0 ys b.4 says (m 0))) c.in-Err.ensures.err
