use Rattle.std.proofs.Common.{◌≡◌, ◌++◌, suc, None, inl, length, drop, [], arith, rules, sym, ◌∙◌, ap, subst}
use Rattle.std.proofs.lemmas.List.{append-nil, take_all, length-drop}
use Rattle.byteorder.specs.Endian.{little_number}
use Rattle.mlp_syntax.specs.declared.refusal.WaveField.TheVariants.{Chunk, FmtMissing}
use Rattle.mlp_pcm.specs.WaveScan.{chunk, chunks, begins, refused, ChunksSay, ContentSays}
use Rattle.mlp_pcm.proofs.ChunkLemmas.{head_short, head_then, data_begins, data_missing}
use Rattle.mlp_pcm.proofs.Turns.{turns, ends_result, stops_ends}
use Rattle.mlp_pcm.proofs.wave_chunks.next_chunk.Goals as goal

pub returns-in-Err-clause-err : goal.returns-in-Err-clause-err
returns-in-Err-clause-err g c =
    stops_ends (g.S.Source.left c.args.source.now) (g.S.Source.left c.take.new.source) c.args.taken 8 Chunk (ChunksSay c.args.seen) c.in-Err.refusal (λ xs l n. head_short n c.args.seen xs l) c.in-Err.ensures.err

pub returns-then-not-starts_with-clause-ok : goal.returns-then-not-starts_with-clause-ok
returns-then-not-starts_with-clause-ok g c =
    let e = c.in-Ok.ensures.ok in
    let eight : length c.take.new.buf ≡ 8 = search rules in
    turns (g.S.Source.left c.args.source.now) (g.S.Source.left c.take.new.source) (g.S.Source.left c.passed.new.source) c.take.new.buf c.args.taken c.in-Ok.at
    (λ n xs. chunks (suc n) c.args.seen xs) (λ n xs. chunk (chunks n) c.args.seen c.take.new.buf xs) c.passed.result e.2 e.0 (λ n rest. head_then n c.args.seen c.take.new.buf rest eight) c.passed.ensures.ok

pub returns-then-not-starts_with-clause-err : goal.returns-then-not-starts_with-clause-err
returns-then-not-starts_with-clause-err g c =
    let e = c.in-Ok.ensures.ok in
    let eight : length c.take.new.buf ≡ 8 = search rules in
    ends_result (g.S.Source.left c.args.source.now) (g.S.Source.left c.take.new.source) (g.S.Source.left c.passed.new.source) c.take.new.buf c.args.taken c.in-Ok.at
    (ChunksSay c.args.seen) (ContentSays c.args.seen c.take.new.buf) c.passed.result e.2 e.0 (λ ys says m n. head_then n c.args.seen c.take.new.buf ys eight ∙ m n) c.passed.ensures.err

pub returns-in-Some-clause-ok : goal.returns-in-Some-clause-ok
returns-in-Some-clause-ok g c =
    let e = c.in-Ok.ensures.ok in
    let head = c.take.new.buf in
    let eight : length c.take.new.buf ≡ 8 = search rules in
    let z = c.read_u32-size.ensures ∙ ap (little_number 4) (take_all 4 (drop 4 head) (omega (arith, eight, length-drop 4 head))) in
    let s = sym c.starts_with.ensures.value ∙ c.if-not-starts_with.false in (
      head,
      e.2,
      e.0,
      e.1,
      λ n rest. subst (λ f. chunks (suc n) f (head ++ rest) ≡ begins c.in-Some.format c.read_u32-size.result rest) (sym c.in-Some.is)
          (data_begins n c.in-Some.format head rest eight s ∙ ap (λ m. begins c.in-Some.format m rest) (sym z)),
    )

pub returns-in-None-clause-err : goal.returns-in-None-clause-err
returns-in-None-clause-err g c =
    let e = c.in-Ok.ensures.ok in
    let head = c.take.new.buf in
    let eight : length c.take.new.buf ≡ 8 = search rules in
    let s = sym c.starts_with.ensures.value ∙ c.if-not-starts_with.false in (
      head,
      e.2,
      omega (arith, e.0, e.1),
      inl (λ n. subst (λ f. chunks (suc n) f head ≡ refused FmtMissing) (sym c.in-None.is)
          (ap (chunks (suc n) None) (sym (append-nil head)) ∙ data_missing n head [] eight s)),
    )
