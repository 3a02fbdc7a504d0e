use Rattle.std.proofs.Common.{◌≡◌, ◌+◌, ◌%◌, ◌++◌, Some, inl, length, arith, rules, sym, ◌∙◌, ap, subst}
use Rattle.std.specs.Prelude.{◌&&◌, is_none}
use Rattle.std.proofs.lemmas.List.{length-append, take_rest}
use Rattle.byteorder.specs.Endian.{little_number}
use Rattle.mlp_pcm.specs.WaveHeader.{padded}
use Rattle.mlp_pcm.specs.WaveFormat.{number_at, judged}
use Rattle.mlp_pcm.specs.WaveScan.{chunk, chunks, refused}
use Rattle.mlp_pcm.proofs.ChunkLemmas.{content_ends, chunk_other, fmt_right, fmt_wrong, some_is, none_is}
use Rattle.mlp_pcm.proofs.wave_chunks.passed.Goals as goal

pub returns-in-Err-clause-err : goal.returns-in-Err-clause-err
returns-in-Err-clause-err g c =
    let z = c.read_u32-size.ensures ∙ ap (little_number 4) (take_rest c.args.head.now 4) in
    let w : c.from.result + c.from-2.result ≡ padded (number_at 4 4 c.args.head.now) = omega (arith, z, c.from.ensures, c.from-2.ensures, ap (λ n. n % 2) z) in
    content_ends (g.S.Source.left c.args.source.now) (g.S.Source.left c.content.new.source) c.args.taken _ c.args.seen c.args.head.now c.in-Err.refusal c.requires.other w c.in-Err.ensures.err

pub returns-then-is_some-clause-ok : goal.returns-then-is_some-clause-ok
returns-then-is_some-clause-ok g c =
    let z = c.read_u32-size.ensures ∙ ap (little_number 4) (take_rest c.args.head.now 4) in
    let w : c.from.result + c.from-2.result ≡ padded (number_at 4 4 c.args.head.now) = omega (arith, z, c.from.ensures, c.from-2.ensures, ap (λ n. n % 2) z) in
    let e = c.in-Ok.ensures.ok in
    let l = length-append c.content.new.buf e.2 in (
      c.content.new.buf ++ e.2,
      e.3,
      omega (arith, l, e.0, e.4),
      e.1,
      λ n rest. chunk_other n c.args.seen c.args.head.now (c.content.new.buf ++ e.2) rest c.requires.other (omega (arith, l, e.4, w)) (some_is c.args.seen _ c.if-is_some.ensures),
    )

pub returns-then-not-starts_with-clause-ok : goal.returns-then-not-starts_with-clause-ok
returns-then-not-starts_with-clause-ok g c =
    let z = c.read_u32-size.ensures ∙ ap (little_number 4) (take_rest c.args.head.now 4) in
    let w : c.from.result + c.from-2.result ≡ padded (number_at 4 4 c.args.head.now) = omega (arith, z, c.from.ensures, c.from-2.ensures, ap (λ n. n % 2) z) in
    let e = c.in-Ok.ensures.ok in
    let l = length-append c.content.new.buf e.2 in (
      c.content.new.buf ++ e.2,
      e.3,
      omega (arith, l, e.0, e.4),
      e.1,
      λ n rest. chunk_other n c.args.seen c.args.head.now (c.content.new.buf ++ e.2) rest c.requires.other (omega (arith, l, e.4, w))
          (ap (λ t. t && is_none c.args.seen) (sym c.starts_with.ensures.value ∙ c.if-not-starts_with.true)),
    )

pub returns-in-Ok-judge-clause-ok : goal.returns-in-Ok-judge-clause-ok
returns-in-Ok-judge-clause-ok g c =
    let z = c.read_u32-size.ensures ∙ ap (little_number 4) (take_rest c.args.head.now 4) in
    let w : c.from.result + c.from-2.result ≡ padded (number_at 4 4 c.args.head.now) = omega (arith, z, c.from.ensures, c.from-2.ensures, ap (λ n. n % 2) z) in
    let e = c.in-Ok.ensures.ok in
    let l = length-append c.content.new.buf e.2 in
    let same : length c.content.new.buf ≡ c.min-count.result = search rules in
    let none = none_is c.args.seen c.if-is_some.ensures in
    let j = ap (λ m. judged m c.content.new.buf) (sym z) ∙ sym c.judge.ensures ∙ c.in-Ok-judge.is in (
      c.content.new.buf ++ e.2,
      e.3,
      omega (arith, l, e.0, e.4),
      e.1,
      λ n rest. subst (λ s. chunk (chunks n) s c.args.head.now ((c.content.new.buf ++ e.2) ++ rest) ≡ chunks n (Some c.in-Ok-judge.format) rest) (sym none)
          (fmt_right n c.args.head.now c.content.new.buf e.2 rest c.in-Ok-judge.format c.requires.other
          (omega (arith, same, c.min-count.ensures, w)) (omega (arith, e.4, w)) (sym c.starts_with.ensures.value ∙ c.if-not-starts_with.false) j),
    )

pub returns-in-Err-judge-clause-err : goal.returns-in-Err-judge-clause-err
returns-in-Err-judge-clause-err g c =
    let z = c.read_u32-size.ensures ∙ ap (little_number 4) (take_rest c.args.head.now 4) in
    let w : c.from.result + c.from-2.result ≡ padded (number_at 4 4 c.args.head.now) = omega (arith, z, c.from.ensures, c.from-2.ensures, ap (λ n. n % 2) z) in
    let e = c.in-Ok.ensures.ok in
    let l = length-append c.content.new.buf e.2 in
    let same : length c.content.new.buf ≡ c.min-count.result = search rules in
    let none = none_is c.args.seen c.if-is_some.ensures in
    let j = ap (λ m. judged m c.content.new.buf) (sym z) ∙ sym c.judge.ensures ∙ c.in-Err-judge.is in (
      c.content.new.buf ++ e.2,
      e.3,
      omega (arith, l, e.0, e.1, e.4),
      inl (λ n. subst (λ s. chunk (chunks n) s c.args.head.now (c.content.new.buf ++ e.2) ≡ refused c.in-Err-judge.field) (sym none)
          (fmt_wrong n c.args.head.now c.content.new.buf e.2 c.in-Err-judge.field c.requires.other (omega (arith, same, c.min-count.ensures, w)) (omega (arith, e.4, w)) (sym c.starts_with.ensures.value ∙ c.if-not-starts_with.false) j)),
    )
