use Rattle.std.proofs.Common.{◌≡◌, true, inl, length, drop, codes, nat_eq, arith, rules, sym, ◌∙◌, ap}
use Rattle.std.specs.Prelude.{◌&&◌}
use Rattle.std.specs.List.{starts_with}
use Rattle.mlp_syntax.specs.declared.refusal.WaveField.TheVariants.{Riff}
use Rattle.mlp_pcm.specs.WaveScan.{HeaderSays}
use Rattle.mlp_pcm.proofs.ChunkLemmas.{header_short, riff_right, riff_wrong}
use Rattle.mlp_pcm.proofs.Turns.{stops_ends}
use Rattle.mlp_pcm.proofs.wave_reader.take_riff.Goals as goal

pub returns-in-Err-clause-err : goal.returns-in-Err-clause-err
returns-in-Err-clause-err g c =
    stops_ends (g.S.Source.left c.args.source.now) (g.S.Source.left c.take.new.source) 0 12 Riff HeaderSays c.in-Err.refusal (λ xs l n. header_short n xs l) c.in-Err.ensures.err

pub returns-then-not-starts_with-clause-err : goal.returns-then-not-starts_with-clause-err
returns-then-not-starts_with-clause-err g c =
    let riff = c.take.new.buf in
    let twelve : length c.take.new.buf ≡ 12 = search rules in
    let e = c.in-Ok.ensures.ok in
    let s = sym c.starts_with.ensures.value ∙ c.if-not-starts_with.true in
    (riff, e.2, omega (arith, twelve), inl (λ n. riff_wrong n riff twelve (ap (λ t. t && starts_with nat_eq (drop 8 riff) (codes "WAVE")) s)))

pub returns-then-not-starts_with-2-clause-err : goal.returns-then-not-starts_with-2-clause-err
returns-then-not-starts_with-2-clause-err g c =
    let riff = c.take.new.buf in
    let twelve : length c.take.new.buf ≡ 12 = search rules in
    let e = c.in-Ok.ensures.ok in
    let s = sym c.starts_with.ensures.value ∙ c.if-not-starts_with.false in
    let w = ap (λ xs. starts_with nat_eq xs (codes "WAVE")) (sym c.behind.ensures) ∙ sym c.starts_with-2.ensures.value ∙ c.if-not-starts_with-2.true in
    (riff, e.2, omega (arith, twelve), inl (λ n. riff_wrong n riff twelve (ap (λ t. t && starts_with nat_eq (drop 8 riff) (codes "WAVE")) s ∙ ap (λ t. true && t) w)))

pub returns-clause-ok : goal.returns-clause-ok
returns-clause-ok g c =
    let riff = c.take.new.buf in
    let twelve : length c.take.new.buf ≡ 12 = search rules in
    let e = c.in-Ok.ensures.ok in
    let s = sym c.starts_with.ensures.value ∙ c.if-not-starts_with.false in
    let w = ap (λ xs. starts_with nat_eq xs (codes "WAVE")) (sym c.behind.ensures) ∙ sym c.starts_with-2.ensures.value ∙ c.if-not-starts_with-2.false in
    (riff, e.2, twelve, λ n rest. riff_right n riff rest twelve s w)
