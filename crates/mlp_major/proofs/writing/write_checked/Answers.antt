use Rattle.std.proofs.Common.{◌≡◌, ◌++◌, List, Bool, sym, ap, ◌∙◌, arith, length}
use Rattle.std.proofs.lemmas.Result.{err_from_is_err_and}
use Rattle.mlp_bits.specs.Bits.{bits}
use Rattle.mlp_bits.specs.Checks.{modulus16, rem}
use Rattle.mlp_layout.specs.Layout.{number_of}
use Rattle.mlp_layout.proofs.WritingLaws.{filled_as, filled_first, then_writes, writes_as}
use Rattle.mlp_major.specs.MajorSync.{fields, checked_sync, with_signature}
use Rattle.mlp_major.proofs.SyncWriting.{checked_text, fields_whole}
use Rattle.mlp_major.proofs.writing.write_checked.Goals as goal

pub returns-in_err-write_fields : goal.returns-in_err-write_fields
returns-in_err-write_fields c =
    let p = err_from_is_err_and c.from_residual.result c.from_residual.ensures.1 in
    let text = fields.spelling (with_signature c.args.major.now) in
    rw p.1 (record {
      ok = tt;
      err = filled_as c.args.w.now c.write_fields.new.w _ (checked_sync.spelling (with_signature c.args.major.now)) (sym (checked_text c.args.major.now))
          (filled_first c.args.w.now c.write_fields.new.w text (bits 16 (rem modulus16 text)) c.in_err-write_fields.ensures.err);
    })

pub bytes-requires : goal.bytes-requires
bytes-requires c =
    let w = c.in_ok-write_fields.ensures.ok.appended in
    omega (arith, fields_whole c.args.major.now c.requires.fits, ap (λ (t : List Bool). length t) (w ∙ ap (λ (t : List Bool). t ++ fields.spelling (with_signature c.args.major.now)) c.requires.empty))

pub returns : goal.returns
unfolding number_of
returns c =
    let text = fields.spelling (with_signature c.args.major.now) in
    let w = c.in_ok-write_fields.ensures.ok.appended in
    let all : c.write_fields.new.w ≡ text = w ∙ ap (λ (t : List Bool). t ++ text) c.requires.empty in
    let check : c.check16-check.result ≡ rem modulus16 text = c.check16-check.ensures ∙ ap (rem modulus16) (c.bytes.ensures ∙ all) in
    writes_as (sym (checked_text c.args.major.now)) (then_writes c.in_ok-write_fields.ensures (writes_as (ap (bits 16) (c.from.ensures ∙ check)) c.put_number.ensures))
