use Rattle.std.proofs.Common.{◌≡◌, ◌++◌, List, Bool, None, sym, ap, refl, ◌∙◌, arith, length}
use Rattle.std.proofs.lemmas.List.{length-append}
use Rattle.mlp_bits.specs.Bits.{bits_of}
use Rattle.mlp_bits.proofs.BitLists.{length-bits_of}
use Rattle.mlp_bits.proofs.Words.{bits_of-append}
use Rattle.mlp_major.specs.MajorSync.{major_sync, checked_sync, with_signature}
use Rattle.mlp_major.proofs.SyncWriting.{sync_text, sync_length, sync_has_fields}
use Rattle.mlp_major.proofs.writing.write_major.Goals as goal

pub returns-then-len-length-gt8190-clause-too_long : goal.returns-then-len-length-gt8190-clause-too_long
returns-then-len-length-gt8190-clause-too_long c =
    let out = c.args.out.now.items in
    let m = c.args.major.now in
    (λ e. omega (arith, length-append (bits_of out) ((major_sync None).spelling m), length-bits_of out, sync_length None m c.requires), λ lt. refl)

pub write_checked-requires-clause-fits : goal.write_checked-requires-clause-fits
write_checked-requires-clause-fits c = sync_has_fields None c.args.major.now c.requires

pub returns-in_default-clause-too_long : goal.returns-in_default-clause-too_long
returns-in_default-clause-too_long c =
    let m = c.args.major.now in
    let full = c.in_default.ensures.err.full in
    absurd (omega (arith, full, sync_length None m c.requires, ap (λ (t : List Bool). length t) (sync_text None m), ap (λ (t : List Bool). length t) c.new-w.ensures))

pub bytes-requires : goal.bytes-requires
bytes-requires c =
    let m = c.args.major.now in
    omega (
      arith,
      ap (λ (t : List Bool). length t) c.in-Ok.ensures.ok.appended,
      ap (λ (t : List Bool). length t)
          (ap (λ (t : List Bool). t ++ checked_sync.spelling (with_signature m)) c.new-w.ensures),
      sync_length None m c.requires,
      ap (λ (t : List Bool). length t) (sync_text None m),
    )

pub push_all-requires : goal.push_all-requires
push_all-requires c =
    let m = c.args.major.now in
    let text = checked_sync.spelling (with_signature m) in
    let written : c.write_checked.new.w ≡ text = c.in-Ok.ensures.ok.appended ∙ ap (λ (t : List Bool). t ++ text) c.new-w.ensures in
    omega (arith, c.if-len-length-gt8190.false, length-bits_of c.bytes.result.now, ap (λ (t : List Bool). length t) (c.bytes.ensures ∙ written), sync_length None m c.requires, ap (λ (t : List Bool). length t) (sync_text None m))

pub returns-clause-too_long : goal.returns-clause-too_long
returns-clause-too_long c =
    let out = c.args.out.now.items in
    let m = c.args.major.now in
    (λ e. absurd cc, λ lt. absurd (omega (arith, lt, length-append (bits_of out) ((major_sync None).spelling m), length-bits_of out, sync_length None m c.requires)))

pub returns-clause-appended : goal.returns-clause-appended
returns-clause-appended c =
    let m = c.args.major.now in
    let out = c.args.out.now.items in
    let text = checked_sync.spelling (with_signature m) in
    let written : c.write_checked.new.w ≡ text = c.in-Ok.ensures.ok.appended ∙ ap (λ (t : List Bool). t ++ text) c.new-w.ensures in
    ap bits_of c.push_all.ensures ∙ bits_of-append out c.bytes.result.now ∙ ap (λ (t : List Bool). bits_of out ++ t) (c.bytes.ensures ∙ written ∙ sym (sync_text None m))
