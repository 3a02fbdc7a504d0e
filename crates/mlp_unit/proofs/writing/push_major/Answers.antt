use Rattle.std.proofs.Common.{◌≡◌, ◌+◌, ◌++◌, List, Bool, Option, Some, None, Result, Ok, Err, length, refl, ap, sym, subst, ◌∙◌, arith}
use Rattle.std.specs.Prelude.{IsErr, OnOk}
use Rattle.std.specs.Option.{option_copied}
use Rattle.std.proofs.lemmas.List.{length-append}
use Rattle.mlp_bits.specs.Bits.{bits_of}
use Rattle.mlp_bits.proofs.BitLists.{length-bits_of}
use Rattle.mlp_syntax.specs.declared.major.MajorSync.{MajorSync}
use Rattle.mlp_major.specs.MajorSync.{major_sync}
use Rattle.mlp_major.proofs.SyncWriting.{sync_length}
use Rattle.mlp_unit.specs.AccessUnit.{major_size}
use Rattle.mlp_unit.specs.Written.{MajorFits, major_text}
use Rattle.mlp_unit.proofs.writing.push_major.Goals as goal

on_ok : {E : Type 0} (r : Result (Unit {0}) E) (P : Type 0) → (IsErr r → ⊥) → OnOk r P → P
on_ok (Ok x) P not h = h
on_ok (Err e) P not h = absurd (not refl)

pub returns-in-Some-clause-bits : goal.returns-in-Some-clause-bits
returns-in-Some-clause-bits c =
    let m = c.in-Some.major.now in
    let out = c.args.out.now.items in
    let is : option_copied c.args.major ≡ Some m = ap option_copied c.in-Some.is in
    let fits : (major_sync None).Fits m = subst MajorFits is c.requires.fits in
    let room = c.requires.room in
    let size : major_size (option_copied c.args.major) ≡ 28 + length m.extension.items = ap major_size is in
    let ok = on_ok c.write_major-too_long.result _ (λ err. omega (
      arith,
      c.write_major-too_long.ensures.too_long.0 err,
      length-append (bits_of out)
          ((major_sync None).spelling m),
      length-bits_of out,
      sync_length None m fits,
      room,
      size,
    )) c.write_major-too_long.ensures.appended in
    ok ∙ ap (λ (o : Option MajorSync). bits_of out ++ major_text o) (sym is)

pub returns-in-Some-clause-len : goal.returns-in-Some-clause-len
returns-in-Some-clause-len c =
    let m = c.in-Some.major.now in
    let out = c.args.out.now.items in
    let is : option_copied c.args.major ≡ Some m = ap option_copied c.in-Some.is in
    let fits : (major_sync None).Fits m = subst MajorFits is c.requires.fits in
    let size : major_size (option_copied c.args.major) ≡ 28 + length m.extension.items = ap major_size is in
    let ok = on_ok c.write_major-too_long.result _ (λ err. omega (
      arith,
      c.write_major-too_long.ensures.too_long.0 err,
      length-append (bits_of out)
          ((major_sync None).spelling m),
      length-bits_of out,
      sync_length None m fits,
      c.requires.room,
      size,
    )) c.write_major-too_long.ensures.appended in
    omega (arith, ap (λ (t : List Bool). length t) ok, length-append (bits_of out) ((major_sync None).spelling m), length-bits_of out, length-bits_of c.write_major-too_long.new.out.items, sync_length None m fits, size)
