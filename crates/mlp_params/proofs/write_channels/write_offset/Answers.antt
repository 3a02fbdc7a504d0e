use Rattle.std.proofs.Common.{◌≡◌, ℤ, ap, sym, subst, ◌∙◌, arith}
use mir.Val.{to_z, of_z}
use mir.Syntax.{w32}
use Rattle.mlp_layout.proofs.WritingLaws.{writes_as}
use Rattle.mlp_layout.specs.Combined.{signed_of}
use Rattle.mlp_layout.proofs.SignedLaws.{kept, kept_16}
use Rattle.mlp_layout.proofs.WritingGroups.{some_allowed, writes_none, writes_some, flag_stops}
use Rattle.mlp_params.proofs.write_channels.write_offset.Goals as goal

pub returns-in_err-put_flag-in-Some : goal.returns-in_err-put_flag-in-Some
returns-in_err-put_flag-in-Some c =
    let a = rw c.in-Some.is at c.requires in
    rw c.in-Some.is (flag_stops _ c.args.there (signed_of 15) c.in-Some.given c.from_residual.result a.fits c.from_residual.ensures.1 c.in_err-put_flag-in-Some.ensures)

pub put_signed-requires : goal.put_signed-requires
put_signed-requires c =
    let a = rw c.in-Some.is at c.requires in
    let h = some_allowed c.args.there (signed_of 15) c.in-Some.given a in
    let same : to_z w32 (of_z w32 c.from.result) ≡ c.in-Some.given = ap (λ (z : ℤ). to_z w32 (of_z w32 z)) (c.from.ensures ∙ kept_16 15 c.in-Some.given (omega arith) h.fits) ∙ kept 15 c.in-Some.given (omega arith) h.fits in
    record { low = omega arith; high = omega arith; value = subst (signed_of 15).Fits (sym same) h.fits }

pub returns-in-None : goal.returns-in-None
returns-in-None c = rw c.in-None.is (writes_none c.args.there (signed_of 15) c.write_absent.ensures)

pub returns-in_ok-put_flag-in-Some : goal.returns-in_ok-put_flag-in-Some
returns-in_ok-put_flag-in-Some c =
    let a = rw c.in-Some.is at c.requires in
    let h = some_allowed c.args.there (signed_of 15) c.in-Some.given a in
    let same : to_z w32 (of_z w32 c.from.result) ≡ c.in-Some.given = ap (λ (z : ℤ). to_z w32 (of_z w32 z)) (c.from.ensures ∙ kept_16 15 c.in-Some.given (omega arith) h.fits) ∙ kept 15 c.in-Some.given (omega arith) h.fits in
    rw c.in-Some.is (writes_some c.args.there (signed_of 15) c.in-Some.given c.put_flag.new.w a.fits c.in_ok-put_flag-in-Some.ensures (writes_as (ap (signed_of 15).spelling same) c.put_signed.ensures))
