use Rattle.std.proofs.Common.{true, ap, sym, subst, arith}
use Rattle.mlp_layout.specs.Combined.{signed_of}
use Rattle.mlp_layout.proofs.WritingLaws.{writes_as}
use Rattle.mlp_layout.proofs.SignedLaws.{kept}
use Rattle.mlp_layout.proofs.WritingGroups.{some_fits, writes_none, writes_some, flag_stops}
use Rattle.mlp_params.proofs.write_matrices.write_coefficient.Goals as goal

pub returns-in_err-put_flag-in-Some : goal.returns-in_err-put_flag-in-Some
returns-in_err-put_flag-in-Some c =
    let a = rw c.in-Some.is at c.requires.fits in
    rw c.in-Some.is (flag_stops _ true (signed_of c.args.width) c.in-Some.given c.from_residual.result a c.from_residual.ensures.1 c.in_err-put_flag-in-Some.ensures)

pub write_signed-requires-clause-value : goal.write_signed-requires-clause-value
write_signed-requires-clause-value c =
    let a = rw c.in-Some.is at c.requires.fits in
    let h = some_fits true (signed_of c.args.width) c.in-Some.given a in
    subst (signed_of c.args.width).Fits (sym (kept c.args.width c.in-Some.given (omega arith) h)) h

pub returns-in-None : goal.returns-in-None
returns-in-None c = rw c.in-None.is (writes_none true (signed_of c.args.width) c.write_absent.ensures)

pub returns-in_ok-put_flag-in-Some : goal.returns-in_ok-put_flag-in-Some
returns-in_ok-put_flag-in-Some c =
    let a = rw c.in-Some.is at c.requires.fits in
    let h = some_fits true (signed_of c.args.width) c.in-Some.given a in
    let b = writes_as (ap (signed_of c.args.width).spelling (kept c.args.width c.in-Some.given (omega arith) h)) c.write_signed.ensures in
    rw c.in-Some.is (writes_some true (signed_of c.args.width) c.in-Some.given c.put_flag.new.w a c.in_ok-put_flag-in-Some.ensures b)
