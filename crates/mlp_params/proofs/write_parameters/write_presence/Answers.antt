use Rattle.mlp_layout.specs.Layout.{number_of}
use Rattle.mlp_layout.proofs.WritingGroups.{writes_none, writes_some, flag_stops}
use Rattle.mlp_params.proofs.write_parameters.write_presence.Goals as goal

pub returns-in_err-put_flag-in-Some : goal.returns-in_err-put_flag-in-Some
returns-in_err-put_flag-in-Some c =
    let a = rw c.in-Some.is at c.requires in
    rw c.in-Some.is (flag_stops _ c.args.there (number_of 8) c.in-Some.given c.from_residual.result a.fits c.from_residual.ensures.1 c.in_err-put_flag-in-Some.ensures)

pub returns-in-None : goal.returns-in-None
returns-in-None c = rw c.in-None.is (writes_none c.args.there (number_of 8) c.write_absent.ensures)

pub returns-in_ok-put_flag-in-Some : goal.returns-in_ok-put_flag-in-Some
returns-in_ok-put_flag-in-Some c =
    let a = rw c.in-Some.is at c.requires in
    rw c.in-Some.is (writes_some c.args.there (number_of 8) c.in-Some.given c.put_flag.new.w a.fits c.in_ok-put_flag-in-Some.ensures (rw c.from.ensures at c.put_number.ensures))
