use Rattle.mlp_layout.specs.Layout.{number_of}
use Rattle.mlp_layout.specs.Combined.{listed}
use Rattle.mlp_params.proofs.WritingParameters.{listed_fits, listed_text}
use Rattle.mlp_layout.proofs.WritingLaws.{writes_as}
use Rattle.mlp_layout.proofs.WritingGroups.{some_allowed, writes_none, writes_some, flag_stops, ends_with}
use Rattle.mlp_params.proofs.write_parameters.write_steps.Goals as goal

pub returns-in_err-put_flag-in-Some : goal.returns-in_err-put_flag-in-Some
returns-in_err-put_flag-in-Some c = rw c.in-Some.is (λ n a. flag_stops _ c.args.there (listed n (number_of 4)) c.in-Some.given c.from_residual.result a.fits c.from_residual.ensures.1 c.in_err-put_flag-in-Some.ensures)

pub write_numbers-requires-clause-values : goal.write_numbers-requires-clause-values
write_numbers-requires-clause-values c =
    let h = rw c.in-Some.is at c.requires in
    let a = some_allowed c.args.there (listed h.0 (number_of 4)) c.in-Some.given h.1 in
    rw c.deref.ensures.0 (h.0, listed_fits h.0 (number_of 4) c.in-Some.given a.fits)

pub returns-in-None : goal.returns-in-None
returns-in-None c = rw c.in-None.is (λ n a. writes_none c.args.there (listed n (number_of 4)) c.write_absent.ensures)

pub returns-in_ok-put_flag-in-Some : goal.returns-in_ok-put_flag-in-Some
returns-in_ok-put_flag-in-Some c = rw c.in-Some.is (λ n h.
    let a = some_allowed c.args.there (listed n (number_of 4)) c.in-Some.given h in
    writes_some c.args.there (listed n (number_of 4)) c.in-Some.given c.put_flag.new.w h.fits c.in_ok-put_flag-in-Some.ensures
    (let b = rw c.deref.ensures.0 at c.write_numbers.ensures in writes_as (listed_text n (number_of 4) c.in-Some.given) (ends_with (b n (listed_fits n (number_of 4) c.in-Some.given a.fits)))))
