use Rattle.mlp_params.specs.Matrices.{rows}
use Rattle.mlp_layout.proofs.WritingGroups.{some_allowed, writes_none, writes_some, flag_stops}
use Rattle.mlp_params.proofs.write_parameters.write_matrices_if.Goals as goal

pub returns-in_err-put_flag-in-Some : goal.returns-in_err-put_flag-in-Some
returns-in_err-put_flag-in-Some c = rw c.in-Some.is (λ format a. flag_stops _ c.args.there (rows format c.args.restart.now) c.in-Some.given c.from_residual.result a.fits c.from_residual.ensures.1 c.in_err-put_flag-in-Some.ensures)

pub write_matrices-requires : goal.write_matrices-requires
write_matrices-requires c =
    let h = rw c.in-Some.is at c.requires in
    let a = some_allowed c.args.there (rows h.0 c.args.restart.now) c.in-Some.given h.1 in
    (h.0, a)

pub returns-in-None : goal.returns-in-None
returns-in-None c = rw c.in-None.is (λ format a. writes_none c.args.there (rows format c.args.restart.now) c.write_absent.ensures)

pub returns-in_ok-put_flag-in-Some : goal.returns-in_ok-put_flag-in-Some
returns-in_ok-put_flag-in-Some c = rw c.in-Some.is (λ format h.
    let a = some_allowed c.args.there (rows format c.args.restart.now) c.in-Some.given h in
    writes_some c.args.there (rows format c.args.restart.now) c.in-Some.given c.put_flag.new.w h.fits c.in_ok-put_flag-in-Some.ensures (c.write_matrices.ensures format))
