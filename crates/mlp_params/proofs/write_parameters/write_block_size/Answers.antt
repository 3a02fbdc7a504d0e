use Rattle.mlp_layout.specs.Layout.{ruled, number_of}
use Rattle.mlp_params.specs.Parameters.{block_size_of}
use Rattle.mlp_params.proofs.WritingParameters.{size_fits}
use Rattle.mlp_layout.proofs.WritingGroups.{some_allowed, writes_none, writes_some, flag_stops}
use Rattle.mlp_params.proofs.write_parameters.write_block_size.Goals as goal

pub returns-in_err-put_flag-in-Some : goal.returns-in_err-put_flag-in-Some
returns-in_err-put_flag-in-Some c = rw c.in-Some.is (λ unit_frames a. flag_stops _ c.args.there (block_size_of unit_frames) c.in-Some.given c.from_residual.result a.fits c.from_residual.ensures.1 c.in_err-put_flag-in-Some.ensures)

pub put_number-requires-clause-value : goal.put_number-requires-clause-value
put_number-requires-clause-value c =
    let h = rw c.in-Some.is at c.requires in
    let a = some_allowed c.args.there (block_size_of h.0) c.in-Some.given h.1 in
    rw c.from.ensures (size_fits h.0 c.in-Some.given a.fits)

pub returns-in-None : goal.returns-in-None
returns-in-None c = rw c.in-None.is (λ unit_frames a. writes_none c.args.there (block_size_of unit_frames) c.write_absent.ensures)

pub returns-in_ok-put_flag-in-Some : goal.returns-in_ok-put_flag-in-Some
unfolding ruled number_of
returns-in_ok-put_flag-in-Some c = rw c.in-Some.is (λ unit_frames h.
    let a = some_allowed c.args.there (block_size_of unit_frames) c.in-Some.given h in
    writes_some c.args.there (block_size_of unit_frames) c.in-Some.given c.put_flag.new.w h.fits c.in_ok-put_flag-in-Some.ensures (rw c.from.ensures at c.put_number.ensures))
