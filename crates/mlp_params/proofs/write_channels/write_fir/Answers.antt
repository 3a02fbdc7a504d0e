use Rattle.std.proofs.Common.{false, lit<}
use Rattle.mlp_params.specs.Filters.{filter}
use Rattle.mlp_layout.proofs.WritingGroups.{some_allowed, writes_none, writes_some, flag_stops}
use Rattle.mlp_params.proofs.write_channels.write_fir.Goals as goal

pub returns-in_err-put_flag-in-Some : goal.returns-in_err-put_flag-in-Some
returns-in_err-put_flag-in-Some c =
    let a = rw c.in-Some.is at c.requires in
    rw c.in-Some.is (flag_stops _ c.args.there (filter 8 false) c.in-Some.given c.from_residual.result a.fits c.from_residual.ensures.1 c.in_err-put_flag-in-Some.ensures)

pub write_filter-requires : goal.write_filter-requires
write_filter-requires c =
    let a = rw c.in-Some.is at c.requires in
    (lit< tt, (false, some_allowed c.args.there (filter 8 false) c.in-Some.given a))

pub returns-in-None : goal.returns-in-None
returns-in-None c = rw c.in-None.is (writes_none c.args.there (filter 8 false) c.write_absent.ensures)

pub returns-in_ok-put_flag-in-Some : goal.returns-in_ok-put_flag-in-Some
returns-in_ok-put_flag-in-Some c =
    let a = rw c.in-Some.is at c.requires in
    rw c.in-Some.is (writes_some c.args.there (filter 8 false) c.in-Some.given c.put_flag.new.w a.fits c.in_ok-put_flag-in-Some.ensures (c.write_filter.ensures false (some_allowed c.args.there (filter 8 false) c.in-Some.given a)))
