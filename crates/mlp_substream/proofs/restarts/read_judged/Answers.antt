use Rattle.std.proofs.Common.{sym, ◌∙◌, arith}
use Rattle.std.proofs.lemmas.Result.{err_from_is_err_and}
use Rattle.mlp_layout.proofs.RuleReading.{under_err, under_ok, under_fails}
use Rattle.mlp_params.specs.RestartHeader.{restart}
use Rattle.mlp_params.proofs.RestartRanges.{ranges}
use Rattle.mlp_substream.specs.Restarts.{restart_rules, judged_restart}
use Rattle.mlp_substream.proofs.restarts.read_judged.Goals as goal

pub returns-in_err-header-clause-read : goal.returns-in_err-header-clause-read
unfolding judged_restart
returns-in_err-header-clause-read c =
    let p = err_from_is_err_and c.from_residual.result c.from_residual.ensures.1 in
    let r = c.args.r.now in
    rw (p.1, p.2) (under_err r.all r.place (restart_rules c.args.known.now) (restart c.args.format) c.in_err-header.field-0.0 c.in_err-header.ensures.read)

pub restart_fault-requires : goal.restart_fault-requires
restart_fault-requires c = let g = ranges c.args.format c.in_ok-header.header c.in_ok-header.ensures.allowed in omega (arith, g.same, g.at_most_7)

pub returns-in-None-clause-read : goal.returns-in-None-clause-read
unfolding judged_restart
returns-in-None-clause-read c =
    let r = c.args.r.now in
    let h = c.in_ok-header.ensures.read in
    (under_ok r.all r.place (restart_rules c.args.known.now) (restart c.args.format) c.in_ok-header.header c.read_restart.new.r.place h.0 (sym c.restart_fault.ensures.value ∙ c.in-None.is), h.1, h.2)

pub returns-in-Some-clause-read : goal.returns-in-Some-clause-read
unfolding judged_restart
returns-in-Some-clause-read c =
    let r = c.args.r.now in
    let h = c.in_ok-header.ensures.read in
    rw (c.broken.ensures, c.place-first.ensures.value) (under_fails r.all r.place (restart_rules c.args.known.now)
    (restart c.args.format) c.in_ok-header.header c.read_restart.new.r.place c.in-Some.field c.in-Some.behind h.0 (sym c.restart_fault.ensures.value ∙ c.in-Some.is))
