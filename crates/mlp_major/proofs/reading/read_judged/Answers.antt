use Rattle.std.specs.Option.{option_copied}
use Rattle.std.proofs.lemmas.Result.{err_from_is_err_and}
use Rattle.mlp_major.proofs.SyncReading.{judged_err, judged_bad, judged_fails, judged_ok}
use Rattle.mlp_major.proofs.reading.read_judged.Goals as goal

pub returns-in_err-signed-clause-read : goal.returns-in_err-signed-clause-read
returns-in_err-signed-clause-read c =
    let p = err_from_is_err_and c.from_residual.result c.from_residual.ensures.1 in
    rw (p.1, p.2) (judged_err (option_copied c.args.first) c.args.r.now.all c.args.r.now.place c.in_err-signed.field-0.0 c.in_err-signed.ensures)

pub returns-then-signed-clause-read : goal.returns-then-signed-clause-read
returns-then-signed-clause-read c = rw (c.broken.ensures, c.place-at.ensures.value)
    (judged_bad (option_copied c.args.first) c.args.r.now.all c.args.r.now.place c.in_ok-signed.signed c.read_checked.new.r.place c.in_ok-signed.ensures.0 c.if-signed.true)

pub returns-in-Err-clause-read : goal.returns-in-Err-clause-read
returns-in-Err-clause-read c = rw (c.broken-in-Err.ensures, c.place-at.ensures.value)
    (judged_fails (option_copied c.args.first) c.args.r.now.all c.args.r.now.place c.in_ok-signed.signed c.read_checked.new.r.place c.in_ok-signed.ensures.0 c.in-Err.fault c.if-signed.false c.in-Err.ensures.rules)

pub returns-clause-read : goal.returns-clause-read
returns-clause-read c =
    let f = c.in_ok-signed.ensures in
    (judged_ok (option_copied c.args.first) c.args.r.now.all c.args.r.now.place c.in_ok-signed.signed c.read_checked.new.r.place f.0 c.if-signed.false c.in_default.ensures.rules, f.1, f.2)
