use Rattle.std.proofs.Common.{◌≡◌, ℕ, ◌-◌, take, drop, sym, ◌∙◌, arith}
use Rattle.std.proofs.lemmas.Result.{err_from_is_err_and}
use Rattle.mlp_bits.specs.Checks.{restart_check_of}
use Rattle.mlp_bits.specs.Cursor.{Cursor}
use Rattle.mlp_syntax.specs.declared.fault.Field.TheVariants as rule
use Rattle.mlp_params.specs.RestartHeader.{restart, restart_fields}
use Rattle.mlp_params.proofs.RestartLaws.{restart_fields_is, restart_is, allowed}
use Rattle.mlp_layout.proofs.CheckReading.{check_err, check_short, check_ok, check_fails}
use Rattle.mlp_params.proofs.header.read_restart.Goals as goal

sum_is : (sum first : ℕ) (m r : Cursor) → sum ≡ restart_check_of (take (m.place - first) (drop first m.all)) → first ≡ r.place → m.all ≡ r.all → sum ≡ restart_check_of (take (m.place - r.place) (drop r.place r.all))
sum_is sum first m r e f same = rw (← f, ← same) e

pub returns-in_err-header-clause-read : goal.returns-in_err-header-clause-read
unfolding restart
returns-in_err-header-clause-read c =
    let p = err_from_is_err_and c.from_residual.result c.from_residual.ensures.1 in
    let all = c.args.r.now.all in
    rw (p.1, p.2) (check_err 8 restart_check_of rule.RestartCheck (restart_fields c.args.kind) all c.args.r.now.place c.in_err-header.field-0.0 c.in_err-header.ensures)

pub returns-in_err-check-clause-read : goal.returns-in_err-check-clause-read
unfolding restart
returns-in_err-check-clause-read c =
    let p = err_from_is_err_and c.from_residual-in_err-check.result c.from_residual-in_err-check.ensures.1 in
    let h = c.in_ok-header.ensures in
    rw (p.1, p.2) (check_short 8 restart_check_of rule.RestartCheck (restart_fields c.args.kind) c.args.r.now.all c.args.r.now.place c.in_ok-header.header c.read_fields.new.r.place c.in_err-check.field-0.0 h.0
    (rw (← h.1) c.in_err-check.ensures.read))

pub returns-then-check-sum-clause-read : goal.returns-then-check-sum-clause-read
unfolding restart
returns-then-check-sum-clause-read c =
    let h = c.in_ok-header.ensures in
    let k = c.in_ok-check.ensures.read in
    let r = c.args.r.now in
    let m = c.read_fields.new.r in
    let read = check_fails 8 restart_check_of rule.RestartCheck (restart_fields c.args.kind) r.all r.place (restart_fields_is c.args.kind) c.place-first.ensures.within c.in_ok-header.header m.place c.in_ok-check.check
    c.byte.new.r.place h.0 (rw (← h.1) k.0)
    (λ e. c.if-check-sum.true (e ∙ sym (sum_is c.restart_check_since-sum.result c.place-first.result m r c.restart_check_since-sum.ensures c.place-first.ensures.value h.1))) in
    rw (c.broken.ensures, c.place-at.ensures.value) read

pub returns : goal.returns
unfolding restart
returns c =
    let h = c.in_ok-header.ensures in
    let k = c.in_ok-check.ensures.read in
    let r = c.args.r.now in
    let m = c.read_fields.new.r in
    let read = check_ok 8 restart_check_of rule.RestartCheck (restart_fields c.args.kind) r.all r.place (restart_fields_is c.args.kind) c.place-first.ensures.within c.in_ok-header.header m.place c.in_ok-check.check
    c.byte.new.r.place h.0 (rw (← h.1) k.0)
    (c.if-check-sum.false ∙ sum_is c.restart_check_since-sum.result c.place-first.result m r c.restart_check_since-sum.ensures c.place-first.ensures.value h.1) in
    record { allowed = allowed (restart_is c.args.kind) r.all r.place c.place-first.ensures.within c.in_ok-header.header c.byte.new.r.place read; read = (read, k.1 ∙ h.1, omega (arith, h.2, k.2)) }
