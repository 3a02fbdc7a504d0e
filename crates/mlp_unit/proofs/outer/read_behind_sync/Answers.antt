use Rattle.std.proofs.Common.{◌≡◌, true, false, length, Some, ap, sym, arith}
use Rattle.std.specs.Prelude.{is_some}
use Rattle.std.specs.Option.{option_copied}
use Rattle.std.proofs.lemmas.Result.{err_from_is_err_and}
use Rattle.mlp_unit.specs.AccessUnit.{in_force}
use Rattle.mlp_unit.proofs.UnitReading.{behind_none, behind_err, behind_ok, body_at}
use Rattle.mlp_unit.proofs.outer.read_behind_sync.Goals as goal

pub returns-in_default-clause-read : goal.returns-in_default-clause-read
returns-in_default-clause-read c =
    let none : is_some (in_force (option_copied c.args.first) c.args.major.now) ≡ false = ap is_some (sym c.in_default.ensures) in
    rw (c.broken.ensures, c.place.ensures.value) (behind_none (option_copied c.args.first) c.args.head c.args.major.now c.args.r.now.all c.args.r.now.place none)

pub returns-in_err-read_entries-clause-read : goal.returns-in_err-read_entries-clause-read
returns-in_err-read_entries-clause-read c =
    let p = err_from_is_err_and c.from_residual.result c.from_residual.ensures.1 in
    let sync : in_force (option_copied c.args.first) c.args.major.now ≡ Some c.in-Some.sync.now = sym c.in-Some.ensures in
    let there : is_some (in_force (option_copied c.args.first) c.args.major.now) ≡ true = ap is_some sync in
    rw (p.1, p.2) (behind_err (option_copied c.args.first) c.args.head c.args.major.now c.args.r.now.all c.args.r.now.place there c.in_err-read_entries.field-0.0 (rw sync c.in_err-read_entries.ensures))

pub returns-clause-read : goal.returns-clause-read
returns-clause-read c =
    let sync : in_force (option_copied c.args.first) c.args.major.now ≡ Some c.in-Some.sync.now = sym c.in-Some.ensures in
    let there : is_some (in_force (option_copied c.args.first) c.args.major.now) ≡ true = ap is_some sync in
    (behind_ok (option_copied c.args.first) c.args.head c.args.major.now c.args.unit.now c.args.r.now c.requires.same c.requires.place
    (omega (arith, c.in_ok-read_entries.ensures.2, c.place-body.ensures.within, ap length c.in_ok-read_entries.ensures.1)) c.requires.size
    (λ i. omega (arith, c.type_inv.unit i)) c.read_entries.new.entries.items c.read_entries.new.r there (rw sync c.in_ok-read_entries.ensures.0))

pub returns-clause-body : goal.returns-clause-body
returns-clause-body c =
    let e = c.in_ok-read_entries.ensures in
    body_at (option_copied c.args.first) c.args.head c.args.major.now c.args.unit.now c.args.r.now c.requires.same c.requires.place
    (omega (arith, e.2, c.place-body.ensures.within, ap length e.1)) c.requires.size (λ i. omega (arith, c.type_inv.unit i)) _ c.read_entries.new.entries.items c.read_entries.new.r e.0
