use Rattle.std.specs.Option.{option_copied}
use Rattle.std.proofs.lemmas.Result.{err_from_is_err_and}
use Rattle.mlp_bits.specs.Bits.{bits_of}
use Rattle.mlp_layout.proofs.RuleReading.{under_err}
use Rattle.mlp_unit.specs.AccessUnit.{access_unit, parts, rules}
use Rattle.mlp_unit.proofs.UnitReading.{parts_err}
use Rattle.mlp_unit.proofs.outer.read_outer.Goals as goal

pub returns-in_err-head-clause-read : goal.returns-in_err-head-clause-read
unfolding access_unit
returns-in_err-head-clause-read c =
    let first = option_copied c.args.first in
    let all = bits_of c.args.unit.now in
    let p = err_from_is_err_and c.from_residual.result c.from_residual.ensures.1 in
    let e = c.in_err-head.field-0.0 in
    rw (p.1, p.2) (under_err all 0 (rules first) (parts first) e (parts_err first all e c.in_err-head.ensures))
