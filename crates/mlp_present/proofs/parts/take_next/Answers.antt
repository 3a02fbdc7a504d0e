use Rattle.std.proofs.Common.{Bool, subst}
use Rattle.std.specs.Option.{option_copied}
use Rattle.std.proofs.lemmas.Result.{err_from_is_err_and}
use Rattle.mlp_present.specs.Parts.{HasOuter, BreaksOuter}
use Rattle.mlp_present.proofs.Joined.{outer_breaks, inside_breaks, unit_taken}
use Rattle.mlp_present.proofs.parts.take_next.Goals as goal

pub returns-in_err-size-clause-taken : goal.returns-in_err-size-clause-taken
returns-in_err-size-clause-taken c =
    let first = option_copied c.args.first in
    let p = err_from_is_err_and c.from_residual.result c.from_residual.ensures.1 in
    let broken = subst (λ (b : Bool). BreaksOuter b c.args.number first c.args.next.now c.in_err-size.field-0.0) c.ended.ensures c.in_err-size.ensures in
    rw (p.1, p.2) (outer_breaks c.args.number first c.args.substreams.now c.args.next.now c.in_err-size.field-0.0 broken)

pub returns-in_err-take_inside-clause-taken : goal.returns-in_err-take_inside-clause-taken
returns-in_err-take_inside-clause-taken c =
    let first = option_copied c.args.first in
    let p = err_from_is_err_and c.from_residual-in_err-take_inside.result c.from_residual-in_err-take_inside.ensures.1 in
    let outer = subst (λ (b : Bool). HasOuter b first c.args.next.now c.in_ok-size.size c.in_ok-size.outer) c.ended.ensures c.in_ok-size.ensures in
    rw (p.1, p.2) (inside_breaks c.args.number first c.args.substreams.now c.args.next.now c.in_ok-size.size c.in_ok-size.outer outer c.in_err-take_inside.field-0.0 c.in_err-take_inside.ensures.taken)

pub returns-clause-taken : goal.returns-clause-taken
returns-clause-taken c =
    let first = option_copied c.args.first in
    let outer = subst (λ (b : Bool). HasOuter b first c.args.next.now c.in_ok-size.size c.in_ok-size.outer) c.ended.ensures c.in_ok-size.ensures in
    unit_taken c.args.number first c.args.substreams.now c.args.next.now c.in_ok-size.size c.in_ok-size.outer outer c.take_inside.new.substreams c.take_inside.new.out.items c.in_ok-take_inside.ensures.taken
