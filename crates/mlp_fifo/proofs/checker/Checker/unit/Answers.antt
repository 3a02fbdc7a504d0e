use Rattle.std.proofs.Common.{◌≡◌, ◌↔◌, Bool, true, false, [], ◌∷◌, ◌++◌, arith, sym, ◌∙◌, ap, subst}
use Rattle.std.proofs.lemmas.Bool.{and_parts}
use Rattle.mlp_fifo.specs.Timed.{TimedUnit, AreTimed, LeavesTimed, checked_by}
use Rattle.mlp_fifo.specs.Checked.{time_with_low, checked_after}
use Rattle.mlp_fifo.proofs.Keeps.{still_gone}
use Rattle.mlp_fifo.proofs.CheckedLaws.{checked_is, checked_leaves}
use Rattle.mlp_fifo.proofs.checker.Checker.unit.Goals as goal

pub invariant_of-self : goal.invariant_of-self
invariant_of-self c timed =
    let a = c.self.inside.arrivals in
    let k = c.keep.ensures in
    let e = c.time_from-time.ensures in
    still_gone a c.keep.new.self c.time_from-time.result c.in-Some.held.units k.pace k.count (omega (arith, k.finish)) k.units c.in-Some.ensures.held.units_most (omega (arith, e.least, c.start.ensures.is)) c.in-Some.ensures.gone

pub returns-in-Some-clause-step : goal.returns-in-Some-clause-step
returns-in-Some-clause-step c =
    let v : TimedUnit = record { input = c.args.input; output = c.args.output; bytes = c.args.bytes } in
    let a = c.self.inside.arrivals in
    let k = c.keep.ensures in
    let t = (and_parts _ _ (sym c.in-Some.ensures.is)).0 in
    checked_is a c.self.inside.timed v (checked_by c.keep.new.self c.self.inside.timed) c.time_from-time.result (c.time_from-time.ensures.is ∙ ap (λ s. time_with_low s c.args.input) c.start.ensures.is)
    k.stream.0 k.stream.1 k.count (omega (arith, k.finish, c.duration.ensures.is)) k.latest (t ∙ c.in-Some.ensures.is) ∙ ap (λ o. checked_after o v) c.self.view_is

pub returns-in-Some-clause-left : goal.returns-in-Some-clause-left
returns-in-Some-clause-left c kind rate units l =
    let v : TimedUnit = record { input = c.args.input; output = c.args.output; bytes = c.args.bytes } in
    subst (LeavesTimed kind rate (units ++ v ∷ [])) (sym (returns-in-Some-clause-step c)) (checked_leaves kind rate units _ v l (omega arith))

pub returns-in-Some-clause-timed : goal.returns-in-Some-clause-timed
returns-in-Some-clause-timed c kind rate units l =
    let v : TimedUnit = record { input = c.args.input; output = c.args.output; bytes = c.args.bytes } in
    let t = (and_parts _ _ (sym c.in-Some.ensures.is)).0 in
    subst (λ (b : Bool). (b ≡ true) ↔ AreTimed kind rate (units ++ v ∷ [])) t (returns-in-Some-clause-left c kind rate units l).timed_is

pub returns-in-Some-clause-same : goal.returns-in-Some-clause-same
returns-in-Some-clause-same c = sym (and_parts _ _ (sym c.in-Some.ensures.is)).0

pub returns-clause-step : goal.returns-clause-step
returns-clause-step c =
    let v : TimedUnit = record { input = c.args.input; output = c.args.output; bytes = c.args.bytes } in
    let a = c.self.inside.arrivals in
    let k = c.keep-2.ensures in
    checked_is a c.self.inside.timed v (checked_by c.keep-2.new.self false) c.time_from-time.result (c.time_from-time.ensures.is ∙ ap (λ s. time_with_low s c.args.input) c.start.ensures.is)
    k.stream.0 k.stream.1 k.count (omega (arith, k.finish, c.duration.ensures.is)) k.latest c.in_default.ensures.is ∙ ap (λ o. checked_after o v) c.self.view_is

pub returns-clause-left : goal.returns-clause-left
returns-clause-left c kind rate units l =
    let v : TimedUnit = record { input = c.args.input; output = c.args.output; bytes = c.args.bytes } in
    subst (LeavesTimed kind rate (units ++ v ∷ [])) (sym (returns-clause-step c)) (checked_leaves kind rate units _ v l (omega arith))

pub returns-clause-timed : goal.returns-clause-timed
returns-clause-timed c kind rate units l = (returns-clause-left c kind rate units l).timed_is
