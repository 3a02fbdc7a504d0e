use Rattle.std.proofs.Common.{◌≡◌, ◌+◌, ◌<◌, ℕ, sym, ap, subst, ◌∙◌, arith}
use Rattle.mlp_present.specs.Decoding.{Held}
use Rattle.mlp_sessions.proofs.Rates.{usable_behind}
use Rattle.mlp_check.specs.Check.{one_if}
use Rattle.mlp_syntax.specs.declared.unit.Outer.{Outer}
use Rattle.mlp_check.proofs.CheckSteps.{told_outer, words_short, check_taken, check_declined, one_most}
use Rattle.mlp_check.proofs.check.CheckSession.unit.Goals as goal

pub check_timing-self-inside-requires-clause-short : goal.check_timing-self-inside-requires-clause-short
check_timing-self-inside-requires-clause-short c =
    let g = c.in-Ok.ensures.unit in
    let same = told_outer c.last_outer.result c.unwrap-outer.result c.unit.new.self.latest g.outer c.unwrap-outer.ensures c.last_outer.ensures.value g.latest_is in
    subst (λ (o : Outer). o.head.words < 4096) (sym same) (words_short _ _ _ _ _ g c.self.invariant.usable)

pub invariant_of-self : goal.invariant_of-self
invariant_of-self c =
    let g = c.in-Ok.ensures.unit in
    let units : c.unit.new.self.units ≡ c.self.inside.decoder.units + 1 = ap (λ (h : Held). h.units) g.held_is in
    record {
      count_is = omega (arith, units, c.check_timing-self-inside.ensures.count, c.units-number.ensures);
      timed_is = c.check_timing-self-inside.ensures.timed;
      few = omega (arith, units, c.self.invariant.few, c.len.ensures.fits);
      fewer = omega (arith, units, c.self.invariant.fewer, one_most c.is_some.result, c.one_if.ensures);
      usable = usable_behind _ _ _ _ _ g c.self.invariant.usable;
    }

pub returns-in-Ok : goal.returns-in-Ok
returns-in-Ok c =
    let g = c.in-Ok.ensures.unit in
    let same = told_outer c.last_outer.result c.unwrap-outer.result c.unit.new.self.latest g.outer c.unwrap-outer.ensures c.last_outer.ensures.value g.latest_is in
    check_taken _ _ _ _ _ g c.self.inside.checker c.check_timing-self-inside.new.checker c.self.inside.given c.self.inside.restarts _ _ c.unwrap-outer.result.now c.last_output_timing-output.result
    same c.last_output_timing-output.ensures
    (rw (← c.units-number.ensures) c.check_timing-self-inside.ensures.is)
    (ap (λ (n : ℕ). c.self.inside.given + n) c.len.ensures.value)
    (ap (λ (n : ℕ). c.self.inside.restarts + n) (c.one_if.ensures ∙ ap one_if c.is_some.ensures)) _ c.clear.ensures c.args.self.now c.self.view_is

pub returns-in-Err : goal.returns-in-Err
returns-in-Err c =
    check_declined c.self.inside.decoder c.self.inside.checker c.self.inside.given c.self.inside.restarts c.args.next.now c.in-Err.refusal c.refusal_of.result c.in-Err.ensures.unit c.refusal_of.ensures
    c.args.self.now c.self.view_is
