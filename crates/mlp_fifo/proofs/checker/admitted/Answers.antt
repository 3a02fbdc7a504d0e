use Rattle.std.proofs.Common.{◌≡◌, ℕ, ◌*◌, max, arith, sym, ◌∙◌, ap, subst}
use Rattle.std.proofs.lemmas.Bool.{and_from, and_right}
use Rattle.mlp_fifo.specs.declared.arrivals.Arrivals.{Arrivals}
use Rattle.mlp_fifo.specs.Pace.{pace_of}
use Rattle.mlp_fifo.specs.LeftFifo.{left_by}
use Rattle.mlp_fifo.specs.Timed.{checked_by}
use Rattle.mlp_fifo.specs.Placed.{latest_load, begins}
use Rattle.mlp_fifo.specs.Checked.{is_output, admits}
use Rattle.mlp_fifo.proofs.FirstTimes.{IsFirst}
use Rattle.mlp_fifo.proofs.Begins.{first_begins}
use Rattle.mlp_fifo.proofs.CheckedLaws.{not_before, not_late, not_output, admits_from}
use Rattle.mlp_fifo.proofs.checker.admitted.Goals as goal

first : (a : Arrivals) (bytes x : ℕ) → x ≡ begins (left_by a) bytes → IsFirst (latest_load a.pace a.latest.items a.count bytes) a.pace.size (max (a.count * a.pace.unit) a.finish) x
first a bytes x e =
    subst (λ p. IsFirst (latest_load p a.latest.items a.count bytes) p.size (max (a.count * p.unit) a.finish) x) (sym a.pace_is)
    (subst (λ y. IsFirst (latest_load (pace_of a.kind a.rate) a.latest.items a.count bytes) (pace_of a.kind a.rate).size (max (a.count * (pace_of a.kind a.rate).unit) a.finish) y) (sym e) (first_begins (left_by a) bytes a.kept.1))

pub returns-then-time-begin-clause-is : goal.returns-then-time-begin-clause-is
returns-then-time-begin-clause-is c =
    let a = c.args.before.now in
    let f = first a c.args.bytes c.next-begin.result.time c.next-begin.ensures.is in
    sym (and_right c.args.timed (admits a.pace (checked_by a c.args.timed) c.args.time c.args.bytes c.args.output)
    (not_before a.pace (checked_by a c.args.timed) c.args.time c.args.bytes c.next-begin.result.time c.args.output f c.requires.time.0 c.if-time-begin.true))

pub returns-then-out-time-clause-is : goal.returns-then-out-time-clause-is
returns-then-out-time-clause-is c =
    let a = c.args.before.now in
    let f = first a c.args.bytes c.next-begin.result.time c.next-begin.ensures.is in
    sym (and_right c.args.timed (admits a.pace (checked_by a c.args.timed) c.args.time c.args.bytes c.args.output)
    (not_late a.pace (checked_by a c.args.timed) c.args.time c.args.bytes c.next-begin.result.time c.args.output f (omega (arith, c.output-out.ensures.is, c.duration.ensures.is, c.if-out-time.true))))

pub returns-then-not-is_output-clause-is : goal.returns-then-not-is_output-clause-is
returns-then-not-is_output-clause-is c =
    let a = c.args.before.now in
    let f = first a c.args.bytes c.next-begin.result.time c.next-begin.ensures.is in
    sym (and_right c.args.timed (admits a.pace (checked_by a c.args.timed) c.args.time c.args.bytes c.args.output)
    (not_output a.pace (checked_by a c.args.timed) c.args.time c.args.bytes c.next-begin.result.time c.args.output f (ap (is_output c.args.output) (sym c.output-out.ensures.is) ∙ sym c.is_output.ensures ∙ c.if-not-is_output.true)))

pub returns-clause-is : goal.returns-clause-is
returns-clause-is c =
    let a = c.args.before.now in
    let f = first a c.args.bytes c.next-begin.result.time c.next-begin.ensures.is in
    sym (and_from c.args.timed (admits a.pace (checked_by a c.args.timed) c.args.time c.args.bytes c.args.output) c.if-not-timed.false
    (admits_from a.pace (checked_by a c.args.timed) c.args.time c.args.bytes c.next-begin.result.time c.args.output f (omega arith) (omega (arith, c.output-out.ensures.is, c.duration.ensures.is, c.if-out-time.false))
    (ap (is_output c.args.output) (sym c.output-out.ensures.is) ∙ sym c.is_output.ensures ∙ c.if-not-is_output.false)))
