use Rattle.std.proofs.Common.{arith, sym, ◌∙◌, ap, pos, w64}
use Rattle.std.proofs.lemmas.Int.{to_z_pos}
use Rattle.mlp_fifo.specs.Schedule.{out_of, duration_of}
use Rattle.mlp_fifo.specs.LeftFifo.{left_by}
use Rattle.mlp_fifo.specs.Placed.{begins, placed, with_unit}
use Rattle.mlp_fifo.proofs.Keeps.{still_gone}
use Rattle.mlp_fifo.proofs.PlacedLaws.{finish_after, fifo_is, placed_late, answered_there, there_means, late_means}
use Rattle.mlp_fifo.proofs.fifo.Fifo.place.Goals as goal

pub invariant_of-self : goal.invariant_of-self
invariant_of-self c =
    let a = c.self.inside.arrivals in
    let e = c.next-begin.ensures in
    let k = c.keep.ensures in
    still_gone a c.keep.new.self c.next-begin.result.time c.next-begin.result.held.units k.pace k.count (omega (arith, k.finish)) k.units (omega (arith, e.held.fewer, a.held_is.units_most)) e.start e.gone

pub returns-then-output-finish-clause-is : goal.returns-then-output-finish-clause-is
returns-then-output-finish-clause-is c =
    let a = c.self.inside.arrivals in
    sym (ap (λ o. placed o c.args.bytes) c.self.view_is)
    ∙ placed_late (left_by a) c.args.bytes
    (omega (arith, c.output.ensures.is, c.duration.ensures.is, c.if-output-finish.true, c.next-begin.ensures.is, ap (λ p. out_of p a.count) a.pace_is, ap (λ p. duration_of p c.args.bytes) a.pace_is))

pub returns-then-output-finish-clause-none : goal.returns-then-output-finish-clause-none
returns-then-output-finish-clause-none c kind rate lengths h = late_means kind rate lengths _ c.args.bytes _ h (returns-then-output-finish-clause-is c)

pub returns-clause-time : goal.returns-clause-time
returns-clause-time c =
    to_z_pos w64 c.next-begin.result.time (omega (arith, c.next-begin.ensures.below)) ∙ ap pos c.next-begin.ensures.is ∙ ap (λ o. pos (begins o c.args.bytes)) c.self.view_is

pub returns-clause-is : goal.returns-clause-is
returns-clause-is c =
    let a = c.self.inside.arrivals in
    let k = c.keep.ensures in
    let d = ap (λ p. duration_of p c.args.bytes) a.pace_is in
    let new = fifo_is (left_by c.keep.new.self) (with_unit (left_by a) c.args.bytes (finish_after (left_by a) c.args.bytes)) k.stream.0 k.stream.1 k.count
    (omega (arith, k.finish, c.duration.ensures.is, c.next-begin.ensures.is, d)) k.latest in
    sym (ap (λ o. placed o c.args.bytes) c.self.view_is)
    ∙ answered_there (left_by a) (left_by c.keep.new.self) c.args.bytes _ (omega (arith, c.output.ensures.is, c.duration.ensures.is, c.if-output-finish.false, c.next-begin.ensures.is, ap (λ p. out_of p a.count) a.pace_is, d))
    (to_z_pos w64 c.next-begin.result.time (omega (arith, c.next-begin.ensures.below)) ∙ ap pos c.next-begin.ensures.is) new

pub returns-clause-placed : goal.returns-clause-placed
returns-clause-placed c kind rate lengths h = (there_means kind rate lengths _ _ c.args.bytes _ h (returns-clause-is c) (returns-clause-time c)).0

pub returns-clause-left : goal.returns-clause-left
returns-clause-left c kind rate lengths h = (there_means kind rate lengths _ _ c.args.bytes _ h (returns-clause-is c) (returns-clause-time c)).1
