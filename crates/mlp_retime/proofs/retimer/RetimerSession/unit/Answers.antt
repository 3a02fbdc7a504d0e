use Rattle.std.proofs.Common.{◌≡◌, ◌<◌, ◌+◌, ◌*◌, Option, Some, Err, take, sym, ap, subst, ◌∙◌, arith}
use Rattle.mlp_syntax.specs.declared.major.MajorSync.{MajorSync}
use Rattle.mlp_syntax.specs.declared.unit.Outer.{Outer}
use Rattle.mlp_fifo.specs.Placed.{placed}
use Rattle.mlp_stream.specs.declared.refusal.Refusal.{Refusal}
use Rattle.mlp_stream.specs.Moves.{Takes}
use Rattle.mlp_check.proofs.CheckSteps.{told_outer}
use Rattle.mlp_retime.specs.Top.{highest}
use Rattle.mlp_retime.specs.Stamping.{HoldsUnit}
use Rattle.mlp_retime.specs.Retimer.{RetimeState, buffer_at, PutsUnit}
use Rattle.mlp_retime.proofs.Taking.{holds_unit, words_short}
use Rattle.mlp_retime.proofs.RetimeSteps.{retime_kept, retime_declined, retime_full, retime_taken, first_is, buffer_behind}
use Rattle.mlp_retime.proofs.retimer.RetimerSession.unit.Goals as goal

pub returns-in-Some-clause-unit : goal.returns-in-Some-clause-unit
returns-in-Some-clause-unit c = retime_kept c.self.inside.decoder c.self.inside.fifo c.self.inside.refusal c.in-Some.refusal c.args.next.now c.in-Some.is c.args.self.now c.self.view_is

pub put_next-requires-clause-holds : goal.put_next-requires-clause-holds
put_next-requires-clause-holds c =
    let t = c.self.invariant.is_top c.in_default.is in
    let g = c.in-Ok.ensures.taken in
    let same = told_outer c.last_outer.result c.unwrap-outer.result c.take_next.new.decoder.latest g.outer c.unwrap-outer.ensures c.last_outer.ensures.value g.latest_is in
    let first = first_is c.major.result c.unwrap-first.result c.take_next.new.decoder.left.sync c.unwrap-first.ensures c.major.ensures.value in
    subst (λ (o : Outer). HoldsUnit (highest (Some c.unwrap-first.result.now) + 1) (take c.in-Ok.size c.args.next.now) o) (sym same)
    (subst (λ (s : Option MajorSync). HoldsUnit (highest s + 1) (take c.in-Ok.size c.args.next.now) g.outer) (sym first)
    (holds_unit c.self.inside.decoder t c.args.next.now c.take_next.new.decoder c.in-Ok.size g))

pub put_next-requires-clause-short : goal.put_next-requires-clause-short
put_next-requires-clause-short c =
    let t = c.self.invariant.is_top c.in_default.is in
    let g = c.in-Ok.ensures.taken in
    let same = told_outer c.last_outer.result c.unwrap-outer.result c.take_next.new.decoder.latest g.outer c.unwrap-outer.ensures c.last_outer.ensures.value g.latest_is in
    subst (λ (o : Outer). o.head.words < 4096) (sym same) (words_short c.self.inside.decoder t c.args.next.now c.take_next.new.decoder c.in-Ok.size g)

pub put_next-requires-clause-number : goal.put_next-requires-clause-number
put_next-requires-clause-number c =
    let units : c.self.inside.decoder.units ≡ c.args.self.now.held.units = ap (λ (s : RetimeState). s.held.units) c.self.view_is in (
      omega (arith, units, c.requires.room, c.units-number.ensures),
      λ some. let more : 0 < c.self.inside.decoder.units = omega (arith, some, c.units-number.ensures) in (c.self.invariant.buffer c.in_default.is more).count ∙ sym c.units-number.ensures,
    )

pub invariant_of-self : goal.invariant_of-self
invariant_of-self c =
    let t = c.self.invariant.is_top c.in_default.is in
    let g = c.in-Ok.ensures.taken in
    let same = told_outer c.last_outer.result c.unwrap-outer.result c.take_next.new.decoder.latest g.outer c.unwrap-outer.ensures c.last_outer.ensures.value g.latest_is in
    let first = first_is c.major.result c.unwrap-first.result c.take_next.new.decoder.left.sync c.unwrap-first.ensures c.major.ensures.value in
    record {
      usable = c.in-Ok.ensures.usable;
      is_top = λ none. c.in-Ok.ensures.is_top;
      buffer = λ none some.
          buffer_behind c.self.inside.decoder c.self.inside.fifo c.self.inside.refusal c.in_default.is t (c.self.invariant.buffer c.in_default.is) c.args.next.now c.take_next.new.decoder c.in-Ok.size
          g c.unwrap-first.result.now first c.units-number.result c.units-number.ensures _ _ c.put_next.new.fifo c.in-Ok-put_next.ensures.puts.placed_is;
    }

pub returns-in-Ok-put_next-clause-unit : goal.returns-in-Ok-put_next-clause-unit
returns-in-Ok-put_next-clause-unit c =
    let t = c.self.invariant.is_top c.in_default.is in
    let g = c.in-Ok.ensures.taken in
    let same = told_outer c.last_outer.result c.unwrap-outer.result c.take_next.new.decoder.latest g.outer c.unwrap-outer.ensures c.last_outer.ensures.value g.latest_is in
    let first = first_is c.major.result c.unwrap-first.result c.take_next.new.decoder.left.sync c.unwrap-first.ensures c.major.ensures.value in
    let puts = subst (λ (o : Outer). PutsUnit c.unwrap-first.result.now (buffer_at c.units-number.result c.unwrap-first.result.now c.self.inside.fifo) (take c.in-Ok.size c.args.next.now) o
    c.put_next.new.fifo c.put_next.new.out.items) same c.in-Ok-put_next.ensures.puts in
    retime_taken c.self.inside.decoder c.self.inside.fifo c.self.inside.refusal c.in_default.is t (c.self.invariant.buffer c.in_default.is) c.args.next.now c.take_next.new.decoder c.in-Ok.size g
    c.unwrap-first.result.now first c.units-number.result c.units-number.ensures
    c.put_next.new.fifo c.put_next.new.out.items puts c.args.self.now c.self.view_is
    ∙ ap (λ (r : Option Refusal). Takes c.in-Ok.size c.put_next.new.out.items (record { held = c.take_next.new.decoder; fifo = c.put_next.new.fifo; refusal = r })) (sym c.in_default.is)

pub returns-in-Err-put_next-clause-unit : goal.returns-in-Err-put_next-clause-unit
returns-in-Err-put_next-clause-unit c =
    let t = c.self.invariant.is_top c.in_default.is in
    let g = c.in-Ok.ensures.taken in
    let same = told_outer c.last_outer.result c.unwrap-outer.result c.take_next.new.decoder.latest g.outer c.unwrap-outer.ensures c.last_outer.ensures.value g.latest_is in
    let first = first_is c.major.result c.unwrap-first.result c.take_next.new.decoder.left.sync c.unwrap-first.ensures c.major.ensures.value in
    let late = subst (λ (o : Outer). placed (buffer_at c.units-number.result c.unwrap-first.result.now c.self.inside.fifo) (2 * o.head.words) ≡ Err c.in-Err-put_next.no_room) same c.in-Err-put_next.ensures.puts in
    retime_full c.self.inside.decoder c.self.inside.fifo c.self.inside.refusal c.in_default.is t (c.self.invariant.buffer c.in_default.is) c.args.next.now c.take_next.new.decoder c.in-Ok.size g
    c.unwrap-first.result.now first c.units-number.result c.units-number.ensures c.in-Err-put_next.no_room late c.args.self.now c.self.view_is

pub returns-in-Err-clause-unit : goal.returns-in-Err-clause-unit
returns-in-Err-clause-unit c =
    retime_declined c.self.inside.decoder c.self.inside.fifo c.self.inside.refusal c.in-Err.declined c.refusal_of-refusal.result c.args.next.now c.in_default.is c.in-Err.ensures.taken
    c.refusal_of-refusal.ensures c.args.self.now c.self.view_is
