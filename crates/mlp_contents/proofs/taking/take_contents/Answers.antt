use Rattle.std.proofs.Common.{◌≡◌, ◌+◌, ◌-◌, ℕ, [], length, get_or, Ok, Err, Option, ap, subst, sym, ◌∙◌, arith}
use Rattle.std.proofs.lemmas.List.{get_or_default}
use Rattle.mlp_syntax.specs.declared.segment.Segment.{Segment}
use Rattle.mlp_bits.specs.Bits.{bits_of}
use Rattle.mlp_layout.specs.Contents.{segments}
use Rattle.mlp_params.specs.declared.state.State.{State}
use Rattle.mlp_substream.specs.declared.known.Ending.{Ending}
use Rattle.mlp_substream.specs.Blocks.{ForceFits}
use Rattle.mlp_unit.specs.Shape.{unit_with}
use Rattle.mlp_channels.specs.Channels.{Coded, nothing_coded}
use Rattle.mlp_contents.specs.Units.{coded_at, no_segment, portion}
use Rattle.mlp_contents.specs.Inner.{unit_fault}
use Rattle.mlp_contents.specs.Read.{Running, HasRead}
use Rattle.mlp_contents.proofs.TakenLaws.{taken_contents}
use Rattle.mlp_contents.proofs.taking.take_contents.Goals as goal

pub give-requires-clause-fits : goal.give-requires-clause-fits
give-requires-clause-fits c =
    let place = c.args.place.now in
    let new = c.read_each.new.substreams in
    let last = length new - 1 in
    let r = c.in-Ok.ensures.read no_segment in
    let long : length new ≡ length c.args.substreams.now = omega arith in
    let item = get_or_default new last c.index-substreams-at.result nothing_coded (omega (arith, long, c.requires.some)) in
    let force : c.state.result.now ≡ (coded_at new last).force = c.state.ensures ∙ ap (λ (x : Coded). x.force) item in
    subst (λ (f : Option State). ForceFits place f) (sym force) (r.2.forces last)

pub returns-in-Ok-clause-taken : goal.returns-in-Ok-clause-taken
returns-in-Ok-clause-taken c =
    let other = c.index-latest-at.result in
    let r = c.in-Ok.ensures.read other in
    let place = c.args.place.now in
    let old = c.args.substreams.now in
    let new = c.read_each.new.substreams in
    let last = length old - 1 in
    let long : length new ≡ length old = omega arith in
    let item = get_or_default new (length new - 1) c.index-substreams-at.result nothing_coded (omega (arith, long, c.requires.some)) in
    let at : length new - 1 ≡ last = omega (arith, long) in
    let segment = get_or c.read_each.new.latest (length new - 1) other in
    let here : get_or c.read_each.new.latest last other ≡ segment = ap (λ (n : ℕ). get_or c.read_each.new.latest n other) (sym at) in
    let there = subst (λ (t : Segment). HasRead place old new r.0 t c.read_each.new.frames) here r.2 in
    let force = c.state.ensures ∙ ap (λ (x : Coded). x.force) (item ∙ ap (coded_at new) at) in
    let before : Running = record { seed = c.args.noise.now.seed; check = c.args.check.now } in
    let behind : Running = record { seed = c.give.new.noise.seed; check = c.give.new.check } in
    let read = subst (λ (n : ℕ). (segments (portion last place old n (unit_with c.args.unit.now c.args.outer.now)) (last + 1) []).read (bits_of c.args.unit.now) ≡ Ok r.0) c.folded.ensures r.1 in (
      r.0,
      read,
      taken_contents place old new r.0 segment c.read_each.new.frames there c.state.result.now force c.ending_of.result.terminator (ap (λ (e : Ending). e.terminator) c.ending_of.ensures)
          before behind c.give.new.rows.items c.give.ensures.given,
    )

pub returns-in-Err-clause-taken : goal.returns-in-Err-clause-taken
returns-in-Err-clause-taken c =
    let place = c.args.place.now in
    let old = c.args.substreams.now in
    let last = length old - 1 in
    subst (λ (n : ℕ). (segments (portion last place old n (unit_with c.args.unit.now c.args.outer.now)) (last + 1) []).read (bits_of c.args.unit.now) ≡ Err (unit_fault c.in-Err.fault)) c.folded.ensures
    (c.in-Err.ensures.read no_segment)
