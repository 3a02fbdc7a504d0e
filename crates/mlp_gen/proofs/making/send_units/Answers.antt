use Rattle.std.proofs.Common.{◌∙◌, ◌+◌, ◌<◌, ℕ, List, length, ℤ, true, sym, ap, subst, arith}
use Rattle.std.specs.Prelude.{◌==◌}
use Rattle.std.proofs.lemmas.Result.{err_from_is_err_and}
use Rattle.std.proofs.lemmas.List.FromFn.{length-map-range_with_len}
use Rattle.mlp_fold.specs.Substreams.{substreams_of}
use Rattle.mlp_fifo.specs.Pace.{unit_of}
use Rattle.mlp_encode.specs.Unit.{AreNext, next_sent}
use Rattle.mlp_encode.proofs.SyncAllowed.{passes}
use Rattle.mlp_encode.proofs.SentStarts.{mixed_there}
use Rattle.mlp_lossless.proofs.Shapes.{eight_at_most}
use Rattle.mlp_gen.specs.Player.{Played, unplayed, player_at, CanTake, Took}
use Rattle.mlp_gen.proofs.Samples.{state_first}
use Rattle.mlp_gen.proofs.UnitFrames.{rows_are, first_next}
use Rattle.mlp_gen.proofs.Underway.{Goes, goes_first, goes_last, step_may, step_can, step_goes, step_refused}
use Rattle.mlp_gen.proofs.making.send_units.Goals as goal

pub loop-number-init : goal.loop-number-init
loop-number-init c =
    let p = c.args.profile.now in
    record {
      goes = goes_first p c.args.seed c.args.units c.args.encoder.now c.args.players.now c.requires.profile c.requires.units.0 c.requires.encoder c.requires.players;
      first = omega arith;
      few = omega arith;
      state = state_first c.args.seed p.channels;
      count = ap (λ (xs : List Played). length xs) c.requires.players ∙ length-map-range_with_len unplayed 0 (substreams_of p.channels);
      small = omega arith;
    }

pub make_unit-state-requires-clause-profile : goal.make_unit-state-requires-clause-profile
make_unit-state-requires-clause-profile c = mixed_there c.args.profile.now (passes c.args.profile.now c.requires.profile)

pub make_unit-state-requires-clause-channels : goal.make_unit-state-requires-clause-channels
make_unit-state-requires-clause-channels c = eight_at_most c.args.profile.now (passes c.args.profile.now c.requires.profile)

pub make_unit-state-requires-clause-first : goal.make_unit-state-requires-clause-first
make_unit-state-requires-clause-first c = omega (arith, c.loop-number.invariant.few, c.loop-number-test.true, c.requires.units.1)

pub overflow_add-first : goal.overflow_add-first
overflow_add-first c =
    record { fits = omega (arith, c.loop-number.invariant.few, c.loop-number-test.true, c.requires.units.1, c.unit_frames-frames_in_unit.ensures.most) }

pub unit-requires-clause-frames : goal.unit-requires-clause-frames
unit-requires-clause-frames c = λ g is.
    let p = c.args.profile.now in
    let n = c.loop-number.number in
    let h = c.loop-number.invariant in
    let rows = rows_are p c.args.seed n c.loop-number.first c.unit_frames-frames_in_unit.result c.make_unit-state.new.out.rows.items h.first c.unit_frames-frames_in_unit.ensures.is
    (c.make_unit-state.ensures.frames c.args.seed h.state) in
    let may = step_may p c.args.seed c.args.units n c.loop-number.encoder c.loop-number.players c.loop-number.size c.requires.units.1 c.loop-number-test.true h.goes g is (n + 1 == c.args.units) in
    subst (λ (xs : List (List ℤ)). AreNext g.profile xs (n + 1 == c.args.units)) (sym rows) may.0

pub unit-requires-clause-count : goal.unit-requires-clause-count
unit-requires-clause-count c = λ g is.
    let may = step_may c.args.profile.now c.args.seed c.args.units c.loop-number.number c.loop-number.encoder c.loop-number.players c.loop-number.size c.requires.units.1 c.loop-number-test.true c.loop-number.invariant.goes g is true in
    may.1

pub returns-in_err-unit : goal.returns-in_err-unit
returns-in_err-unit c =
    let p = c.args.profile.now in
    let n = c.loop-number.number in
    let h = c.loop-number.invariant in
    let from = err_from_is_err_and c.from_residual.result c.from_residual.ensures.1 in
    let rows = rows_are p c.args.seed n c.loop-number.first c.unit_frames-frames_in_unit.result c.make_unit-state.new.out.rows.items h.first c.unit_frames-frames_in_unit.ensures.is
    (c.make_unit-state.ensures.frames c.args.seed h.state) in
    let none = step_refused p c.args.seed c.args.units n c.loop-number.encoder c.loop-number.players c.loop-number.size c.requires.units.1 c.loop-number-test.true h.goes c.in_err-unit.field-0.0
    (ap (λ (xs : List (List ℤ)). next_sent c.loop-number.encoder xs (n + 1 == c.args.units)) (sym rows) ∙ c.in_err-unit.ensures.sent) in
    rw (from.1, from.2) none

pub take_unit-requires : goal.take_unit-requires
take_unit-requires c = λ k lt.
    let p = c.args.profile.now in
    let n = c.loop-number.number in
    let h = c.loop-number.invariant in
    let rows = rows_are p c.args.seed n c.loop-number.first c.unit_frames-frames_in_unit.result c.make_unit-state.new.out.rows.items h.first c.unit_frames-frames_in_unit.ensures.is
    (c.make_unit-state.ensures.frames c.args.seed h.state) in
    let can = step_can p c.args.seed c.args.units n c.loop-number.encoder c.loop-number.players c.loop-number.size c.requires.units.1 c.loop-number-test.true h.goes c.unit.new.out.items c.unit.new.self
    (ap (λ (xs : List (List ℤ)). next_sent c.loop-number.encoder xs (n + 1 == c.args.units)) (sym rows) ∙ c.in_ok-unit.ensures.sent) k (subst (λ (m : ℕ). k < m) h.count lt) in
    subst (λ (b : List ℕ). CanTake b (player_at c.loop-number.players k)) (sym c.deref.ensures.0) can

pub loop-number-preserved : goal.loop-number-preserved
loop-number-preserved c =
    let p = c.args.profile.now in
    let n = c.loop-number.number in
    let h = c.loop-number.invariant in
    let rows = rows_are p c.args.seed n c.loop-number.first c.unit_frames-frames_in_unit.result c.make_unit-state.new.out.rows.items h.first c.unit_frames-frames_in_unit.ensures.is
    (c.make_unit-state.ensures.frames c.args.seed h.state) in
    let on = step_goes p c.args.seed c.args.units n c.loop-number.encoder c.loop-number.players c.loop-number.size c.requires.units.1 c.loop-number-test.true h.goes c.unit.new.out.items c.unit.new.self c.take_unit.new.players
    (ap (λ (xs : List (List ℤ)). next_sent c.loop-number.encoder xs (n + 1 == c.args.units)) (sym rows) ∙ c.in_ok-unit.ensures.sent)
    (λ k lt. subst (λ (b : List ℕ). Took b (player_at c.loop-number.players k) (player_at c.take_unit.new.players k)) c.deref.ensures.0
    (c.take_unit.ensures k (subst (λ (m : ℕ). k < m) (sym h.count) lt))) in
    record {
      goes = subst (λ (m : ℕ). Goes p c.args.seed c.args.units (n + 1) c.unit.new.self c.take_unit.new.players (c.loop-number.size + m)) (sym c.len.ensures.value) on;
      first = first_next n c.loop-number.first c.unit_frames-frames_in_unit.result (unit_of p.rate) h.first c.unit_frames-frames_in_unit.ensures.is;
      few = omega (arith, h.few, c.unit_frames-frames_in_unit.ensures.most);
      state = c.make_unit-state.ensures.state c.args.seed h.state;
      count = c.take_unit.auto.players ∙ h.count;
      small = omega (arith, h.small, c.len.ensures.fits);
    }

pub returns : goal.returns
returns c =
    goes_last c.args.profile.now c.args.seed c.args.units c.loop-number.number c.loop-number.encoder c.loop-number.players c.loop-number.size c.requires.profile c.requires.units.0 c.loop-number-test.false c.loop-number.invariant.goes
