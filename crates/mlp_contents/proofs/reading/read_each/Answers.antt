use Rattle.std.proofs.Common.{◌≡◌, ◌+◌, ◌-◌, ◌<◌, ℕ, eqb, [], ◌∷◌, ◌++◌, length, get_or, set, Ok, Err, refl, sym, ap, subst, ◌∙◌, arith, eq-eqb}
use Rattle.std.proofs.lemmas.List.{get_or_default, get_or-set_same, length_push}
use Rattle.std.proofs.lemmas.Result.{err_from_is_err_and}
use Rattle.mlp_unit.specs.Shape.{segment_bits}
use Rattle.mlp_substream.specs.Blocks.{ForceFits}
use Rattle.mlp_channels.specs.Channels.{Coded, nothing_coded, coded_after, HasPlayed}
use Rattle.mlp_contents.specs.Known.{known_by}
use Rattle.mlp_contents.specs.Units.{coded_at, no_segment, is_checked}
use Rattle.mlp_contents.specs.Inner.{unit_fault}
use Rattle.mlp_contents.specs.Read.{HasRead}
use Rattle.mlp_syntax.specs.declared.segment.Segment.{Segment}
use Rattle.mlp_contents.proofs.ReadSegments.{is_read}
use Rattle.mlp_contents.proofs.Behind.{Behind, IsNext, behind_starts, behind_next, behind_all}
use Rattle.mlp_contents.proofs.ReadingLoop.{reads_at, reading_begins, reading_goes_on, reading_stops, reading_ends}
use Rattle.mlp_contents.proofs.reading.read_each.Goals as goal

pub loop-at-init : goal.loop-at-init
loop-at-init c =
    let xs = c.args.substreams.now in
    record {
      before = [];
      count = refl;
      so_far = reading_begins (length xs - 1) c.args.place.now xs c.args.check c.args.unit.now c.args.outer.now c.requires.body;
      top = no_segment;
      top_there = λ other some. absurd (omega arith);
      behind = behind_starts c.args.place.now xs no_segment c.args.frames.now c.requires.some c.requires.states;
    }

pub returns-in_err-read_next : goal.returns-in_err-read_next
returns-in_err-read_next c =
    let i = c.loop-at.invariant in
    let p = err_from_is_err_and c.from_residual.result c.from_residual.ensures.1 in
    let place = c.args.place.now in
    let xs = c.args.substreams.now in
    let last = length xs - 1 in
    let unit = c.args.unit.now in
    let outer = c.args.outer.now in
    let now = c.loop-at.substreams in
    let j = c.loop-at.at in
    let lt : j < length now = omega arith in
    let x_is : get_or now j c.index-substreams-at.result ≡ coded_at now j = get_or_default now j _ nothing_coded lt in
    let r = c.in_err-read_next.ensures.read in
    let h = subst (λ (x : Coded). reads_at last place xs c.args.check unit outer c.requires.body j x c.loop-at.covered c.loop-at.first (eqb j last) outer.body ≡ Err r.0) x_is r.1 in
    record {
      read = λ other. rw (p.1, p.2)
          (reading_stops last place xs c.args.check unit outer c.requires.body i.before c.loop-at.covered c.loop-at.first now i.top c.loop-at.frames (eqb j last) i.behind (ap (λ (n : ℕ). eqb n last) (sym i.count))
          j i.count (omega (arith, c.requires.some)) r.0 (unit_fault c.in_err-read_next.field-0.0) h r.2 i.so_far);
    }

pub loop-at-preserved : goal.loop-at-preserved
loop-at-preserved c =
    let i = c.loop-at.invariant in
    let place = c.args.place.now in
    let xs = c.args.substreams.now in
    let last = length xs - 1 in
    let unit = c.args.unit.now in
    let outer = c.args.outer.now in
    let now = c.loop-at.substreams in
    let j = c.loop-at.at in
    let s = c.read_next.new.segment in
    let lt : j < length now = omega arith in
    let less : j < length xs = omega arith in
    let x_is : get_or now j c.index-substreams-at.result ≡ coded_at now j = get_or_default now j _ nothing_coded lt in
    let r = c.in_ok-read_next.ensures in
    let h = subst (λ (x : Coded). reads_at last place xs c.args.check unit outer c.requires.body j x c.loop-at.covered c.loop-at.first (eqb j last) outer.body ≡ Ok s) x_is r.read in
    let y_is : c.read_next.new.substream ≡ coded_after place (coded_at now j) s = r.coded ∙ ap (λ (x : Coded). coded_after place x s) x_is in
    let next : IsNext place xs c.args.check c.loop-at.covered c.loop-at.first now (eqb j last) s c.loop-at.frames c.read_next.new.frames j = record {
      lt = less;
      last_is = λ whole. eq-eqb j last (omega (arith, whole));
      read = is_read place (known_by (eqb j last) (coded_at now j).force c.args.check c.loop-at.covered c.loop-at.first) (coded_at now j).force (is_checked outer.entries.items j) c.requires.place (i.behind.forces j)
          (segment_bits unit outer j) s h;
      fits = subst (λ (y : Coded). ForceFits place y.force) y_is r.state;
      played = subst (λ (x : Coded). HasPlayed place x s (length s.codes.items) c.loop-at.frames c.read_next.new.frames) x_is r.played;
    } in
    record {
      before = i.before ++ s ∷ [];
      count = length_push i.before s ∙ ap (λ (n : ℕ). n + 1) i.count;
      so_far = reading_goes_on last place xs c.args.check unit outer c.requires.body i.before c.loop-at.covered c.loop-at.first now i.top c.loop-at.frames (eqb j last) i.behind
          (ap (λ (n : ℕ). eqb n last) (sym i.count)) j i.count (omega (arith, c.requires.some)) s h i.so_far;
      top = s;
      top_there = λ other some.
          ap (λ (n : ℕ). get_or (set c.loop-at.latest j s) n other) (let same : j + 1 - 1 ≡ j = omega arith in same)
          ∙ get_or-set_same c.loop-at.latest j s other (omega (arith, c.requires.few));
      behind = subst (λ (y : Coded). Behind place xs (i.before ++ s ∷ []) c.covered_with-covered.result c.ending_with-first.result (set now j y) s c.read_next.new.frames) (sym y_is)
          (behind_next place xs i.before s c.args.check c.loop-at.covered c.loop-at.first now i.top c.loop-at.frames c.read_next.new.frames (eqb j last) j i.behind i.count c.requires.covered next
          c.covered_with-covered.result (c.covered_with-covered.ensures i.before i.behind.covered_is) c.ending_with-first.result (c.ending_with-first.ensures i.before i.behind.first_is));
    }

pub returns : goal.returns
returns c =
    let i = c.loop-at.invariant in
    let xs = c.args.substreams.now in
    let last = length xs - 1 in
    let at : c.loop-at.at - 1 ≡ last = omega arith in
    let count : length i.before ≡ length xs = omega (arith, i.count) in
    record {
      read = λ other. (
        i.before,
        reading_ends (length xs - 1) c.args.place.now xs c.args.check c.args.unit.now c.args.outer.now c.requires.body i.before c.loop-at.at (omega (arith, c.requires.some)) i.so_far,
        subst (λ (t : Segment). HasRead c.args.place.now xs c.loop-at.substreams i.before t c.loop-at.frames)
            (sym (ap (λ (n : ℕ). get_or c.loop-at.latest n other) (sym at) ∙ i.top_there other (omega (arith, c.requires.some))))
            (behind_all c.args.place.now xs i.before c.loop-at.covered c.loop-at.first c.loop-at.substreams i.top c.loop-at.frames c.requires.some count i.behind),
      );
    }
