use Rattle.std.proofs.Common.{◌≡◌, ◌∙◌, ◌*◌, ℕ, List, length, refl, sym, ap, subst, arith}
use Rattle.std.specs.Prelude.{slice_index_or}
use Rattle.std.proofs.lemmas.List.{length-map}
use Rattle.std.proofs.lemmas.List.FromFn.{length-map-range_with_len}
use Rattle.mlp_fold.specs.Substreams.{substreams_of}
use Rattle.mlp_encode.specs.Unit.{joined}
use Rattle.mlp_encode.proofs.Renewed.{substreams_most}
use Rattle.mlp_lossless.specs.Streams.{all_frames}
use Rattle.mlp_gen.specs.declared.report.Shown.{Shown}
use Rattle.mlp_gen.specs.Generator.{generated}
use Rattle.mlp_gen.specs.Player.{Played, unplayed, shown_by}
use Rattle.mlp_gen.specs.Generated.{width_of, nothing_shown, IsShown}
use Rattle.mlp_gen.proofs.UnitFrames.{frames_long}
use Rattle.mlp_gen.proofs.Underway.{shown_at}
use Rattle.mlp_gen.proofs.making.make_report.Goals as goal

pub returns : goal.returns
returns c =
    let p = c.args.profile.now in
    let m = c.in_ok-stream.ensures in
    let players = c.send_units.new.players in
    let n = substreams_of p.channels in
    let count : length players ≡ n = c.send_units.auto.players ∙ ap (λ (xs : List Played). length xs) c.requires.players ∙ length-map-range_with_len unplayed 0 n in
    record {
      profile = c.requires.profile;
      units = m.units;
      left = m.left;
      sent_is = m.sent_is;
      pcm = c.pcm_size.ensures ∙ ap (λ (k : ℕ). k * (p.channels * width_of p.depth)) (sym (frames_long p c.args.seed 0 c.args.units));
      stream = m.stream;
      presentations = ap (λ (xs : List Shown). length xs) c.shown_of.ensures ∙ length-map players shown_by ∙ count;
      shown = λ k lt. subst (IsShown p k (all_frames (generated p c.args.seed c.args.units)) (joined m.units))
          (sym (ap (λ (xs : List Shown). slice_index_or xs k nothing_shown) c.shown_of.ensures ∙ shown_at players k (omega (arith, lt, count)))) (m.shown k lt);
      units_are = refl;
    }

pub shown_of-requires : goal.shown_of-requires
shown_of-requires c =
    let p = c.args.profile.now in
    omega (arith, c.send_units.auto.players, ap (λ (xs : List Played). length xs) c.requires.players, length-map-range_with_len unplayed 0 (substreams_of p.channels), substreams_most p.channels)
