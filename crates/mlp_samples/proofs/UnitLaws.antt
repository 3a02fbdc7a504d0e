-- A unit behind others of its interval: what it gives, and what it leaves.
use Rattle.std.proofs.Common.{◌≡◌, ℕ, ◌+◌, ◌<◌, ◌≤◌, Bool, true, false, cond, List, [], length, get_or, Option, Some, None, refl, sym, ap, subst, ◌∙◌}
use Rattle.mlp_syntax.specs.declared.segment.Segment.{Segment}
use Rattle.mlp_params.specs.declared.state.State.{State}
use Rattle.mlp_predict.specs.Prediction.{zeros}
use Rattle.mlp_predict.specs.Outputs.{past_from}
use Rattle.mlp_predict.proofs.FrameLists.{frames_leave}
use Rattle.mlp_substream.specs.declared.known.Place.{Place}
use Rattle.mlp_substream.specs.declared.known.Known.{Known}
use Rattle.mlp_substream.specs.Blocks.{force_after, IsPlace, ForceFits}
use Rattle.mlp_substream.specs.Playable.{ArePlayable}
use Rattle.mlp_substream.specs.Segment.{segment, IsAllowed}
use Rattle.mlp_substream.proofs.PlayableLaws.{segment_plays}
use Rattle.mlp_substream.proofs.FreshLaws.{fresh_force}
use Rattle.mlp_channels.specs.Channels.{Coded, channel_frames, past_before}
use Rattle.mlp_channels.proofs.FrameLaws.{all_within, channel_frames-same, channel_frames-fresh}
use Rattle.mlp_contents.specs.Units.{Left, Unit_of, coded_at}
use Rattle.mlp_samples.specs.Samples.{blocks_in, frame_codes, in_force_in, frames_in_units}
use Rattle.mlp_samples.specs.Leaving.{IsLeftBy, latest_of}
use Rattle.mlp_samples.proofs.BlockRuns.{SamePlace, force_there, playable_there, playable_anew, CanPlay, playable_join}
use Rattle.mlp_samples.proofs.Intervals.{in_force_is, Continues}

-- ---- what units of an interval leave

pub record Interval (place : Place) (k : ℕ) (since : List Unit_of) (left : Left) : Type 0 where
  pub is : IsLeftBy place k since left
  pub count : length left.substreams ≡ k + 1
  pub lawful : (j : ℕ) → j ≤ k → ForceFits place (coded_at left.substreams j).force
  pub played : (j : ℕ) → j ≤ k → CanPlay place None (blocks_in j since) (frame_codes j since)
  pub frames : (j : ℕ) → j ≤ k → length (frame_codes j since) ≡ length (frame_codes 0 since)

force_fits_there : (p q : Place) → SamePlace p q → (force : Option State) → ForceFits p force → ForceFits q force
force_fits_there p q same None h = tt
force_fits_there p q same (Some s) h = record { lawful = h.lawful; format_is = h.format_is ∙ same.format; frames_are = h.frames_are ∙ same.frames }

pub back : (p q : Place) → SamePlace p q → SamePlace q p
back p q same = record { format = sym same.format; frames = sym same.frames }

-- ---- the segment of one substream

-- a segment of a unit at this place, behind units of its stream since the last major sync
pub record Stands (place here : Place) (j : ℕ) (since : List Unit_of) (x : Coded) (s : Segment) : Type 0 where
  pub same : SamePlace here place
  pub ok : IsPlace place
  pub known : Known
  pub checked : Bool
  pub allowed : IsAllowed (segment here known x.force checked) s
  pub lawful : ForceFits place x.force
  pub force : x.force ≡ in_force_in place j since
  pub pasts : (c : ℕ) → c < 8 → get_or x.pasts c (zeros 8 4) ≡ latest_of (frames_in_units place j since c)
  pub played : CanPlay place None (blocks_in j since) (frame_codes j since)

module _ (place here : Place) (j : ℕ) (since : List Unit_of) (x : Coded) (s : Segment) (h : Stands place here j since x s) where
  here_ok : IsPlace here
  here_ok = record { least = subst (λ (n : ℕ). 8 ≤ n) (sym h.same.frames) h.ok.least; most = subst (λ (n : ℕ). n ≤ 160) (sym h.same.frames) h.ok.most }

  pub plays_here : ArePlayable here here.major x.force s.blocks.items s.codes.items
  plays_here = segment_plays here h.known x.force h.checked here_ok (force_fits_there place here (back here place h.same) x.force h.lawful) s h.allowed

  pub plays : (b : Bool) → here.major ≡ b → ArePlayable place b x.force s.blocks.items s.codes.items
  plays b e = playable_there here place h.same b x.force s.blocks.items s.codes.items (subst (λ (v : Bool). ArePlayable here v x.force s.blocks.items s.codes.items) e plays_here)

  old_force : x.force ≡ force_after place None (blocks_in j since)
  old_force = h.force ∙ in_force_is place j since

  nothing_played : CanPlay place None [] []
  unfolding ArePlayable
  nothing_played = (false, refl)

  first_past : (c : ℕ) → here.major ≡ true → past_before here x c ≡ past_from 8 4 (zeros 8 4) (channel_frames place None c [] [])
  unfolding channel_frames
  first_past c e = rw e refl

  -- in a unit with a major sync
  anew : here.major ≡ true → Continues place here j [] x s
  anew e =
      let p = plays true e in
      let fresh = playable_anew place x.force None s.blocks.items s.codes.items p in
      record {
        due = true;
        played = nothing_played;
        playable = fresh;
        joined = (true, fresh);
        force = sym (fresh_force here h.known x.force None h.checked s e h.allowed) ∙ force_there here place h.same None s.blocks.items;
        past = λ c few. first_past c e;
        frames = λ c. channel_frames-same here c place x.force s.blocks.items s.codes.items h.same.format h.same.frames ∙ channel_frames-fresh place c x.force None s.blocks.items s.codes.items p;
      }

  later_past : (c : ℕ) → c < 8 → here.major ≡ false → past_before here x c ≡ past_from 8 4 (zeros 8 4) (frames_in_units place j since c)
  later_past c few e =
      let within = all_within place h.ok c None h.played.0 (blocks_in j since) (frame_codes j since) tt h.played.1 in
      rw e (h.pasts c few ∙ sym (frames_leave 8 4 (frames_in_units place j since c) within))

  -- .. and in another
  later : here.major ≡ false → Continues place here j since x s
  later e =
      let p = subst (λ (f : Option State). ArePlayable place false f s.blocks.items s.codes.items) old_force (plays false e) in
      record {
        due = false;
        played = h.played;
        playable = p;
        joined = playable_join place None (blocks_in j since) (frame_codes j since) s.blocks.items s.codes.items h.played p;
        force = force_there here place h.same x.force s.blocks.items ∙ ap (λ (f : Option State). force_after place f s.blocks.items) old_force;
        past = λ c few. later_past c few e;
        frames = λ c. channel_frames-same here c place x.force s.blocks.items s.codes.items h.same.format h.same.frames ∙ ap (λ (f : Option State). channel_frames place f c s.blocks.items s.codes.items) old_force;
      }

  pub continues : (b : Bool) → here.major ≡ b → Continues place here j (cond b [] since) x s
  continues true e = anew e
  continues false e = later e
