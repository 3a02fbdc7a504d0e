-- A unit behind others of its interval, of all substreams.
use Rattle.std.proofs.Common.{◌≡◌, ℕ, ◌+◌, ◌-◌, ◌<◌, ◌≤◌, Bool, true, false, cond, List, [], ◌∷◌, ◌++◌, length, take, map, get_or, Option, Some, None, ◌⊎◌, inl, inr, ℤ, pos, refl, sym, ap, subst, ◌∙◌, arith}
use Rattle.std.specs.Int.{w32}
use Rattle.std.proofs.lemmas.Int.{ints, int_wrap_fits}
use Rattle.std.proofs.lemmas.List.{length-map, get_or-map, get_or-append-add}
use Rattle.mlp_syntax.specs.declared.major.Kind.{Kind}
use Rattle.mlp_syntax.specs.declared.segment.BlockHead.{BlockHead}
use Rattle.mlp_syntax.specs.declared.segment.FrameCode.{FrameCode}
use Rattle.mlp_syntax.specs.declared.segment.Segment.{Segment}
use Rattle.mlp_params.specs.declared.state.State.{State}
use Rattle.mlp_params.proofs.RestartRanges.{ranges}
use Rattle.mlp_predict.specs.Outputs.{Frame, frame_at, outputs_at}
use Rattle.mlp_matrix.specs.Noise.{seed_at}
use Rattle.mlp_substream.specs.declared.known.Place.{Place}
use Rattle.mlp_substream.specs.Blocks.{force_after, IsPlace, ForceFits}
use Rattle.mlp_channels.specs.Channels.{Coded, codes_channel, channel_frames, nothing_coded, outputs_in}
use Rattle.mlp_output.specs.Output.{heard, dropped}
use Rattle.mlp_contents.specs.Frames.{channel, frames_of, heard_in}
use Rattle.mlp_contents.specs.Units.{Unit_of, coded_at, top_of, no_segment, seed_of}
use Rattle.mlp_samples.specs.Samples.{blocks_in, frame_codes, in_force_in, frames_in_units, coder, coded_frame, no_code, bypass_at, count_in, kept, heard_by, unit_heard}
use Rattle.mlp_samples.proofs.HeardLaws.{same_on_range, heard_first, length-frames_of, frames_of-at}
use Rattle.mlp_samples.proofs.BlockRuns.{SamePlace, force_stays_lawful}
use Rattle.mlp_samples.proofs.Intervals.{blocks_more, codes_more, in_force_is, Continues, force_behind, output_at, none_coded}
use Rattle.mlp_samples.proofs.Coders.{IsCoder, NoneCodes, coder_is, coder_within, channel_none, channel_at}

-- an output of silence
silent : (n : ℕ) → outputs_at (frame_at []) n ≡ pos 0
silent n = int_wrap_fits w32 (pos 0) (omega (arith, ints))

-- ---- all segments of a unit, at this place, behind these units

module _ (place here : Place) (k : ℕ) (before : List Unit_of) (u : Unit_of) (xs : List Coded) where
  abbrev ss : List Segment
  ss = u.contents

  abbrev us : List Unit_of
  us = before ++ u ∷ []

  pub record Stand : Type 0 where
    pub same : SamePlace here place
    pub ok : IsPlace place
    pub held : length xs ≡ k + 1
    pub count : length ss ≡ k + 1
    pub each : (j : ℕ) → j ≤ k → Continues place here j before (coded_at xs j) (top_of j ss)
    pub old_frames : (j : ℕ) → j ≤ k → length (frame_codes j before) ≡ length (frame_codes 0 before)
    pub new_frames : (j : ℕ) → j ≤ k → length (top_of j ss).codes.items ≡ length (top_of 0 ss).codes.items

  module _ (h : Stand) where
    -- what is in force behind the unit
    pub forces : (j : ℕ) → j ≤ k → force_after here (coded_at xs j).force (top_of j ss).blocks.items ≡ in_force_in place j us
    forces j le =
        force_behind place here h.ok j before (coded_at xs j) (top_of j ss) (h.each j le)
        ∙ ap (λ (bs : List BlockHead). force_after place None bs) (sym (blocks_more j before u))
        ∙ sym (in_force_is place j us)

    all_blocks : (j : ℕ) → j ≤ k → in_force_in place j us ≡ force_after place None (blocks_in j before ++ (top_of j ss).blocks.items)
    all_blocks j le = sym (forces j le) ∙ force_behind place here h.ok j before (coded_at xs j) (top_of j ss) (h.each j le)

    pub all_frames : (j c : ℕ)
        → frames_in_units place j us c ≡ channel_frames place None c (blocks_in j before ++ (top_of j ss).blocks.items) (frame_codes j before ++ (top_of j ss).codes.items)
    all_frames j c =
        ap (λ (bs : List BlockHead). channel_frames place None c bs (frame_codes j us)) (blocks_more j before u)
        ∙ ap (λ (cs : List FrameCode). channel_frames place None c (blocks_in j before ++ (top_of j ss).blocks.items) cs) (codes_more j before u)

    -- ---- a channel

    module _ (c : ℕ) where
      abbrev codes_it : ℕ → Bool
      codes_it j = codes_channel (in_force_in place j us) c

      behind_is : (j : ℕ) → j ≤ k → codes_channel (force_after here (get_or xs j nothing_coded).force (get_or ss j no_segment).blocks.items) c ≡ codes_it j
      behind_is j le = ap (λ (f : Option State). codes_channel f c) (forces j le)

      abbrev whole_output : ℕ → ℕ → ℤ
      whole_output j i = outputs_at (frame_at (frames_in_units place j us c)) i

      -- by the substream that codes it
      coded_output : (j : ℕ) → j ≤ k → codes_it j ≡ true → c < 8 → (i : ℕ) → i < length (top_of k ss).codes.items
          → get_or (outputs_in here (coded_at xs j) (top_of j ss) c) i (pos 0) ≡ whole_output j (count_in k before + i)
      coded_output j le e few i lt =
          let codes = ap (λ (f : Option State). codes_channel f c) (sym (all_blocks j le)) ∙ e in
          let old : length (frame_codes k before) ≡ length (frame_codes j before) = h.old_frames k (omega arith) ∙ sym (h.old_frames j le) in
          let new : length (top_of k ss).codes.items ≡ length (top_of j ss).codes.items = h.new_frames k (omega arith) ∙ sym (h.new_frames j le) in
          output_at place here h.ok j before (coded_at xs j) (top_of j ss) (h.each j le) c codes few i (count_in k before) (omega (arith, lt, new)) old
          ∙ ap (λ (fs : List Frame). outputs_at (frame_at fs) (count_in k before + i)) (sym (all_frames j c))

      no_output : (j : ℕ) → j ≤ k → codes_it j ≡ false → (n : ℕ) → pos 0 ≡ whole_output j n
      no_output j le e n =
          let codes = ap (λ (f : Option State). codes_channel f c) (sym (all_blocks j le)) ∙ e in
          let none = all_frames j c ∙ none_coded place here h.ok j before (coded_at xs j) (top_of j ss) (h.each j le) c codes in
          sym (silent n) ∙ ap (λ (fs : List Frame). outputs_at (frame_at fs) n) (sym none)

      channel_output : c < 8 → (i : ℕ) → i < length (top_of k ss).codes.items → get_or (channel here xs ss c) i (pos 0) ≡ whole_output (coder place k us c) (count_in k before + i)
      channel_output few i lt = by_coder (coder_is place us c k)
        where
          by_coder : IsCoder place us c k (coder place k us c) ⊎ NoneCodes place us c k
              → get_or (channel here xs ss c) i (pos 0) ≡ whole_output (coder place k us c) (count_in k before + i)
          by_coder (inl is) =
              let j : ℕ = coder place k us c in
              ap (λ (ys : List ℤ). get_or ys i (pos 0))
              (channel_at here c xs ss j (omega (arith, is.within, h.held)) (omega (arith, is.within, h.count)) (behind_is j is.within ∙ is.coded)
              (λ m gt a b. let le : m ≤ k = omega (arith, a, h.held) in behind_is m le ∙ is.above m gt le))
              ∙ coded_output j is.within is.coded few i lt
          by_coder (inr none) =
              let j : ℕ = coder place k us c in
              let le : j ≤ k = coder_within place us c k in
              ap (λ (ys : List ℤ). get_or ys i (pos 0)) (channel_none here c xs ss (λ m a b. let le_m : m ≤ k = omega (arith, a, h.held) in behind_is m le_m ∙ none m le_m))
              ∙ no_output j le (none j le) (count_in k before + i)

    -- ---- frames

    module _ (s : State) (most : s.restart.max_matrix ≤ 7) where
      abbrev top : Segment
      top = top_of k ss

      abbrev coded_frames : List (List ℤ)
      coded_frames = frames_of (channel here xs ss) s.restart.max_matrix (length top.codes.items)

      frame_is : (i : ℕ) → i < length top.codes.items → get_or coded_frames i [] ≡ coded_frame place k us s (count_in k before + i)
      frame_is i lt =
          frames_of-at (channel here xs ss) s.restart.max_matrix (length top.codes.items) i lt
          ∙ same_on_range (λ c. get_or (channel here xs ss c) i (pos 0)) (λ c. outputs_at (frame_at (frames_in_units place (coder place k us c) us c)) (count_in k before + i)) 0 (s.restart.max_matrix + 1)
          (λ c from to. channel_output c (omega (arith, to, most)) i lt)

      bit_is : (i : ℕ) → i < length top.codes.items → get_or (map (λ f. f.bypass) top.codes.items) i 0 ≡ bypass_at k us (count_in k before + i)
      bit_is i lt =
          get_or-map (λ (f : FrameCode). f.bypass) top.codes.items i no_code 0 lt
          ∙ ap (λ (f : FrameCode). f.bypass) (sym (get_or-append-add (frame_codes k before) top.codes.items i no_code))
          ∙ ap (λ (cs : List FrameCode). (get_or cs (count_in k before + i) no_code).bypass) (sym (codes_more k before u))

      heard_is : (seed : ℕ) → cond here.major s.restart.seed seed ≡ seed_at s.restart.seed (count_in k before)
          → heard_in here (channel here xs ss) seed top (Some s) ≡ heard_by place k us (count_in k before) (kept place k u) (Some s)
      heard_is seed is =
          let n : ℕ = length top.codes.items in
          let bits : List ℕ = map (λ f. f.bypass) top.codes.items in
          ap (λ (f : Kind). take (n - dropped f top.terminator) (heard s (cond here.major s.restart.seed seed) bits coded_frames)) h.same.format
          ∙ heard_first s s.restart.seed (bypass_at k us) (coded_frame place k us s) (count_in k before) (cond here.major s.restart.seed seed) bits coded_frames n (kept place k u)
          (length-map top.codes.items (λ f. f.bypass)) (length-frames_of (channel here xs ss) s.restart.max_matrix n) is (omega arith) bit_is frame_is

    pub unit_lawful : (j : ℕ) → j ≤ k → ForceFits place (in_force_in place j us)
    unit_lawful j le =
        let c = h.each j le in
        subst (ForceFits place) (sym (all_blocks j le)) (force_stays_lawful place h.ok c.joined.0 None (blocks_in j before ++ (top_of j ss).blocks.items) (frame_codes j before ++ (top_of j ss).codes.items) tt c.joined.1)

    heard_by_force : (force : Option State) → ForceFits place force → (seed : ℕ) → cond here.major (seed_of force) seed ≡ seed_at (seed_of force) (count_in k before)
        → heard_in here (channel here xs ss) seed (top_of k ss) force ≡ heard_by place k us (count_in k before) (kept place k u) force
    heard_by_force None lawful seed is = refl
    heard_by_force (Some s) lawful seed is =
        let known = ranges s.format s.restart lawful.lawful.restart in
        heard_is s (omega (arith, known.same, known.at_most_7)) seed is

    -- what is heard of the unit
    pub heard_now : (seed : ℕ) → cond here.major (seed_of (in_force_in place k us)) seed ≡ seed_at (seed_of (in_force_in place k us)) (count_in k before)
        → heard_in here (channel here xs ss) seed (top_of k ss) (force_after here (coded_at xs k).force (top_of k ss).blocks.items) ≡ unit_heard place k before u
    heard_now seed is =
        ap (λ (f : Option State). heard_in here (channel here xs ss) seed (top_of k ss) f) (forces k (omega arith))
        ∙ heard_by_force (in_force_in place k us) (unit_lawful k (omega arith)) seed is
