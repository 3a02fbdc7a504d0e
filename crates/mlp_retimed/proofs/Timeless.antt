-- No sample looks at an output timing: what is heard without them is what is heard.
use Rattle.std.proofs.Math.Path.{fun_ext}
use Rattle.std.proofs.Common.{◌||◌, ◌-◌, ◌≡◌, ℕ, zero, suc, cond, Bool, true, List, [], ◌∷◌, ◌++◌, length, take, drop, map, Option, Some, None, refl, sym, ap, ◌∙◌}
use Rattle.std.specs.Prelude.{is_some, option_map, ℤ}
use Rattle.std.specs.List.{list_any, range_with_len}
use Rattle.mlp_syntax.specs.declared.segment.BlockHead.{BlockHead}
use Rattle.mlp_syntax.specs.declared.segment.FrameCode.{FrameCode}
use Rattle.mlp_syntax.specs.declared.segment.Segment.{Segment}
use Rattle.mlp_params.specs.declared.state.State.{State}
use Rattle.mlp_predict.specs.Outputs.{outputs_from, past_from}
use Rattle.mlp_matrix.specs.Noise.{next_seed, seed_at}
use Rattle.mlp_unit.specs.AccessUnit.{in_force}
use Rattle.mlp_output.specs.Output.{check_of, dropped, heard, matrixed, samples_of}
use Rattle.mlp_substream.specs.declared.known.Place.{Place}
use Rattle.mlp_substream.specs.Blocks.{after_head, force_after}
use Rattle.mlp_substream.specs.Timings.{timeless, SameButForTiming, stamp_head, stamped}
use Rattle.mlp_substream.proofs.StampedLaws.{force_stamped}
use Rattle.mlp_channels.specs.Channels.{Coded, block_frames, channel_frames, past_before, outputs_in, coded_after, codes_channel}
use Rattle.mlp_contents.specs.Frames.{is_coded_by, channel, frames_of, heard_in}
use Rattle.mlp_contents.specs.Units.{Left, Unit_of, coded_at, place_of, coded_each, top_of, force_behind, heard_of, placed_by, frames_out, seed_of, after}

-- ---- what is in force

idem : (f : Option State) → SameButForTiming f (option_map timeless f)
idem None = refl
idem (Some s) = refl

module _ {A : Type 0} (F : Option State → A) (same : (s : State) → F (Some s) ≡ F (Some (timeless s))) where
  by_timeless : (f : Option State) → F f ≡ F (option_map timeless f)
  by_timeless None = refl
  by_timeless (Some s) = same s

  -- what doesn't look at the output timing is the same for states that are the same but for it
  pub same_by : (f g : Option State) → SameButForTiming f g → F f ≡ F g
  same_by f g e = by_timeless f ∙ ap F e ∙ sym (by_timeless g)

-- ---- a substream

abbrev pub bare : Coded → Coded
bare x = record x { force = option_map timeless x.force }

abbrev bare_segment : Segment → Segment
bare_segment s = stamped 0 s

codes_bare : (f g : Option State) (c : ℕ) → SameButForTiming f g → codes_channel f c ≡ codes_channel g c
codes_bare f g c e = same_by (λ x. codes_channel x c) (λ s. refl) f g e

block_bare : (g : Option State) (h : BlockHead) (c : ℕ) (cs : List FrameCode) → block_frames g h c cs ≡ block_frames g (stamp_head 0 h) c cs
block_bare None h c cs = refl
block_bare (Some s) h c cs = refl

frames_bare : (place : Place) (f g : Option State) (c : ℕ) (hs : List BlockHead) (cs : List FrameCode) → SameButForTiming f g
    → channel_frames place f c hs cs ≡ channel_frames place g c (map (stamp_head 0) hs) cs
unfolding channel_frames
frames_bare place f g c [] cs e = refl
frames_bare place f g c (h ∷ hs) cs e =
    let behind : SameButForTiming (after_head place f h) (after_head place g (stamp_head 0 h)) = force_stamped place 0 f g (h ∷ []) e in
    let here = same_by (λ x. block_frames x h c (take h.frames cs)) (λ s. refl) (after_head place f h) (after_head place g (stamp_head 0 h)) behind
    ∙ block_bare (after_head place g (stamp_head 0 h)) h c (take h.frames cs) in
    let later = frames_bare place (after_head place f h) (after_head place g (stamp_head 0 h)) c hs (drop h.frames cs) behind in
    λ i. here i ++ later i

module _ (place : Place) where
  force_bare : (f : Option State) (s : Segment) → SameButForTiming (force_after place f s.blocks.items) (force_after place (option_map timeless f) (bare_segment s).blocks.items)
  force_bare f s = force_stamped place 0 f (option_map timeless f) s.blocks.items (idem f)

  outputs_bare : (x : Coded) (s : Segment) (c : ℕ) → outputs_in place x s c ≡ outputs_in place (bare x) (bare_segment s) c
  unfolding outputs_in
  outputs_bare x s c = ap (outputs_from 8 4 (past_before place x c)) (frames_bare place x.force (option_map timeless x.force) c s.blocks.items s.codes.items (idem x.force))

  after_bare : (x : Coded) (s : Segment) → bare (coded_after place x s) ≡ bare (coded_after place (bare x) (bare_segment s))
  unfolding coded_after
  after_bare x s =
      let force = force_bare x.force s in
      let frames = λ (c : ℕ). frames_bare place x.force (option_map timeless x.force) c s.blocks.items s.codes.items (idem x.force) in
      λ i. record {
        force = force i;
        pasts = map (λ c. past_from 8 4 (past_before place x c) (frames c i)) (range_with_len 0 8);
      }

  -- ---- several substreams

  coded_by_bare : (xs : List Coded) (ss : List Segment) (c : ℕ) → is_coded_by place xs ss c ≡ is_coded_by place (map bare xs) (map bare_segment ss) c
  coded_by_bare [] ss c = refl
  coded_by_bare (x ∷ xs) [] c = refl
  coded_by_bare (x ∷ xs) (s ∷ ss) c =
      let here = codes_bare (force_after place x.force s.blocks.items) (force_after place (option_map timeless x.force) (bare_segment s).blocks.items) c (force_bare x.force s) in
      let more = coded_by_bare xs ss c in
      λ i. cond (here i) true (more i)

  channel_bare : (xs : List Coded) (ss : List Segment) (c : ℕ) → channel place xs ss c ≡ channel place (map bare xs) (map bare_segment ss) c
  channel_bare [] ss c = refl
  channel_bare (x ∷ xs) [] c = refl
  channel_bare (x ∷ xs) (s ∷ ss) c =
      let here = codes_bare (force_after place x.force s.blocks.items) (force_after place (option_map timeless x.force) (bare_segment s).blocks.items) c (force_bare x.force s) in
      let by = coded_by_bare xs ss c in
      let more = channel_bare xs ss c in
      let out = outputs_bare x s c in
      let none : List ℤ = [] in
      λ i. cond (by i) (more i) (cond (here i) (out i) none)

  none_bare : (xs : List Coded) → map bare xs ≡ map bare (map bare xs)
  none_bare [] = refl
  none_bare (x ∷ xs) = λ i. record x { force = idem x.force i } ∷ none_bare xs i

  each_bare : (xs : List Coded) (ss : List Segment) → map bare (coded_each place xs ss) ≡ map bare (coded_each place (map bare xs) (map bare_segment ss))
  each_bare [] ss = refl
  each_bare (x ∷ xs) [] = none_bare (x ∷ xs)
  each_bare (x ∷ xs) (s ∷ ss) = λ i. after_bare x s i ∷ each_bare xs ss i

pub coded_at_bare : (xs : List Coded) (j : ℕ) → coded_at (map bare xs) j ≡ bare (coded_at xs j)
coded_at_bare [] j = refl
coded_at_bare (x ∷ xs) zero = refl
coded_at_bare (x ∷ xs) (suc j) = coded_at_bare xs j

pub top_bare : (t : ℕ) (ss : List Segment) (j : ℕ) → top_of j (map (stamped t) ss) ≡ stamped t (top_of j ss)
top_bare t [] j = refl
top_bare t (s ∷ ss) zero = refl
top_bare t (s ∷ ss) (suc j) = top_bare t ss j

-- ---- a unit

heard_timeless : (s : State) (seed : ℕ) (bypass : List ℕ) (frames : List (List ℤ)) → heard s seed bypass frames ≡ heard (timeless s) seed bypass frames
heard_timeless s seed [] frames = refl
heard_timeless s seed (b ∷ bypass) [] = refl
heard_timeless s seed (b ∷ bypass) (f ∷ frames) = ap (λ (hs : List (List ℤ)). samples_of s.shifts.items (matrixed s seed b f) ∷ hs) (heard_timeless s (next_seed seed) bypass frames)

heard_in_timeless : (place : Place) (channels : ℕ → List ℤ) (seed : ℕ) (top : Segment) (s : State) → heard_in place channels seed top (Some s) ≡ heard_in place channels seed top (Some (timeless s))
heard_in_timeless place channels seed top s =
    ap (take (length top.codes.items - dropped place.format top.terminator))
    (heard_timeless s (cond place.major s.restart.seed seed) (map (λ f. f.bypass) top.codes.items) (frames_of channels s.restart.max_matrix (length top.codes.items)))

heard_in_bare : (place : Place) (channels : ℕ → List ℤ) (seed : ℕ) (top : Segment) (g : Option State) → heard_in place channels seed top g ≡ heard_in place channels seed (bare_segment top) g
heard_in_bare place channels seed top None = refl
heard_in_bare place channels seed top (Some s) = refl

ended_bare : (ss : List Segment) → list_any (λ s. is_some s.terminator) ss ≡ list_any (λ s. is_some s.terminator) (map bare_segment ss)
ended_bare [] = refl
ended_bare (s ∷ ss) = ap (λ (b : Bool). is_some s.terminator || b) (ended_bare ss)

-- what units leave, with output timing 0 in force
abbrev pub bare_left : Left → Left
bare_left l = record l { substreams = map bare l.substreams }

abbrev bare_unit : Unit_of → Unit_of
bare_unit u = record u { contents = map bare_segment u.contents }

module _ (k : ℕ) (l : Left) (u : Unit_of) where
  abbrev place : Place
  place = place_of l u.outer

  abbrev top : Segment
  top = top_of k u.contents

  force_is : SameButForTiming (force_behind k l u) (force_behind k (bare_left l) (bare_unit u))
  force_is =
      force_bare place (coded_at l.substreams k).force top
      ∙ (λ i. option_map timeless (force_after place (sym (coded_at_bare l.substreams k) i).force (sym (top_bare 0 u.contents k) i).blocks.items))

  heard_is : heard_of k l u ≡ heard_of k (bare_left l) (bare_unit u)
  unfolding heard_of
  heard_is =
      let channels : channel place l.substreams u.contents ≡ channel place (map bare l.substreams) (map bare_segment u.contents) = fun_ext (λ c. channel_bare place l.substreams u.contents c) in
      let more = channel place (map bare l.substreams) (map bare_segment u.contents) in
      let behind = force_behind k (bare_left l) (bare_unit u) in
      (λ i. heard_in place (channels i) l.seed top (force_behind k l u))
      ∙ same_by (λ f. heard_in place more l.seed top f) (heard_in_timeless place more l.seed top) (force_behind k l u) behind force_is
      ∙ heard_in_bare place more l.seed top behind
      ∙ ap (λ (t : Segment). heard_in place more l.seed t behind) (sym (top_bare 0 u.contents k))

  frames_are : frames_out k l u ≡ frames_out k (bare_left l) (bare_unit u)
  frames_are =
      ap (placed_by (force_behind k l u)) heard_is
      ∙ same_by (λ f. placed_by f (heard_of k (bare_left l) (bare_unit u))) (λ s. refl) (force_behind k l u) (force_behind k (bare_left l) (bare_unit u)) force_is

  left_is : bare_left (after k l u) ≡ bare_left (after k (bare_left l) (bare_unit u))
  unfolding after
  left_is =
      let seed = same_by seed_of (λ s. refl) (force_behind k l u) (force_behind k (bare_left l) (bare_unit u)) force_is in
      let count : length top.codes.items ≡ length (top_of k (map bare_segment u.contents)).codes.items = sym (ap (λ (t : Segment). length t.codes.items) (top_bare 0 u.contents k)) in
      λ i. record {
        sync = in_force l.sync u.outer.major;
        ended = ended_bare u.contents i;
        substreams = each_bare place l.substreams u.contents i;
        seed = seed_at (cond (is_some u.outer.major) (seed i) l.seed) (count i);
        check = check_of (cond (is_some u.outer.major) 0 l.check) (heard_is i);
      }

-- ---- two units that are the same but for output timings

pub record LikeUnit (k : ℕ) (l m : Left) (u v : Unit_of) : Type 0 where
  pub frames : frames_out k l u ≡ frames_out k m v
  pub left : bare_left (after k l u) ≡ bare_left (after k m v)

module _ (k : ℕ) (l m : Left) (u v : Unit_of) (e : bare_left l ≡ bare_left m) (major : u.outer.major ≡ v.outer.major) (same : map (stamped 0) u.contents ≡ map (stamped 0) v.contents) where
  frames_between : frames_out k (bare_left l) (bare_unit u) ≡ frames_out k (bare_left m) (bare_unit v)
  unfolding heard_of
  frames_between = λ i. frames_out k (e i) (record { outer = record u.outer { major = major i }; contents = same i })

  left_between : bare_left (after k (bare_left l) (bare_unit u)) ≡ bare_left (after k (bare_left m) (bare_unit v))
  unfolding after heard_of
  left_between = λ i. bare_left (after k (e i) (record { outer = record u.outer { major = major i }; contents = same i }))

  pub like_unit : LikeUnit k l m u v
  like_unit = record {
    frames = frames_are k l u ∙ frames_between ∙ sym (frames_are k m v);
    left = left_is k l u ∙ left_between ∙ sym (left_is k m v);
  }
