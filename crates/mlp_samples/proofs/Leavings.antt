-- What a unit leaves, behind others of its interval.
use Rattle.std.proofs.Common.{◌≡◌, ℕ, zero, suc, ◌+◌, ◌<◌, ◌≤◌, Bool, true, false, cond, List, [], ◌∷◌, ◌++◌, length, get_or, Option, Some, None, ℤ, refl, sym, ap, subst, ◌∙◌, arith, append_assoc, bit_xor}
use Rattle.std.specs.Prelude.{is_some}
use Rattle.std.proofs.lemmas.List.{append-nil, length-append}
use Rattle.std.proofs.lemmas.List.FromFn.{get_or-map-range_with_len}
use Rattle.mlp_syntax.specs.declared.restart.Restart.{Restart}
use Rattle.mlp_syntax.specs.declared.segment.BlockHead.{BlockHead}
use Rattle.mlp_syntax.specs.declared.segment.FrameCode.{FrameCode}
use Rattle.mlp_syntax.specs.declared.segment.Segment.{Segment}
use Rattle.mlp_params.specs.declared.state.State.{State}
use Rattle.mlp_predict.specs.Prediction.{zeros}
use Rattle.mlp_predict.specs.Outputs.{past_from}
use Rattle.mlp_matrix.specs.Noise.{seed_at}
use Rattle.mlp_matrix.proofs.Noises.{seed_at-join}
use Rattle.mlp_substream.specs.declared.known.Place.{Place}
use Rattle.mlp_substream.specs.Blocks.{force_after, IsPlace, ForceFits}
use Rattle.mlp_substream.specs.Playable.{ArePlayable}
use Rattle.mlp_channels.specs.Channels.{Coded, nothing_coded, past_before, frames_in, coded_after}
use Rattle.mlp_output.specs.Output.{check_from, check_of}
use Rattle.mlp_contents.specs.Units.{Left, Unit_of, coded_at, coded_each, place_of, top_of, no_segment, seed_of, heard_of, placed_by, frames_out, after}
use Rattle.mlp_samples.specs.Samples.{blocks_in, frame_codes, in_force_in, frames_in_units, count_in, unit_heard, unit_samples, before_unit}
use Rattle.mlp_samples.specs.Leaving.{latest_of, heard_since, matrix_of, matrix_in_force}
use Rattle.mlp_samples.proofs.BlockRuns.{SamePlace, force_there, CanPlay}
use Rattle.mlp_samples.proofs.Intervals.{blocks_more, codes_more, Continues, past_behind}
use Rattle.mlp_samples.proofs.UnitLaws.{Interval, Stands, plays_here, plays, continues}
use Rattle.mlp_samples.proofs.UnitParts.{HasSegments}
use Rattle.mlp_contents.specs.Known.{first_restart}
use Rattle.mlp_contents.proofs.ChannelLists.{length-each}
use Rattle.mlp_contents.proofs.ReadSegments.{restart_in, blocks_keep}
use Rattle.mlp_samples.proofs.FirstRestarts.{some_blocks, matrix_stays, matrix_begins, some_begins}
use Rattle.mlp_samples.proofs.Steps.{Stand, forces, all_frames, unit_lawful, heard_now}

-- ---- lists

check_of-append : (running : ℕ) (xs ys : List (List ℤ)) → check_of running (xs ++ ys) ≡ check_of (check_of running xs) ys
check_of-append running [] ys = refl
check_of-append running (x ∷ xs) ys = check_of-append (bit_xor running (check_from 0 x)) xs ys

heard_since-more : (place : Place) (k : ℕ) (before us : List Unit_of) (u : Unit_of)
    → heard_since place k before (us ++ u ∷ []) ≡ heard_since place k before us ++ unit_heard place k (before ++ us) u
heard_since-more place k before [] u = append-nil (unit_heard place k before u) ∙ ap (λ (bs : List Unit_of). unit_heard place k bs u) (sym (append-nil before))
heard_since-more place k before (v ∷ us) u =
    ap (λ (xs : List (List ℤ)). unit_heard place k before v ++ xs) (heard_since-more place k (before ++ v ∷ []) us u)
    ∙ ap (λ (bs : List Unit_of). unit_heard place k before v ++ (heard_since place k (before ++ v ∷ []) us ++ unit_heard place k bs u)) (append_assoc before (v ∷ []) us)
    ∙ sym (append_assoc (unit_heard place k before v) (heard_since place k (before ++ v ∷ []) us) (unit_heard place k (before ++ v ∷ us) u))

pub coded_each-at : (place : Place) (xs : List Coded) (ss : List Segment) (j : ℕ) → j < length xs → j < length ss
    → get_or (coded_each place xs ss) j nothing_coded ≡ coded_after place (get_or xs j nothing_coded) (get_or ss j no_segment)
coded_each-at place [] ss j a b = absurd (omega arith)
coded_each-at place (x ∷ xs) [] j a b = absurd (omega arith)
coded_each-at place (x ∷ xs) (s ∷ ss) zero a b = refl
coded_each-at place (x ∷ xs) (s ∷ ss) (suc j) a b = coded_each-at place xs ss j (omega arith) (omega arith)

-- ---- the seed is that of the restart in force

seed_in : Option Restart → ℕ
seed_in None = 0
seed_in (Some r) = r.seed

seed_is : (force : Option State) → seed_of force ≡ seed_in (restart_in force)
unfolding seed_in
seed_is None = refl
seed_is (Some s) = refl

seed_kept : (place : Place) (force : Option State) (hs : List BlockHead) (codes : List FrameCode) → ArePlayable place false force hs codes → seed_of (force_after place force hs) ≡ seed_of force
seed_kept place force hs codes h = seed_is (force_after place force hs) ∙ ap seed_in (blocks_keep place force hs codes h) ∙ sym (seed_is force)

-- ---- one unit

module _ (place : Place) (k : ℕ) (left : Left) (u : Unit_of) (since : List Unit_of) where
  abbrev here : Place
  here = place_of left u.outer

  abbrev before : List Unit_of
  before = before_unit since u

  abbrev us : List Unit_of
  us = before ++ u ∷ []

  -- a unit behind others of its interval, and before it those of the interval so far
  pub record Follows : Type 0 where
    pub same : SamePlace here place
    pub ok : IsPlace place
    pub segments : HasSegments k here left.substreams u.contents
    pub interval : Interval place k since left

  module _ (f : Follows) where
    pub stands : (j : ℕ) → j ≤ k → Stands place here j since (coded_at left.substreams j) (top_of j u.contents)
    stands j le = record {
      same = f.same;
      ok = f.ok;
      known = f.segments.knows j;
      checked = f.segments.checks j;
      allowed = f.segments.allowed j le;
      lawful = f.interval.lawful j le;
      force = f.interval.is.force j le;
      pasts = λ c few. f.interval.is.pasts j c le few;
      played = f.interval.played j le;
    }

    each : (j : ℕ) → j ≤ k → Continues place here j before (coded_at left.substreams j) (top_of j u.contents)
    each j le = continues place here j since (coded_at left.substreams j) (top_of j u.contents) (stands j le) (is_some u.outer.major) refl

    old_frames : (b : Bool) (j : ℕ) → j ≤ k → length (frame_codes j (cond b [] since)) ≡ length (frame_codes 0 (cond b [] since))
    old_frames true j le = refl
    old_frames false j le = f.interval.frames j le

    stand : Stand place here k before u left.substreams
    stand = record {
      same = f.same;
      ok = f.ok;
      held = f.interval.count;
      count = f.segments.count;
      each = each;
      old_frames = old_frames (is_some u.outer.major);
      new_frames = f.segments.frames;
    }

    force_now : (j : ℕ) → j ≤ k → force_after here (coded_at left.substreams j).force (top_of j u.contents).blocks.items ≡ in_force_in place j us
    force_now = forces place here k before u left.substreams stand

    -- ---- the seed

    abbrev behind : Option State
    behind = in_force_in place k us

    abbrev SeedFits : Bool → Type 0
    SeedFits b = cond b (seed_of behind) left.seed ≡ seed_at (seed_of behind) (count_in k (cond b [] since))

    seed_later : is_some u.outer.major ≡ false → seed_of behind ≡ seed_of (in_force_in place k since)
    seed_later e =
        let x : Coded = coded_at left.substreams k in
        let s : Segment = top_of k u.contents in
        let playable = plays place here k since x s (stands k (omega arith)) false e in
        ap seed_of (sym (force_now k (omega arith)) ∙ force_there here place f.same x.force s.blocks.items)
        ∙ seed_kept place x.force s.blocks.items s.codes.items playable
        ∙ ap seed_of (f.interval.is.force k (omega arith))

    seed_fits : (b : Bool) → is_some u.outer.major ≡ b → SeedFits b
    seed_fits true e = refl
    seed_fits false e = f.interval.is.seed ∙ ap (λ (n : ℕ). seed_at n (count_in k since)) (sym (seed_later e))

    -- ---- what the unit gives

    unit_is : heard_of k left u ≡ unit_heard place k before u
    unfolding heard_of
    unit_is = heard_now place here k before u left.substreams stand left.seed (seed_fits (is_some u.outer.major) refl)

    pub gives : frames_out k left u ≡ unit_samples place k before u
    gives =
        ap (λ (g : Option State). placed_by g (heard_of k left u)) (force_now k (omega arith))
        ∙ ap (λ (xs : List (List ℤ)). placed_by behind xs) unit_is

    -- ---- what it leaves

    there : (j : ℕ) → j ≤ k → coded_at (coded_each here left.substreams u.contents) j ≡ coded_after here (coded_at left.substreams j) (top_of j u.contents)
    there j le = coded_each-at here left.substreams u.contents j (omega (arith, le, f.interval.count)) (omega (arith, le, f.segments.count))

    left_force : (j : ℕ) → j ≤ k → (coded_at (coded_each here left.substreams u.contents) j).force ≡ in_force_in place j us
    unfolding coded_after
    left_force j le = ap (λ (x : Coded). x.force) (there j le) ∙ force_now j le

    left_past : (j c : ℕ) → j ≤ k → c < 8 → get_or (coded_at (coded_each here left.substreams u.contents) j).pasts c (zeros 8 4) ≡ latest_of (frames_in_units place j us c)
    unfolding coded_after
    left_past j c le few =
        let x : Coded = coded_at left.substreams j in
        let s : Segment = top_of j u.contents in
        ap (λ (y : Coded). get_or y.pasts c (zeros 8 4)) (there j le)
        ∙ get_or-map-range_with_len (λ i. past_from 8 4 (past_before here x i) (frames_in here x s i)) 0 8 c c (zeros 8 4) few (omega arith)
        ∙ past_behind place here f.ok j before x s (each j le) c few
        ∙ ap latest_of (sym (all_frames place here k before u left.substreams stand j c))

    count_now : count_in k before + length (top_of k u.contents).codes.items ≡ count_in k us
    count_now = sym (ap (λ (cs : List FrameCode). length cs) (codes_more k before u) ∙ length-append (frame_codes k before) (top_of k u.contents).codes.items)

    left_seed : seed_at (cond (is_some u.outer.major) (seed_of (force_after here (coded_at left.substreams k).force (top_of k u.contents).blocks.items)) left.seed) (length (top_of k u.contents).codes.items)
        ≡ seed_at (seed_of behind) (count_in k us)
    left_seed =
        let n : ℕ = length (top_of k u.contents).codes.items in
        ap (λ (g : Option State). seed_at (cond (is_some u.outer.major) (seed_of g) left.seed) n) (force_now k (omega arith))
        ∙ ap (λ (m : ℕ). seed_at m n) (seed_fits (is_some u.outer.major) refl)
        ∙ seed_at-join (seed_of behind) (count_in k before) n
        ∙ ap (seed_at (seed_of behind)) count_now

    check_fits : (b : Bool) → check_of (cond b 0 left.check) (unit_heard place k (cond b [] since) u) ≡ check_of 0 (heard_since place k [] (cond b [] since ++ u ∷ []))
    check_fits true = ap (check_of 0) (sym (append-nil (unit_heard place k [] u)))
    check_fits false =
        ap (λ (n : ℕ). check_of n (unit_heard place k since u)) f.interval.is.check
        ∙ sym (check_of-append 0 (heard_since place k [] since) (unit_heard place k since u))
        ∙ ap (check_of 0) (sym (heard_since-more place k [] since u))

    left_check : check_of (cond (is_some u.outer.major) 0 left.check) (heard_of k left u) ≡ check_of 0 (heard_since place k [] us)
    left_check = ap (check_of (cond (is_some u.outer.major) 0 left.check)) unit_is ∙ check_fits (is_some u.outer.major)

    left_played : (j : ℕ) → j ≤ k → CanPlay place None (blocks_in j us) (frame_codes j us)
    left_played j le =
        let all = (each j le).joined in
        subst (λ (bs : List BlockHead). CanPlay place None bs (frame_codes j us)) (sym (blocks_more j before u))
        (subst (λ (cs : List FrameCode). CanPlay place None (blocks_in j before ++ (top_of j u.contents).blocks.items) cs) (sym (codes_more j before u)) all)

    left_frames : (j : ℕ) → j ≤ k → length (frame_codes j us) ≡ length (frame_codes 0 us)
    left_frames j le =
        let a = ap (λ (cs : List FrameCode). length cs) (codes_more j before u) in
        let b = ap (λ (cs : List FrameCode). length cs) (codes_more 0 before u) in
        let old = old_frames (is_some u.outer.major) j le in
        let new = f.segments.frames j le in
        omega (arith, a, b, old, new, length-append (frame_codes j before) (top_of j u.contents).codes.items, length-append (frame_codes 0 before) (top_of 0 u.contents).codes.items)

    pub leaves : Interval place k us (after k left u)
    unfolding after
    leaves = record {
      is = record { force = left_force; pasts = left_past; seed = left_seed; check = left_check };
      count = length-each here left.substreams u.contents ∙ f.interval.count;
      lawful = λ j le. subst (ForceFits place) (sym (left_force j le)) (unit_lawful place here k before u left.substreams stand j le);
      played = left_played;
      frames = left_frames;
    }

    -- ---- the greatest matrix channel

    left_behind : (j : ℕ) → j ≤ k → (coded_at (after k left u).substreams j).force ≡ force_after here (coded_at left.substreams j).force (top_of j u.contents).blocks.items
    left_behind j le = leaves.is.force j le ∙ sym (force_now j le)

    pub matrix_kept : (j : ℕ) → j ≤ k → is_some (matrix_in_force (coded_at left.substreams j).force) ≡ true
        → matrix_in_force (coded_at (after k left u).substreams j).force ≡ matrix_in_force (coded_at left.substreams j).force
    matrix_kept j le some =
        let x : Coded = coded_at left.substreams j in
        let s : Segment = top_of j u.contents in
        ap matrix_in_force (left_behind j le)
        ∙ matrix_stays here (f.segments.knows j) x.force (f.segments.checks j) s (f.segments.allowed j le) (f.segments.matrices j) here.major some (plays_here place here j since x s (stands j le))

    module _ (major : is_some u.outer.major ≡ true) where
      begins : (j : ℕ) → j ≤ k → ArePlayable here true (coded_at left.substreams j).force (top_of j u.contents).blocks.items (top_of j u.contents).codes.items
      begins j le =
          let x : Coded = coded_at left.substreams j in
          let s : Segment = top_of j u.contents in
          subst (λ (b : Bool). ArePlayable here b x.force s.blocks.items s.codes.items) major (plays_here place here j since x s (stands j le))

      pub matrix_first : (j : ℕ) → j ≤ k → matrix_in_force (coded_at (after k left u).substreams j).force ≡ matrix_of (first_restart (top_of j u.contents).blocks.items)
      matrix_first j le =
          let x : Coded = coded_at left.substreams j in
          let s : Segment = top_of j u.contents in
          ap matrix_in_force (left_behind j le)
          ∙ matrix_begins here (f.segments.knows j) x.force (f.segments.checks j) s (f.segments.allowed j le) (f.segments.matrices j) (begins j le)

      pub some_first : (j : ℕ) → j ≤ k → is_some (matrix_of (first_restart (top_of j u.contents).blocks.items)) ≡ true
      some_first j le =
          let x : Coded = coded_at left.substreams j in
          let s : Segment = top_of j u.contents in
          some_begins here (f.segments.knows j) x.force (f.segments.checks j) s (f.segments.allowed j le) (f.segments.matrices j) (begins j le)

    pub blocks_there : (j : ℕ) → j ≤ k → 0 < length (top_of j u.contents).blocks.items
    blocks_there j le = some_blocks here (f.segments.knows j) (coded_at left.substreams j).force (f.segments.checks j) (top_of j u.contents) (f.segments.allowed j le)
