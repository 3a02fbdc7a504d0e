-- What a unit that meets the rules gives: a segment for each substream, each allowed, with as many frames as the first.
use Rattle.std.proofs.Common.{◌≡◌, ℕ, zero, suc, ◌+◌, ◌<◌, ◌≤◌, Bool, eqb, List, [], ◌∷◌, ◌++◌, length, take, get_or, refl, sym, ap, subst, arith, append_assoc}
use Rattle.std.specs.Prelude.{IsTrue, is_some, option_map, ◌||◌}
use Rattle.std.proofs.lemmas.Bool.{and_parts, eqb-true}
use Rattle.std.proofs.lemmas.List.{append-nil, length-take-le}
use Rattle.mlp_syntax.specs.declared.segment.Segment.{Segment}
use Rattle.mlp_layout.specs.Contents.{Portion, FoundIn, segments, segment_first, no_segments}
use Rattle.mlp_unit.specs.AccessUnit.{AccessUnit}
use Rattle.mlp_substream.specs.declared.known.Place.{Place}
use Rattle.mlp_substream.specs.declared.known.Known.{Known}
use Rattle.mlp_substream.specs.Segment.{segment, frames_fit, IsAllowed}
use Rattle.mlp_substream.proofs.KnownLaws.{known_allowed}
use Rattle.mlp_channels.specs.Channels.{Coded}
use Rattle.mlp_output.specs.Output.{folded}
use Rattle.mlp_contents.specs.Known.{ending_of, known}
use Rattle.mlp_contents.specs.Units.{Left, Unit_of, coded_at, place_of, is_checked, portion, no_segment, top_of, whole}

-- ---- segments in turn

module _ (p : List Segment → Portion Segment) (text : List Bool) where
  each_count : (n : ℕ) (before ss : List Segment) → (segments p n before).Fits text ss → length ss ≡ n
  unfolding segments segment_first no_segments
  each_count zero before ss fits = ap (λ (xs : List Segment). length xs) fits
  each_count (suc n) before [] fits = absurd fits
  each_count (suc n) before (s ∷ ss) fits = ap suc (each_count n (before ++ s ∷ []) ss fits.1)

  each_allowed : (n : ℕ) (before ss : List Segment) → (segments p n before).Fits text ss → (segments p n before).Meets ss → (j : ℕ) (d : Segment) → j < n
      → IsAllowed (p (before ++ take j ss)).text (get_or ss j d)
  unfolding segments segment_first no_segments
  each_allowed zero before ss fits meets j d lt = absurd (omega arith)
  each_allowed (suc n) before [] fits meets j d lt = absurd fits
  each_allowed (suc n) before (s ∷ ss) fits meets zero d lt =
      subst (λ (b : List Segment). IsAllowed (p b).text s) (sym (append-nil before)) (record { fits = fits.0.0; meets = meets.0 })
  each_allowed (suc n) before (s ∷ ss) fits meets (suc j) d lt =
      subst (λ (b : List Segment). IsAllowed (p b).text (get_or ss j d)) (append_assoc before (s ∷ []) (take j ss))
      (each_allowed n (before ++ s ∷ []) ss fits.1 meets.1 j d (omega arith))

-- ---- the segments of a unit

module _ (k : ℕ) (place : Place) (xs : List Coded) (check : ℕ) (o : AccessUnit) where
  segment_at : (j n : ℕ) (before : List Segment) (s : Segment) → length before ≡ n → IsAllowed (portion k place xs check o before).text s
      → IsAllowed (segment place (known k (coded_at xs n).force check before) (coded_at xs n).force (is_checked o.entries n)) s
  unfolding portion
  segment_at j n before s e a = subst (λ (m : ℕ). IsAllowed (segment place (known k (coded_at xs m).force check before) (coded_at xs m).force (is_checked o.entries m)) s) e a

-- as many frames as the first segment
same_frames : (before : List Segment) (first s : Segment) (n : ℕ) → IsTrue (frames_fit (ending_of (first ∷ before)) n s) → length s.codes.items ≡ length first.codes.items
same_frames before first s n h = eqb-true (length s.codes.items) (length first.codes.items) (and_parts (eqb (length s.codes.items) n || is_some s.terminator) (eqb (length s.codes.items) (length first.codes.items)) h).1

pub record HasSegments (k : ℕ) (place : Place) (xs : List Coded) (ss : List Segment) : Type 0 where
  pub count : length ss ≡ k + 1
  pub knows : ℕ → Known
  pub checks : ℕ → Bool
  pub allowed : (j : ℕ) → j ≤ k → IsAllowed (segment place (knows j) (coded_at xs j).force (checks j)) (top_of j ss)
  pub frames : (j : ℕ) → j ≤ k → length (top_of j ss).codes.items ≡ length (top_of 0 ss).codes.items
  pub matrices : (j : ℕ) → (knows j).max_matrix ≡ option_map (λ s. s.restart.max_matrix) (coded_at xs j).force

module _ (k : ℕ) (left : Left) (u : Unit_of) (text : List Bool) (found : FoundIn ((whole k).contents left u.outer) text u.contents) where
  abbrev place : Place
  place = place_of left u.outer

  abbrev portions : List Segment → Portion Segment
  portions = portion k place left.substreams (folded left.check) u.outer

  pub unit_count : length u.contents ≡ k + 1
  unit_count = each_count portions text (k + 1) [] u.contents found.fits

  abbrev known_at : ℕ → Known
  known_at j = known k (coded_at left.substreams j).force (folded left.check) (take j u.contents)

  pub unit_allowed : (j : ℕ) → j ≤ k → IsAllowed (segment place (known_at j) (coded_at left.substreams j).force (is_checked u.outer.entries j)) (top_of j u.contents)
  unit_allowed j le =
      let there : length (take j u.contents) ≡ j = length-take-le j u.contents (omega (arith, unit_count)) in
      segment_at k place left.substreams (folded left.check) u.outer j j (take j u.contents) (top_of j u.contents) there
      (each_allowed portions text (k + 1) [] u.contents found.fits found.meets j no_segment (omega arith))

  unit_frames : (ss : List Segment) → u.contents ≡ ss → (j : ℕ) → j ≤ k → length (top_of j ss).codes.items ≡ length (top_of 0 ss).codes.items
  unit_frames ss e zero le = refl
  unit_frames [] e (suc j) le = refl
  unit_frames (first ∷ ss) e (suc j) le =
      let a = (known_allowed place (known_at (suc j)) (coded_at left.substreams (suc j)).force (is_checked u.outer.entries (suc j)) (top_of (suc j) u.contents)).0 (unit_allowed (suc j) le) in
      let fit : IsTrue (frames_fit (ending_of (take (suc j) u.contents)) place.unit_frames (top_of (suc j) u.contents)) = a.1.frames in
      same_frames (take j ss) first (top_of (suc j) (first ∷ ss)) place.unit_frames
      (subst (λ (xs : List Segment). IsTrue (frames_fit (ending_of (take (suc j) xs)) place.unit_frames (top_of (suc j) xs))) e fit)

  pub unit_segments : HasSegments k place left.substreams u.contents
  unit_segments = record {
    count = unit_count;
    knows = known_at;
    checks = is_checked u.outer.entries;
    allowed = unit_allowed;
    frames = unit_frames u.contents refl;
    matrices = λ j. refl;
  }
