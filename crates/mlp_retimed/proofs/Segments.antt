-- The segments of a unit whose restarts get another output timing, behind units whose restarts got others.
use Rattle.std.proofs.Math.Path.{fun_ext}
use Rattle.std.proofs.Common.{◌≡◌, ℕ, zero, suc, ◌+◌, ◌^◌, ◌<◌, ◌≤◌, ◌==◌, ◌||◌, Bool, List, [], ◌∷◌, ◌++◌, length, map, Option, Some, None, IsTrue, refl, sym, ap, subst, ◌∙◌, arith, append_assoc}
use Rattle.std.proofs.lemmas.List.{length-append, length-map, map-append}
use Rattle.std.specs.Prelude.{option_map}
use Rattle.std.specs.List.{list_any, range_with_len}
use Rattle.mlp_syntax.specs.declared.segment.BlockHead.{BlockHead}
use Rattle.mlp_syntax.specs.declared.segment.Segment.{Segment}
use Rattle.mlp_syntax.specs.declared.restart.Restart.{Restart}
use Rattle.mlp_params.specs.declared.state.State.{State}
use Rattle.mlp_residual.specs.Frames.{packed}
use Rattle.mlp_layout.specs.Contents.{FoundIn, segments, segment_first, no_segments}
use Rattle.mlp_unit.specs.AccessUnit.{AccessUnit}
use Rattle.mlp_unit.specs.Written.{written_unit}
use Rattle.mlp_substream.specs.declared.known.Place.{Place}
use Rattle.mlp_substream.specs.declared.known.Known.{Known}
use Rattle.mlp_substream.specs.Segment.{segment, unknown, IsAllowed}
use Rattle.mlp_substream.specs.Timings.{timeless, SameButForTiming, stamp, stamp_head, stamped}
use Rattle.mlp_substream.proofs.RoundTrip.{is_checked as checked_is}
use Rattle.mlp_substream.proofs.KnownLaws.{known_text, known_allowed}
use Rattle.mlp_substream.proofs.FreshLaws.{fresh_allowed, fresh_text}
use Rattle.mlp_substream.proofs.TimingLaws.{timing_allowed, timing_text}
use Rattle.mlp_substream.proofs.StampedLaws.{stamped_allowed}
use Rattle.mlp_channels.specs.Channels.{Coded}
use Rattle.mlp_contents.specs.Known.{ending_of, first_restart, has_channel, covered_by, known_by, known}
use Rattle.mlp_contents.specs.Units.{coded_at, is_checked, portion}
use Rattle.mlp_extracted.proofs.Portions.{bits_at}
use Rattle.mlp_retime.specs.Retimed.{own_text}
use Rattle.mlp_retimed.proofs.Timeless.{same_by}

-- ---- what is known of a segment

known_timeless : (j : ℕ) (f g : Option State) (check : ℕ) (before : List Segment) → SameButForTiming f g → known j f check before ≡ known j g check before
known_timeless j f g check before e = same_by (λ x. known j x check before) (λ s. refl) f g e

module _ (t : ℕ) where
  channel_stamped : (c : ℕ) (hs : List BlockHead) → has_channel c (first_restart hs) ≡ has_channel c (first_restart (map (stamp_head t) hs))
  channel_stamped c [] = refl
  channel_stamped c (h ∷ hs) = go h.restart
    where
      go : (o : Option Restart) → has_channel c o ≡ has_channel c (option_map (stamp t) o)
      go None = refl
      go (Some r) = refl

  any_stamped : (c : ℕ) (ss : List Segment) → list_any (λ s. has_channel c (first_restart s.blocks.items)) ss ≡ list_any (λ s. has_channel c (first_restart s.blocks.items)) (map (stamped t) ss)
  any_stamped c [] = refl
  any_stamped c (s ∷ ss) = let here = channel_stamped c s.blocks.items in let more = any_stamped c ss in λ i. here i || more i

  covered_stamped : (ss : List Segment) → covered_by ss ≡ covered_by (map (stamped t) ss)
  covered_stamped ss = ap (λ (F : ℕ → Bool). packed (map F (range_with_len 0 8))) (fun_ext (λ c. any_stamped c ss))

  ending_stamped : (ss : List Segment) → ending_of ss ≡ ending_of (map (stamped t) ss)
  ending_stamped [] = refl
  ending_stamped (s ∷ ss) = refl

  known_stamped : (j : ℕ) (f : Option State) (check : ℕ) (before : List Segment) → known j f check before ≡ known j f check (map (stamped t) before)
  known_stamped j f check before =
      let count = sym (length-map before (stamped t)) in
      λ i. known_by (count i == j) f check (covered_stamped before i) (ending_stamped before i)

-- ---- a segment of a unit with a major sync

-- it is spelled as it is where nothing is known
pub spelled_alone : (place : Place) (known : Known) (force : Option State) (checked : Bool) (s : Segment) → IsTrue place.major → IsAllowed (segment place known force checked) s
    → (segment place known force checked).spelling s ≡ own_text place s
spelled_alone place known force checked s major a =
    let b = ((known_allowed place known force checked s).0 a).0 in
    let d = fresh_allowed place unknown force None checked s major b in
    known_text place known force checked s ∙ sym (fresh_text place unknown force None checked s major b)
    ∙ ap (λ (c : Bool). (segment place unknown None c).spelling s) (sym (checked_is place unknown None checked s d.fits))

module _ (place : Place) (known new : Known) (same_known : known ≡ new) (f g : Option State) (same : SameButForTiming f g) (checked : Bool) (s : Segment) (a : IsAllowed (segment place known f checked) s) where
  timed : IsAllowed (segment place new g checked) s
  timed = subst (λ (k : Known). IsAllowed (segment place k g checked) s) same_known (timing_allowed place known f g same checked s a)

  timed_text : (segment place new g checked).spelling s ≡ (segment place known f checked).spelling s
  timed_text = ap (λ (k : Known). (segment place k g checked).spelling s) (sym same_known) ∙ timing_text place known f g same checked s

  module _ (t : ℕ) (small : t < 2 ^ 16) where
    restamped : IsAllowed (segment place new g checked) (stamped t s)
    restamped =
        subst (λ (k : Known). IsAllowed (segment place k g checked) (stamped t s)) same_known
        (timing_allowed place known f g same checked (stamped t s) (stamped_allowed place known f checked s t small a))

-- ---- the segments of a unit, in which another body stands

module _ (j : ℕ) (place : Place) (xs ys : List Coded) (same : (i : ℕ) → SameButForTiming (coded_at xs i).force (coded_at ys i).force) (check : ℕ)
    (o : AccessUnit) (timing : ℕ) (body : List ℕ) (text other : List Bool) where
  abbrev new : AccessUnit
  new = written_unit timing o.major o.entries body

  -- with their own texts
  module _ (stays : (i : ℕ) → i < j + 1 → bits_at new i other ≡ bits_at o i text) where
    pub plain_there : (count : ℕ) (before ss : List Segment) → length before + count ≤ j + 1 → FoundIn (segments (portion j place xs check o) count before) text ss
        → FoundIn (segments (portion j place ys check new) count before) other ss
    unfolding segments segment_first no_segments portion
    plain_there zero before ss le h = record { fits = h.fits; meets = tt }
    plain_there (suc count) before [] le h = absurd h.fits
    plain_there (suc count) before (s ∷ ss) le h =
        let n = length before in
        let f = (coded_at xs n).force in
        let g = (coded_at ys n).force in
        let checked = is_checked o.entries n in
        let a : IsAllowed (segment place (known j f check before) f checked) s = record { fits = h.fits.0.0; meets = h.meets.0 } in
        let is_known = known_timeless j f g check before (same n) in
        let b = timed place (known j f check before) (known j g check before) is_known f g (same n) checked s a in
        let bits = stays n (omega (arith, le)) ∙ h.fits.0.1 ∙ sym (timed_text place (known j f check before) (known j g check before) is_known f g (same n) checked s a) in
        let later = plain_there count (before ++ s ∷ []) ss (omega (arith, le, length-append before (s ∷ []))) (record { fits = h.fits.1; meets = h.meets.1 }) in
        record { fits = ((b.fits, bits), later.fits); meets = (b.meets, later.meets) }

  -- with other output timings in their restarts
  module _ (t : ℕ) (small : t < 2 ^ 16) (major : IsTrue place.major) (all : List Segment)
      (stand : (before : List Segment) (s : Segment) (rest : List Segment) → all ≡ before ++ s ∷ rest → bits_at new (length before) other ≡ own_text place (stamped t s)) where
    pub stamped_there : (count : ℕ) (before ss : List Segment) → all ≡ before ++ ss → FoundIn (segments (portion j place xs check o) count before) text ss
        → FoundIn (segments (portion j place ys check new) count (map (stamped t) before)) other (map (stamped t) ss)
    unfolding segments segment_first no_segments portion
    stamped_there zero before ss e h = record { fits = ap (map (stamped t)) h.fits; meets = tt }
    stamped_there (suc count) before [] e h = absurd h.fits
    stamped_there (suc count) before (s ∷ ss) e h =
        let n = length before in
        let m = length (map (stamped t) before) in
        let long : m ≡ n = length-map before (stamped t) in
        let f = (coded_at xs n).force in
        let g = (coded_at ys m).force in
        let alike : SameButForTiming f g = same n ∙ ap (λ (i : ℕ). option_map timeless (coded_at ys i).force) (sym long) in
        let checked = is_checked o.entries n in
        let here : IsAllowed (segment place (known j f check before) f checked) s = record { fits = h.fits.0.0; meets = h.meets.0 } in
        let is_known = known_timeless j f g check before alike ∙ known_stamped t j g check before in
        let after = known j g check (map (stamped t) before) in
        let b : IsAllowed (segment place after g (is_checked o.entries m)) (stamped t s) =
        subst (λ (i : ℕ). IsAllowed (segment place after g (is_checked o.entries i)) (stamped t s)) (sym long)
        (restamped place (known j f check before) after is_known f g alike checked s here t small) in
        let bits = ap (λ (i : ℕ). bits_at new i other) long ∙ stand before s ss e
        ∙ sym (spelled_alone place after g (is_checked o.entries m) (stamped t s) major b) in
        let more = stamped_there count (before ++ s ∷ []) ss (e ∙ sym (append_assoc before (s ∷ []) ss)) (record { fits = h.fits.1; meets = h.meets.1 }) in
        let later = subst (λ (b : List Segment). FoundIn (segments (portion j place ys check new) count b) other (map (stamped t) ss)) (map-append (stamped t) before (s ∷ [])) more in
        record { fits = ((b.fits, bits), later.fits); meets = (b.meets, later.meets) }
