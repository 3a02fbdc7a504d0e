-- The segments that are sent stand in a unit as a decoder finds them.
use Rattle.std.proofs.Common.{◌≡◌, ℕ, zero, suc, ◌+◌, ◌-◌, ◌*◌, ◌≤◌, Bool, true, List, [], ◌∷◌, ◌++◌, map, length, take, drop, get_or, Option, Some, None, refl, sym, ap, ◌∙◌, subst, arith}
use Rattle.std.specs.Prelude.{All, IfSome, is_some}
use Rattle.std.proofs.lemmas.Bool.{eqb-true}
use Rattle.std.proofs.lemmas.List.{length-append, get_or-drop}
use Rattle.std.proofs.lemmas.List.Elements.{All-nil, All-cons, All-head, All-append}
use Rattle.mlp_syntax.specs.declared.restart.Restart.{Restart}
use Rattle.mlp_syntax.specs.declared.segment.BlockHead.{BlockHead}
use Rattle.mlp_syntax.specs.declared.segment.Segment.{Segment}
use Rattle.mlp_layout.specs.Tails.{FoundWhole}
use Rattle.mlp_layout.specs.Contents.{Portion, FoundIn, bits_in, segments, segment_first, no_segments}
use Rattle.mlp_params.specs.declared.state.State.{State}
use Rattle.mlp_unit.specs.AccessUnit.{AccessUnit}
use Rattle.mlp_unit.specs.Shape.{body_place, end_at, end_before}
use Rattle.mlp_substream.specs.declared.known.Place.{Place}
use Rattle.mlp_substream.specs.Segment.{segment, unknown, IsAllowed}
use Rattle.mlp_substream.proofs.KnownLaws.{known_text, known_allowed}
use Rattle.mlp_channels.specs.Channels.{Coded, nothing_coded}
use Rattle.mlp_contents.specs.Known.{first_restart, known}
use Rattle.mlp_contents.specs.Units.{coded_at, is_checked, portion}
use Rattle.mlp_lossless.specs.Chosen.{block_heads}
use Rattle.mlp_lossless.proofs.AsKnown.{IsRestartOf, AreRestarted, EndsAs, IsBegun, as_known}

-- what holds of the segment of substream i: it is allowed where nothing is known of other segments, it begins with this
-- restart or with none, and it has so many frames and this terminator
pub record Stands (place : Place) (restarts : ℕ → Option Restart) (terminator : Option ℕ) (last check i : ℕ) (x : Coded) (s : Segment) : Type 0 where
  pub allowed : IsAllowed (segment place unknown x.force true) s
  pub begun : IsBegun i (restarts i) s.blocks.items
  pub count : length s.codes.items ≡ place.unit_frames
  pub end : s.terminator ≡ terminator
  pub padding : s.padding ≡ 0
  pub heads : map (λ h. (h.frames, h.restart)) s.blocks.items ≡ block_heads (restarts i) place.unit_frames
  pub matrix : IfSome (restarts i) (λ r. IfSome x.force (λ t. r.max_matrix ≡ t.restart.max_matrix))
  pub lossless : i ≡ last → IfSome (restarts i) (λ r. IfSome x.force (λ t. r.lossless ≡ check))

-- .. of each substream from one on
unfoldable pub AllStand : Place → (ℕ → Option Restart) → Option ℕ → ℕ → ℕ → ℕ → List Coded → List Segment → Type 0
AllStand place restarts terminator last check i [] [] = Unit {0}
AllStand place restarts terminator last check i [] (s ∷ ss) = ⊥
AllStand place restarts terminator last check i (x ∷ xs) [] = ⊥
AllStand place restarts terminator last check i (x ∷ xs) (s ∷ ss) = Stands place restarts terminator last check i x s × AllStand place restarts terminator last check (suc i) xs ss

-- ---- the segments before one

restarted_more : (k : ℕ) (before : List Segment) (s : Segment) (r : Restart) → AreRestarted k before → first_restart s.blocks.items ≡ Some r → IsRestartOf (k + length before) r → AreRestarted k (before ++ s ∷ [])
unfolding AreRestarted
restarted_more k [] s r h e is = let z : k + 0 ≡ k = omega arith in ((r, e, subst (λ (n : ℕ). IsRestartOf n r) z is), tt)
restarted_more k (b ∷ before) s r h e is = let z : k + suc (length before) ≡ suc k + length before = omega arith in (h.0, restarted_more (suc k) before s r h.1 e (subst (λ (n : ℕ). IsRestartOf n r) z is))

begun_first : (i : ℕ) (o : Option Restart) (hs : List BlockHead) → IsBegun i o hs → first_restart hs ≡ o
begun_first i o hs b = ap first_restart b.heads ∙ b.restart

abbrev Alike : ℕ → Option ℕ → Segment → Type 0
Alike n terminator s = (length s.codes.items ≡ n) × (s.terminator ≡ terminator)

ends_as : (n : ℕ) (terminator : Option ℕ) (before : List Segment) (s : Segment) → All (Alike n terminator) before → Alike n terminator s → EndsAs before s
unfolding EndsAs
ends_as n terminator [] s all h = tt
ends_as n terminator (first ∷ before) s all h = let f = All-head (Alike n terminator) first before all in (h.0 ∙ sym f.0, h.1 ∙ sym f.1)

-- ---- all of them

module _ (last : ℕ) (place : Place) (all : List Coded) (check : ℕ) (o : AccessUnit) (restarts : ℕ → Option Restart) (terminator : Option ℕ) (text : List Bool) where
  abbrev p : List Segment → Portion Segment
  p = portion last place all check o

  -- the bits of the segment of substream i
  abbrev pub HasBits : ℕ → Segment → Type 0
  HasBits i s =
      take (16 * (end_at o.entries i - end_before o.entries i)) (drop (8 * (body_place o + 2 * end_before o.entries i)) text)
      ≡ (segment place unknown (coded_at all i).force true).spelling s

  -- .. of each from one on
  unfoldable pub AllHaveBits : ℕ → List Segment → Type 0
  AllHaveBits i [] = Unit {0}
  AllHaveBits i (s ∷ ss) = HasBits i s × (is_checked o.entries i ≡ true) × AllHaveBits (suc i) ss

  record Before (i : ℕ) (before : List Segment) : Type 0 where
    count : length before ≡ i
    restarted : is_some (restarts 0) ≡ true → AreRestarted 0 before
    alike : All (Alike place.unit_frames terminator) before

  module _ (same : (i k : ℕ) → is_some (restarts i) ≡ is_some (restarts k)) where
    one : (i : ℕ) (before : List Segment) (x : Coded) (s : Segment) → i ≤ 2 → Before i before → coded_at all i ≡ x → Stands place restarts terminator last check i x s → HasBits i s → is_checked o.entries i ≡ true
        → FoundWhole (p before).text (bits_in (p before) text) s
    unfolding portion
    one i before x s few b at h bits checked =
        let n : length before ≡ i = b.count in
        let force : Option State = (coded_at all i).force in
        let f : force ≡ x.force = ap (λ (y : Coded). y.force) at in
        let allowed = subst (λ (g : Option State). IsAllowed (segment place unknown g true) s) (sym f) h.allowed in
        let is = as_known place last i check force before s (restarts i) few n h.begun
        (λ e. b.restarted (same 0 i ∙ e))
        (subst (λ (g : Option State). IfSome (restarts i) (λ q. IfSome g (λ t. q.max_matrix ≡ t.restart.max_matrix))) (sym f) h.matrix)
        (λ e. subst (λ (g : Option State). IfSome (restarts i) (λ q. IfSome g (λ t. q.lossless ≡ check))) (sym f) (h.lossless (sym n ∙ eqb-true (length before) last e)))
        (ends_as place.unit_frames terminator before s b.alike (h.count, h.end)) h.count in
        let known_so = (known_allowed place (known last force check before) force true s).1 (allowed, is) in
        let spelled = bits ∙ sym (known_text place (known last force check before) force true s) in
        let found : FoundWhole (segment place (known last force check before) force true)
        (take (16 * (end_at o.entries i - end_before o.entries i)) (drop (8 * (body_place o + 2 * end_before o.entries i)) text)) s =
        record { fits = known_so.fits; meets = known_so.meets; text_is = spelled } in
        let with_check : FoundWhole (segment place (known last force check before) force (is_checked o.entries i)) (take (16 * (end_at o.entries i - end_before o.entries i)) (drop (8 * (body_place o + 2 * end_before o.entries i)) text)) s =
        subst (λ (t : Bool). FoundWhole (segment place (known last force check before) force t)
        (take (16 * (end_at o.entries i - end_before o.entries i)) (drop (8 * (body_place o + 2 * end_before o.entries i)) text)) s) (sym checked) found in
        subst (λ (m : ℕ). FoundWhole (segment place (known last (coded_at all m).force check before) (coded_at all m).force (is_checked o.entries m))
        (take (16 * (end_at o.entries m - end_before o.entries m)) (drop (8 * (body_place o + 2 * end_before o.entries m)) text)) s) (sym n) with_check

    before_more : (i : ℕ) (before : List Segment) (x : Coded) (s : Segment) → Before i before → Stands place restarts terminator last check i x s → Before (suc i) (before ++ s ∷ [])
    before_more i before x s b h = record {
      count = (let n = length-append before (s ∷ []) in omega (arith, n, b.count));
      restarted = λ e. by_restart (restarts i) refl (same i 0 ∙ e);
      alike = All-append (Alike place.unit_frames terminator) before (s ∷ []) b.alike (All-cons (Alike place.unit_frames terminator) s [] (h.count, h.end) (All-nil (Alike place.unit_frames terminator)));
    }
      where
        by_restart : (r : Option Restart) → restarts i ≡ r → is_some (restarts i) ≡ true → AreRestarted 0 (before ++ s ∷ [])
        by_restart None e some = absurd (let t : is_some {T = Restart} None ≡ true = ap (λ (q : Option Restart). is_some q) (sym e) ∙ some in cc)
        by_restart (Some r) e some =
            let of = subst (λ (q : Option Restart). IfSome q (IsRestartOf i)) e h.begun.of in
            let at : i ≡ 0 + length before = omega (arith, b.count) in
            restarted_more 0 before s r (b.restarted (same 0 i ∙ some)) (begun_first i (restarts i) s.blocks.items h.begun ∙ e) (subst (λ (n : ℕ). IsRestartOf n r) at of)

    found_from : (i : ℕ) (before : List Segment) (xs : List Coded) (ss : List Segment) → i + length ss ≤ 3 → Before i before → drop i all ≡ xs → AllStand place restarts terminator last check i xs ss → AllHaveBits i ss
        → FoundIn (segments (portion last place all check o) (length ss) before) text ss
    unfolding segments segment_first no_segments AllStand AllHaveBits
    found_from i before [] [] few b at h bits = record { fits = refl; meets = tt }
    found_from i before [] (s ∷ ss) few b at h bits = absurd h
    found_from i before (x ∷ xs) [] few b at h bits = absurd h
    found_from i before (x ∷ xs) (s ∷ ss) few b at h bits =
        let here : coded_at all i ≡ x =
        (let z : i + 0 ≡ i = omega arith in ap (λ (m : ℕ). get_or all m nothing_coded) (sym z)) ∙ sym (get_or-drop i all 0 nothing_coded) ∙ ap (λ (ys : List Coded). get_or ys 0 nothing_coded) at in
        let first = one i before x s (omega (arith, few)) b here h.0 bits.0 bits.1 in
        let next : drop (suc i) all ≡ xs = drop_next all i x xs at in
        let rest = found_from (suc i) (before ++ s ∷ []) xs ss (omega (arith, few)) (before_more i before x s b h.0) next h.1 bits.2 in
        record { fits = ((first.fits, first.text_is), rest.fits); meets = (first.meets, rest.meets) }
      where
        drop_next : (all : List Coded) (i : ℕ) (x : Coded) (xs : List Coded) → drop i all ≡ x ∷ xs → drop (suc i) all ≡ xs
        drop_next [] zero x xs e = absurd cc
        drop_next [] (suc i) x xs e = absurd cc
        drop_next (y ∷ all) zero x xs e = ap (drop 1) e
        drop_next (y ∷ all) (suc i) x xs e = drop_next all i x xs e

  -- the segments of the substreams from the first on
  pub found_all : (xs : List Coded) (ss : List Segment) → length ss ≤ 3 → all ≡ xs → ((i k : ℕ) → is_some (restarts i) ≡ is_some (restarts k)) → AllStand place restarts terminator last check 0 xs ss → AllHaveBits 0 ss
      → FoundIn (segments (portion last place all check o) (length ss) []) text ss
  unfolding AreRestarted
  found_all xs ss few at same h bits = found_from same 0 [] xs ss (omega (arith, few)) (record { count = refl; restarted = λ e. tt; alike = All-nil (Alike place.unit_frames terminator) }) at h bits
