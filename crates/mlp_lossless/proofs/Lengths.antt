-- A unit that is sent can be written, and is not too long.
use Rattle.std.proofs.Common.{◌≡◌, ℕ, suc, ◌+◌, ◌*◌, ◌/◌, ◌%◌, ◌≤◌, Bool, true, false, List, [], ◌∷◌, ◌++◌, length, Option, refl, sym, ap, subst, arith}
use Rattle.std.proofs.lemmas.List.{length-append}
use Rattle.mlp_params.specs.declared.state.State.{State}
use Rattle.mlp_predict.specs.Prediction.{Past}
use Rattle.mlp_substream.specs.declared.known.Place.{Place}
use Rattle.mlp_substream.specs.Checks.{bytes_of}
use Rattle.mlp_substream.specs.Segment.{segment, unknown}
use Rattle.mlp_unit.specs.Directory.{directory_size}
use Rattle.mlp_unit.specs.AccessUnit.{major_size}
use Rattle.mlp_unit.specs.Written.{Writable, unit_size}
use Rattle.mlp_fifo.specs.Pace.{unit_of, single_most}
use Rattle.mlp_fold.specs.declared.profile.Profile.{Profile}
use Rattle.mlp_fold.specs.declared.coding.CodedFrame.{CodedFrame}
use Rattle.mlp_fold.specs.Substreams.{substreams_of}
use Rattle.mlp_encode.specs.Numbers.{has_sync}
use Rattle.mlp_encode.specs.Blocks.{SentSegment}
use Rattle.mlp_encode.specs.Lawful.{AreWords, segment_most, segments_to, segments_most}
use Rattle.mlp_encode.specs.Unit.{SentUnit, restart_in, segments_from, segments_bytes, entries_from, joined}
use Rattle.mlp_encode.proofs.SyncAllowed.{Passes, substreams_few}
use Rattle.mlp_encode.proofs.UnitAllowed.{major_at, writable}
use Rattle.mlp_encode.proofs.UnitLengths.{segments_fit, segments_single}
use Rattle.mlp_encode.proofs.UnitMade.{sync_size}
use Rattle.mlp_lossless.proofs.Parts.{bytes_count, words, words_long}
use Rattle.mlp_lossless.proofs.Units.{AllCan, place, unit_is}

-- ---- sums

one_more : (to most bytes bits half rest top : ℕ) → bytes ≡ 2 * half → bits ≡ 8 * (2 * half) → bits ≤ 8 * most → to + most + rest ≤ top → to + (bytes + rest) ≤ top
one_more to most bytes bits half rest top a b c d = omega (arith, a, b, c, d)

at_most : (body most : ℕ) → 0 + body ≤ most → most ≤ 8152 → body ≤ 8152
at_most body most a b = omega (arith, a, b)

with_single : (major entries body count most single : ℕ) → major ≤ 28 → entries ≡ 2 * count → 0 + body ≤ most → 32 + 2 * count + most ≤ single → 4 + major + entries + body ≤ single
with_single major entries body count most single a b c d = omega (arith, a, b, c, d)

with_head : (major entries body count : ℕ) → major ≤ 28 → entries ≡ 2 * count → count ≤ 3 → body ≤ 8152 → 4 + major + entries + body ≤ 8190
with_head major entries body count a b c d = omega (arith, a, b, c, d)

all_even : (major entries body count : ℕ) → major % 2 ≡ 0 → entries ≡ 2 * count → body % 2 ≡ 0 → 2 * ((4 + major + entries + body) / 2) ≡ 4 + major + entries + body
all_even major entries body count a b c = omega (arith, a, b, c)

-- ---- the bytes of the segments from substream i on

module _ (p : Profile) (n : ℕ) (checks : List ℕ) (coded : List CodedFrame) (terminator : Option ℕ) where
  abbrev here : Place
  here = place p n checks coded terminator

  -- they are whole words, and no more than each may have
  pub record IsShort (i count : ℕ) (bs : List (List ℕ)) : Type 0 where
    pub count_is : length bs ≡ count
    pub words_are : AreWords bs
    pub few : segments_to p i + length (joined bs) ≤ segments_to p (i + count)

  pub is_short : (i : ℕ) (fs : List (Option State)) (pasts : List Past) → AllCan p n checks coded terminator i fs pasts
      → IsShort i (length fs) (segments_bytes (place p n checks coded terminator) fs (segments_from p (restart_in p n checks) coded terminator i fs pasts).segments)
  unfolding AllCan
  is_short i [] pasts can = record { count_is = refl; words_are = tt; few = let z : i + 0 ≡ i = omega arith in subst (λ (m : ℕ). segments_to p i + 0 ≤ segments_to p m) (sym z) (omega arith) }
  is_short i (f ∷ fs) pasts can =
      let s : SentSegment = can.0 in
      let rest = is_short (suc i) fs s.behind.pasts can.2 in
      let later : SentUnit = segments_from p (restart_in p n checks) coded terminator (suc i) fs s.behind.pasts in
      let text : List Bool = (segment here unknown f true).spelling s.segment in
      let half : ℕ = words here unknown f s.segment can.1.allowed.fits in
      let long : length text ≡ 8 * (2 * half) = words_long here unknown f s.segment can.1.allowed.fits in
      let some : length (bytes_of text) ≡ 2 * half = bytes_count (2 * half) text long in
      let short : length text ≤ 8 * segment_most p i = can.1.short in
      let more : List ℕ = joined (segments_bytes here fs later.segments) in
      let sum = one_more (segments_to p i) (segment_most p i) (length (bytes_of text)) (length text) half (length more) (segments_to p (suc i + length fs)) some long short rest.few in
      let next : suc i + length fs ≡ i + suc (length fs) = omega arith in
      subst (λ (u : SentUnit). IsShort i (suc (length fs)) (segments_bytes (place p n checks coded terminator) (f ∷ fs) u.segments)) (sym (unit_is p n checks coded terminator i f fs pasts s can.1.sent))
      (record {
        count_is = ap suc rest.count_is;
        words_are = (omega (arith, some), rest.words_are);
        few =
            subst (λ (m : ℕ). segments_to p i + length (bytes_of text ++ more) ≤ segments_to p m) next
            (subst (λ (m : ℕ). segments_to p i + m ≤ segments_to p (suc i + length fs)) (sym (length-append (bytes_of text) more)) sum);
      })

-- ---- the unit

entries_size : (sync : Bool) (start : ℕ) (bs : List (List ℕ)) → directory_size (entries_from sync start bs) ≡ 2 * length bs
entries_size sync start [] = refl
entries_size sync start (b ∷ bs) = let rest = entries_size sync (start + length b / 2) bs in omega (arith, rest)

sync_even : (p : Profile) (sync : Bool) → major_size (major_at p sync) % 2 ≡ 0
sync_even p true = omega arith
sync_even p false = omega arith

-- these parts of a unit can be written, and have a place in it
pub record FitsUnit (p : Profile) (sync : Bool) (bs : List (List ℕ)) : Type 0 where
  pub parts : Writable (major_at p sync) (entries_from sync 0 bs) (joined bs)
  pub small : unit_size (major_at p sync) (entries_from sync 0 bs) (joined bs) ≤ 8190
  pub even : 2 * (unit_size (major_at p sync) (entries_from sync 0 bs) (joined bs) / 2) ≡ unit_size (major_at p sync) (entries_from sync 0 bs) (joined bs)
  pub single : unit_of p.rate ≡ 40 → unit_size (major_at p sync) (entries_from sync 0 bs) (joined bs) ≤ single_most p.kind

pub fits_unit : (p : Profile) → Passes p → (n : ℕ) (checks : List ℕ) (coded : List CodedFrame) (terminator : Option ℕ) (bs : List (List ℕ)) → IsShort p n checks coded terminator 0 (substreams_of p.channels) bs → FitsUnit p (has_sync n) bs
fits_unit p h n checks coded terminator bs is =
    let count : length bs ≤ 3 = subst (λ (m : ℕ). m ≤ 3) (sym is.count_is) (substreams_few p.channels) in
    let first : 0 + substreams_of p.channels ≡ substreams_of p.channels = omega arith in
    let few = subst (λ (m : ℕ). 0 + length (joined bs) ≤ segments_to p m) first is.few in
    let body = at_most (length (joined bs)) (segments_most p) few (segments_fit p h) in
    let parts = writable p (has_sync n) bs h is.count_is is.words_are (omega (arith, body)) in
    record {
      parts = parts;
      small = with_head (major_size (major_at p (has_sync n))) (directory_size (entries_from (has_sync n) 0 bs)) (length (joined bs)) (length bs) (sync_size p (has_sync n)) (entries_size (has_sync n) 0 bs) count body;
      even = all_even (major_size (major_at p (has_sync n))) (directory_size (entries_from (has_sync n) 0 bs)) (length (joined bs)) (length bs) (sync_even p (has_sync n)) (entries_size (has_sync n) 0 bs) parts.whole_words;
      single = λ unit.
          with_single (major_size (major_at p (has_sync n))) (directory_size (entries_from (has_sync n) 0 bs)) (length (joined bs)) (length bs) (segments_most p) (single_most p.kind)
          (sync_size p (has_sync n)) (entries_size (has_sync n) 0 bs) few
          (subst (λ (m : ℕ). 32 + 2 * m + segments_most p ≤ single_most p.kind) (sym is.count_is) (segments_single p h unit));
    }
