-- The bits of the segments in a unit that is sent.
use Rattle.std.proofs.Common.{◌≡◌, ℕ, zero, suc, ◌+◌, ◌-◌, ◌*◌, ◌<◌, ◌≤◌, Bool, true, false, List, [], ◌∷◌, length, take, drop, get_or, Option, None, refl, sym, ap, ◌∙◌, subst, arith}
use Rattle.std.specs.Prelude.{All}
use Rattle.std.proofs.lemmas.List.Elements.{All-nil, All-cons, All-append}
use Rattle.mlp_syntax.specs.declared.major.MajorSync.{MajorSync}
use Rattle.mlp_syntax.specs.declared.restart.Restart.{Restart}
use Rattle.mlp_syntax.specs.declared.unit.DirEntry.{DirEntry}
use Rattle.mlp_syntax.specs.declared.segment.Segment.{Segment}
use Rattle.mlp_bits.specs.Bits.{bits_of}
use Rattle.mlp_params.specs.declared.state.State.{State}
use Rattle.mlp_predict.specs.Prediction.{Past}
use Rattle.mlp_substream.specs.declared.known.Place.{Place}
use Rattle.mlp_substream.specs.Checks.{bytes_of}
use Rattle.mlp_substream.specs.Segment.{segment, unknown}
use Rattle.mlp_unit.specs.Laws.{AreBytes}
use Rattle.mlp_unit.specs.AccessUnit.{AccessUnit, access_unit}
use Rattle.mlp_unit.specs.Shape.{body_place, end_at, end_before}
use Rattle.mlp_channels.specs.Channels.{Coded}
use Rattle.mlp_contents.specs.Units.{coded_at, no_segment, is_checked}
use Rattle.mlp_fold.specs.declared.profile.Profile.{Profile}
use Rattle.mlp_fold.specs.declared.coding.CodedFrame.{CodedFrame}
use Rattle.mlp_encode.specs.Blocks.{SentSegment}
use Rattle.mlp_encode.specs.Unit.{SentUnit, restart_in, segments_from, segments_bytes, entries_from, joined}
use Rattle.mlp_samples.proofs.WholeBytes.{bits_again, bytes_are}
use Rattle.mlp_lossless.proofs.Parts.{IsEven, bytes_count, words, words_long, is_part}
use Rattle.mlp_lossless.proofs.Units.{AllCan, place, unit_is}
use Rattle.mlp_lossless.proofs.Found.{AllHaveBits}
use Rattle.mlp_unit.proofs.BodyBits.{body_bits}
use Rattle.mlp_lossless.proofs.Outer.{checked_all}

-- ---- bytes of bits

abbrev IsByte : ℕ → Type 0
IsByte b = b < 256

-- ---- the bytes of all segments

module _ (p : Profile) (n : ℕ) (checks : List ℕ) (coded : List CodedFrame) (terminator : Option ℕ) where
  abbrev here : Place
  here = place p n checks coded terminator

  abbrev unit_from : ℕ → List (Option State) → List Past → SentUnit
  unit_from i fs pasts = segments_from p (restart_in p n checks) coded terminator i fs pasts

  -- as many as substreams, whole words, and each those of its segment
  pub record HasBytes (fs : List (Option State)) (segments : List Segment) (bs : List (List ℕ)) : Type 0 where
    pub count : length segments ≡ length fs
    pub bytes_count : length bs ≡ length fs
    pub even : All IsEven bs
    pub small : AreBytes (joined bs)
    pub each : (k : ℕ) → k < length fs → bits_of (get_or bs k []) ≡ (segment (place p n checks coded terminator) unknown (get_or fs k None) true).spelling (get_or segments k no_segment)

  pub has_bytes : (i : ℕ) (fs : List (Option State)) (pasts : List Past) → AllCan p n checks coded terminator i fs pasts → HasBytes fs (segments_from p (restart_in p n checks) coded terminator i fs pasts).segments
      (segments_bytes (place p n checks coded terminator) fs (segments_from p (restart_in p n checks) coded terminator i fs pasts).segments)
  unfolding AllCan
  has_bytes i [] pasts can = record { count = refl; bytes_count = refl; even = All-nil IsEven; small = All-nil IsByte; each = λ k lt. absurd (omega (arith, lt)) }
  has_bytes i (f ∷ fs) pasts can =
      let s : SentSegment = can.0 in
      let rest = has_bytes (suc i) fs s.behind.pasts can.2 in
      let later : SentUnit = unit_from (suc i) fs s.behind.pasts in
      let text : List Bool = (segment here unknown f true).spelling s.segment in
      let long : length text ≡ 8 * (2 * words here unknown f s.segment can.1.allowed.fits) = words_long here unknown f s.segment can.1.allowed.fits in
      let some = bytes_count (2 * words here unknown f s.segment can.1.allowed.fits) text long in
      subst (λ (u : SentUnit). HasBytes (f ∷ fs) u.segments (segments_bytes (place p n checks coded terminator) (f ∷ fs) u.segments)) (sym (unit_is p n checks coded terminator i f fs pasts s can.1.sent))
      (record {
        count = ap suc rest.count;
        bytes_count = ap suc rest.bytes_count;
        even = All-cons IsEven (bytes_of text) (segments_bytes here fs later.segments) (omega (arith, some)) rest.even;
        small = All-append IsByte (bytes_of text) (joined (segments_bytes here fs later.segments)) (bytes_are text) rest.small;
        each = λ k lt. each_of f fs s.segment later.segments (bytes_of text) (segments_bytes here fs later.segments) k lt (bits_again (2 * words here unknown f s.segment can.1.allowed.fits) text long) rest.each;
      })
    where
      each_of : (f : Option State) (fs : List (Option State)) (s : Segment) (ss : List Segment) (b : List ℕ) (bs : List (List ℕ)) (k : ℕ) → k < length (f ∷ fs)
          → bits_of b ≡ (segment (place p n checks coded terminator) unknown f true).spelling s
          → ((k : ℕ) → k < length fs → bits_of (get_or bs k []) ≡ (segment (place p n checks coded terminator) unknown (get_or fs k None) true).spelling (get_or ss k no_segment))
          → bits_of (get_or (b ∷ bs) k []) ≡ (segment (place p n checks coded terminator) unknown (get_or (f ∷ fs) k None) true).spelling (get_or (s ∷ ss) k no_segment)
      each_of f fs s ss b bs zero lt first more = first
      each_of f fs s ss b bs (suc k) lt first more = more k (omega arith)

-- ---- they stand where the entries say

module _ (last : ℕ) (here : Place) (all : List Coded) (check : ℕ) (o : AccessUnit) (restarts : ℕ → Option Restart) (terminator : Option ℕ) (first : Option MajorSync) (fits : (access_unit first).Fits o)
    (sync : Bool) (bs : List (List ℕ)) (entries : o.entries ≡ entries_from sync 0 bs) (body : o.body ≡ joined bs) (even : All IsEven bs) where
  abbrev text : List Bool
  text = (access_unit first).spelling o

  at_ends : (k : ℕ) → k < length bs → take (16 * (end_at o.entries k - end_before o.entries k)) (drop (8 * (body_place o + 2 * end_before o.entries k)) text) ≡ bits_of (get_or bs k [])
  at_ends k lt =
      let es : List DirEntry = entries_from sync 0 bs in
      let part = is_part sync bs k even lt in
      let b : ℕ = 2 * end_before (entries_from sync 0 bs) k in
      let m : ℕ = length (get_or bs k []) in
      let before : 2 * end_before o.entries k ≡ 2 * end_before (entries_from sync 0 bs) k = ap (λ (es : List DirEntry). 2 * end_before es k) entries in
      let size : 16 * (end_at o.entries k - end_before o.entries k) ≡ 8 * length (get_or bs k []) =
      ap (λ (es : List DirEntry). 16 * (end_at es k - end_before es k)) entries ∙ omega (arith, part.size) in
      let long : length o.body ≡ length (joined bs) = ap (λ (xs : List ℕ). length xs) body in
      let within : b + m ≤ length o.body = omega (arith, part.size, part.rises, part.within, long) in
      ap (λ (x : ℕ). take x (drop (8 * (body_place o + 2 * end_before o.entries k)) text)) size
      ∙ ap (λ (x : ℕ). take (8 * m) (drop (8 * (body_place o + x)) text)) before
      ∙ body_bits first o fits b m within
      ∙ ap (λ (xs : List ℕ). bits_of (take m (drop b xs))) body
      ∙ ap bits_of part.bytes

  checked_there : (k : ℕ) → k < length bs → is_checked o.entries k ≡ true
  checked_there k lt = ap (λ (es : List DirEntry). is_checked es k) entries ∙ checked_all sync 0 bs k (record { extra = None; restart_absent = false; checked = false; reserved = false; end = 0 }) lt

  pub all_bits : (i : ℕ) (ss : List Segment) → i + length ss ≤ length bs
      → ((k : ℕ) → k < length ss → bits_of (get_or bs (i + k) []) ≡ (segment here unknown (coded_at all (i + k)).force true).spelling (get_or ss k no_segment))
      → AllHaveBits last here all check o restarts terminator ((access_unit first).spelling o) i ss
  unfolding AllHaveBits
  all_bits i [] le each = tt
  all_bits i (s ∷ ss) le each =
      let z : i + 0 ≡ i = omega arith in
      let here_is = subst (λ (m : ℕ). bits_of (get_or bs m []) ≡ (segment here unknown (coded_at all m).force true).spelling s) z (each 0 (omega arith)) in (
        at_ends i (omega (arith, le)) ∙ here_is,
        checked_there i (omega (arith, le)),
        all_bits (suc i) ss (omega (arith, le))
            (λ k lt. let e : i + suc k ≡ suc i + k = omega arith in subst (λ (m : ℕ). bits_of (get_or bs m []) ≡ (segment here unknown (coded_at all m).force true).spelling (get_or ss k no_segment)) e (each (suc k) (omega arith))),
      )
