-- The bytes of the segments in the body of a unit that is sent.
use Rattle.std.proofs.Common.{◌≡◌, ℕ, zero, suc, ◌+◌, ◌-◌, ◌*◌, ◌/◌, ◌%◌, ◌<◌, ◌≤◌, Bool, true, List, [], ◌∷◌, ◌++◌, length, take, drop, get_or, Option, refl, ap, ◌∙◌, arith}
use Rattle.std.specs.Prelude.{All}
use Rattle.std.proofs.Math.Seq.{take-append_seam, drop-append-add}
use Rattle.std.proofs.lemmas.List.{length-append}
use Rattle.std.proofs.lemmas.List.Elements.{All-head, All-tail}
use Rattle.mlp_syntax.specs.declared.unit.DirEntry.{DirEntry}
use Rattle.mlp_syntax.specs.declared.segment.Segment.{Segment}
use Rattle.mlp_bits.specs.Bits.{bits}
use Rattle.mlp_bits.proofs.BitLists.{length-bits}
use Rattle.mlp_layout.specs.Tails.{judged_at_end, whole_text, checked_first, chosen_whole}
use Rattle.mlp_params.specs.declared.state.State.{State}
use Rattle.mlp_substream.specs.declared.known.Place.{Place}
use Rattle.mlp_substream.specs.declared.known.Known.{Known}
use Rattle.mlp_substream.specs.Blocks.{first_context}
use Rattle.mlp_substream.specs.Checks.{bytes_of, parity_of, check_of}
use Rattle.mlp_substream.specs.Segment.{segment, segment_text, segment_tail}
use Rattle.mlp_substream.proofs.WritingEnds.{tail_words, has_tail}
use Rattle.mlp_unit.specs.Shape.{end_at, end_before}
use Rattle.mlp_encode.specs.Unit.{entry_at, entries_from, joined}

-- ---- bytes of whole bytes of bits

pub bytes_count : (n : ℕ) (text : List Bool) → length text ≡ 8 * n → length (bytes_of text) ≡ n
unfolding bytes_of
bytes_count zero [] e = refl
bytes_count zero (a ∷ text) e = absurd (omega (arith, e))
bytes_count (suc n) (a ∷ b ∷ c ∷ d ∷ p ∷ q ∷ r ∷ s ∷ text) e = ap suc (bytes_count n text (omega (arith, e)))
bytes_count (suc n) [] e = absurd (omega (arith, e))
bytes_count (suc n) (a ∷ []) e = absurd (omega (arith, e))
bytes_count (suc n) (a ∷ b ∷ []) e = absurd (omega (arith, e))
bytes_count (suc n) (a ∷ b ∷ c ∷ []) e = absurd (omega (arith, e))
bytes_count (suc n) (a ∷ b ∷ c ∷ d ∷ []) e = absurd (omega (arith, e))
bytes_count (suc n) (a ∷ b ∷ c ∷ d ∷ p ∷ []) e = absurd (omega (arith, e))
bytes_count (suc n) (a ∷ b ∷ c ∷ d ∷ p ∷ q ∷ []) e = absurd (omega (arith, e))
bytes_count (suc n) (a ∷ b ∷ c ∷ d ∷ p ∷ q ∷ r ∷ []) e = absurd (omega (arith, e))

-- ---- a checked segment is whole words

module _ (place : Place) (known : Known) (force : Option State) (s : Segment) (fits : (segment place known force true).Fits s) where
  abbrev tail_text : List Bool
  tail_text = (segment_tail place known (first_context place force) true).spelling 0 s

  -- so many
  pub words : ℕ
  words = length tail_text / 16 + 1

  pub words_long : length ((segment place known force true).spelling s) ≡ 8 * (2 * words)
  unfolding segment chosen_whole checked_first segment_text judged_at_end whole_text words
  words_long =
      let t = tail_words place known (first_context place force) true s (has_tail place known force s true fits) in
      let p = length-bits 8 (parity_of tail_text) in
      let c = length-bits 8 (check_of tail_text) in
      let u = length-append tail_text (bits 8 (parity_of tail_text) ++ bits 8 (check_of tail_text)) in
      let v = length-append (bits 8 (parity_of tail_text)) (bits 8 (check_of tail_text)) in
      omega (arith, t, p, c, u, v)

-- ---- the parts of a body

abbrev pub IsEven : List ℕ → Type 0
IsEven bytes = length bytes % 2 ≡ 0

-- the end before an entry, this one before the first
abbrev end_from : ℕ → List DirEntry → ℕ → ℕ
end_from start es zero = start
end_from start es (suc i) = end_at es i

from_next : (start : ℕ) (e : DirEntry) (es : List DirEntry) (i : ℕ) → end_from start (e ∷ es) (suc i) ≡ end_from e.end es i
from_next start e es zero = refl
from_next start e es (suc i) = refl

from_zero : (es : List DirEntry) (i : ℕ) → end_before es i ≡ end_from 0 es i
from_zero es zero = refl
from_zero es (suc i) = refl

module _ (sync : Bool) where
  record Part (start : ℕ) (bs : List (List ℕ)) (i : ℕ) : Type 0 where
    least : start ≤ end_from start (entries_from sync start bs) i
    size : 2 * (end_at (entries_from sync start bs) i - end_from start (entries_from sync start bs) i) ≡ length (get_or bs i [])
    rises : end_from start (entries_from sync start bs) i ≤ end_at (entries_from sync start bs) i
    within : 2 * (end_at (entries_from sync start bs) i - start) ≤ length (joined bs)
    bytes : take (length (get_or bs i [])) (drop (2 * (end_from start (entries_from sync start bs) i - start)) (joined bs)) ≡ get_or bs i []

  part : (start : ℕ) (bs : List (List ℕ)) (i : ℕ) → All IsEven bs → i < length bs → Part start bs i
  part start [] i even lt = absurd (omega arith)
  part start (b ∷ bs) zero even lt =
      let e = All-head IsEven b bs even in
      let z : 2 * (start - start) ≡ 0 = omega arith in
      record {
        least = omega arith;
        size = omega (arith, e);
        rises = omega (arith, e);
        within = omega (arith, e, length-append b (joined bs));
        bytes = ap (λ (k : ℕ). take (length b) (drop k (b ++ joined bs))) z ∙ take-append_seam b (joined bs);
      }
  part start (b ∷ bs) (suc i) even lt =
      let e = All-head IsEven b bs even in
      let mid : ℕ = start + length b / 2 in
      let later = part (start + length b / 2) bs i (All-tail IsEven b bs even) (omega arith) in
      let es = entries_from sync (start + length b / 2) bs in
      let n : end_from start (entries_from sync start (b ∷ bs)) (suc i) ≡ end_from mid es i = from_next start (entry_at sync (start + length b / 2)) es i in
      let at : 2 * (end_from start (entries_from sync start (b ∷ bs)) (suc i) - start) ≡ length b + 2 * (end_from mid es i - mid) = omega (arith, n, e, later.least) in
      record {
        least = omega (arith, n, e, later.least);
        size = omega (arith, n, later.size);
        rises = omega (arith, n, later.rises);
        within = omega (arith, e, later.within, later.rises, later.least, length-append b (joined bs));
        bytes = ap (λ (k : ℕ). take (length (get_or bs i [])) (drop k (b ++ joined bs))) at
            ∙ ap (take (length (get_or bs i []))) (drop-append-add b (joined bs) (2 * (end_from mid es i - mid)))
            ∙ later.bytes;
      }

  -- the bytes of a segment, between its ends
  pub record IsPart (bs : List (List ℕ)) (i : ℕ) : Type 0 where
    pub size : 2 * (end_at (entries_from sync 0 bs) i - end_before (entries_from sync 0 bs) i) ≡ length (get_or bs i [])
    pub rises : end_before (entries_from sync 0 bs) i ≤ end_at (entries_from sync 0 bs) i
    pub within : 2 * end_at (entries_from sync 0 bs) i ≤ length (joined bs)
    pub bytes : take (length (get_or bs i [])) (drop (2 * end_before (entries_from sync 0 bs) i) (joined bs)) ≡ get_or bs i []

  pub is_part : (bs : List (List ℕ)) (i : ℕ) → All IsEven bs → i < length bs → IsPart bs i
  is_part bs i even lt =
      let p = part 0 bs i even lt in
      let z = from_zero (entries_from sync 0 bs) i in
      let at : 2 * end_before (entries_from sync 0 bs) i ≡ 2 * (end_from 0 (entries_from sync 0 bs) i - 0) = omega (arith, z) in
      record {
        size = omega (arith, z, p.size);
        rises = omega (arith, z, p.rises);
        within = omega (arith, p.within);
        bytes = ap (λ (k : ℕ). take (length (get_or bs i [])) (drop k (joined bs))) at ∙ p.bytes;
      }
