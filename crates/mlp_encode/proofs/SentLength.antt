-- A segment that was made is not too long for its unit.
use Rattle.std.proofs.Common.{◌≡◌, ℕ, suc, ◌+◌, ◌*◌, ◌%◌, ◌<◌, ◌≤◌, Bool, true, false, List, [], ◌∷◌, ◌++◌, take, drop, length, Option, Some, None, refl, sym, ap, subst, ◌∙◌, arith}
use Rattle.std.specs.Prelude.{is_some, Result, Ok, Err, IsErr, OnOk}
use Rattle.std.specs.Option.{IsSomeAnd}
use Rattle.std.proofs.lemmas.List.{length-append}
use Rattle.mlp_bits.specs.Bits.{bits, bits_of, number}
use Rattle.mlp_bits.proofs.ReadBack.{number-of}
use Rattle.mlp_substream.specs.Blocks.{first_context}
use Rattle.mlp_substream.proofs.WritingEnds.{tail_words, has_tail, with_checks, segment_spelling}
use Rattle.mlp_fifo.specs.Pace.{unit_of}
use Rattle.mlp_encode.proofs.SentChannels.{first_last}
use Rattle.mlp_encode.proofs.SentSegments.{unit_least, part_all, part_first, part_later, later_sendable, fresh_sendable, behind_in_force}
use Rattle.mlp_encode.proofs.SentThere.{sent_there}
use Rattle.mlp_encode.proofs.SegmentLengths.{later_bits, restart_bits, bytes_there}
use Rattle.mlp_bits.proofs.BitLists.{bits_of-cons, length-bits, length-bits_of}
use Rattle.mlp_syntax.specs.declared.restart.Restart.{Restart}
use Rattle.mlp_syntax.specs.declared.segment.Segment.{Segment}
use Rattle.mlp_params.specs.declared.state.State.{State}
use Rattle.mlp_predict.specs.Prediction.{Past}
use Rattle.mlp_substream.specs.declared.known.Place.{Place}
use Rattle.mlp_substream.specs.Checks.{parity_of, check_of, bytes_of}
use Rattle.mlp_substream.specs.Segment.{segment_tail, segment, unknown}
use Rattle.mlp_substream.proofs.CheckLaws.{AreBytes, bytes_of-bits}
use Rattle.mlp_fold.specs.declared.profile.Profile.{Profile}
use Rattle.mlp_fold.specs.declared.coding.CodedFrame.{CodedFrame}
use Rattle.mlp_encode.specs.Blocks.{Force, SentBlock, block_sent, restarted, restart_sent, later_sent, segment_sent}
use Rattle.mlp_encode.specs.Lawful.{SendsSegment, IsSentSegment, IsEnd, place_in, segment_size, segment_most}

-- it is whole words
pub whole_words : (place : Place) (force : Option State) (s : Segment) (checked : Bool) → (segment place unknown force checked).Fits s → length ((segment place unknown force checked).spelling s) % 16 ≡ 0
whole_words place force s checked fits = by checked (tail_words place unknown (first_context place force) checked s (has_tail place unknown force s checked fits))
    (ap (λ (t : List Bool). length t) (segment_spelling place unknown force s checked))
  where
    by : (c : Bool) → length ((segment_tail place unknown (first_context place force) checked).spelling 0 s) % 16 ≡ 0
        → length ((segment place unknown force checked).spelling s) ≡ length (with_checks place unknown force s c ((segment_tail place unknown (first_context place force) checked).spelling 0 s))
        → length ((segment place unknown force checked).spelling s) % 16 ≡ 0
    by false words e = omega (arith, words, e)
    by true words e =
        let text = (segment_tail place unknown (first_context place force) checked).spelling 0 s in
        omega (arith, words, e, length-append text (bits 8 (parity_of text) ++ bits 8 (check_of text)), length-append (bits 8 (parity_of text)) (bits 8 (check_of text)), length-bits 8 (parity_of text), length-bits 8 (check_of text))

in_bytes : (n : ℕ) → n % 16 ≡ 0 → n % 8 ≡ 0
in_bytes n e = omega (arith, e)

module _ (j : ℕ) (p : Profile) (pasts : List Past) (frames : List CodedFrame) (t : Option ℕ) (end : IsEnd p t) (made : Segment) (after : Option State) (ps : List Past) where
  bits_there : (o : Option Restart) (state : Option State) → SendsSegment p j o state frames → IsSomeAnd (segment_sent j p o state pasts frames t) (λ s. IsSentSegment s made after ps)
      → length ((segment (place_in p (is_some o)) unknown state made.checked).spelling made) ≤ segment_size p.mix j (unit_of p.rate)
  unfolding restart_sent later_sent
  bits_there None None h m = absurd (let t : false ≡ true = h.there refl in cc)
  bits_there None (Some s) h m =
      let before : Force = record { state = s; pasts = pasts } in
      let h1 = later_sendable p j frames h.which h.shape h.top (part_all p frames h.frames) s h.force in
      let most = later_bits j p h.which frames t h.frames.count (unit_least p.rate) end before h1 in
      let same = ap (λ (x : Segment). length ((segment (place_in p false) unknown (Some s) x.checked).spelling x)) m.segment_is in
      omega (arith, same, most)
  bits_there (Some r) state h m =
      let le = first_last j h.which in
      let begun : Force = restarted j p r pasts in
      let h1 = fresh_sendable p j (take 8 frames) h.which h.shape h.top (part_first p frames h.frames) r (omega (arith, le, h.restarts.min, h.restarts.max)) h.restarts in
      let first : SentBlock = block_sent j p (Some r) begun (take 8 frames) in
      let h2 = later_sendable p j (drop 8 frames) h.which h.shape h.top (part_later p frames h.frames) first.behind.state (behind_in_force j p (Some r) begun (take 8 frames) h1) in
      let most = restart_bits j p h.which frames t h.frames.count (unit_least p.rate) end state r pasts h1 h2 h.restarts.max_matrix in
      let same = ap (λ (x : Segment). length ((segment (place_in p true) unknown state x.checked).spelling x)) m.segment_is in
      omega (arith, same, most)

-- no segment that is sent has more bytes
pub sent_short : (j : ℕ) (p : Profile) (pasts : List Past) (frames : List CodedFrame) (t : Option ℕ) → IsEnd p t
    → (made : Segment) (after : Option State) (ps : List Past) (o : Option Restart) (state : Option State) → SendsSegment p j o state frames
    → IsSomeAnd (segment_sent j p o state pasts frames t) (λ s. IsSentSegment s made after ps) → length ((segment (place_in p (is_some o)) unknown state made.checked).spelling made) ≤ 8 * segment_most p j
sent_short j p pasts frames t end made after ps o state h m =
    let there = sent_there j p pasts frames t end made after ps o state h m in
    bytes_there j p h.which frames t h.frames.count (unit_least p.rate) end _ (in_bytes _ (whole_words (place_in p (is_some o)) state made made.checked there.allowed.fits)) (bits_there j p pasts frames t end made after ps o state h m)

-- .. at a place that is this one, against what is in force there
pub short_there : (j : ℕ) (p : Profile) (pasts : List Past) (frames : List CodedFrame) (t : Option ℕ) → IsEnd p t
    → (made : Segment) (after : Option State) (ps : List Past) (o : Option Restart) (state : Option State) → SendsSegment p j o state frames
    → IsSomeAnd (segment_sent j p o state pasts frames t) (λ s. IsSentSegment s made after ps) → (place : Place) (force : Option State) → place ≡ place_in p (is_some o) → force ≡ state
    → length ((segment place unknown force made.checked).spelling made) ≤ 8 * segment_most p j
short_there j p pasts frames t end made after ps o state h m place force ep ef =
    subst (λ (x : Place). length ((segment x unknown force made.checked).spelling made) ≤ 8 * segment_most p j) (sym ep)
    (subst (λ (f : Option State). length ((segment (place_in p (is_some o)) unknown f made.checked).spelling made) ≤ 8 * segment_most p j) (sym ef) (sent_short j p pasts frames t end made after ps o state h m))

pub ok_is : {T E : Type 0} (r : Result T E) (P : Type 0) → (IsErr r → ⊥) → OnOk r P → P
ok_is (Ok x) P none h = h
ok_is (Err e) P none h = absurd (none refl)

eight : (b : ℕ) (more rest : List Bool) → bytes_of ((bits 8 b ++ more) ++ rest) ≡ number (bits 8 b) ∷ bytes_of (more ++ rest)
unfolding bytes_of bits
eight b more rest = refl

bytes_before : (bytes : List ℕ) (rest : List Bool) → AreBytes bytes → bytes_of (bits_of bytes ++ rest) ≡ bytes ++ bytes_of rest
unfolding bits_of
bytes_before [] rest h = refl
bytes_before (b ∷ bytes) rest h =
    ap (λ (t : List Bool). bytes_of (t ++ rest)) (bits_of-cons b bytes) ∙ eight b (bits_of bytes) rest
    ∙ ap (λ (x : ℕ). x ∷ bytes_of (bits_of bytes ++ rest)) (number-of 8 b (h 0)) ∙ ap (λ (xs : List ℕ). b ∷ xs) (bytes_before bytes rest (λ i. h (suc i)))

module _ (new old : List ℕ) (text : List Bool) where
  pub written_is : AreBytes new → AreBytes old → bits_of new ≡ bits_of old ++ text → new ≡ old ++ bytes_of text
  written_is small_new small_old e = sym (bytes_of-bits new small_new) ∙ ap bytes_of e ∙ bytes_before old text small_old

  pub written_most : (most : ℕ) → bits_of new ≡ bits_of old ++ text → length text ≤ 8 * most → length new ≤ length old + most
  written_most most e h = omega (arith, length-bits_of new, length-bits_of old, ap (λ (t : List Bool). length t) e, length-append (bits_of old) text, h)

pub not_long : (old : List ℕ) (text : List Bool) (most : ℕ) → length text ≤ 8 * most → length old + most ≤ 8190 → 65520 < length (bits_of old ++ text) → ⊥
not_long old text most h room lt = omega (arith, length-bits_of old, length-append (bits_of old) text, h, room, lt)
