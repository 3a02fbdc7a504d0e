-- How a segment is spelled around its blocks: the end, and the checks.
use Rattle.std.proofs.Common.{◌≡◌, ℕ, ◌+◌, ◌*◌, ◌%◌, ◌^◌, ◌<◌, ◌≤◌, cond, Bool, true, false, List, [], ◌∷◌, ◌++◌, length, Result, Ok, Err, Option, Some, None, refl, sym, ap, subst, ◌∙◌, arith}
use Rattle.std.specs.Prelude.{OnOk}
use Rattle.std.proofs.lemmas.List.{length-append, append-nil}
use Rattle.mlp_syntax.specs.declared.segment.Segment.{Segment}
use Rattle.mlp_bits.specs.Bits.{bits, bits_of}
use Rattle.mlp_bits.specs.Checks.{segment_parity_of, check8_of}
use Rattle.mlp_bits.proofs.BitLists.{bits_of-cons, length-bits_of, length-bits}
use Rattle.mlp_bits.proofs.Words.{bits_of-append}
use Rattle.mlp_layout.specs.Layout.{number_of, spelling_as, MeetsAs}
use Rattle.mlp_layout.specs.Tails.{part_tail, placed, ending, whole_text, judged_at_end, checked_first, chosen_whole}
use Rattle.mlp_layout.specs.Allowed.{Allowed}
use Rattle.mlp_params.specs.declared.state.State.{State}
use Rattle.mlp_substream.specs.declared.known.Place.{Place}
use Rattle.mlp_substream.specs.declared.known.Known.{Known}
use Rattle.mlp_substream.specs.Checks.{parity_of, check_of}
use Rattle.mlp_substream.specs.Blocks.{BlockContext, first_context}
use Rattle.mlp_substream.specs.Segment.{nested, terminator, padding_width, most_blocks, segment_tail, segment_text, segment, blocks_from}
use Rattle.mlp_substream.proofs.CheckLaws.{AreBytes, bytes_of-bits}
use Rattle.mlp_substream.proofs.SegmentLaws.{terminator_long}

-- ---- what stands before the checks

module _ (place : Place) (known : Known) (at : BlockContext) (checked : Bool) (s : Segment) where
  abbrev pub blocks_text : List Bool
  blocks_text = (blocks_from place known most_blocks at).spelling (nested s.blocks.items s.codes.items)

  abbrev pub end_text : ℕ → List Bool
  end_text here = bits (padding_width here) s.padding ++ spelling_as (terminator place.format).spelling s.terminator

  pub tail_blocks : (segment_tail place known at checked).Fits 0 s → (segment_tail place known at checked).Meets 0 s → Allowed (blocks_from place known most_blocks at) (nested s.blocks.items s.codes.items)
  unfolding segment_tail part_tail
  tail_blocks fits meets = record { fits = fits.0; meets = meets.0 }

  pub tail_padding : (segment_tail place known at checked).Fits 0 s → (n : ℕ) → n ≡ length blocks_text → s.padding < 2 ^ padding_width n
  unfolding segment_tail part_tail placed number_of
  tail_padding fits n e = let here : 0 + length blocks_text ≡ n = omega arith in subst (λ (k : ℕ). s.padding < 2 ^ padding_width k) here fits.1.0

  pub tail_text : (n : ℕ) → n ≡ length blocks_text → blocks_text ++ end_text n ≡ (segment_tail place known at checked).spelling 0 s
  unfolding segment_tail part_tail placed number_of ending
  tail_text n e = let here : n ≡ 0 + length blocks_text = omega arith in ap (λ (k : ℕ). blocks_text ++ end_text k) here

  -- it is whole words
  last_long : (o : Option ℕ) → MeetsAs (terminator place.format).Fits o → length (spelling_as (terminator place.format).spelling o) % 16 ≡ 0
  last_long None fits = refl
  last_long (Some word) fits = let e = terminator_long place.format word fits in rw e refl

  pub tail_words : (segment_tail place known at checked).Fits 0 s → length ((segment_tail place known at checked).spelling 0 s) % 16 ≡ 0
  unfolding segment_tail part_tail placed number_of ending
  tail_words fits = whole blocks_text (bits (padding_width (0 + length blocks_text)) s.padding) (spelling_as (terminator place.format).spelling s.terminator)
      (length-bits (padding_width (0 + length blocks_text)) s.padding) (last_long s.terminator fits.1.1.0)
    where
      whole : (text padding last : List Bool) → length padding ≡ padding_width (0 + length text) → length last % 16 ≡ 0 → length (text ++ (padding ++ last)) % 16 ≡ 0
      whole text padding last h k = omega (arith, length-append text (padding ++ last), length-append padding last)

-- ---- with its checks, and without

two_bytes : (p q : ℕ) → bits_of (p ∷ q ∷ []) ≡ bits 8 p ++ bits 8 q
unfolding bits_of
two_bytes p q = bits_of-cons p (q ∷ []) ∙ ap (λ (t : List Bool). bits 8 p ++ t) (bits_of-cons q [] ∙ append-nil (bits 8 q))

module _ (place : Place) (known : Known) (force : Option State) (s : Segment) where
  pub has_tail : (checked : Bool) → (segment place known force checked).Fits s → (segment_tail place known (first_context place force) checked).Fits 0 s
  unfolding segment chosen_whole checked_first segment_text judged_at_end whole_text
  has_tail true fits = fits
  has_tail false fits = fits

  pub meets_tail : (checked : Bool) → (segment place known force checked).Meets s → (segment_tail place known (first_context place force) checked).Meets 0 s
  unfolding segment chosen_whole checked_first segment_text judged_at_end whole_text
  meets_tail true meets = meets.0
  meets_tail false meets = meets.0

  abbrev pub with_checks : Bool → List Bool → List Bool
  with_checks true text = text ++ (bits 8 (parity_of text) ++ bits 8 (check_of text))
  with_checks false text = text

  pub segment_spelling : (checked : Bool) → (segment place known force checked).spelling s ≡ with_checks checked ((segment_tail place known (first_context place force) checked).spelling 0 s)
  unfolding segment chosen_whole checked_first segment_text judged_at_end whole_text
  segment_spelling true = refl
  segment_spelling false = refl

  -- checks make it longer
  pub segment_longer : (checked : Bool) → length ((segment_tail place known (first_context place force) checked).spelling 0 s) ≤ length ((segment place known force checked).spelling s)
  segment_longer checked = let e = ap (λ (t : List Bool). length t) (segment_spelling checked) in omega (arith, e, longer checked ((segment_tail place known (first_context place force) checked).spelling 0 s))
    where
      longer : (checked : Bool) (text : List Bool) → length text ≤ length (with_checks checked text)
      longer true text = omega (arith, length-append text (bits 8 (parity_of text) ++ bits 8 (check_of text)))
      longer false text = omega arith

  -- the bytes that are written of it
  abbrev pub checks_of : Bool → List ℕ → List ℕ
  checks_of checked bytes = cond checked (segment_parity_of bytes ∷ check8_of bytes ∷ []) []

  pub written_bits : (checked : Bool) (bytes : List ℕ) → AreBytes bytes → bits_of (bytes ++ checks_of checked bytes) ≡ with_checks checked (bits_of bytes)
  written_bits false bytes small = ap bits_of (append-nil bytes)
  written_bits true bytes small =
      let two : bits_of (segment_parity_of bytes ∷ check8_of bytes ∷ []) ≡ bits 8 (segment_parity_of bytes) ++ bits 8 (check8_of bytes) = two_bytes (segment_parity_of bytes) (check8_of bytes) in
      let same : bits 8 (segment_parity_of bytes) ++ bits 8 (check8_of bytes) ≡ bits 8 (parity_of (bits_of bytes)) ++ bits 8 (check_of (bits_of bytes)) =
      ap (λ (b : List ℕ). bits 8 (segment_parity_of b) ++ bits 8 (check8_of b)) (sym (bytes_of-bits bytes small)) in
      bits_of-append bytes (segment_parity_of bytes ∷ check8_of bytes ∷ []) ∙ ap (λ (t : List Bool). bits_of bytes ++ t) (two ∙ same)

  module _ (checked : Bool) (bytes : List ℕ) (small : AreBytes bytes) (text_is : bits_of bytes ≡ (segment_tail place known (first_context place force) checked).spelling 0 s) where
    pub segment_bits : bits_of (bytes ++ checks_of checked bytes) ≡ (segment place known force checked).spelling s
    segment_bits = written_bits checked bytes small ∙ ap (with_checks checked) text_is ∙ sym (segment_spelling checked)

    -- behind bytes that are there already
    pub segment_behind : (out : List ℕ) → bits_of (out ++ (bytes ++ checks_of checked bytes)) ≡ bits_of out ++ (segment place known force checked).spelling s
    segment_behind out = bits_of-append out (bytes ++ checks_of checked bytes) ∙ ap (λ (t : List Bool). bits_of out ++ t) segment_bits

    pub segment_size : (out : List ℕ) → length (bits_of out ++ (segment place known force checked).spelling s) ≡ 8 * (length out + length bytes + cond checked 2 0)
    segment_size out =
        let all = ap (λ (t : List Bool). length t) (sym (segment_behind out)) ∙ length-bits_of (out ++ (bytes ++ checks_of checked bytes)) in
        let checks = checks_count checked in
        omega (arith, all, checks, length-append out (bytes ++ checks_of checked bytes), length-append bytes (checks_of checked bytes))
      where
        checks_count : (checked : Bool) → length (checks_of checked bytes) ≡ cond checked 2 0
        checks_count true = refl
        checks_count false = refl

pub on_ok : {E : Type 0} (r : Result (Unit {0}) E) (P Q : Type 0) → (P → Q) → OnOk r P → OnOk r Q
on_ok (Ok x) P Q f h = f h
on_ok (Err e) P Q f h = tt
