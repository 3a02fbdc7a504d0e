-- A segment is lawful.
use Rattle.std.proofs.Common.{◌≡◌, ℕ, zero, suc, ◌+◌, ◌≤◌, Bool, true, false, List, [], ◌∷◌, ◌++◌, length, take, drop, Option, refl, sym, ap, arith}
use Rattle.std.proofs.lemmas.List.{length-append, take_at, drop_at}
use Rattle.mlp_syntax.specs.declared.major.Kind.{Kind}
use Rattle.mlp_syntax.specs.declared.fault.Field.TheVariants as rule
use Rattle.mlp_syntax.specs.declared.segment.Segment.{Segment}
use Rattle.mlp_bits.specs.Bits.{bits}
use Rattle.mlp_bits.proofs.BitLists.{length-bits}
use Rattle.mlp_layout.specs.Layout.{Layout, IsLayout, number_of, seen, ruled, part, made, never, item}
use Rattle.mlp_layout.specs.Combined.{fixed, flag, chosen, is_empty, up_to_last}
use Rattle.mlp_layout.specs.Tails.{Tail, IsTail, IsWhole, part_tail, placed, ending, whole_text, judged_at_end}
use Rattle.mlp_layout.proofs.LayoutLaws.{number_of_is, ruled_is}
use Rattle.mlp_layout.proofs.CombinedLaws.{fixed_is, up_to_last_is}
use Rattle.mlp_layout.proofs.TailLaws.{part_tail_is, placed_is, ending_is, whole_text_is, judged_at_end_is, checked_first_is, chosen_whole_is}
use Rattle.mlp_params.specs.declared.state.State.{State}
use Rattle.mlp_substream.specs.declared.known.Place.{Place}
use Rattle.mlp_substream.specs.declared.known.Known.{Known}
use Rattle.mlp_substream.specs.Checks.{parity_of, check_of}
use Rattle.mlp_substream.specs.Blocks.{BlockContext, Block, block, after_block, first_context}
use Rattle.mlp_substream.specs.Segment.{nested, heads_of, codes_of, terminator, padding_width, most_blocks, segment_tail, segment_text, segment, end_rules, blocks_from}
use Rattle.mlp_substream.proofs.BlockLaws.{block_is, block_fits}
use Rattle.mlp_substream.proofs.CheckLaws.{parity_small, check_small}

-- ---- one list of frames

unfoldable pub AllFramesFit : List Block → Type 0
AllFramesFit [] = Unit {0}
AllFramesFit (b ∷ bs) = (length b.frames ≡ b.head.frames) × AllFramesFit bs

pub nested-flat : (bs : List Block) → AllFramesFit bs → nested (heads_of bs) (codes_of bs) ≡ bs
unfolding nested heads_of codes_of AllFramesFit
nested-flat [] h = refl
nested-flat (b ∷ bs) h =
    let one : take b.head.frames (b.frames ++ codes_of bs) ≡ b.frames = take_at b.frames (codes_of bs) b.head.frames h.0 in
    let two : drop b.head.frames (b.frames ++ codes_of bs) ≡ codes_of bs = drop_at b.frames (codes_of bs) b.head.frames h.0 in
    rw (one, two, nested-flat bs h.1) refl

-- ---- the end

terminator_is : (format : Kind) → IsLayout (terminator format)
unfolding terminator
terminator_is format = fixed_is 16 0xD234 rule.Terminator (ruled_is _ (number_of_is 16))

pub terminator_long : (format : Kind) (word : ℕ) → (terminator format).Fits word → length ((terminator format).spelling word) ≡ 32
unfolding terminator fixed part ruled number_of
terminator_long format word fits = omega (arith, length-append (bits 16 0xD234) (bits 16 word), length-bits 16 0xD234, length-bits 16 word)

-- values up to a last one have at least one bit
some_bits : {S A : Type 0} (value : S → Layout A) (after : S → A → S) (n : ℕ) (s : S) (xs : List A)
    → (up_to_last value after rule.BlockOverrun n s).Fits xs → 1 ≤ length ((up_to_last value after rule.BlockOverrun n s).spelling xs)
unfolding up_to_last never item part flag seen number_of
some_bits value after zero s xs fits = absurd fits
some_bits value after (suc n) s [] fits = absurd fits
some_bits {S} {A} value after (suc n) s (x ∷ xs) fits =
    long ((value s).spelling x) (flag.spelling (is_empty xs)) ((chosen (is_empty xs) (made []) (up_to_last value after rule.BlockOverrun n (after s x))).spelling xs) (one_bit (is_empty xs))
  where
    one_bit : (b : Bool) → 1 ≤ length (flag.spelling b)
    one_bit true = omega (arith, length-bits 1 1)
    one_bit false = omega (arith, length-bits 1 0)

    long : (a b c : List Bool) → 1 ≤ length b → 1 ≤ length (a ++ (b ++ c))
    long a b c h = omega (arith, length-append a (b ++ c), length-append b c)

module _ (place : Place) where
  blocks_fit : (known : Known) (n : ℕ) (at : BlockContext) (bs : List Block) → (blocks_from place known n at).Fits bs → AllFramesFit bs
  unfolding up_to_last never item part chosen AllFramesFit
  blocks_fit known zero at bs fits = absurd fits
  blocks_fit known (suc n) at [] fits = absurd fits
  blocks_fit known (suc n) at (b ∷ []) fits = (block_fits place known at b fits.0, tt)
  blocks_fit known (suc n) at (b ∷ c ∷ bs) fits = (block_fits place known at b fits.0, blocks_fit known n (after_block place at b) (c ∷ bs) fits.1.1)

  whole_record : List Block → Bool → ℕ → Option ℕ → Segment
  whole_record bs checked padding t = record { blocks = record { items = heads_of bs }; codes = record { items = codes_of bs }; padding = padding; terminator = t; checked = checked }

  the_end : List Block → Bool → ℕ → Tail Segment
  the_end bs checked padding = ending rule.SegmentEnd 32 (terminator place.format) (λ s. s.terminator) (whole_record bs checked padding)

  the_rest : List Block → Bool → Tail Segment
  the_rest bs checked = placed (λ here. part_tail (number_of (padding_width here)) (λ s. s.padding) (the_end bs checked))

  end_is : (bs : List Block) (checked : Bool) (padding : ℕ) → IsTail (the_end bs checked padding)
  unfolding the_end whole_record
  end_is bs checked padding = ending_is rule.SegmentEnd 32 (omega arith) (terminator_is place.format) (λ s. s.terminator) (whole_record bs checked padding) (λ o. refl) (terminator_long place.format)

  padding_set : (bs : List Block) (checked : Bool) (width padding here : ℕ) (s : Segment) → (number_of width).Fits padding → (the_end bs checked padding).Fits here s → s.padding ≡ padding
  unfolding the_end whole_record ending
  padding_set bs checked width padding here s h fits = ap (λ (r : Segment). r.padding) (sym fits.1)

  rest_is : (bs : List Block) (checked : Bool) → IsTail (the_rest bs checked)
  unfolding the_rest
  rest_is bs checked = placed_is (λ here. part_tail_is (λ s. s.padding) (number_of_is (padding_width here)) (end_is bs checked) (padding_set bs checked (padding_width here)))

  nested_set : (known : Known) (at : BlockContext) (checked : Bool) (bs : List Block) (here : ℕ) (s : Segment)
      → (blocks_from place known most_blocks at).Fits bs → (the_rest bs checked).Fits here s → nested s.blocks.items s.codes.items ≡ bs
  unfolding the_rest the_end whole_record ending placed part_tail
  nested_set known at checked bs here s h fits =
      let heads : s.blocks.items ≡ heads_of bs = ap (λ (r : Segment). r.blocks.items) (sym fits.1.1) in
      let codes : s.codes.items ≡ codes_of bs = ap (λ (r : Segment). r.codes.items) (sym fits.1.1) in
      rw (heads, codes) (nested-flat bs (blocks_fit known most_blocks at bs h))

  pub segment_tail_is : (known : Known) (at : BlockContext) (checked : Bool) → IsTail (segment_tail place known at checked)
  unfolding segment_tail the_rest the_end whole_record
  segment_tail_is known at checked =
      part_tail_is (λ s. nested s.blocks.items s.codes.items) (up_to_last_is (block place known) (after_block place) rule.BlockOverrun (block_is place known) most_blocks at)
      (λ bs. rest_is bs checked) (nested_set known at checked)

  pub segment_long : (known : Known) (at : BlockContext) (checked : Bool) (s : Segment) → (segment_tail place known at checked).Fits 0 s → 16 ≤ length ((segment_tail place known at checked).spelling 0 s)
  unfolding segment_tail part_tail placed number_of
  segment_long known at checked s fits =
      let l = blocks_from place known most_blocks at in
      let text = l.spelling (nested s.blocks.items s.codes.items) in
      let some = some_bits (block place known) (after_block place) most_blocks at (nested s.blocks.items s.codes.items) fits.0 in
      aligned text (bits (padding_width (0 + length text)) s.padding) _ some (length-bits (padding_width (0 + length text)) s.padding)
    where
      aligned : (text padding last : List Bool) → 1 ≤ length text → length padding ≡ padding_width (0 + length text) → 16 ≤ length (text ++ (padding ++ last))
      aligned text padding last h k = omega (arith, length-append text (padding ++ last), length-append padding last)

  pub segment_text_is : (known : Known) (force : Option State) (checked : Bool) → IsWhole (segment_text place known force checked)
  unfolding segment_text
  segment_text_is known force checked = judged_at_end_is (end_rules known place.unit_frames) (whole_text_is (segment_tail_is known (first_context place force) checked))

  text_long : (known : Known) (force : Option State) (checked : Bool) (s : Segment) → (segment_text place known force checked).Fits s → 16 ≤ length ((segment_text place known force checked).spelling s)
  unfolding segment_text judged_at_end whole_text
  text_long known force checked s fits = segment_long known (first_context place force) checked s fits

  pub segment_is : (known : Known) (force : Option State) (checked : Bool) → IsWhole (segment place known force checked)
  unfolding segment
  segment_is known force checked = chosen_whole_is checked (λ e. checked_first_is parity_of check_of parity_small check_small (text_long known force true) (segment_text_is known force true)) (λ e. segment_text_is known force false)
