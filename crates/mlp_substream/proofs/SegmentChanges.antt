-- What follows for a segment from what is so of its blocks: other knowledge, other parameters in force, other heads.
use Rattle.std.proofs.Common.{◌≡◌, ℕ, zero, suc, ◌+◌, ◌<◌, ◌^◌, Bool, true, false, List, [], ◌∷◌, ◌++◌, length, take, drop, Option, None, refl, sym, ap, subst, ◌∙◌, arith}
use Rattle.std.proofs.lemmas.List.{length-append}
use Rattle.std.specs.List.{All}
use Rattle.std.proofs.lemmas.List.Elements.{All-head, All-tail}
use Rattle.mlp_syntax.specs.declared.segment.BlockHead.{BlockHead}
use Rattle.mlp_syntax.specs.declared.segment.FrameCode.{FrameCode}
use Rattle.mlp_syntax.specs.declared.segment.Segment.{Segment}
use Rattle.mlp_bits.specs.Bits.{bits}
use Rattle.mlp_bits.proofs.BitLists.{length-bits}
use Rattle.mlp_layout.specs.Layout.{Layout, number_of, spelling_as, part, made, never, item}
use Rattle.mlp_layout.specs.Combined.{flag, chosen, up_to_last}
use Rattle.mlp_layout.specs.Tails.{part_tail, placed, ending, whole_text, judged_at_end, checked_first, chosen_whole}
use Rattle.mlp_params.specs.declared.state.State.{State}
use Rattle.mlp_layout.specs.Allowed.{Allowed}
use Rattle.mlp_substream.specs.declared.known.Place.{Place}
use Rattle.mlp_substream.specs.declared.known.Known.{Known}
use Rattle.mlp_substream.specs.Checks.{parity_of, check_of}
use Rattle.mlp_substream.specs.Blocks.{context_of, first_context, Block, block, after_head}
use Rattle.mlp_substream.specs.Segment.{nested, heads_of, codes_of, terminator, padding_width, end_rules, most_blocks, blocks_from, segment_tail, segment_text, segment, IsAllowed}

-- ---- two layouts at a value

-- the same text, and what is allowed of the one is allowed of the other
pub record Weaker {A : Type 0} (l m : Layout A) (x : A) : Type 0 where
  pub text : m.spelling x ≡ l.spelling x
  pub fits : l.Fits x → m.Fits x
  pub allowed : Allowed l x → Allowed m x

pub then_weaker : {A : Type 0} {l m n : Layout A} {x : A} → Weaker l m x → Weaker m n x → Weaker l n x
then_weaker v w = record { text = w.text ∙ v.text; fits = λ f. w.fits (v.fits f); allowed = λ a. w.allowed (v.allowed a) }

-- another value that is as long, and is allowed where the one is
pub record Leads {A : Type 0} (l m : Layout A) (x y : A) : Type 0 where
  pub long : length (m.spelling y) ≡ length (l.spelling x)
  pub allowed : Allowed l x → Allowed m y

pub weaker_leads : {A : Type 0} (l m : Layout A) (x : A) → Weaker l m x → Leads l m x x
weaker_leads l m x w = record { long = ap (λ (t : List Bool). length t) w.text; allowed = w.allowed }

-- ---- from each block to all

-- what is alike in force stays so
module _ (place : Place) (k m : Known) (Like : Option State → Option State → Type 0) (Holds : BlockHead → Type 0)
    (one : (f g : Option State) → Like f g → (so_far : ℕ) (due : Bool) (b : Block) → Holds b.head → Weaker (block place k (context_of f so_far due)) (block place m (context_of g so_far due)) b)
    (stays : (f g : Option State) (h : BlockHead) → Like f g → Like (after_head place f h) (after_head place g h)) where
  pub blocks_weaker : (n : ℕ) (f g : Option State) (so_far : ℕ) (due : Bool) (hs : List BlockHead) (cs : List FrameCode) → Like f g → All Holds hs
      → Weaker (blocks_from place k n (context_of f so_far due)) (blocks_from place m n (context_of g so_far due)) (nested hs cs)
  unfolding up_to_last never item part chosen made nested
  blocks_weaker zero f g so_far due hs cs like all = record { text = refl; fits = λ f. f; allowed = λ a. record { fits = a.fits; meets = tt } }
  blocks_weaker (suc n) f g so_far due [] cs like all = record { text = refl; fits = λ f. f; allowed = λ a. absurd a.fits }
  blocks_weaker (suc n) f g so_far due (h ∷ []) cs like all =
      let b : Block = record { head = h; frames = take h.frames cs } in
      let w = one f g like so_far due b (All-head Holds h [] all) in
      record {
        text = ap (λ (t : List Bool). t ++ (flag.spelling true ++ [])) w.text;
        fits = λ f. (w.fits f.0, f.1);
        allowed = λ a. let v = w.allowed (record { fits = a.fits.0; meets = a.meets.0 }) in record { fits = (v.fits, a.fits.1); meets = (v.meets, a.meets.1) };
      }
  blocks_weaker (suc n) f g so_far due (h ∷ i ∷ hs) cs like all =
      let b : Block = record { head = h; frames = take h.frames cs } in
      let w = one f g like so_far due b (All-head Holds h (i ∷ hs) all) in
      let v = blocks_weaker n (after_head place f h) (after_head place g h) (so_far + h.frames) false (i ∷ hs) (drop h.frames cs) (stays f g h like) (All-tail Holds h (i ∷ hs) all) in
      let later = blocks_from place m n (context_of (after_head place g h) (so_far + h.frames) false) in
      record {
        text = ap (λ (t : List Bool). t ++ (flag.spelling false ++ later.spelling (nested (i ∷ hs) (drop h.frames cs)))) w.text
            ∙ ap (λ (t : List Bool). (block place k (context_of f so_far due)).spelling b ++ (flag.spelling false ++ t)) v.text;
        fits = λ f. (w.fits f.0, (f.1.0, v.fits f.1.1));
        allowed = λ a.
            let first = w.allowed (record { fits = a.fits.0; meets = a.meets.0 }) in
            let rest = v.allowed (record { fits = a.fits.1.1; meets = a.meets.1.1 }) in
            record { fits = (first.fits, (a.fits.1.0, rest.fits)); meets = (first.meets, (a.meets.1.0, rest.meets)) };
      }

-- ---- from the blocks to the segment

abbrev pub blocks_in : Place → Known → Option State → Layout (List Block)
blocks_in place known force = blocks_from place known most_blocks (first_context place force)

-- the same heads: the same text, and what fits fits
module _ (place : Place) (k m : Known) (f g : Option State) (s : Segment) (w : Weaker (blocks_in place k f) (blocks_in place m g) (nested s.blocks.items s.codes.items)) where
  tail_same : (checked : Bool) → (segment_tail place m (first_context place g) checked).spelling 0 s ≡ (segment_tail place k (first_context place f) checked).spelling 0 s
  unfolding segment_tail part_tail placed
  tail_same checked = rw w.text refl

  tail_fits : (checked : Bool) → (segment_tail place k (first_context place f) checked).Fits 0 s → (segment_tail place m (first_context place g) checked).Fits 0 s
  unfolding segment_tail part_tail placed
  tail_fits checked fits = (w.fits fits.0, rw w.text fits.1)

  pub segment_same : (checked : Bool) → (segment place m g checked).spelling s ≡ (segment place k f checked).spelling s
  unfolding segment chosen_whole checked_first segment_text judged_at_end whole_text
  segment_same true = rw (tail_same true) refl
  segment_same false = tail_same false

  pub segment_fits : (checked : Bool) → (segment place k f checked).Fits s → (segment place m g checked).Fits s
  unfolding segment chosen_whole checked_first segment_text judged_at_end whole_text
  segment_fits true fits = tail_fits true fits
  segment_fits false fits = tail_fits false fits

-- ---- other heads

abbrev pub with_heads : List BlockHead → Segment → Segment
with_heads hs s = record s { blocks = record { items = hs } }

heads_of-nested : (hs : List BlockHead) (cs : List FrameCode) → heads_of (nested hs cs) ≡ hs
unfolding heads_of nested
heads_of-nested [] cs = refl
heads_of-nested (h ∷ hs) cs = ap (λ (xs : List BlockHead). h ∷ xs) (heads_of-nested hs (drop h.frames cs))

made_same : (hs is : List BlockHead) (cs ds : List FrameCode) (padding : ℕ) (t : Option ℕ) (c d : Bool) → hs ≡ is → cs ≡ ds → c ≡ d
    → (let r : Segment = record { blocks = record { items = hs }; codes = record { items = cs }; padding = padding; terminator = t; checked = c } in
    r ≡ record { blocks = record { items = is }; codes = record { items = ds }; padding = padding; terminator = t; checked = d })
made_same hs is cs ds padding t c d h k e = rw (h, k, e) refl

checks_long : (a b : List Bool) → length a ≡ length b → length (a ++ (bits 8 (parity_of a) ++ bits 8 (check_of a))) ≡ length (b ++ (bits 8 (parity_of b) ++ bits 8 (check_of b)))
checks_long a b e =
    omega (
      arith,
      length-append a (bits 8 (parity_of a) ++ bits 8 (check_of a)),
      length-append (bits 8 (parity_of a)) (bits 8 (check_of a)),
      length-bits 8 (parity_of a),
      length-bits 8 (check_of a),
      length-append b (bits 8 (parity_of b) ++ bits 8 (check_of b)),
      length-append (bits 8 (parity_of b)) (bits 8 (check_of b)),
      length-bits 8 (parity_of b),
      length-bits 8 (check_of b),
    )

module _ (place : Place) (k m : Known) (f g : Option State) (s : Segment) (hs : List BlockHead)
    (codes_are : codes_of (nested hs s.codes.items) ≡ codes_of (nested s.blocks.items s.codes.items))
    (w : Leads (blocks_in place k f) (blocks_in place m g) (nested s.blocks.items s.codes.items) (nested hs s.codes.items)) where
  end_of : ℕ → List Bool
  end_of here = bits (padding_width here) s.padding ++ spelling_as (terminator place.format).spelling s.terminator

  ends_long : (a b : List Bool) → length a ≡ length b → length (a ++ end_of (0 + length a)) ≡ length (b ++ end_of (0 + length b))
  ends_long a b e = length-append a (end_of (0 + length a)) ∙ ap (λ (n : ℕ). n + length (end_of (0 + n))) e ∙ sym (length-append b (end_of (0 + length b)))

  tail_long : (checked : Bool) → length ((segment_tail place m (first_context place g) checked).spelling 0 (with_heads hs s)) ≡ length ((segment_tail place k (first_context place f) checked).spelling 0 s)
  unfolding segment_tail part_tail placed ending number_of end_of
  tail_long checked = ends_long ((blocks_in place m g).spelling (nested hs s.codes.items)) ((blocks_in place k f).spelling (nested s.blocks.items s.codes.items)) w.long

  tail_allowed : (checked : Bool) → (segment_tail place k (first_context place f) checked).Fits 0 s → (segment_tail place k (first_context place f) checked).Meets 0 s
      → (segment_tail place m (first_context place g) checked).Fits 0 (with_heads hs s) × (segment_tail place m (first_context place g) checked).Meets 0 (with_heads hs s)
  unfolding segment_tail part_tail placed ending number_of
  tail_allowed checked fits meets =
      let there = w.allowed (record { fits = fits.0; meets = meets.0 }) in
      let padding = subst (λ (n : ℕ). s.padding < 2 ^ padding_width (0 + n)) (sym w.long) fits.1.0 in
      let codes = codes_are ∙ ap (λ (r : Segment). r.codes.items) fits.1.1.1 in
      let same = made_same (heads_of (nested hs s.codes.items)) hs (codes_of (nested hs s.codes.items)) s.codes.items s.padding s.terminator checked s.checked
      (heads_of-nested hs s.codes.items) codes (ap (λ (r : Segment). r.checked) fits.1.1.1) in
      ((there.fits, (padding, (fits.1.1.0, same))), (there.meets, meets.1))

  pub segment_long : (checked : Bool) → length ((segment place m g checked).spelling (with_heads hs s)) ≡ length ((segment place k f checked).spelling s)
  unfolding segment chosen_whole checked_first segment_text judged_at_end whole_text
  segment_long true = checks_long _ _ (tail_long true)
  segment_long false = tail_long false

  module _ (ends : (n : ℕ) → end_rules k place.unit_frames n s ≡ None → end_rules m place.unit_frames n (with_heads hs s) ≡ None) where
    ends_meet : (checked : Bool) → end_rules k place.unit_frames (length ((segment_tail place k (first_context place f) checked).spelling 0 s)) s ≡ None
        → end_rules m place.unit_frames (length ((segment_tail place m (first_context place g) checked).spelling 0 (with_heads hs s))) (with_heads hs s) ≡ None
    ends_meet checked e = subst (λ (n : ℕ). end_rules m place.unit_frames n (with_heads hs s) ≡ None) (sym (tail_long checked)) (ends _ e)

    pub segment_allowed : (checked : Bool) → IsAllowed (segment place k f checked) s → IsAllowed (segment place m g checked) (with_heads hs s)
    unfolding segment chosen_whole checked_first segment_text judged_at_end whole_text
    segment_allowed true a = let t = tail_allowed true a.fits a.meets.0 in record { fits = t.0; meets = (t.1, ends_meet true a.meets.1) }
    segment_allowed false a = let t = tail_allowed false a.fits a.meets.0 in record { fits = t.0; meets = (t.1, ends_meet false a.meets.1) }
