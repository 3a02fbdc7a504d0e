-- How the blocks of a segment are written, one after the other.
use Rattle.std.proofs.Common.{◌≡◌, ℕ, zero, suc, ◌+◌, ◌<◌, ◌≤◌, Bool, false, eqb, List, [], ◌∷◌, ◌++◌, length, take, drop, get_or, Option, refl, sym, ap, subst, ◌∙◌, append_assoc, arith}
use Rattle.std.proofs.lemmas.List.{length-take, length-drop, drop_all, drop_more, drop-drop}
use Rattle.std.proofs.Math.Dec.{eqb-suc-suc}
use Rattle.mlp_syntax.specs.declared.segment.BlockHead.{BlockHead}
use Rattle.mlp_syntax.specs.declared.segment.FrameCode.{FrameCode}
use Rattle.mlp_layout.specs.Layout.{Layout, made, never, item, part}
use Rattle.mlp_layout.specs.Combined.{flag, chosen, is_empty, up_to_last}
use Rattle.mlp_layout.specs.Writing.{room, Wrote, Filled}
use Rattle.mlp_layout.proofs.WritingLaws.{SoFar, so_far_begins, so_far_goes_on, so_far_stops, so_far_ends}
use Rattle.mlp_params.specs.declared.state.State.{State}
use Rattle.mlp_layout.specs.Allowed.{Allowed}
use Rattle.mlp_substream.specs.declared.known.Place.{Place}
use Rattle.mlp_substream.specs.declared.known.Known.{Known}
use Rattle.mlp_substream.specs.Blocks.{BlockContext, Block, after_head, block, after_block, force_after, context_of, ForceFits}
use Rattle.mlp_substream.specs.Segment.{nested, blocks_from}
use Rattle.mlp_substream.proofs.BlockLaws.{block_fits}

-- what is left behind blocks that were written: more blocks, or none
abbrev pub rest_of : Place → Known → ℕ → BlockContext → List Block → Layout (List Block)
rest_of place known n at bs = chosen (is_empty bs) (made []) (blocks_from place known n at)

module _ (place : Place) (known : Known) where
  rest_starts : (n : ℕ) (at : BlockContext) (bs : List Block) → Allowed (blocks_from place known n at) bs
      → Allowed (rest_of place known n at bs) bs × ((rest_of place known n at bs).spelling bs ≡ (blocks_from place known n at).spelling bs)
  unfolding up_to_last never item chosen
  rest_starts zero at bs a = absurd a.fits
  rest_starts (suc n) at [] a = absurd a.fits
  rest_starts (suc n) at (b ∷ bs) a = (a, refl)

  -- the next block, the bit behind it, and what is left then
  pub record Next (n : ℕ) (at : BlockContext) (b : Block) (bs : List Block) : Type 0 where
    pub later : ℕ
    pub first : Allowed (block place known at) b
    pub allowed : Allowed (rest_of place known later (after_block place at b) bs) bs
    pub text : (rest_of place known n at (b ∷ bs)).spelling (b ∷ bs) ≡ ((block place known at).spelling b ++ flag.spelling (is_empty bs)) ++ (rest_of place known later (after_block place at b) bs).spelling bs

  next : (n : ℕ) (at : BlockContext) (b : Block) (bs : List Block) → Allowed (rest_of place known n at (b ∷ bs)) (b ∷ bs) → Next n at b bs
  unfolding up_to_last never item part chosen
  next zero at b bs a = absurd a.fits
  next (suc n) at b bs a = record {
    later = n;
    first = record { fits = a.fits.0; meets = a.meets.0 };
    allowed = record { fits = a.fits.1.1; meets = a.meets.1.1 };
    text = sym (append_assoc ((block place known at).spelling b) (flag.spelling (is_empty bs)) ((rest_of place known n (after_block place at b) bs).spelling bs));
  }

-- ---- the blocks of a list of heads and one of frames

empty_nested : (hs : List BlockHead) (cs : List FrameCode) → is_empty (nested hs cs) ≡ is_empty hs
unfolding nested
empty_nested [] cs = refl
empty_nested (h ∷ hs) cs = refl

empty_drop : {A : Type 0} (i : ℕ) (xs : List A) → i ≤ length xs → is_empty (drop i xs) ≡ eqb i (length xs)
empty_drop zero [] le = refl
empty_drop zero (x ∷ xs) le = grind arith
empty_drop (suc i) [] le = absurd (omega arith)
empty_drop (suc i) (x ∷ xs) le = empty_drop i xs (omega arith) ∙ sym (eqb-suc-suc i (length xs))

-- the blocks that are left
abbrev pub left_blocks : List BlockHead → List FrameCode → ℕ → ℕ → List Block
left_blocks hs cs i start = nested (drop i hs) (drop start cs)

-- what a loop over them keeps
pub record Going (place : Place) (known : Known) (first now : Option State) (hs : List BlockHead) (cs : List FrameCode) (i start : ℕ) (old w text : List Bool) : Type 0 where
  pub turns : ℕ
  pub due : Bool
  pub so_far : SoFar old w ((rest_of place known turns (context_of now start due) (left_blocks hs cs i start)).spelling (left_blocks hs cs i start)) text
  pub allowed : Allowed (rest_of place known turns (context_of now start due) (left_blocks hs cs i start)) (left_blocks hs cs i start)
  pub force_is : force_after place now (drop i hs) ≡ force_after place first hs
  pub state_is : ForceFits place now
  pub within : start ≤ length cs

pub going_begins : (place : Place) (known : Known) (n : ℕ) (due : Bool) (force : Option State) (hs : List BlockHead) (cs : List FrameCode) (old : List Bool) → length old ≤ room
    → ForceFits place force → Allowed (blocks_from place known n (context_of force 0 due)) (nested hs cs)
    → Going place known force force hs cs 0 0 old old ((blocks_from place known n (context_of force 0 due)).spelling (nested hs cs))
going_begins place known n due force hs cs old le lawful a =
    let start = rest_starts place known n (context_of force 0 due) (nested hs cs) a in
    let text = (blocks_from place known n (context_of force 0 due)).spelling (nested hs cs) in
    record {
      turns = n;
      due = due;
      so_far = subst (λ (t : List Bool). SoFar old old t text) (sym start.1) (so_far_begins old text le);
      allowed = start.0;
      force_is = refl;
      state_is = lawful;
      within = omega arith;
    }

module _ (place : Place) (known : Known) (first now : Option State) (hs : List BlockHead) (cs : List FrameCode) (i start : ℕ) (old w text : List Bool) (g : Going place known first now hs cs i start old w text) where
  module _ (h : BlockHead) (lt : i < length hs) (at : h ≡ get_or hs i h) where
    abbrev pub block_here : Block
    block_here = record { head = h; frames = take h.frames (drop start cs) }

    heads_left : drop i hs ≡ h ∷ drop (i + 1) hs
    heads_left = drop_more hs i h lt ∙ ap (λ (x : BlockHead). x ∷ drop (i + 1) hs) (sym at)

    blocks_left : left_blocks hs cs i start ≡ block_here ∷ left_blocks hs cs (i + 1) (start + h.frames)
    unfolding nested
    blocks_left = ap (λ (xs : List BlockHead). nested xs (drop start cs)) heads_left ∙ ap (λ (ys : List FrameCode). block_here ∷ nested (drop (i + 1) hs) ys) (drop-drop h.frames start cs)

    here : Next place known g.turns (context_of now start g.due) block_here (left_blocks hs cs (i + 1) (start + h.frames))
    here = next place known g.turns (context_of now start g.due) block_here
        (left_blocks hs cs (i + 1) (start + h.frames)) (subst (λ (bs : List Block). Allowed (rest_of place known g.turns (context_of now start g.due) bs) bs) blocks_left g.allowed)

    pub block_allowed : Allowed (block place known (context_of now start g.due)) block_here
    block_allowed = here.first

    pub codes_there : start + h.frames ≤ length cs
    codes_there = omega (arith, g.within, block_fits place known (context_of now start g.due) block_here here.first.fits, length-take h.frames (drop start cs), length-drop start cs)

    -- the bit behind it
    last_is : is_empty (left_blocks hs cs (i + 1) (start + h.frames)) ≡ eqb (i + 1) (length hs)
    last_is = empty_nested (drop (i + 1) hs) (drop (start + h.frames) cs) ∙ empty_drop (i + 1) hs (omega arith)

    abbrev pub text_here : List Bool
    text_here = (block place known (context_of now start g.due)).spelling block_here ++ flag.spelling (eqb (i + 1) (length hs))

    abbrev later_text : List Bool
    later_text = let bs = left_blocks hs cs (i + 1) (start + h.frames) in (rest_of place known here.later (after_block place (context_of now start g.due) block_here) bs).spelling bs

    so_far_here : SoFar old w (text_here ++ later_text) text
    so_far_here =
        let bs = left_blocks hs cs (i + 1) (start + h.frames) in
        let whole = ap (λ (xs : List Block). (rest_of place known g.turns (context_of now start g.due) xs).spelling xs) blocks_left ∙ here.text
        ∙ ap (λ (b : Bool). ((block place known (context_of now start g.due)).spelling block_here ++ flag.spelling b) ++ later_text) last_is in
        subst (λ (t : List Bool). SoFar old w t text) whole g.so_far

    pub going_stops : (v : List Bool) → Filled w v text_here → Filled old v text
    going_stops v f = so_far_stops old w v text_here later_text text so_far_here f

    pub going_goes_on : (v : List Bool) (after : Option State) → after ≡ after_head place now h → ForceFits place after → Wrote w v text_here → Going place known first after hs cs (i + 1) (start + h.frames) old v text
    going_goes_on v after e lawful wrote =
        let bs = left_blocks hs cs (i + 1) (start + h.frames) in
        let at-then : after_block place (context_of now start g.due) block_here ≡ context_of after (start + h.frames) false = ap (λ (s : Option State). context_of s (start + h.frames) false) (sym e) in
        record {
          turns = here.later;
          due = false;
          so_far = subst (λ (a : BlockContext). SoFar old v ((rest_of place known here.later a bs).spelling bs) text) at-then (so_far_goes_on old w v text_here later_text text so_far_here wrote);
          allowed = subst (λ (a : BlockContext). Allowed (rest_of place known here.later a bs) bs) at-then here.allowed;
          force_is = ap (λ (s : Option State). force_after place s (drop (i + 1) hs)) e ∙ sym (ap (force_after place now) heads_left) ∙ g.force_is;
          state_is = lawful;
          within = codes_there;
        }

  module _ (le : length hs ≤ i) where
    none_left : left_blocks hs cs i start ≡ []
    unfolding nested
    none_left = ap (λ (xs : List BlockHead). nested xs (drop start cs)) (drop_all i hs le)

    pub going_ends : Wrote old w text
    unfolding chosen made
    going_ends = so_far_ends old w text (subst (λ (bs : List Block). SoFar old w ((rest_of place known g.turns (context_of now start g.due) bs).spelling bs) text) none_left g.so_far)
