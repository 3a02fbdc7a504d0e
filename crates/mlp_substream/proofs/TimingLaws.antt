-- The output timing of what is in force decides nothing of a segment.
use Rattle.std.proofs.Common.{◌≡◌, ℕ, Bool, List, [], ◌∷◌, Option, Some, None, refl, sym, ap, subst, ◌∙◌}
use Rattle.std.specs.Prelude.{option_map}
use Rattle.std.specs.List.{All}
use Rattle.std.proofs.lemmas.List.Elements.{All-nil, All-cons}
use Rattle.mlp_syntax.specs.declared.restart.Restart.{Restart}
use Rattle.mlp_syntax.specs.declared.params.Params.{Params}
use Rattle.mlp_syntax.specs.declared.segment.BlockHead.{BlockHead}
use Rattle.mlp_syntax.specs.declared.segment.FrameCode.{FrameCode}
use Rattle.mlp_syntax.specs.declared.segment.Segment.{Segment}
use Rattle.mlp_layout.specs.Layout.{seen, part, made, tested}
use Rattle.mlp_layout.specs.Combined.{chosen, present}
use Rattle.mlp_params.specs.declared.state.State.{State}
use Rattle.mlp_params.specs.Parameters.{params, groups}
use Rattle.mlp_params.specs.Matrices.{rows, row}
use Rattle.mlp_residual.specs.Frames.{frames_of}
use Rattle.mlp_substream.specs.declared.known.Place.{Place}
use Rattle.mlp_substream.specs.declared.known.Known.{Known}
use Rattle.mlp_substream.specs.Blocks.{against, given, context_of, Block, block, head, behind_flags, after_head, force_after}
use Rattle.mlp_substream.specs.Segment.{nested, segment, IsAllowed}
use Rattle.mlp_substream.specs.Timings.{timeless, SameButForTiming}
use Rattle.mlp_substream.proofs.SegmentChanges.{Weaker, then_weaker, weaker_leads, blocks_weaker, blocks_in, segment_same, segment_allowed}
use Rattle.mlp_substream.proofs.FreshLaws.{block_fresh}

abbrev some_of : State → Option State
some_of s = Some s

-- ---- a block without a restart, of these parts

abbrev pub plain : Option Params → ℕ → List FrameCode → Block
plain p n fs = record { head = record { restart = None; params = p; frames = n }; frames = fs }

module _ (place : Place) (known : Known) (so_far : ℕ) (due : Bool) where
  timeless_to : (s : State) (p : Option Params) (n : ℕ) (fs : List FrameCode) → Weaker (block place known (context_of (Some s) so_far due)) (block place known (context_of (Some (timeless s)) so_far due)) (plain p n fs)
  unfolding block head behind_flags part made tested against present chosen seen params groups rows row frames_of
  timeless_to s None n fs = record { text = refl; fits = λ f. f; allowed = λ a. record { fits = a.fits; meets = a.meets } }
  timeless_to s (Some p) n fs = record { text = refl; fits = λ f. f; allowed = λ a. record { fits = a.fits; meets = a.meets } }

  timeless_from : (s : State) (p : Option Params) (n : ℕ) (fs : List FrameCode) → Weaker (block place known (context_of (Some (timeless s)) so_far due)) (block place known (context_of (Some s) so_far due)) (plain p n fs)
  unfolding block head behind_flags part made tested against present chosen seen params groups rows row frames_of
  timeless_from s None n fs = record { text = refl; fits = λ f. f; allowed = λ a. record { fits = a.fits; meets = a.meets } }
  timeless_from s (Some p) n fs = record { text = refl; fits = λ f. f; allowed = λ a. record { fits = a.fits; meets = a.meets } }

  pub plain_timing : (f g : Option State) → SameButForTiming f g → (p : Option Params) (n : ℕ) (fs : List FrameCode)
      → Weaker (block place known (context_of f so_far due)) (block place known (context_of g so_far due)) (plain p n fs)
  plain_timing None None e p n fs = record { text = refl; fits = λ f. f; allowed = λ a. a }
  plain_timing None (Some t) e p n fs = absurd cc
  plain_timing (Some s) None e p n fs = absurd cc
  plain_timing (Some s) (Some t) e p n fs =
      let to = subst (λ (x : Option State). Weaker (block place known (context_of (Some s) so_far due)) (block place known (context_of x so_far due)) (plain p n fs)) e (timeless_to s p n fs) in
      then_weaker to (timeless_from t p n fs)

  block_timing : (f g : Option State) → SameButForTiming f g → (b : Block) → Weaker (block place known (context_of f so_far due)) (block place known (context_of g so_far due)) b
  block_timing f g e b = go b.head.restart b.head.params b.head.frames b.frames
    where
      go : (o : Option Restart) (p : Option Params) (n : ℕ) (fs : List FrameCode)
          → (let b : Block = record { head = record { restart = o; params = p; frames = n }; frames = fs } in Weaker (block place known (context_of f so_far due)) (block place known (context_of g so_far due)) b)
      go None p n fs = plain_timing f g e p n fs
      go (Some r) p n fs = block_fresh place known f g so_far due r p n fs

-- ---- what is in force behind it

given_timeless : (p : Option Params) (s : State) → given p (timeless s) ≡ timeless (given p s)
given_timeless None s = refl
given_timeless (Some p) s = refl

given_timing : (p : Option Params) (f g : Option State) → SameButForTiming f g → SameButForTiming (option_map (given p) f) (option_map (given p) g)
given_timing p None None e = refl
given_timing p None (Some t) e = absurd cc
given_timing p (Some s) None e = absurd cc
given_timing p (Some s) (Some t) e =
    ap some_of (sym (given_timeless p s)) ∙ ap (λ (x : Option State). option_map (given p) x) e ∙ ap some_of (given_timeless p t)

pub head_timing : (place : Place) (f g : Option State) (h : BlockHead) → SameButForTiming f g → SameButForTiming (after_head place f h) (after_head place g h)
head_timing place f g h e = go h.restart h.params h.frames
  where
    go : (o : Option Restart) (p : Option Params) (n : ℕ) → (let i : BlockHead = record { restart = o; params = p; frames = n } in SameButForTiming (after_head place f i) (after_head place g i))
    go None p n = given_timing p f g e
    go (Some r) p n = refl

pub force_timing : (place : Place) (f g : Option State) (hs : List BlockHead) → SameButForTiming f g → SameButForTiming (force_after place f hs) (force_after place g hs)
force_timing place f g [] e = e
force_timing place f g (h ∷ hs) e = force_timing place (after_head place f h) (after_head place g h) hs (head_timing place f g h e)

-- ---- the segment

all_heads : (hs : List BlockHead) → All (λ h. Unit {0}) hs
all_heads [] = All-nil (λ h. Unit {0})
all_heads (h ∷ hs) = All-cons (λ h. Unit {0}) h hs tt (all_heads hs)

module _ (place : Place) (known : Known) (f g : Option State) (same : SameButForTiming f g) (checked : Bool) (s : Segment) where
  blocks_timing : Weaker (blocks_in place known f) (blocks_in place known g) (nested s.blocks.items s.codes.items)
  blocks_timing =
      blocks_weaker place known known SameButForTiming (λ h. Unit {0}) (λ f g e so_far due b h. block_timing place known so_far due f g e b) (λ f g h e. head_timing place f g h e)
      21 f g 0 place.major s.blocks.items s.codes.items same (all_heads s.blocks.items)

  pub timing_allowed : IsAllowed (segment place known f checked) s → IsAllowed (segment place known g checked) s
  timing_allowed a =
      segment_allowed place known known f g s s.blocks.items refl (weaker_leads (blocks_in place known f) (blocks_in place known g) (nested s.blocks.items s.codes.items) blocks_timing)
      (λ n e. e) checked a

  pub timing_text : (segment place known g checked).spelling s ≡ (segment place known f checked).spelling s
  timing_text = segment_same place known known f g s blocks_timing checked
