-- Behind a restart nothing is as it was before it.
use Rattle.std.proofs.Common.{◌≡◌, ℕ, Bool, true, List, [], ◌∷◌, take, Option, Some, None, refl, ◌∙◌}
use Rattle.std.specs.Prelude.{is_some, IsTrue}
use Rattle.mlp_syntax.specs.declared.restart.Restart.{Restart}
use Rattle.mlp_syntax.specs.declared.params.Params.{Params}
use Rattle.mlp_syntax.specs.declared.segment.BlockHead.{BlockHead}
use Rattle.mlp_syntax.specs.declared.segment.FrameCode.{FrameCode}
use Rattle.mlp_syntax.specs.declared.segment.Segment.{Segment}
use Rattle.mlp_layout.specs.Layout.{part, made, tested, item}
use Rattle.mlp_layout.specs.Combined.{up_to_last}
use Rattle.mlp_params.specs.declared.state.State.{State}
use Rattle.mlp_layout.specs.Allowed.{Allowed}
use Rattle.mlp_substream.specs.declared.known.Place.{Place}
use Rattle.mlp_substream.specs.declared.known.Known.{Known}
use Rattle.mlp_substream.specs.Blocks.{context_of, first_context, Block, block, head, behind_flags, force_after}
use Rattle.mlp_substream.specs.Segment.{nested, segment, IsAllowed}
use Rattle.mlp_substream.proofs.SegmentChanges.{Weaker, weaker_leads, blocks_in, segment_same, segment_allowed}
use Rattle.mlp_substream.proofs.WritingParts.{block_parts}
use Rattle.mlp_substream.proofs.PlayableLaws.{head_due}
use Rattle.mlp_substream.proofs.WritingEnds.{has_tail, meets_tail, tail_blocks}

-- a block with a restart, of these parts
abbrev pub restarting : Restart → Option Params → ℕ → List FrameCode → Block
restarting r p n fs = record { head = record { restart = Some r; params = p; frames = n }; frames = fs }

pub block_fresh : (place : Place) (known : Known) (f g : Option State) (so_far : ℕ) (due : Bool) (r : Restart) (p : Option Params) (n : ℕ) (fs : List FrameCode)
    → Weaker (block place known (context_of f so_far due)) (block place known (context_of g so_far due)) (restarting r p n fs)
unfolding block head behind_flags part made tested
block_fresh place known f g so_far due r p n fs = record { text = refl; fits = λ f. f; allowed = λ a. record { fits = a.fits; meets = a.meets } }

-- what is spelled and asked of blocks, the first of which has a restart
record Fresh (place : Place) (known : Known) (f g : Option State) (hs : List BlockHead) (cs : List FrameCode) : Type 0 where
  blocks : Weaker (blocks_in place known f) (blocks_in place known g) (nested hs cs)
  force : force_after place g hs ≡ force_after place f hs

module _ (place : Place) (known : Known) (f g : Option State) where
  fresh_from : (o : Option Restart) (p : Option Params) (n : ℕ) (hs : List BlockHead) (cs : List FrameCode) → is_some o ≡ true
      → (let h : BlockHead = record { restart = o; params = p; frames = n } in Fresh place known f g (h ∷ hs) cs)
  unfolding up_to_last item part nested block head behind_flags made tested
  fresh_from None p n hs cs e = absurd cc
  fresh_from (Some r) p n hs cs e = record { blocks = record { text = refl; fits = λ f. f; allowed = λ a. record { fits = a.fits; meets = a.meets } }; force = refl }

  -- in a unit with a major sync
  fresh : (hs : List BlockHead) (cs : List FrameCode) → IsTrue place.major → Allowed (blocks_in place known f) (nested hs cs) → Fresh place known f g hs cs
  unfolding up_to_last item part nested
  fresh [] cs major a = absurd a.fits
  fresh (h ∷ hs) cs major a =
      let b : Block = record { head = h; frames = take h.frames cs } in
      let parts = block_parts place known (first_context place f) b (record { fits = a.fits.0; meets = a.meets.0 }) in
      fresh_from h.restart h.params h.frames hs cs (head_due place known place.major f h parts.head ∙ major)

  module _ (checked : Bool) (s : Segment) (major : IsTrue place.major) (a : IsAllowed (segment place known f checked) s) where
    start : Fresh place known f g s.blocks.items s.codes.items
    start = fresh s.blocks.items s.codes.items major (tail_blocks place known (first_context place f) checked s (has_tail place known f s checked a.fits) (meets_tail place known f s checked a.meets))

    pub fresh_allowed : IsAllowed (segment place known g checked) s
    fresh_allowed =
        segment_allowed place known known f g s s.blocks.items refl (weaker_leads (blocks_in place known f) (blocks_in place known g) (nested s.blocks.items s.codes.items) start.blocks)
        (λ n e. e) checked a

    pub fresh_text : (segment place known g checked).spelling s ≡ (segment place known f checked).spelling s
    fresh_text = segment_same place known known f g s start.blocks checked

    pub fresh_force : force_after place g s.blocks.items ≡ force_after place f s.blocks.items
    fresh_force = start.force
