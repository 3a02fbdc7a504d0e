-- How a block and a list of blocks are read, once their parts were.
use Rattle.std.proofs.Common.{◌≡◌, ℕ, ◌+◌, ◌<◌, ◌≤◌, Bool, true, false, leb, List, [], ◌∷◌, ◌++◌, Ok, Err, Option, Some, None, refl, sym, ap, ◌∙◌, append_assoc, arith}
use Rattle.std.proofs.lemmas.Bool.{and_parts, le-leb, leb-true}
use Rattle.mlp_params.specs.States.{IsState}
use Rattle.mlp_layout.proofs.LayoutLaws.{ok_of, ok_is}
use Rattle.mlp_layout.proofs.RuleReading.{rule_holds}
use Rattle.std.proofs.lemmas.List.{append-nil}
use Rattle.mlp_syntax.specs.declared.segment.FrameCode.{FrameCode}
use Rattle.mlp_syntax.specs.declared.segment.BlockHead.{BlockHead}
use Rattle.mlp_syntax.specs.declared.segment.Segment.{Segment}
use Rattle.mlp_syntax.specs.declared.fault.Field.TheVariants as rule
use Rattle.mlp_syntax.specs.declared.fault.Broken.{Broken}
use Rattle.mlp_layout.specs.Reading.{Read, broken, with_front}
use Rattle.mlp_layout.specs.Layout.{Layout, part, made, tested, never, ruled}
use Rattle.mlp_params.specs.declared.state.State.{State}
use Rattle.mlp_residual.specs.Frames.{frames_of}
use Rattle.mlp_substream.specs.declared.known.Place.{Place}
use Rattle.mlp_substream.specs.declared.known.Known.{Known}
use Rattle.mlp_substream.specs.Blocks.{BlockContext, Block, against, steps_fit_in, block_size_in, head, after_head, block, force_after, context_of, ForceFits}
use Rattle.mlp_substream.specs.Segment.{heads_of, codes_of}

-- what was appended is what was read
pub record Appended {A : Type 0} (before after : List A) (place : ℕ) (read : Read (List A)) : Type 0 where
  pub items : List A
  pub read_is : read ≡ Ok (items, place)
  pub after_is : after ≡ before ++ items

pub appended : {A : Type 0} (before after : List A) (place : ℕ) (read : Read (List A)) → with_front before read ≡ Ok (after, place) → Appended before after place read
appended before after place (Ok x) h =
    let same = ok_is (before ++ x.0, x.1) (after, place) h in
    record { items = x.0; read_is = ap (λ (p : ℕ). ok_of (x.0, p)) (ap (λ (y : List _ × ℕ). y.1) same); after_is = sym (ap (λ (y : List _ × ℕ). y.0) same) }
appended before after place (Err e) h = absurd cc

module _ (place : Place) (known : Known) (at : BlockContext) (all : List Bool) (p : ℕ) where
  pub block_head_fails : (e : Broken) → (head place known at.due at.force).read all p ≡ Err e → (block place known at).read all p ≡ Err e
  unfolding block part
  block_head_fails e h = rw h refl

  module _ (h : BlockHead) (q : ℕ) (head_read : (head place known at.due at.force).read all p ≡ Ok (h, q)) where
    pub block_step_fails : steps_fit_in (after_head place at.force h) ≡ false → (block place known at).read all p ≡ Err (broken rule.StepTooLarge q)
    unfolding block part tested
    block_step_fails k = rw (head_read, k) refl

    module _ (k : steps_fit_in (after_head place at.force h) ≡ true) where
      pub block_overruns : place.unit_frames < at.so_far + h.frames → (block place known at).read all p ≡ Err (broken rule.BlockOverrun q)
      unfolding block part tested
      block_overruns lt = let no-room : leb (at.so_far + h.frames) place.unit_frames ≡ false = grind arith in rw (head_read, k, no-room) refl

      module _ (le : at.so_far + h.frames ≤ place.unit_frames) where
        pub block_frames_fail : (e : Broken) → (against (after_head place at.force h) (λ s. frames_of s h.frames)).read all q ≡ Err e → (block place known at).read all p ≡ Err e
        unfolding block part tested
        block_frames_fail e f = let fits : leb (at.so_far + h.frames) place.unit_frames ≡ true = le-leb _ _ le in rw (head_read, k, fits, f) refl

        pub block_reads : (fs : List FrameCode) (r : ℕ) → (against (after_head place at.force h) (λ s. frames_of s h.frames)).read all q ≡ Ok (fs, r) → (block place known at).read all p ≡ Ok (record { head = h; frames = fs }, r)
        unfolding block part tested made
        block_reads fs r f = let fits : leb (at.so_far + h.frames) place.unit_frames ≡ true = le-leb _ _ le in rw (head_read, k, fits, f) refl

-- ---- the blocks so far

pub heads_of-push : (bs : List Block) (b : Block) → heads_of (bs ++ b ∷ []) ≡ heads_of bs ++ b.head ∷ []
unfolding heads_of
heads_of-push [] b = refl
heads_of-push (c ∷ bs) b = ap (λ (hs : List BlockHead). c.head ∷ hs) (heads_of-push bs b)

pub codes_of-push : (bs : List Block) (b : Block) → codes_of (bs ++ b ∷ []) ≡ codes_of bs ++ b.frames
unfolding codes_of
codes_of-push [] b = append-nil b.frames
codes_of-push (c ∷ bs) b = ap (λ (cs : List FrameCode). c.frames ++ cs) (codes_of-push bs b) ∙ sym (append_assoc c.frames (codes_of bs) b.frames)

pub force_after-push : (place : Place) (force : Option State) (hs : List BlockHead) (h : BlockHead) → force_after place force (hs ++ h ∷ []) ≡ after_head place (force_after place force hs) h
force_after-push place force [] h = refl
force_after-push place force (g ∷ hs) h = force_after-push place (after_head place force g) hs h

pub at_is : (s t : Option State) (m n : ℕ) (due : Bool) → s ≡ t → m ≡ n → context_of s m due ≡ context_of t n due
at_is s t m n due e d = ap (λ (x : Option State). context_of x m due) e ∙ ap (λ (k : ℕ). context_of t k due) d

-- a record with these blocks in place of its own
abbrev pub with_blocks : Segment → List Block → Segment
with_blocks s bs = record s { blocks = record { items = heads_of bs }; codes = record { items = codes_of bs } }

filled : (before : Segment) (hs ks : List BlockHead) (cs ds : List FrameCode) → hs ≡ ks → cs ≡ ds
    → record before { blocks = record { items = hs }; codes = record { items = cs } } ≡ record before { blocks = record { items = ks }; codes = record { items = ds } }
filled before hs ks cs ds e d = ap (λ (xs : List BlockHead). seg xs cs) e ∙ ap (λ (xs : List FrameCode). seg ks xs) d
  where
    seg : List BlockHead → List FrameCode → Segment
    seg xs ys = record before { blocks = record { items = xs }; codes = record { items = ys } }

-- with the heads and frames that are left of those that stand there
pub out_filled : (out before : Segment) (bs : List Block) (hs : List BlockHead) (cs : List FrameCode) → out ≡ record before { blocks = out.blocks; codes = out.codes }
    → hs ≡ heads_of bs → cs ≡ codes_of bs → record out { blocks = record { items = hs }; codes = record { items = cs } } ≡ with_blocks before bs
out_filled out before bs hs cs rest e d = ap (λ (s : Segment). record s { blocks = record { items = hs }; codes = record { items = cs } }) rest ∙ filled before hs (heads_of bs) cs (codes_of bs) e d

-- with the blocks behind those that were read, and all else as it was
pub rest_stays : (next out before : Segment) → next ≡ record out { blocks = next.blocks; codes = next.codes }
    → out ≡ record before { blocks = out.blocks; codes = out.codes } → next ≡ record before { blocks = next.blocks; codes = next.codes }
rest_stays next out before e d = e ∙ ap (λ (s : Segment). record s { blocks = next.blocks; codes = next.codes }) d

pub force_starts : (place : Place) (force : Option State) → force ≡ force_after place force (heads_of [])
unfolding heads_of
force_starts place force = refl

-- ---- what is in force in a block that is read

pub least_size : (s : State) → IsState s → 8 ≤ s.block_size
unfolding ruled
least_size s h = leb-true 8 s.block_size (and_parts (leb 8 s.block_size) (leb s.block_size s.unit_frames) (rule_holds _ 0 h.block_size.meets.1)).0

-- without anything in force no frames are read
pub least_frames : (place : Place) (force : Option State) (l : State → Layout (List FrameCode)) (all : List Bool) (q r : ℕ) (fs : List FrameCode)
    → ForceFits place force → (against force l).read all q ≡ Ok (fs, r) → 8 ≤ block_size_in force
unfolding against never
least_frames place None l all q r fs h e = absurd cc
least_frames place (Some s) l all q r fs h e = least_size s h.lawful
