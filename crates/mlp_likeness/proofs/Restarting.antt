-- Behind a restart nothing of what was in force before it is heard.
use Rattle.std.proofs.Common.{◌≡◌, ℕ, zero, suc, ◌<◌, cond, Bool, true, false, List, [], ◌∷◌, ◌++◌, length, take, drop, map, Option, refl, ap, ◌∙◌, arith}
use Rattle.std.proofs.Math.Path.{fun_ext}
use Rattle.std.specs.Prelude.{is_some, IsTrue, slice_index_or, ℤ}
use Rattle.std.specs.List.{range_with_len}
use Rattle.mlp_syntax.specs.declared.segment.BlockHead.{BlockHead}
use Rattle.mlp_syntax.specs.declared.segment.FrameCode.{FrameCode}
use Rattle.mlp_syntax.specs.declared.segment.Segment.{Segment}
use Rattle.mlp_layout.specs.Layout.{part, item}
use Rattle.mlp_layout.specs.Combined.{up_to_last}
use Rattle.mlp_layout.specs.Allowed.{Allowed}
use Rattle.mlp_params.specs.declared.state.State.{State}
use Rattle.mlp_predict.specs.Outputs.{outputs_from, past_from}
use Rattle.mlp_substream.specs.declared.known.Place.{Place}
use Rattle.mlp_substream.specs.declared.known.Known.{Known}
use Rattle.mlp_substream.specs.Blocks.{force_after, first_context, Block}
use Rattle.mlp_substream.specs.Segment.{nested, segment, IsAllowed}
use Rattle.mlp_substream.proofs.SegmentChanges.{blocks_in}
use Rattle.mlp_substream.proofs.WritingParts.{block_parts}
use Rattle.mlp_substream.proofs.WritingEnds.{has_tail, meets_tail, tail_blocks}
use Rattle.mlp_substream.proofs.PlayableLaws.{head_due}
use Rattle.mlp_channels.specs.Channels.{Coded, past_before, block_frames, channel_frames, outputs_in, coded_after, codes_channel}
use Rattle.mlp_channels.proofs.HeadLaws.{after_head_fresh}
use Rattle.mlp_contents.specs.Known.{first_restart}
use Rattle.mlp_contents.specs.Frames.{is_coded_by, channel}
use Rattle.mlp_contents.specs.Units.{coded_each}

-- the first of these blocks has a restart
abbrev pub Restarts : List BlockHead → Type 0
Restarts hs = is_some (first_restart hs) ≡ true

-- so has each of these segments
abbrev pub AllRestart : List Segment → Type 0
AllRestart [] = Unit {0}
AllRestart (s ∷ ss) = Restarts s.blocks.items × AllRestart ss

-- ---- a segment in a unit with a major sync begins with a restart

first_has : (place : Place) (known : Known) (f : Option State) (hs : List BlockHead) (cs : List FrameCode) → IsTrue place.major → Allowed (blocks_in place known f) (nested hs cs) → Restarts hs
unfolding up_to_last item part nested
first_has place known f [] cs major a = absurd a.fits
first_has place known f (h ∷ hs) cs major a =
    let b : Block = record { head = h; frames = take h.frames cs } in
    let parts = block_parts place known (first_context place f) b (record { fits = a.fits.0; meets = a.meets.0 }) in
    head_due place known place.major f h parts.head ∙ major

pub restarts_first : (place : Place) (known : Known) (f : Option State) (checked : Bool) (s : Segment) → IsTrue place.major → IsAllowed (segment place known f checked) s → Restarts s.blocks.items
restarts_first place known f checked s major a =
    first_has place known f s.blocks.items s.codes.items major (tail_blocks place known (first_context place f) checked s (has_tail place known f s checked a.fits) (meets_tail place known f s checked a.meets))

-- ---- what is in force behind its blocks, and their frames

none_first : (hs : List BlockHead) → is_some (first_restart []) ≡ true → false ≡ true
none_first hs e = e

pub force_same : (place : Place) (f g : Option State) (hs : List BlockHead) → Restarts hs → force_after place f hs ≡ force_after place g hs
force_same place f g [] e = let no = none_first [] e in absurd cc
force_same place f g (h ∷ hs) e = ap (λ (x : Option State). force_after place x hs) (after_head_fresh place f g h e)

frames_same : (place : Place) (f g : Option State) (c : ℕ) (hs : List BlockHead) (cs : List FrameCode) → Restarts hs → channel_frames place f c hs cs ≡ channel_frames place g c hs cs
unfolding channel_frames
frames_same place f g c [] cs e = refl
frames_same place f g c (h ∷ hs) cs e =
    ap (λ (x : Option State). block_frames x h c (take h.frames cs) ++ channel_frames place x c hs (drop h.frames cs)) (after_head_fresh place f g h e)

module _ (place : Place) (major : place.major ≡ true) where
  past_same : (x y : Coded) (c : ℕ) → past_before place x c ≡ past_before place y c
  past_same x y c = rw major refl

  outputs_same : (x y : Coded) (s : Segment) (c : ℕ) → Restarts s.blocks.items → outputs_in place x s c ≡ outputs_in place y s c
  unfolding outputs_in
  outputs_same x y s c e = λ i. outputs_from 8 4 (past_same x y c i) (frames_same place x.force y.force c s.blocks.items s.codes.items e i)

  coded_same : (x y : Coded) (s : Segment) → Restarts s.blocks.items → coded_after place x s ≡ coded_after place y s
  unfolding coded_after
  coded_same x y s e = λ i. record {
    force = force_same place x.force y.force s.blocks.items e i;
    pasts = map (λ c. past_from 8 4 (past_same x y c i) (frames_same place x.force y.force c s.blocks.items s.codes.items e i)) (range_with_len 0 8);
  }

  -- ---- several substreams

  pub coded_by_same : (xs ys : List Coded) (ss : List Segment) (c : ℕ) → length xs ≡ length ys → AllRestart ss → is_coded_by place xs ss c ≡ is_coded_by place ys ss c
  coded_by_same [] [] ss c n e = refl
  coded_by_same [] (y ∷ ys) ss c n e = absurd (omega arith)
  coded_by_same (x ∷ xs) [] ss c n e = absurd (omega arith)
  coded_by_same (x ∷ xs) (y ∷ ys) [] c n e = refl
  coded_by_same (x ∷ xs) (y ∷ ys) (s ∷ ss) c n e =
      let more = coded_by_same xs ys ss c (omega arith) e.1 in
      λ i. cond (codes_channel (force_same place x.force y.force s.blocks.items e.0 i) c) true (more i)

  channel_same : (xs ys : List Coded) (ss : List Segment) (c : ℕ) → length xs ≡ length ys → AllRestart ss → channel place xs ss c ≡ channel place ys ss c
  channel_same [] [] ss c n e = refl
  channel_same [] (y ∷ ys) ss c n e = absurd (omega arith)
  channel_same (x ∷ xs) [] ss c n e = absurd (omega arith)
  channel_same (x ∷ xs) (y ∷ ys) [] c n e = refl
  channel_same (x ∷ xs) (y ∷ ys) (s ∷ ss) c n e =
      let by = coded_by_same xs ys ss c (omega arith) e.1 in
      let more = channel_same xs ys ss c (omega arith) e.1 in
      let none : List ℤ = [] in
      λ i. cond (by i) (more i) (cond (codes_channel (force_same place x.force y.force s.blocks.items e.0 i) c) (outputs_same x y s c e.0 i) none)

  pub channels_same : (xs ys : List Coded) (ss : List Segment) → length xs ≡ length ys → AllRestart ss → channel place xs ss ≡ channel place ys ss
  channels_same xs ys ss n e = fun_ext (λ c. channel_same xs ys ss c n e)

  pub each_same : (xs ys : List Coded) (ss : List Segment) → length xs ≡ length ss → length ys ≡ length ss → AllRestart ss → coded_each place xs ss ≡ coded_each place ys ss
  each_same [] [] ss m n e = refl
  each_same [] (y ∷ ys) ss m n e = absurd (omega arith)
  each_same (x ∷ xs) [] ss m n e = absurd (omega arith)
  each_same (x ∷ xs) (y ∷ ys) [] m n e = absurd (omega arith)
  each_same (x ∷ xs) (y ∷ ys) (s ∷ ss) m n e =
      let more = each_same xs ys ss (omega arith) (omega arith) e.1 in
      λ i. coded_same x y s e.0 i ∷ more i

-- ---- one of several segments

pub restarts_at : (ss : List Segment) (j : ℕ) (other : Segment) → AllRestart ss → j < length ss → Restarts (slice_index_or ss j other).blocks.items
restarts_at [] j other e lt = absurd (omega arith)
restarts_at (s ∷ ss) zero other e lt = e.0
restarts_at (s ∷ ss) (suc j) other e lt = restarts_at ss j other e.1 (omega arith)
