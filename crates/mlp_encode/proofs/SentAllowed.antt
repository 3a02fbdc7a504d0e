-- The segments that are sent can be written where they stand, and leave what they should.
use Rattle.std.proofs.Common.{◌≡◌, ℕ, ◌+◌, ◌≤◌, Bool, true, false, List, [], ◌∷◌, ◌++◌, take, drop, length, Option, Some, None, refl, sym, ap, ◌∙◌, subst, arith}
use Rattle.std.specs.Prelude.{is_some}
use Rattle.std.proofs.lemmas.List.{length-append, length-take-le, length-drop}
use Rattle.mlp_syntax.specs.declared.fault.Field.TheVariants as rule
use Rattle.mlp_syntax.specs.declared.restart.Restart.{Restart}
use Rattle.mlp_layout.specs.Allowed.{Allowed}
use Rattle.mlp_params.specs.declared.state.State.{State}
use Rattle.mlp_params.specs.RestartHeader.{restart}
use Rattle.mlp_predict.specs.Prediction.{Past}
use Rattle.mlp_substream.specs.Blocks.{Block, block, after_block, after_head, force_after, first_context}
use Rattle.mlp_substream.specs.Segment.{heads_of, codes_of, segment, unknown, IsAllowed}
use Rattle.mlp_substream.proofs.SegmentLaws.{AllFramesFit, nested-flat}
use Rattle.mlp_fifo.specs.Pace.{unit_of}
use Rattle.mlp_fold.specs.declared.profile.Profile.{Profile}
use Rattle.mlp_fold.specs.declared.coding.CodedFrame.{CodedFrame}
use Rattle.mlp_encode.specs.Blocks.{Force, SentBlock, given_in, sent_in, behind_params, block_sent, segment_of, restarted, restart_sent, later_sent}
use Rattle.mlp_encode.specs.Lawful.{IsSendable, IsEnd, place_in}
use Rattle.mlp_encode.proofs.SentChannels.{codes_in_count}
use Rattle.mlp_encode.proofs.BlockAllowed.{BlockParts, flags_later, flags_restart, block_there, after_is, sent_parts}
use Rattle.mlp_encode.proofs.SegmentAllowed.{SegmentParts, last_one, first_one, segment_there}

abbrev as_block : SentBlock → Block
as_block b = record { head = b.head; frames = b.codes }

module _ (j : ℕ) (p : Profile) where
  count_of : (o : Option Restart) (before : Force) (frames : List CodedFrame) → length (block_sent j p o before frames).codes ≡ length frames
  unfolding block_sent
  count_of o before frames = codes_in_count (behind_params (given_in j p (is_some o) before frames) before.state).rows.items (sent_in j p (is_some o) before frames) frames

  frames_is : (o : Option Restart) (before : Force) (frames : List CodedFrame) → (block_sent j p o before frames).head.frames ≡ length frames
  unfolding block_sent
  frames_is o before frames = refl

  -- a block against what is in force
  later_block : (before : Force) (frames : List CodedFrame) (sync : Bool) (force : Option State) (so_far : ℕ) → IsSendable j p false before.state frames → force ≡ Some before.state → so_far + length frames ≤ unit_of p.rate
      → Allowed (block (place_in p sync) unknown (record { force = force; so_far = so_far; due = false })) (as_block (block_sent j p None before frames))
  unfolding block_sent
  later_block before frames sync force so_far h e room =
      block_there (place_in p sync) force None before.state (given_in j p false before frames) _ (length frames) so_far false
      (sent_parts j p None before frames (place_in p sync) force so_far false h (flags_later (is_some (given_in j p false before frames))) (λ r no. absurd (let t : None ≡ Some r = no in cc)) e room)

  leaves_behind : (before : Force) (frames : List CodedFrame) (sync : Bool) (force : Option State) (so_far : ℕ) → IsSendable j p false before.state frames → force ≡ Some before.state → so_far + length frames ≤ unit_of p.rate
      → after_head (place_in p sync) force (block_sent j p None before frames).head ≡ Some (block_sent j p None before frames).behind.state
  unfolding block_sent
  leaves_behind before frames sync force so_far h e room =
      after_is (place_in p sync) force None before.state (given_in j p false before frames) _ (length frames) so_far false
      (sent_parts j p None before frames (place_in p sync) force so_far false h (flags_later (is_some (given_in j p false before frames))) (λ r no. absurd (let t : None ≡ Some r = no in cc)) e room)

  module _ (before : Force) (frames : List CodedFrame) (t : Option ℕ) (h : IsSendable j p false before.state frames) (count : length frames ≡ unit_of p.rate) (end : IsEnd p t) where
    later_parts : SegmentParts (place_in p false) (Some before.state) (segment_of (block_sent j p None before frames ∷ []) t) (as_block (block_sent j p None before frames) ∷ [])
    unfolding heads_of codes_of AllFramesFit
    later_parts =
        let b : SentBlock = block_sent j p None before frames in
        let codes = count_of None before frames in
        record {
          nested_are = nested-flat (as_block b ∷ []) (codes ∙ sym (frames_is None before frames), tt);
          heads_are = refl;
          codes_are = refl;
          blocks_are = last_one (block (place_in p false) unknown) (after_block (place_in p false)) rule.BlockOverrun 20 (first_context (place_in p false) (Some before.state)) (as_block b)
              (later_block before frames false (Some before.state) 0 h refl (omega (arith, count)));
          no_padding = refl;
          checks = refl;
          end_fits = end.fits;
          end_meets = end.meets;
          count = omega (arith, length-append b.codes [], codes, count);
        }

    pub later_allowed : IsAllowed (segment (place_in p false) unknown (Some before.state) true) (later_sent j p before frames t).segment
    unfolding later_sent
    later_allowed = segment_there (place_in p false) (Some before.state) (segment_of (block_sent j p None before frames ∷ []) t) (as_block (block_sent j p None before frames) ∷ []) later_parts

    -- it leaves what is in force behind it
    pub later_leaves : force_after (place_in p false) (Some before.state) (later_sent j p before frames t).segment.blocks.items ≡ Some (later_sent j p before frames t).behind.state
    unfolding later_sent
    later_leaves = leaves_behind before frames false (Some before.state) 0 h refl (omega (arith, count))

  -- ---- with a restart

  module _ (r : Restart) (pasts : List Past) (frames : List CodedFrame) (t : Option ℕ) (force : Option State) (allowed : Allowed (restart p.kind) r) (long : 40 ≤ length frames)
      (count : length frames ≡ unit_of p.rate) (end : IsEnd p t) where
    abbrev begun : Force
    begun = restarted j p r pasts

    abbrev first : SentBlock
    first = block_sent j p (Some r) begun (take 8 frames)

    abbrev second : SentBlock
    second = block_sent j p None first.behind (drop 8 frames)

    module _ (h1 : IsSendable j p true begun.state (take 8 frames)) (h2 : IsSendable j p false first.behind.state (drop 8 frames)) where
      eight : length (take 8 frames) ≡ 8
      eight = length-take-le 8 frames (omega (arith, long))

      first_parts : BlockParts (place_in p true) force (Some r) begun.state (given_in j p true begun (take 8 frames)) first.codes (length (take 8 frames)) 0 true
      first_parts =
          sent_parts j p (Some r) begun (take 8 frames) (place_in p true) force 0 true h1 flags_restart
          (λ q e. let same : r ≡ q = cc in subst (λ (x : Restart). Allowed (restart p.kind) x) same allowed) refl (omega (arith, eight, long, count))

      first_block : Allowed (block (place_in p true) unknown (record { force = force; so_far = 0; due = true })) (as_block first)
      unfolding block_sent
      first_block = block_there (place_in p true) force (Some r) begun.state (given_in j p true begun (take 8 frames)) _ (length (take 8 frames)) 0 true first_parts

      first_leaves : after_head (place_in p true) force first.head ≡ Some first.behind.state
      unfolding block_sent
      first_leaves = after_is (place_in p true) force (Some r) begun.state (given_in j p true begun (take 8 frames)) _ (length (take 8 frames)) 0 true first_parts

      second_room : first.head.frames + length (drop 8 frames) ≤ unit_of p.rate
      second_room = omega (arith, frames_is (Some r) begun (take 8 frames), eight, length-drop 8 frames, count, long)

      second_block : Allowed (block (place_in p true) unknown (record { force = after_head (place_in p true) force first.head; so_far = 0 + first.head.frames; due = false })) (as_block second)
      second_block = later_block first.behind (drop 8 frames) true (after_head (place_in p true) force first.head) (0 + first.head.frames) h2 first_leaves (omega (arith, second_room))

      restart_parts : SegmentParts (place_in p true) force (segment_of (first ∷ second ∷ []) t) (as_block first ∷ as_block second ∷ [])
      unfolding heads_of codes_of AllFramesFit
      restart_parts =
          let c1 = count_of (Some r) begun (take 8 frames) in
          let c2 = count_of None first.behind (drop 8 frames) in
          let place = place_in p true in
          record {
            nested_are = nested-flat (as_block first ∷ as_block second ∷ []) (c1 ∙ sym (frames_is (Some r) begun (take 8 frames)), (c2 ∙ sym (frames_is None first.behind (drop 8 frames)), tt));
            heads_are = refl;
            codes_are = refl;
            blocks_are = first_one (block place unknown) (after_block place) rule.BlockOverrun 20 (first_context place force) (as_block first) (as_block second) first_block
                (last_one (block place unknown) (after_block place) rule.BlockOverrun 19 (after_block place (first_context place force) (as_block first)) (as_block second) second_block);
            no_padding = refl;
            checks = refl;
            end_fits = end.fits;
            end_meets = end.meets;
            count = omega (arith, length-append first.codes (second.codes ++ []), length-append second.codes [], c1, c2, eight, length-drop 8 frames, count, long);
          }

      pub restart_allowed : IsAllowed (segment (place_in p true) unknown force true) (restart_sent j p r pasts frames t).segment
      unfolding restart_sent
      restart_allowed = segment_there (place_in p true) force (segment_of (first ∷ second ∷ []) t) (as_block first ∷ as_block second ∷ []) restart_parts

      pub restart_leaves : force_after (place_in p true) force (restart_sent j p r pasts frames t).segment.blocks.items ≡ Some (restart_sent j p r pasts frames t).behind.state
      unfolding restart_sent
      restart_leaves =
          ap (λ (f : Option State). after_head (place_in p true) f second.head) first_leaves ∙ second_leaves
        where
          second_leaves : after_head (place_in p true) (Some first.behind.state) second.head ≡ Some second.behind.state
          second_leaves = leaves_behind first.behind (drop 8 frames) true (Some first.behind.state) 0 h2 refl (omega (arith, length-drop 8 frames, count, long))
