-- What holds of each segment that is sent.
use Rattle.std.proofs.Common.{◌≡◌, ℕ, ◌*◌, ◌%◌, ◌≤◌, Bool, true, false, List, length, take, drop, Option, Some, None, refl, sym, subst, arith}
use Rattle.std.specs.Prelude.{is_some}
use Rattle.std.specs.Option.{IsSomeAnd}
use Rattle.mlp_syntax.specs.declared.restart.Restart.{Restart}
use Rattle.mlp_params.specs.declared.state.State.{State}
use Rattle.mlp_predict.specs.Prediction.{Past}
use Rattle.mlp_substream.specs.declared.known.Known.{Known}
use Rattle.mlp_substream.specs.Blocks.{force_after}
use Rattle.mlp_substream.specs.Segment.{segment, unknown, IsAllowed, IsAsKnown}
use Rattle.mlp_substream.proofs.KnownLaws.{known_allowed}
use Rattle.mlp_fold.specs.declared.profile.Profile.{Profile}
use Rattle.mlp_fold.specs.declared.coding.CodedFrame.{CodedFrame}
use Rattle.mlp_encode.specs.Blocks.{Force, SentSegment, SentBlock, block_sent, restarted, restart_sent, later_sent, segment_sent}
use Rattle.mlp_encode.specs.Lawful.{IsInForce, SendsSegment, IsSentSegment, IsEnd, place_in, segment_most}
use Rattle.mlp_encode.proofs.SentChannels.{first_last}
use Rattle.mlp_encode.proofs.SentSegments.{part_all, part_first, part_later, later_sendable, fresh_sendable, behind_in_force}
use Rattle.mlp_encode.proofs.SentThere.{IsThere, sent_there}
use Rattle.mlp_encode.proofs.SentLength.{sent_short, whole_words}

module _ (j : ℕ) (p : Profile) (pasts : List Past) (frames : List CodedFrame) (t : Option ℕ) where
  -- one is sent, and what holds of each holds of it
  each_sent : (P : SentSegment → Type 0) (o : Option Restart) (state : Option State) → SendsSegment p j o state frames → ((s : SentSegment) → segment_sent j p o state pasts frames t ≡ Some s → P s)
      → IsSomeAnd (segment_sent j p o state pasts frames t) P
  each_sent P (Some r) state h f = f (restart_sent j p r pasts frames t) refl
  each_sent P None (Some s) h f = f (later_sent j p (record { state = s; pasts = pasts }) frames t) refl
  each_sent P None None h f = absurd (let t : false ≡ true = h.there refl in cc)

  sent_itself : (o : Option Restart) (state : Option State) (s : SentSegment) → segment_sent j p o state pasts frames t ≡ Some s
      → IsSomeAnd (segment_sent j p o state pasts frames t) (λ x. IsSentSegment x s.segment (Some s.behind.state) s.behind.pasts)
  sent_itself o state s e =
      let is : IsSentSegment s s.segment (Some s.behind.state) s.behind.pasts = record { segment_is = refl; force_is = refl; pasts_are = refl } in
      subst (λ (x : Option SentSegment). IsSomeAnd x (λ x. IsSentSegment x s.segment (Some s.behind.state) s.behind.pasts)) (sym e) is

  module _ (o : Option Restart) (state : Option State) (h : SendsSegment p j o state frames) (end : IsEnd p t) where
    there : (s : SentSegment) → segment_sent j p o state pasts frames t ≡ Some s → IsThere (place_in p (is_some o)) state s.segment (Some s.behind.state)
    there s e = sent_there j p pasts frames t end s.segment (Some s.behind.state) s.behind.pasts o state h (sent_itself o state s e)

    unknown_allowed : (s : SentSegment) → segment_sent j p o state pasts frames t ≡ Some s → IsAllowed (segment (place_in p (is_some o)) unknown state true) s.segment
    unknown_allowed s e = subst (λ (b : Bool). IsAllowed (segment (place_in p (is_some o)) unknown state b) s.segment) (there s e).checked (there s e).allowed

    -- it can be written and meets the rules, with all that is known of it
    pub sent_allowed : (known : Known) → IsSomeAnd (segment_sent j p o state pasts frames t) (λ s. IsAsKnown (place_in p (is_some o)) known s.segment → IsAllowed (segment (place_in p (is_some o)) known state true) s.segment)
    sent_allowed known =
        each_sent (λ s. IsAsKnown (place_in p (is_some o)) known s.segment → IsAllowed (segment (place_in p (is_some o)) known state true) s.segment) o state h (λ s e is.
        (known_allowed (place_in p (is_some o)) known state true s.segment).1 (unknown_allowed s e, is))

    pub sent_leaves : IsSomeAnd (segment_sent j p o state pasts frames t) (λ s. force_after (place_in p (is_some o)) state s.segment.blocks.items ≡ Some s.behind.state)
    sent_leaves = each_sent (λ s. force_after (place_in p (is_some o)) state s.segment.blocks.items ≡ Some s.behind.state) o state h (λ s e. (there s e).leaves)

    -- its bits are whole words, and not too many
    pub sent_words : IsSomeAnd (segment_sent j p o state pasts frames t) (λ s. length ((segment (place_in p (is_some o)) unknown state true).spelling s.segment) % 16 ≡ 0)
    sent_words =
        each_sent (λ s. length ((segment (place_in p (is_some o)) unknown state true).spelling s.segment) % 16 ≡ 0) o state h (λ s e.
        whole_words (place_in p (is_some o)) state s.segment true (unknown_allowed s e).fits)

    pub sent_most : IsSomeAnd (segment_sent j p o state pasts frames t) (λ s. length ((segment (place_in p (is_some o)) unknown state true).spelling s.segment) ≤ 8 * segment_most p j)
    sent_most =
        each_sent (λ s. length ((segment (place_in p (is_some o)) unknown state true).spelling s.segment) ≤ 8 * segment_most p j) o state h (λ s e.
        subst (λ (b : Bool). length ((segment (place_in p (is_some o)) unknown state b).spelling s.segment) ≤ 8 * segment_most p j) (there s e).checked
        (sent_short j p pasts frames t end s.segment (Some s.behind.state) s.behind.pasts o state h (sent_itself o state s e)))

  -- the next unit can be sent against what it leaves
  pub sent_in_force : (o : Option Restart) (state : Option State) → SendsSegment p j o state frames → IsSomeAnd (segment_sent j p o state pasts frames t) (λ s. IsInForce p j s.behind.state)
  unfolding restart_sent later_sent
  sent_in_force (Some r) state h =
      let le = first_last j h.which in
      let begun : Force = restarted j p r pasts in
      let h1 = fresh_sendable p j (take 8 frames) h.which h.shape h.top (part_first p frames h.frames) r (omega (arith, le, h.restarts.min, h.restarts.max)) h.restarts in
      let first : SentBlock = block_sent j p (Some r) begun (take 8 frames) in
      let h2 = later_sendable p j (drop 8 frames) h.which h.shape h.top (part_later p frames h.frames) first.behind.state (behind_in_force j p (Some r) begun (take 8 frames) h1) in
      behind_in_force j p None first.behind (drop 8 frames) h2
  sent_in_force None (Some s) h =
      behind_in_force j p None (record { state = s; pasts = pasts }) frames (later_sendable p j frames h.which h.shape h.top (part_all p frames h.frames) s h.force)
  sent_in_force None None h = absurd (let t : false ≡ true = h.there refl in cc)
