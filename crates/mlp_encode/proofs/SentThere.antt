-- A segment that was made can be written where it stands, and leaves what it should.
use Rattle.std.proofs.Common.{◌≡◌, ℕ, ◌≤◌, Bool, true, false, List, take, drop, length, Option, Some, None, refl, sym, ap, ◌∙◌, subst, arith}
use Rattle.std.specs.Prelude.{is_some}
use Rattle.std.specs.Option.{IsSomeAnd}
use Rattle.mlp_syntax.specs.declared.restart.Restart.{Restart}
use Rattle.mlp_syntax.specs.declared.segment.Segment.{Segment}
use Rattle.mlp_params.specs.declared.state.State.{State}
use Rattle.mlp_predict.specs.Prediction.{Past}
use Rattle.mlp_substream.specs.declared.known.Place.{Place}
use Rattle.mlp_substream.specs.Blocks.{IsPlace, force_after}
use Rattle.mlp_substream.specs.Segment.{segment, unknown, IsAllowed}
use Rattle.mlp_fifo.proofs.Paces.{unit_most}
use Rattle.mlp_fold.specs.declared.profile.Profile.{Profile}
use Rattle.mlp_fold.specs.declared.coding.CodedFrame.{CodedFrame}
use Rattle.mlp_encode.specs.Blocks.{Force, SentSegment, SentBlock, block_sent, restarted, restart_sent, later_sent, segment_sent}
use Rattle.mlp_encode.specs.Lawful.{SendsSegment, IsSentSegment, IsEnd, place_in}
use Rattle.mlp_encode.proofs.SentChannels.{first_last}
use Rattle.mlp_encode.proofs.SentSegments.{unit_least, part_all, part_first, part_later, later_sendable, fresh_sendable, behind_in_force}
use Rattle.mlp_encode.proofs.SentAllowed.{later_allowed, later_leaves, restart_allowed, restart_leaves}

pub record IsThere (place : Place) (force : Option State) (made : Segment) (after : Option State) : Type 0 where
  pub checked : made.checked ≡ true
  pub allowed : IsAllowed (segment place unknown force made.checked) made
  pub leaves : force_after place force made.blocks.items ≡ after

pub place_there : (p : Profile) (sync : Bool) → IsPlace (place_in p sync)
place_there p sync = record { least = omega (arith, unit_least p.rate); most = unit_most p.rate }

-- what is made of a segment that is there is there
by_sent : (place : Place) (force : Option State) (s : SentSegment) (made : Segment) (after : Option State) (ps : List Past) → IsSentSegment s made after ps → s.segment.checked ≡ true → IsAllowed (segment place unknown force true) s.segment
    → force_after place force s.segment.blocks.items ≡ Some s.behind.state → IsThere place force made after
by_sent place force s made after ps m checked allowed leaves =
    let on : made.checked ≡ true = ap (λ (x : Segment). x.checked) m.segment_is ∙ checked in
    record {
      checked = on;
      allowed = subst (λ (b : Bool). IsAllowed (segment place unknown force b) made) (sym on) (subst (λ (x : Segment). IsAllowed (segment place unknown force true) x) (sym m.segment_is) allowed);
      leaves = ap (λ (x : Segment). force_after place force x.blocks.items) m.segment_is ∙ leaves ∙ sym m.force_is;
    }

module _ (j : ℕ) (p : Profile) (pasts : List Past) (frames : List CodedFrame) (t : Option ℕ) (end : IsEnd p t) (made : Segment) (after : Option State) (ps : List Past) where
  restart_there : (r : Restart) (state : Option State) → SendsSegment p j (Some r) state frames → IsSentSegment (restart_sent j p r pasts frames t) made after ps → IsThere (place_in p true) state made after
  unfolding restart_sent
  restart_there r state h m =
      let le = first_last j h.which in
      let begun : Force = restarted j p r pasts in
      let h1 = fresh_sendable p j (take 8 frames) h.which h.shape h.top (part_first p frames h.frames) r (omega (arith, le, h.restarts.min, h.restarts.max)) h.restarts in
      let first : SentBlock = block_sent j p (Some r) begun (take 8 frames) in
      let h2 = later_sendable p j (drop 8 frames) h.which h.shape h.top (part_later p frames h.frames) first.behind.state (behind_in_force j p (Some r) begun (take 8 frames) h1) in
      let long : 40 ≤ length frames = omega (arith, unit_least p.rate, h.frames.count) in
      by_sent (place_in p true) state (restart_sent j p r pasts frames t) made after ps m refl
      (restart_allowed j p r pasts frames t state h.restarts.allowed long h.frames.count end h1 h2)
      (restart_leaves j p r pasts frames t state h.restarts.allowed long h.frames.count end h1 h2)

  later_there : (s : State) → SendsSegment p j None (Some s) frames → IsSentSegment (later_sent j p (record { state = s; pasts = pasts }) frames t) made after ps → IsThere (place_in p false) (Some s) made after
  unfolding later_sent
  later_there s h m =
      let before : Force = record { state = s; pasts = pasts } in
      let h1 = later_sendable p j frames h.which h.shape h.top (part_all p frames h.frames) s h.force in
      by_sent (place_in p false) (Some s) (later_sent j p before frames t) made after ps m refl (later_allowed j p before frames t h1 h.frames.count end) (later_leaves j p before frames t h1 h.frames.count end)

  pub sent_there : (o : Option Restart) (state : Option State) → SendsSegment p j o state frames → IsSomeAnd (segment_sent j p o state pasts frames t) (λ s. IsSentSegment s made after ps) → IsThere (place_in p (is_some o)) state made after
  sent_there (Some r) state h m = restart_there r state h m
  sent_there None (Some s) h m = later_there s h m
  sent_there None None h m = absurd m
