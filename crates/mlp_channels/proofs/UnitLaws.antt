-- A segment in its unit: a restart, with which a unit that has a major sync begins, forgets the past.
use Rattle.std.proofs.Common.{◌≡◌, ℕ, Bool, true, false, cond, List, length, get_or, replicate, Option, ℤ, refl, ap, ◌∙◌, arith, inl, inr}
use Rattle.std.proofs.lemmas.Bool.{cases_lt}
use Rattle.std.proofs.lemmas.List.{get_or-replicate, get_or_past, length-replicate}
use Rattle.std.proofs.lemmas.List.FromFn.{fill_by_all}
use Rattle.mlp_syntax.specs.declared.segment.Segment.{Segment}
use Rattle.mlp_params.specs.declared.state.State.{State}
use Rattle.mlp_predict.specs.Prediction.{Past, zeros}
use Rattle.mlp_predict.specs.Outputs.{outputs_from, past_from}
use Rattle.mlp_substream.specs.declared.known.Place.{Place}
use Rattle.mlp_substream.specs.Blocks.{force_after}
use Rattle.mlp_channels.specs.Channels.{Coded, past_before, frames_in, outputs_in, coded_after, HasPlayed}
use Rattle.mlp_channels.specs.Playing.{past_of_channel, pasts_at_start, HasPlayedBlocks}

all_zeros : (c : ℕ) → get_or (replicate 8 (zeros 8 4)) c (zeros 8 4) ≡ zeros 8 4
all_zeros c = elim (cases_lt c 8) [
  | inl l ↦ get_or-replicate 8 c (zeros 8 4) (zeros 8 4) l
  | inr l ↦ get_or_past (replicate 8 (zeros 8 4)) c (zeros 8 4) (omega (arith, length-replicate 8 (zeros 8 4)))
]

at_start : (major : Bool) (pasts : List Past) (c : ℕ) → past_of_channel (pasts_at_start major pasts) c ≡ cond major (zeros 8 4) (get_or pasts c (zeros 8 4))
at_start true pasts c = all_zeros c
at_start false pasts c = refl

length-at_start : (major : Bool) (pasts : List Past) → length pasts ≡ 8 → length (pasts_at_start major pasts) ≡ 8
length-at_start true pasts count = refl
length-at_start false pasts count = count

module _ (place : Place) (x : Coded) (s : Segment) (after : List Past) (old new : List (List ℤ)) where
  module _ (h : HasPlayedBlocks place x.force s.blocks.items s.codes.items (length s.codes.items) (pasts_at_start place.major x.pasts) after old new) where
    pub unit_played : HasPlayed place x s (length s.codes.items) old new
    unfolding outputs_in
    unit_played = record {
      coded = λ c e. h.coded c e ∙ ap (λ (p : Past). outputs_from 8 4 p (frames_in place x s c)) (at_start place.major x.pasts c);
      others = h.others;
    }

    past_left : (c : ℕ) → past_of_channel after c ≡ past_from 8 4 (past_before place x c) (frames_in place x s c)
    past_left c = h.pasts c ∙ ap (λ (p : Past). past_from 8 4 p (frames_in place x s c)) (at_start place.major x.pasts c)

    pub unit_leaves : (state : Option State) → state ≡ force_after place x.force s.blocks.items → length x.pasts ≡ 8 → (let y : Coded = record { force = state; pasts = after } in y ≡ coded_after place x s)
    unfolding coded_after
    unit_leaves state e count =
        let left = fill_by_all (λ c. past_from 8 4 (past_before place x c) (frames_in place x s c)) after 8 (zeros 8 4) (h.count ∙ length-at_start place.major x.pasts count) (λ c l. past_left c) in
        ap (λ (f : Option State). coded f after) e ∙ ap (λ (ps : List Past). coded (force_after place x.force s.blocks.items) ps) left
      where
        coded : Option State → List Past → Coded
        coded f ps = record { force = f; pasts = ps }
