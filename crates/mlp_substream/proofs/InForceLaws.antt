-- Blocks one after the other put in force what their latest values are.
use Rattle.std.proofs.Common.{◌≡◌, ℕ, List, [], ◌∷◌, ◌++◌, Option, Some, None, refl, sym, ap, ◌∙◌, append_assoc}
use Rattle.std.specs.Prelude.{reverse, option_map}
use Rattle.std.proofs.lemmas.Grind.{reverse_onto}
use Rattle.mlp_syntax.specs.declared.restart.Restart.{Restart}
use Rattle.mlp_syntax.specs.declared.params.Params.{Params}
use Rattle.mlp_syntax.specs.declared.segment.BlockHead.{BlockHead}
use Rattle.mlp_params.specs.declared.state.State.{State}
use Rattle.mlp_params.specs.InForce.{in_force, last_restart, given_since, behind_blocks}
use Rattle.mlp_params.proofs.InForceLaws.{one_step}
use Rattle.mlp_substream.specs.declared.known.Place.{Place}
use Rattle.mlp_substream.specs.Blocks.{given, after_head, force_after}

module _ (place : Place) where
  abbrev behind : List BlockHead → Option State
  behind blocks = behind_blocks place.format place.unit_frames blocks

  -- the parameters of one more block, behind a restart or none
  more_given : (o : Option Restart) (p : Params) (earlier : List Params)
      → option_map (given (Some p)) (option_map (λ r. in_force place.format place.unit_frames r earlier) o) ≡ option_map (λ r. in_force place.format place.unit_frames r (p ∷ earlier)) o
  more_given None p earlier = refl
  more_given (Some r) p earlier = ap (λ (s : State). some_of s) (sym (one_step place.format place.unit_frames r earlier p))
    where
      some_of : State → Option State
      some_of s = Some s

  none_given : (o : Option State) → option_map (given None) o ≡ o
  none_given None = refl
  none_given (Some s) = refl

  one_block : (earlier : List BlockHead) (h : BlockHead) → after_head place (behind earlier) h ≡ behind (h ∷ earlier)
  one_block earlier h = go h.restart h.params h.frames
    where
      go : (o : Option Restart) (p : Option Params) (n : ℕ) → (let g : BlockHead = record { restart = o; params = p; frames = n } in after_head place (behind earlier) g ≡ behind (g ∷ earlier))
      go None None n = none_given (behind earlier)
      go None (Some p) n = more_given (last_restart earlier) p (given_since earlier)
      go (Some r) None n = refl
      go (Some r) (Some p) n = more_given (Some r) p []

  pub behind_more : (heads earlier : List BlockHead) → force_after place (behind earlier) heads ≡ behind (reverse heads ++ earlier)
  behind_more [] earlier = refl
  behind_more (h ∷ hs) earlier =
      ap (λ (s : Option State). force_after place s hs) (one_block earlier h) ∙ behind_more hs (h ∷ earlier)
      ∙ ap (λ (bs : List BlockHead). behind bs) (sym (append_assoc (reverse hs) (h ∷ []) earlier) ∙ ap (λ (bs : List BlockHead). bs ++ earlier) (sym (reverse_onto hs h [])))
