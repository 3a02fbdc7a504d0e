-- What a session that reads by a decoder does with the next bytes, by what comes of the next unit.
use Rattle.std.proofs.Common.{◌≡◌, ℕ, ◌↔◌, ◌&&◌, Bool, true, false, IsTrue, List, Result, Ok, Err, Option, Some, None, is_none, refl, ap}
use Rattle.std.specs.Option.{option_map}
use Rattle.mlp_syntax.specs.declared.segment.Segment.{Segment}
use Rattle.mlp_unit.specs.AccessUnit.{AccessUnit}
use Rattle.mlp_walk.specs.declared.refusal.Refusal.{Refusal as Declined}
use Rattle.mlp_walk.specs.Next.{Taken}
use Rattle.mlp_stream.specs.declared.refusal.Refusal.{Refusal}
use Rattle.mlp_stream.specs.Moves.{Move, Waits, Takes, Refuses}
use Rattle.mlp_answers.specs.Reading.{Reader, refusal_of, on_given}
use Rattle.mlp_answers.proofs.ReadingLaws.{stepped}
use Rattle.mlp_contents.specs.Units.{Left, whole}
use Rattle.mlp_present.specs.Parts.{Next}
use Rattle.mlp_present.specs.Decoding.{unless_refused, is_open_behind}

err_next : Declined → Next
err_next e = Err e

err_is : (d e : Declined) → err_next d ≡ err_next e → d ≡ e
unfolding err_next
err_is d e h = cc

module _ {S : Type 0} (k : ℕ) (reader : Reader S Left AccessUnit (List Segment)) (s : S) where
  abbrev pub given_move : ℕ → Result (List ℕ × S) Refusal → Move S
  given_move size x = on_given (whole k) (Some k) is_open_behind reader size x

  -- the step, by what its decoder refused before and whether that needs more bytes
  abbrev pub stepped_at : Option Declined → Bool → Next → Move S
  stepped_at refusal opens next = stepped (whole k) (Some k) is_open_behind reader (option_map refusal_of refusal) opens s next

  pub refuses_by : (refusal : Option Declined) (next : Next) (e : Declined) → unless_refused refusal next ≡ Err e → stepped_at refusal false next ≡ Refuses (refusal_of e)
  unfolding err_next
  refuses_by None next e h = ap (stepped_at None false) h
  refuses_by (Some d) next e h = ap (λ (r : Declined). Refuses (refusal_of r)) (err_is d e h)

  pub takes_by : (refusal : Option Declined) (next : Next) (t : Taken AccessUnit (List Segment)) → unless_refused refusal next ≡ Ok t
      → stepped_at refusal false next ≡ given_move t.size (reader.gives s t)
  takes_by None next t h = ap (stepped_at None false) h
  takes_by (Some d) next t h = absurd cc

  -- ---- it waits exactly where its decoder does

  waiting_given : (size : ℕ) (x : Result (List ℕ × S) Refusal) → given_move size x ≡ Waits → ⊥
  waiting_given size (Ok x) e = cc
  waiting_given size (Err r) e = cc

  pub waiting : (refusal : Option Declined) (b : Bool) (next : Next) → IsTrue (is_none refusal && b) ↔ (stepped_at refusal b next ≡ Waits)
  waiting None true next = (λ _. refl, λ _. refl)
  waiting None false (Ok t) = (λ e. absurd cc, λ e. absurd (waiting_given t.size (reader.gives s t) e))
  waiting None false (Err r) = (λ e. absurd cc, λ e. absurd cc)
  waiting (Some e) b next = (λ e. absurd cc, λ e. absurd cc)
