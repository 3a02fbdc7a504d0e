-- What the session of `list` does with the next bytes.
use Rattle.std.proofs.Common.{◌≡◌, ℕ, ◌↔◌, ◌&&◌, Bool, true, false, IsTrue, List, take, Ok, Err, Option, Some, None, is_none, refl, sym, ap, subst, ◌∙◌}
use Rattle.std.specs.Option.{option_map}
use Rattle.mlp_syntax.specs.declared.unit.Outer.{Outer}
use Rattle.mlp_unit.specs.Shape.{unit_with}
use Rattle.mlp_unit.specs.Outline.{outline}
use Rattle.mlp_walk.specs.declared.refusal.Refusal.{Refusal as Declined}
use Rattle.mlp_walk.specs.Next.{next_of}
use Rattle.mlp_stream.specs.Moves.{Move, Waits, Takes, Refuses}
use Rattle.mlp_answers.specs.Reading.{refusal_of}
use Rattle.mlp_answers.proofs.ReadingLaws.{stepped, step_is}
use Rattle.mlp_outline.specs.Next.{is_open}
use Rattle.mlp_outline.specs.Outlining.{Outlined, Next, unless_refused, next_outline, outlined_of, after_outline, waits}
use Rattle.mlp_sessions.specs.ListLine.{unit_line}
use Rattle.mlp_sessions.specs.Listing.{is_open_outline, list_reader, list_step}

-- by what comes of the next unit, or came
abbrev moved_by : Outlined → Next → Move Outlined
moved_by held (Ok t) = Takes t.size (unit_line held.units t.unit.outer) (after_outline held (Ok t))
moved_by held (Err e) = Refuses (refusal_of e)

stepped_at : Option Declined → Bool → Outlined → Next → Move Outlined
stepped_at refusal b held next = stepped outline None is_open_outline list_reader (option_map refusal_of refusal) b held next

moves : (held : Outlined) (next : Next) (refusal : Option Declined) → stepped_at refusal false held next ≡ moved_by held (unless_refused refusal next)
unfolding stepped_at
moves held (Ok t) None = refl
moves held (Err e) None = refl
moves held next (Some e) = refl

-- at the end of the bytes nothing is waited for
list_moves : (held : Outlined) (bytes : List ℕ) → list_step held true bytes ≡ moved_by held (next_outline held bytes)
unfolding stepped_at
list_moves held bytes = step_is outline None is_open_outline list_reader held true bytes ∙ moves held (next_of outline None held.units held.first bytes) held.refusal

pub list_takes : (held : Outlined) (bytes : List ℕ) (x : ℕ × Outer) (out : List ℕ) (new : Outlined) → next_outline held bytes ≡ outlined_of bytes (Ok x) → new ≡ after_outline held (next_outline held bytes)
    → out ≡ unit_line held.units (unit_with (take x.0 bytes) x.1) → list_step held true bytes ≡ Takes x.0 out new
list_takes held bytes x out new next behind line =
    list_moves held bytes ∙ ap (moved_by held) next
    ∙ ap (λ (bs : List ℕ). Takes x.0 bs (after_outline held (outlined_of bytes (Ok x)))) (sym line)
    ∙ ap (Takes x.0 out) (sym (behind ∙ ap (after_outline held) next))

pub list_refuses : (held : Outlined) (bytes : List ℕ) (e : Declined) → next_outline held bytes ≡ Err e → list_step held true bytes ≡ Refuses (refusal_of e)
list_refuses held bytes e next = list_moves held bytes ∙ ap (moved_by held) next

-- it waits exactly where its reader does
waiting : (held : Outlined) (next : Next) (refusal : Option Declined) (b : Bool) → IsTrue (is_none refusal && b) ↔ (stepped_at refusal b held next ≡ Waits)
unfolding stepped_at
waiting held next None true = (λ _. refl, λ _. refl)
waiting held (Ok t) None false = (λ e. absurd cc, λ e. absurd cc)
waiting held (Err r) None false = (λ e. absurd cc, λ e. absurd cc)
waiting held next (Some e) b = (λ e. absurd cc, λ e. absurd cc)

pub list_waits : (held : Outlined) (bytes : List ℕ) → IsTrue (waits held bytes) ↔ (list_step held false bytes ≡ Waits)
unfolding stepped_at
list_waits held bytes =
    let next : Next = next_of outline None held.units held.first bytes in
    subst (λ (m : Move Outlined). IsTrue (waits held bytes) ↔ (m ≡ Waits)) (sym (step_is outline None is_open_outline list_reader held false bytes))
    (waiting held next held.refusal (is_open bytes))
