-- What a cutter does with the next bytes.
use Rattle.std.proofs.Common.{◌≡◌, ℕ, ◌↔◌, ◌&&◌, Bool, true, false, IsTrue, List, take, Result, Ok, Err, Option, Some, None, is_none, refl, sym, ap, subst, ◌∙◌}
use Rattle.mlp_syntax.specs.declared.unit.Outer.{Outer}
use Rattle.mlp_substream.proofs.CheckLaws.{AreBytes}
use Rattle.mlp_unit.specs.AccessUnit.{AccessUnit}
use Rattle.mlp_unit.specs.Shape.{unit_with}
use Rattle.mlp_unit.specs.Outline.{outline}
use Rattle.mlp_walk.specs.declared.refusal.Refusal.{Refusal as Declined}
use Rattle.mlp_walk.specs.Next.{Taken, next_of}
use Rattle.mlp_stream.specs.declared.refusal.Refusal.{Refusal}
use Rattle.mlp_stream.specs.Moves.{Move, Waits, Takes, Refuses}
use Rattle.mlp_answers.specs.Reading.{refusal_of, on_given}
use Rattle.mlp_answers.proofs.ReadingLaws.{stepped, step_is}
use Rattle.mlp_outline.specs.Next.{is_open}
use Rattle.mlp_outline.specs.Outlining.{Outlined, Next, unless_refused, next_outline, outlined_of, after_outline, waits}
use Rattle.mlp_cut.specs.Cut.{unit_bytes}
use Rattle.mlp_cut.specs.Cutting.{is_open_outline, cut_out}
use Rattle.mlp_cut.specs.Cutter.{Held, held_with, with_after, refused, reader, cut_step}
use Rattle.mlp_cut.proofs.OwnBytes.{taken_bytes}

abbrev given : ℕ → Result (List ℕ × Held) Refusal → Move Held
given n r = on_given outline None is_open_outline reader n r

abbrev steps : Option Refusal → Bool → Held → Next → Move Held
steps refusal b held next = stepped outline None is_open_outline reader refusal b held next

abbrev next_at : Held → List ℕ → Next
next_at held bytes = next_of outline None held.read.units held.read.first bytes

-- ---- by what comes of the next unit

abbrev moved_by : Held → Next → Move Held
moved_by held (Ok t) = given t.size (reader.gives held t)
moved_by held (Err e) = Refuses (refusal_of e)

moves : (held : Held) (next : Next) (read : Option Declined) → steps (refused None read) false held next ≡ moved_by held (unless_refused read next)
moves held (Ok t) None = refl
moves held (Err e) None = refl
moves held next (Some e) = refl

cut_moves : (held : Held) (bytes : List ℕ) → held.refusal ≡ None → cut_step held true bytes ≡ moved_by held (next_outline held.read bytes)
cut_moves held bytes e =
    step_is outline None is_open_outline reader held true bytes ∙ ap (λ (o : Option Refusal). steps (refused o held.read.refusal) false held (next_at held bytes)) e
    ∙ moves held (next_at held bytes) held.read.refusal

pub cut_again : (held : Held) (bytes : List ℕ) (r : Refusal) → held.refusal ≡ Some r → cut_step held true bytes ≡ Refuses r
cut_again held bytes r e = step_is outline None is_open_outline reader held true bytes ∙ ap (λ (o : Option Refusal). steps (refused o held.read.refusal) false held (next_at held bytes)) e

pub cut_declines : (held : Held) (bytes : List ℕ) (d : Declined) → held.refusal ≡ None → next_outline held.read bytes ≡ Err d → cut_step held true bytes ≡ Refuses (refusal_of d)
cut_declines held bytes d e next = cut_moves held bytes e ∙ ap (moved_by held) next

-- a unit of so many bytes with this outer part
abbrev pub unit_at : List ℕ → ℕ × Outer → Taken AccessUnit (Unit {0})
unit_at bytes x = record { size = x.0; unit = record { outer = unit_with (take x.0 bytes) x.1; contents = tt } }

own : (number : ℕ) (read : Outlined) (bytes : List ℕ) (t : Taken AccessUnit (Unit {0})) (o : Option Declined) → AreBytes bytes → unless_refused o (next_of outline None number read.first bytes) ≡ Ok t
    → unit_bytes t.unit.outer ≡ take t.size bytes
own number read bytes t None small e = taken_bytes number read.first bytes t small e
own number read bytes t (Some d) small e = absurd cc

pub cut_gives : (held : Held) (bytes : List ℕ) (x : ℕ × Outer) (r : Result (List ℕ) Refusal) → held.refusal ≡ None → AreBytes bytes → next_outline held.read bytes ≡ outlined_of bytes (Ok x)
    → cut_out held.first held.count held.read.units x.1.major (take x.0 bytes) ≡ r → cut_step held true bytes ≡ given x.0 (with_after held (unit_at bytes x) r)
cut_gives held bytes x r e small next out =
    let bytes_are : unit_bytes (unit_at bytes x).unit.outer ≡ take x.0 bytes = own held.read.units held.read bytes (unit_at bytes x) held.read.refusal small next in
    let all_out : cut_out held.first held.count held.read.units x.1.major (unit_bytes (unit_at bytes x).unit.outer) ≡ r = ap (cut_out held.first held.count held.read.units x.1.major) bytes_are ∙ out in
    cut_moves held bytes e ∙ ap (moved_by held) next ∙ ap (λ (q : Result (List ℕ) Refusal). given x.0 (with_after held (unit_at bytes x) q)) all_out

module _ (f c : ℕ) (read new : Outlined) (bytes : List ℕ) (x : ℕ × Outer) (small : AreBytes bytes) (next : next_outline read bytes ≡ outlined_of bytes (Ok x)) where
  pub cut_takes : (out : List ℕ) → new ≡ after_outline read (next_outline read bytes) → cut_out f c read.units x.1.major (take x.0 bytes) ≡ Ok out → cut_step (held_with f c read) true bytes ≡ Takes x.0 out (held_with f c new)
  cut_takes out behind e =
      cut_gives (held_with f c read) bytes x (Ok out) refl small next e ∙ ap (λ (r : Outlined). Takes x.0 out (held_with f c r)) (sym (behind ∙ ap (after_outline read) next))

  pub cut_refuses : (r : Refusal) → cut_out f c read.units x.1.major (take x.0 bytes) ≡ Err r → cut_step (held_with f c read) true bytes ≡ Refuses r
  cut_refuses r e = cut_gives (held_with f c read) bytes x (Err r) refl small next e

-- ---- it waits exactly where its reader does, unless it refused

given_moves : (n : ℕ) (r : Result (List ℕ × Held) Refusal) → given n r ≡ Waits → ⊥
given_moves n (Ok x) e = cc
given_moves n (Err q) e = cc

next_moves : (held : Held) (next : Next) → steps None false held next ≡ Waits → ⊥
next_moves held (Ok t) e = given_moves t.size (reader.gives held t) e
next_moves held (Err d) e = cc

not_true : IsTrue false → ⊥
not_true e = cc

waiting : (held : Held) (next : Next) (o : Option Refusal) (read : Option Declined) (b : Bool) → IsTrue (is_none o && (is_none read && b)) ↔ (steps (refused o read) b held next ≡ Waits)
waiting held next None None true = (λ _. refl, λ _. refl)
waiting held next None None false = (λ e. absurd (not_true e), λ e. absurd (next_moves held next e))
waiting held next None (Some d) b = (λ e. absurd (not_true e), λ e. absurd cc)
waiting held next (Some r) read b = (λ e. absurd (not_true e), λ e. absurd cc)

pub cut_waits : (held : Held) (bytes : List ℕ) → IsTrue (is_none held.refusal && waits held.read bytes) ↔ (cut_step held false bytes ≡ Waits)
cut_waits held bytes =
    subst (λ (m : Move Held). IsTrue (is_none held.refusal && waits held.read bytes) ↔ (m ≡ Waits)) (sym (step_is outline None is_open_outline reader held false bytes))
    (waiting held (next_at held bytes) held.refusal held.read.refusal (is_open bytes))
