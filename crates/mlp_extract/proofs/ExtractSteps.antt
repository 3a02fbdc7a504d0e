-- What an extractor does with the next bytes.
use Rattle.std.proofs.Common.{◌≡◌, ℕ, ◌↔◌, true, false, IsTrue, List, take, Err, Some, sym, ap, subst, ◌∙◌, ℤ}
use Rattle.mlp_unit.specs.Shape.{unit_with}
use Rattle.mlp_walk.specs.declared.refusal.Refusal.{Refusal as Declined}
use Rattle.mlp_walk.specs.Next.{next_of}
use Rattle.mlp_stream.specs.Moves.{Move, Waits, Takes, Refuses}
use Rattle.mlp_answers.specs.Reading.{refusal_of}
use Rattle.mlp_answers.proofs.ReadingLaws.{step_is}
use Rattle.mlp_contents.specs.Units.{whole}
use Rattle.mlp_present.specs.Parts.{Next}
use Rattle.mlp_present.specs.Decoding.{Held, next_unit, after_unit, is_open_behind, waits, GivesUnit}
use Rattle.mlp_sessions.proofs.DecoderSteps.{stepped_at, refuses_by, takes_by, waiting}
use Rattle.mlp_extract.specs.Extract.{extracted_bytes}
use Rattle.mlp_extract.specs.Extractor.{extract_reader, extract_step}

-- ---- by what comes of the next unit, or came

-- at the end of the bytes nothing is waited for
at_end : (held : Held) (bytes : List ℕ) → extract_step held true bytes ≡ stepped_at held.k extract_reader held held.refusal false (next_of (whole held.k) (Some held.k) held.units held.left bytes)
at_end held bytes = step_is (whole held.k) (Some held.k) is_open_behind extract_reader held true bytes

pub extract_declined : (held : Held) (bytes : List ℕ) (d : Declined) → next_unit held bytes ≡ Err d → extract_step held true bytes ≡ Refuses (refusal_of d)
extract_declined held bytes d h = at_end held bytes ∙ refuses_by held.k extract_reader held held.refusal _ d h

pub extract_taken : (held new : Held) (bytes out : List ℕ) (size : ℕ) (frames : List (List ℤ)) (g : GivesUnit held bytes size frames new)
    → out ≡ extracted_bytes held.k (unit_with (take size bytes) g.outer) → extract_step held true bytes ≡ Takes size out new
extract_taken held new bytes out size frames g e =
    let bytes_are : extracted_bytes held.k g.unit.outer ≡ out = ap (extracted_bytes held.k) g.outer_is ∙ sym e in
    at_end held bytes ∙ takes_by held.k extract_reader held held.refusal _ _ g.next_is ∙ ap (λ (xs : List ℕ). Takes size xs (after_unit held g.unit)) bytes_are ∙ ap (Takes size out) (sym g.held_is)

-- ---- it waits exactly where its decoder does

pub extract_waits : (held : Held) (bytes : List ℕ) → IsTrue (waits held bytes) ↔ (extract_step held false bytes ≡ Waits)
extract_waits held bytes =
    let next : Next = next_of (whole held.k) (Some held.k) held.units held.left bytes in
    subst (λ (m : Move Held). IsTrue (waits held bytes) ↔ (m ≡ Waits)) (sym (step_is (whole held.k) (Some held.k) is_open_behind extract_reader held false bytes))
    (waiting held.k extract_reader held held.refusal (is_open_behind held.left bytes) next)
