use Rattle.std.proofs.Common.{◌≡◌, ℕ, true, take, Result, Err, Option, Some, sym, ap, subst, ◌∙◌}
use Rattle.std.specs.Option.{option_copied}
use Rattle.std.specs.Prelude.{IfSome}
use Rattle.mlp_syntax.specs.declared.unit.Outer.{Outer}
use Rattle.mlp_unit.specs.Shape.{unit_with}
use Rattle.mlp_stream.specs.declared.refusal.Refusal.{Refusal}
use Rattle.mlp_stream.specs.Moves.{moved}
use Rattle.mlp_answers.specs.Reading.{refusal_of}
use Rattle.mlp_present.specs.Decoding.{Held}
use Rattle.mlp_extract.specs.Extract.{extracted_bytes}
use Rattle.mlp_extract.specs.Extractor.{HoldsPresentation, extract_step}
use Rattle.mlp_extract.proofs.Given.{holds_presentation, unit_taken, unit_refused}
use Rattle.mlp_extract.proofs.ExtractSteps.{extract_taken, extract_declined}
use Rattle.mlp_extract.proofs.extractor.ExtractorSession.unit.Goals.{in-Ok, in-Err}
use Rattle.mlp_extract.proofs.extractor.ExtractorSession.unit.Goals as goal

pub put_latest-requires : goal.put_latest-requires
put_latest-requires c =
    let g = c.in-Ok.ensures.unit in
    let latest : option_copied c.last_outer.result ≡ Some g.outer = c.last_outer.ensures.value ∙ g.latest_is in
    let holds = holds_presentation c.self.inside.presentation c.self.inside.decoder c.unit.new.self c.args.next.now c.in-Ok.size _ c.self.invariant g in
    subst (λ (o : Option Outer). IfSome o (HoldsPresentation c.self.inside.presentation (take c.in-Ok.size c.args.next.now))) (sym latest) holds

pub invariant_of-self : goal.invariant_of-self
invariant_of-self c = elim c.match-unit.branch [
  | in-Ok w ↦ unit_taken c.self.inside.presentation c.self.inside.decoder c.unit.new.self c.args.next.now w.in-Ok.size _ c.self.invariant w.in-Ok.ensures.unit
  | in-Err w ↦ unit_refused c.self.inside.presentation c.self.inside.decoder c.unit.new.self w.in-Err.refusal c.self.invariant w.in-Err.ensures.kept
]

pub returns-clause-unit : goal.returns-clause-unit
returns-clause-unit c = elim c.match-unit.branch [
  | in-Ok w ↦ (let g = w.in-Ok.ensures.unit in
      let same : c.self.inside.presentation ≡ c.self.inside.decoder.k = sym c.self.invariant.k_is in
      let latest : option_copied w.last_outer.result ≡ Some g.outer = w.last_outer.ensures.value ∙ g.latest_is in
      let out : c.match-unit.out.items ≡ extracted_bytes c.self.inside.presentation (unit_with (take w.in-Ok.size c.args.next.now) g.outer) =
      ap (λ (b : _). b.items) w.out-is ∙ subst (λ (o : Option Outer). IfSome o
      (λ outer. w.put_latest.new.out.items ≡ extracted_bytes c.self.inside.presentation (unit_with (take w.in-Ok.size c.args.next.now) outer))) latest w.put_latest.ensures in
      ap (λ (held : Held). extract_step held true c.args.next.now) (sym c.self.view_is)
      ∙ extract_taken c.self.inside.decoder c.unit.new.self c.args.next.now c.match-unit.out.items w.in-Ok.size _ g (out ∙ ap (λ (k : ℕ). extracted_bytes k (unit_with (take w.in-Ok.size c.args.next.now) g.outer)) same)
      ∙ ap (λ (r : Result ℕ Refusal). moved r c.match-unit.out.items c.unit.new.self) (sym w.result-is))
  | in-Err w ↦ (let said : c.match-unit.result ≡ Err (refusal_of w.in-Err.refusal) = w.result-is ∙ ap (λ (r : Refusal). Err r) w.refusal_of.ensures in
      ap (λ (held : Held). extract_step held true c.args.next.now) (sym c.self.view_is)
      ∙ extract_declined c.self.inside.decoder c.args.next.now w.in-Err.refusal w.in-Err.ensures.unit
      ∙ ap (λ (r : Result ℕ Refusal). moved r c.match-unit.out.items c.unit.new.self) (sym said))
]
