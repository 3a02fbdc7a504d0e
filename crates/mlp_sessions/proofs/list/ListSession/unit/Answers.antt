use Rattle.std.proofs.Common.{◌≡◌, ℕ, take, Result, Ok, Err, sym, ap, ◌∙◌}
use Rattle.mlp_stream.specs.declared.refusal.Refusal.{Refusal}
use Rattle.mlp_stream.specs.Moves.{moved}
use Rattle.mlp_unit.specs.Shape.{unit_with}
use Rattle.mlp_answers.specs.Reading.{refusal_of}
use Rattle.mlp_outline.specs.Outlining.{Outlined, next_outline, outlined_of, after_outline}
use Rattle.mlp_sessions.specs.ListLine.{unit_line}
use Rattle.mlp_sessions.proofs.ListSteps.{list_takes, list_refuses}
use Rattle.mlp_sessions.proofs.list.ListSession.unit.Goals.{in-Ok, in-Err}
use Rattle.mlp_sessions.proofs.list.ListSession.unit.Goals as goal

pub returns : goal.returns
returns c = elim c.match-unit.branch [
  | in-Ok w ↦ (let next : next_outline c.args.self.now c.args.next.now ≡ outlined_of c.args.next.now (Ok (w.in-Ok.size, w.in-Ok.outer)) = cc in
      let new : c.unit.new.self ≡ after_outline c.args.self.now (next_outline c.args.self.now c.args.next.now) = cc in
      let line : c.match-unit.out.items ≡ unit_line c.args.self.now.units (unit_with (take w.in-Ok.size c.args.next.now) w.in-Ok.outer) = cc in
      list_takes c.args.self.now c.args.next.now (w.in-Ok.size, w.in-Ok.outer) c.match-unit.out.items c.unit.new.self next new line
      ∙ ap (λ (r : Result ℕ Refusal). moved r c.match-unit.out.items c.unit.new.self) (sym w.result-is))
  | in-Err w ↦ (let here : c.args.self.now ≡ c.self.inside.outliner = cc in
      let next : next_outline c.args.self.now c.args.next.now ≡ Err w.in-Err.refusal =
      ap (λ (held : Outlined). next_outline held c.args.next.now) here ∙ c.unit.ensures.unit ∙ ap (outlined_of c.args.next.now) w.in-Err.is in
      let said : c.match-unit.result ≡ Err (refusal_of w.in-Err.refusal) = w.result-is ∙ ap (λ (r : Refusal). Err r) w.refusal_of.ensures in
      list_refuses c.args.self.now c.args.next.now w.in-Err.refusal next
      ∙ ap (λ (r : Result ℕ Refusal). moved r c.match-unit.out.items c.unit.new.self) (sym said))
]
