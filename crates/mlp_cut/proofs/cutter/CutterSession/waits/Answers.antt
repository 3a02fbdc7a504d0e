use Rattle.std.proofs.Common.{◌≡◌, ◌↔◌, ◌&&◌, not, Bool, true, false, IsTrue, is_none, refl, sym, ap, subst, ◌∙◌}
use Rattle.mlp_stream.specs.Moves.{Waits}
use Rattle.mlp_outline.specs.Outlining.{waits}
use Rattle.mlp_cut.specs.Cutter.{Held, cut_step}
use Rattle.mlp_cut.proofs.CutterSteps.{cut_waits}
use Rattle.mlp_cut.proofs.cutter.CutterSession.waits.Goals as goal

second : (b w : Bool) → b ≡ true → w ≡ (b && w)
second true w e = refl
second false w e = absurd cc

first : (b w : Bool) → b ≡ false → b ≡ (b && w)
first true w e = absurd cc
first false w e = refl

pub returns-then-is_none : goal.returns-then-is_none
returns-then-is_none c =
    let held = c.args.self.now in
    let none : is_none held.refusal ≡ true = ap (λ (h : Held). is_none h.refusal) (sym c.self.view_is) ∙ ap not c.is_none.ensures ∙ ap (λ (b : Bool). not (not b)) c.if-is_none.true in
    let read : c.waits.result ≡ waits held.read c.args.next.now = c.waits.ensures ∙ ap (λ (h : Held). waits h.read c.args.next.now) c.self.view_is in
    let same : c.waits.result ≡ (is_none held.refusal && waits held.read c.args.next.now) = read ∙ second (is_none held.refusal) (waits held.read c.args.next.now) none in
    subst (λ (b : Bool). IsTrue b ↔ (cut_step held false c.args.next.now ≡ Waits)) (sym same) (cut_waits held c.args.next.now)

pub returns-else-is_none : goal.returns-else-is_none
returns-else-is_none c =
    let held = c.args.self.now in
    let none : is_none held.refusal ≡ false = ap (λ (h : Held). is_none h.refusal) (sym c.self.view_is) ∙ ap not c.is_none.ensures ∙ ap (λ (b : Bool). not (not b)) c.if-is_none.false in
    let same : c.is_none.result ≡ (is_none held.refusal && waits held.read c.args.next.now) = c.if-is_none.false ∙ sym none ∙ first (is_none held.refusal) (waits held.read c.args.next.now) none in
    subst (λ (b : Bool). IsTrue b ↔ (cut_step held false c.args.next.now ≡ Waits)) (sym same) (cut_waits held c.args.next.now)
