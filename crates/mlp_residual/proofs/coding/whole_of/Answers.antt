use Rattle.std.proofs.Common.{◌≡◌, ℤ, FitsSigned, to_z, of_z, w32, w64, arith, ap, ◌∙◌, sym}
use Rattle.std.proofs.lemmas.Int.{ints, to_z-of_z}
use Rattle.mlp_arith.specs.Words.{clear}
use Rattle.mlp_residual.proofs.Codes.{clear_whole}
use Rattle.mlp_residual.proofs.coding.whole_of.Goals as goal

pub returns-else-clear-wide-clause-none : goal.returns-else-clear-wide-clause-none
returns-else-clear-wide-clause-none c v e =
    let r : ℤ = c.args.residual in
    let f : c.from-wide.result ≡ r = c.from-wide.ensures ∙ to_z-of_z w32 r c.ranges.residual in
    let g : FitsSigned w64 r = omega (arith, ints) in
    let h : c.clear.result ≡ clear c.args.step r = c.clear.ensures ∙ ap (λ z. clear c.args.step (to_z w64 (of_z w64 z))) f ∙ ap (clear c.args.step) (to_z-of_z w64 r g) in
    c.if-clear-wide.false (ap (of_z w64) (h ∙ clear_whole c.args.step v r e ∙ sym f))
