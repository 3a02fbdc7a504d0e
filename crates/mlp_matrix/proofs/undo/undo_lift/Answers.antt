use Rattle.std.proofs.Common.{◌≡◌, ℕ, ◌-◌, length, get_or, ℤ, pos, ◌+ℤ◌, ◌-ℤ◌, to_z, of_z, w32, w64, FitsSigned, arith, rules, ap, ◌∙◌, refl, subst, sym}
use Rattle.std.proofs.Math.ListN.{set}
use Rattle.std.proofs.lemmas.Int.{to_z-of_z}
use Rattle.mlp_arith.specs.Words.{floor_by, clear, wrap}
use Rattle.mlp_matrix.specs.Matrix.{weights, weighted, lifted, bypassed, bit_of}
use Rattle.mlp_matrix.proofs.Weights.{length-weights_of}
use Rattle.mlp_matrix.proofs.Lifts.{lifted_prepared, set-again, lt-length, weighted-lifted}
use Rattle.mlp_matrix.proofs.undo.undo_lift.Goals as goal

pub returns-clause-value : goal.returns-clause-value
returns-clause-value c =
    let row = c.args.row.now in
    let d : ℕ = c.from-dest.result in
    let frame = c.args.frame.now in
    let y : ℤ = get_or frame d (pos 0) in
    let fits : FitsSigned w32 y = search rules in
    let made : c.lifted.result ≡ lifted c.weights-weights.result d c.args.step frame y =
    c.lifted.ensures
    ∙ ap (λ z. wrap (clear c.args.step z -ℤ clear c.args.step (floor_by 14 (to_z w64 (of_z w64 c.dot.result))))) (to_z-of_z w32 y fits)
    ∙ ap (λ z. wrap (clear c.args.step y -ℤ clear c.args.step (floor_by 14 z))) (to_z-of_z w64 c.dot.result (record { sfits = c.dot.type_inv }) ∙ c.dot.ensures.sum) in
    set-again frame d (pos 0) (to_z w32 (of_z w32 c.lifted.result))
    ∙ ap (λ (e : ℕ). set frame e (to_z w32 (of_z w32 c.lifted.result))) c.from-dest.ensures
    ∙ ap (set frame row.dest) (to_z-of_z w32 c.lifted.result (record { sfits = c.lifted.type_inv }) ∙ made
    ∙ lifted_prepared row c.weights-weights.result c.as_slice.result.now (10 - length c.as_slice.result.now) d c.args.step frame c.weights-weights.ensures.value c.as_slice.ensures.value c.from-dest.ensures)

pub returns-clause-back : goal.returns-clause-back
returns-clause-back c =
    let row = c.args.row.now in
    let d : ℕ = c.from-dest.result in
    let frame = c.args.frame.now in
    let y : ℤ = get_or frame row.dest (pos 0) in
    let at_dest : get_or frame d (pos 0) ≡ y = ap (λ (e : ℕ). get_or frame e (pos 0)) c.from-dest.ensures in
    let there : FitsSigned w32 (get_or frame d (pos 0)) = search rules in
    let bit : c.bypassed.result ≡ bypassed row.bypass c.args.step y = c.bypassed.ensures ∙ ap (bypassed row.bypass c.args.step) (to_z-of_z w32 (get_or frame d (pos 0)) there ∙ at_dest) in
    ap (weighted (weights row) row.dest c.args.step c.bypassed.result) (returns-clause-value c)
    ∙ weighted-lifted (weights row) frame row.dest c.args.step c.bypassed.result y (lt-length (weights row) row.dest c.requires.lift.one)
    (omega (arith, length-weights_of row.frac row.coeffs.items, ap length c.as_slice.ensures.value, c.as_slice.ensures.fits, c.told-frame))
    c.requires.step (subst (FitsSigned w32) at_dest there) c.requires.lift.one refl
    (c.requires.lift.cleared ∙ ap (λ b. clear c.args.step y +ℤ bit_of b) (sym bit))
