use Rattle.std.proofs.Common.{rules, ◌≡◌, ℕ, ◌*◌, ◌%◌, take, get_or, FitsSigned, pos, ℤ, ◌+ℤ◌, ◌*ℤ◌, to_z, of_z, w32, arith, sym, ap, ◌∙◌}
use Rattle.std.specs.Int.{int_wrap}
use Rattle.std.proofs.lemmas.Int.{to_z-of_z, wrapping_add-bits, wrapping_mul-bits, int_wrap-add_right, int_wrap-add_left}
use Rattle.std.proofs.Math.Nat.{mod-lt}
use Rattle.mlp_arith.specs.Words.{wrap}
use Rattle.mlp_predict.specs.Prediction.{dot}
use Rattle.mlp_predict.proofs.Dots.{dot_more}
use Rattle.mlp_search.proofs.line.wrapped_dot.Goals as goal

pub loop-i-preserved : goal.loop-i-preserved
loop-i-preserved g c =
    let co : ℤ = get_or c.args.coeffs.now c.loop-i.i (pos 0) in
    let va : ℤ = get_or c.args.values.now c.loop-i.i (pos 0) in
    let f : FitsSigned w32 co = search rules in
    let h : FitsSigned w32 va = search rules in
    let more = dot_more c.args.coeffs.now c.args.values.now c.loop-i.i (omega arith) (omega arith) in
    let m : ℕ = of_z w32 co in
    let n : ℕ = of_z w32 va in
    let product : to_z w32 (m * n % 4294967296) ≡ int_wrap w32 (co *ℤ va) =
    wrapping_mul-bits w32 m n (search rules) (search rules) ∙ ap (λ (z : ℤ). int_wrap w32 (z *ℤ to_z w32 n)) (to_z-of_z w32 co f) ∙ ap (λ (z : ℤ). int_wrap w32 (co *ℤ z)) (to_z-of_z w32 va h)
    in
    let before : to_z w32 c.loop-i.sum-bits ≡ wrap (dot (take c.loop-i.i c.args.coeffs.now) c.args.values.now) = cc c.loop-i.invariant in
    wrapping_add-bits w32 c.loop-i.sum-bits (m * n % 4294967296) (search rules) (mod-lt (m * n) (omega arith))
    ∙ ap (λ (z : ℤ). int_wrap w32 (to_z w32 c.loop-i.sum-bits +ℤ z)) product
    ∙ int_wrap-add_right w32 (to_z w32 c.loop-i.sum-bits) (co *ℤ va)
    ∙ ap (λ (z : ℤ). int_wrap w32 (z +ℤ co *ℤ va)) before
    ∙ int_wrap-add_left w32 (dot (take c.loop-i.i c.args.coeffs.now) c.args.values.now) (co *ℤ va)
    ∙ ap wrap (sym more)
