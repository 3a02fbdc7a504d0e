use Rattle.std.proofs.Common.{◌≡◌, ◌^◌, ℤ, pos, ◌+ℤ◌, ◌-ℤ◌, ◌*ℤ◌, FitsSigned, to_z, of_z, w16, w32, w64, arith, ap, ◌∙◌}
use Rattle.std.proofs.lemmas.Int.{ints, to_z-of_z}
use Rattle.mlp_residual.specs.Coding.{sign_offset}
use Rattle.mlp_residual.proofs.Codes.{place_of, read_code, no_code}
use Rattle.mlp_residual.proofs.coding.code_of.Goals as goal

-- a place without the way of its numbers through bits
place_is : (v o r : ℤ) (p : ℤ) (n : ℤ) → FitsSigned w32 v → FitsSigned w16 o → p ≡ to_z w64 (of_z w64 v) -ℤ to_z w16 (of_z w16 o) +ℤ n → p ≡ v -ℤ o +ℤ n
place_is v o r p n f g e =
    let k : FitsSigned w64 v = omega (arith, ints, f) in
    e ∙ ap (λ z. z -ℤ to_z w16 (of_z w16 o) +ℤ n) (to_z-of_z w64 v k) ∙ ap (λ z. v -ℤ z +ℤ n) (to_z-of_z w16 o g)

pub returns-then-place-lt0-clause-none : goal.returns-then-place-lt0-clause-none
returns-then-place-lt0-clause-none c code s =
    let w = c.in_ok-v.ensures in
    let e : c.in_ok-v.v *ℤ pos (2 ^ c.args.step) ≡ c.args.residual = w.whole ∙ to_z-of_z w32 c.args.residual c.ranges.residual in
    let p = place_is c.in_ok-v.v c.args.offset c.args.residual c.place_of-place.result (pos (sign_offset c.args.book c.args.b)) w.fits c.ranges.offset c.place_of-place.ensures in
    let f : FitsSigned w64 c.place_of-place.result = record { sfits = c.place_of-place.type_inv } in
    let k = place_of c.args.book c.args.b c.args.step code c.args.offset c.in_ok-v.v c.args.residual e s in
    omega (arith, ints, k, p, f)

pub returns-clause-some : goal.returns-clause-some
returns-clause-some c =
    let w = c.in_ok-v.ensures in
    let f : FitsSigned w64 c.place_of-place.result = record { sfits = c.place_of-place.type_inv } in
    read_code c.code_at.result c.args.book c.args.b c.args.step c.args.offset c.in_ok-v.v c.args.residual c.place_of-place.result
    (w.whole ∙ to_z-of_z w32 c.args.residual c.ranges.residual)
    (place_is c.in_ok-v.v c.args.offset c.args.residual c.place_of-place.result (pos (sign_offset c.args.book c.args.b)) w.fits c.ranges.offset c.place_of-place.ensures)
    (omega (arith, ints, f)) f c.code_at.ensures.code c.code_at.ensures.symbol c.code_at.ensures.low

pub returns-clause-none : goal.returns-clause-none
returns-clause-none c =
    let w = c.in_ok-v.ensures in
    let f : FitsSigned w64 c.place_of-place.result = record { sfits = c.place_of-place.type_inv } in
    no_code c.code_at.result c.args.book c.args.b c.args.step c.args.offset c.in_ok-v.v c.args.residual c.place_of-place.result
    (w.whole ∙ to_z-of_z w32 c.args.residual c.ranges.residual)
    (place_is c.in_ok-v.v c.args.offset c.args.residual c.place_of-place.result (pos (sign_offset c.args.book c.args.b)) w.fits c.ranges.offset c.place_of-place.ensures)
    f c.code_at.ensures.none
