use Rattle.std.proofs.Common.{◌≡◌, ℕ, ◌<◌, ℤ, ◌-ℤ◌, FitsSigned, w32, w64, arith, ap, ◌∙◌}
use Rattle.std.proofs.lemmas.Int.{ints, to_z-of_z}
use Rattle.std.proofs.Math.Pow.{pow-lt}
use Rattle.mlp_arith.specs.Words.{floor_by, clear}
use Rattle.mlp_arith.proofs.Floors.{floor_le, lt_floor}
use Rattle.mlp_arith.proofs.Residues.{clear_le, lt_clear}
use Rattle.mlp_matrix.proofs.undo.lifted.Goals as goal

-- a cleared word less a cleared quotient has 64 bits
gap_fits : (q : ℕ) (v s : ℤ) → q < 16 → FitsSigned w32 v → FitsSigned w64 s → FitsSigned w64 (clear q v -ℤ clear q (floor_by 14 s))
gap_fits q v s l f g =
    omega (arith, ints, clear_le q v, lt_clear q v, clear_le q (floor_by 14 s), lt_clear q (floor_by 14 s), floor_le s 16384 (omega arith), lt_floor s 16384 (omega arith), pow-lt {j = 16} l, f, g)

pub overflow_sub-clear : goal.overflow_sub-clear
overflow_sub-clear c =
    let v : ℤ = c.args.value in
    let wide : FitsSigned w64 v = omega (arith, ints) in
    let word : c.from.result ≡ v = c.from.ensures ∙ to_z-of_z w32 v c.ranges.value in
    let first : c.clear.result ≡ clear c.args.step v = c.clear.ensures ∙ ap (clear c.args.step) (to_z-of_z w64 c.from.result (rw word wide) ∙ word) in
    let quotient : c.floor_by.result ≡ floor_by 14 c.args.sum = c.floor_by.ensures ∙ ap (floor_by 14) (to_z-of_z w64 c.args.sum c.ranges.sum) in
    let second : c.clear-2.result ≡ clear c.args.step (floor_by 14 c.args.sum) =
    c.clear-2.ensures ∙ ap (clear c.args.step) (to_z-of_z w64 c.floor_by.result (record { sfits = c.floor_by.type_inv }) ∙ quotient) in
    rw (to_z-of_z w64 c.clear.result (record { sfits = c.clear.type_inv }), to_z-of_z w64 c.clear-2.result (record { sfits = c.clear-2.type_inv }), first, second)
    (gap_fits c.args.step v c.args.sum c.requires.step c.ranges.value c.ranges.sum)

pub returns : goal.returns
returns c =
    let v : ℤ = c.args.value in
    let wide : FitsSigned w64 v = omega (arith, ints) in
    let word : c.from.result ≡ v = c.from.ensures ∙ to_z-of_z w32 v c.ranges.value in
    let first : c.clear.result ≡ clear c.args.step v = c.clear.ensures ∙ ap (clear c.args.step) (to_z-of_z w64 c.from.result (rw word wide) ∙ word) in
    let quotient : c.floor_by.result ≡ floor_by 14 c.args.sum = c.floor_by.ensures ∙ ap (floor_by 14) (to_z-of_z w64 c.args.sum c.ranges.sum) in
    let second : c.clear-2.result ≡ clear c.args.step (floor_by 14 c.args.sum) =
    c.clear-2.ensures ∙ ap (clear c.args.step) (to_z-of_z w64 c.floor_by.result (record { sfits = c.floor_by.type_inv }) ∙ quotient) in
    cc (
      first,
      second,
      to_z-of_z w64 c.clear.result (record { sfits = c.clear.type_inv }),
      to_z-of_z w64 c.clear-2.result (record { sfits = c.clear-2.type_inv }),
      to_z-of_z w64 (clear c.args.step v -ℤ clear c.args.step (floor_by 14 c.args.sum)) (gap_fits c.args.step v c.args.sum c.requires.step c.ranges.value c.ranges.sum),
      to_z-of_z w32 c.wrap.result (record { sfits = c.wrap.type_inv }),
      c.wrap.ensures,
    )
