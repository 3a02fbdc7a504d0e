use Rattle.std.proofs.Common.{◌≡◌, pos, ◌+ℤ◌, ◌*ℤ◌, ◌≤ℤ◌, ◌<ℤ◌, FitsSigned, w32, w64, arith, ap, ◌∙◌}
use Rattle.std.proofs.lemmas.Int.{ints, to_z-of_z}
use Rattle.std.specs.Int.{int_shr}
use Rattle.mlp_arith.proofs.Floors.{floor_le, lt_floor}
use Rattle.mlp_arith.proofs.Residues.{clear_le, lt_clear}
use Rattle.std.proofs.Math.Pow.{pow-lt}
use Rattle.mlp_arith.specs.Words.{clear}
use Rattle.mlp_matrix.proofs.row.value_of.Goals as goal

pub returns : goal.returns
returns c =
    let f : FitsSigned w64 c.floor_by.result = record { sfits = c.floor_by.type_inv } in
    let d : FitsSigned w64 c.clear.result = record { sfits = c.clear.type_inv } in
    let b : FitsSigned w64 c.bit_of.result = record { sfits = c.bit_of.type_inv } in
    let g : c.floor_by.result ≡ int_shr c.args.sum 14 = c.floor_by.ensures ∙ ap (λ z. int_shr z 14) (to_z-of_z w64 c.args.sum c.ranges.sum) in
    let lo : (c.floor_by.result *ℤ pos 16384) ≤ℤ c.args.sum = rw g (floor_le c.args.sum 16384 (omega arith)) in
    let hi : c.args.sum <ℤ (c.floor_by.result *ℤ pos 16384 +ℤ pos 16384) = rw g (lt_floor c.args.sum 16384 (omega arith)) in
    let k : c.clear.result ≡ clear c.args.step c.floor_by.result = c.clear.ensures ∙ ap (clear c.args.step) (to_z-of_z w64 c.floor_by.result f) in
    let s : FitsSigned w64 (c.clear.result +ℤ c.bit_of.result) = rw k
    (omega (
      arith,
      ints,
      clear_le c.args.step c.floor_by.result,
      lt_clear c.args.step c.floor_by.result,
      c.bit_of.ensures.low,
      c.bit_of.ensures.high,
      c.requires.low,
      c.requires.high,
      f,
      lo,
      hi,
      pow-lt {j = 16} c.requires.step,
    )) in
    let e : FitsSigned w32 c.wrap.result = record { sfits = c.wrap.type_inv } in
    cc (
      to_z-of_z w64 c.clear.result d,
      to_z-of_z w64 c.bit_of.result b,
      to_z-of_z w64 (c.clear.result +ℤ c.bit_of.result) s,
      to_z-of_z w32 c.wrap.result e,
      c.floor_by.ensures,
      c.clear.ensures,
      c.bit_of.ensures.value,
      c.wrap.ensures,
    )
