use Rattle.std.proofs.Common.{◌≡◌, ℤ, ◌-ℤ◌, FitsSigned, w32, w64, arith, ap, ◌∙◌}
use Rattle.std.proofs.lemmas.Int.{ints, to_z-of_z}
use Rattle.mlp_arith.specs.Words.{clear}
use Rattle.mlp_arith.proofs.Residues.{clear_le, lt_clear}
use Rattle.std.proofs.Math.Pow.{pow-lt}
use Rattle.mlp_predict.proofs.sample.gap_of.Goals as goal

pub overflow_sub-result : goal.overflow_sub-result
overflow_sub-result c =
    let x : ℤ = c.args.sample in
    let k : ℤ = clear c.args.step c.args.prediction in
    let e : c.clear.result ≡ k = c.clear.ensures ∙ ap (clear c.args.step) (to_z-of_z w64 c.args.prediction c.ranges.prediction) in
    rw e (omega (arith, ints, clear_le c.args.step c.args.prediction, lt_clear c.args.step c.args.prediction, pow-lt {j = 16} c.requires.step))

pub returns : goal.returns
returns c =
    let x : ℤ = c.args.sample in
    let k : ℤ = clear c.args.step c.args.prediction in
    let e : c.clear.result ≡ k = c.clear.ensures ∙ ap (clear c.args.step) (to_z-of_z w64 c.args.prediction c.ranges.prediction) in
    let a : FitsSigned w64 x = omega (arith, ints) in
    let b : FitsSigned w64 c.clear.result = record { sfits = c.clear.type_inv } in
    let d : FitsSigned w64 (x -ℤ k) = omega (arith, ints, clear_le c.args.step c.args.prediction, lt_clear c.args.step c.args.prediction, pow-lt {j = 16} c.requires.step) in
    cc (e, c.from.ensures, to_z-of_z w32 x c.ranges.sample, to_z-of_z w64 x a, to_z-of_z w64 c.clear.result b, to_z-of_z w64 (x -ℤ k) d)
