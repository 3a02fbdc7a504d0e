use Rattle.std.proofs.Common.{◌≡◌, ◌+◌, ◌<◌, length, take, get_or, arith, ℤ, pos, ◌-ℤ◌, suc, to_z, of_z, w32, w64, FitsSigned, rules, ◌∙◌}
use Rattle.std.proofs.lemmas.Int.{to_z-of_z}
use Rattle.mlp_arith.specs.Words.{wrap}
use Rattle.mlp_predict.specs.Prediction.{Filters, Past, predicted, restored}
use Rattle.mlp_predict.specs.Lines.{past_in, filters_in}
use Rattle.mlp_predict.proofs.LineLaws.{line_outputs, line_past}
use Rattle.mlp_predict.proofs.lines.restore_line.Goals as goal

pub loop-i-preserved : goal.loop-i-preserved
loop-i-preserved g c =
    let f : Filters = filters_in c.args.fir.now c.args.iir.now c.args.shift in
    let q = c.args.step in
    let xs = c.loop-i.outputs in
    let es = c.loop-i.differences in
    let j = 16 + c.loop-i.i in
    let past : Past = past_in (take j xs) (take j es) in
    let r : ℤ = get_or xs j (pos 0) in
    let x : ℤ = c.output_of-output.result in
    let d : ℤ = c.difference_of.result in
    let fits : FitsSigned w32 r = search rules in
    let out : to_z w32 (of_z w32 x) ≡ x = to_z-of_z w32 x (record { sfits = c.output_of-output.type_inv }) in
    let dif : to_z w32 (of_z w32 d) ≡ d = to_z-of_z w32 d (record { sfits = c.difference_of.type_inv }) in
    let prediction : to_z w64 (of_z w64 c.predict_at-prediction.result) ≡ predicted f past = to_z-of_z w64 c.predict_at-prediction.result (record { sfits = c.predict_at-prediction.type_inv }) ∙ c.predict_at-prediction.ensures.value in
    let value : x ≡ restored f past q r = cc (c.output_of-output.ensures, prediction, to_z-of_z w32 r fits) in
    let difference : d ≡ wrap (x -ℤ predicted f past) = cc (c.difference_of.ensures, prediction, out) in
    let k : 16 + (c.loop-i.i + 1) ≡ suc j = omega arith in
    let h : j < length xs = omega arith in
    let l : j < length es = omega arith in
    rw (out, dif)
    (record {
      outputs = line_outputs f q xs es _ j (16 + (c.loop-i.i + 1)) x d k h l value difference c.loop-i.invariant.outputs;
      past = line_past f q xs es _ j (16 + (c.loop-i.i + 1)) x d k h l value difference c.loop-i.invariant.past;
    })
