use Rattle.std.proofs.Common.{◌≡◌, ℕ, ap, ◌+◌, ◌<◌, length, take, get_or, reverse, [], arith, ℤ, pos, suc, to_z, of_z, w32, w64, FitsSigned, rules, ◌∙◌}
use Rattle.std.proofs.lemmas.Int.{to_z-of_z}
use Rattle.mlp_predict.specs.Prediction.{Filters, Past, predicted, restored}
use Rattle.mlp_predict.specs.Lines.{finished}
use Rattle.mlp_predict.proofs.AloneLaws.{fir_alone, past_by, line_alone}
use Rattle.mlp_predict.proofs.alone.restore_run.Goals as goal

pub loop-i-preserved : goal.loop-i-preserved
loop-i-preserved g c =
    let f : Filters = fir_alone (reverse c.args.fir.now) c.args.shift in
    let q = c.args.step in
    let xs = c.loop-i.outputs in
    let j = 16 + (c.args.start + c.loop-i.i) in
    let past : Past = past_by (reverse (take j xs)) [] in
    let r : ℤ = get_or xs j (pos 0) in
    let x : ℤ = c.output_of-output.result in
    let fits : FitsSigned w32 r = search rules in
    let out : to_z w32 (of_z w32 x) ≡ x = to_z-of_z w32 x (record { sfits = c.output_of-output.type_inv }) in
    let prediction : to_z w64 (of_z w64 c.predict_alone-prediction.result) ≡ predicted f past =
    to_z-of_z w64 c.predict_alone-prediction.result (record { sfits = c.predict_alone-prediction.type_inv }) ∙ c.predict_alone-prediction.ensures.value in
    let value : x ≡ restored f past q r = cc (c.output_of-output.ensures, prediction, to_z-of_z w32 r fits) in
    let k : 16 + c.args.start + (c.loop-i.i + 1) ≡ suc j = omega arith in
    let same : j ≡ 16 + c.args.start + c.loop-i.i = omega arith in
    let h : j < length xs = omega arith in
    rw out (line_alone (reverse c.args.fir.now) c.args.shift q xs _ j (16 + c.args.start + (c.loop-i.i + 1)) x k h value (ap (λ (n : ℕ). finished f q n xs) same ∙ c.loop-i.invariant))
