use Rattle.std.proofs.Common.{◌≡◌, ◌≤◌, ℕ, ◌-◌, ◌+◌, ◌++◌, replicate, pos, List, [], ℤ, length, take, reverse, ap, ◌∙◌, arith, refl}
use Rattle.mlp_predict.specs.Prediction.{Filters, Past, latest, outputs_of, past_of, predicted}
use Rattle.mlp_predict.specs.Filters.{filters_of}
use Rattle.mlp_predict.proofs.Blocks.{prepared, outputs_of-same, past_of-same}
use Rattle.mlp_predict.proofs.AloneLaws.{fir_alone, past_by, outputs_of-alone, past_alone, none_there}
use Rattle.std.proofs.lemmas.List.{length-append, length-reverse, length-take-le}
use Rattle.mlp_predict.proofs.predictor.Predictor.restore_simply.Goals as goal

pub invariant_of-self : goal.invariant_of-self
invariant_of-self g c =
    let vs : List ℤ = c.as_slice-2.result.now in
    let block : List ℤ = c.restore_behind.new.block in
    let zeros : List ℤ = replicate (16 - length vs) (pos 0) in
    let line : List ℤ = take (16 + length block) c.restore_behind.new.outputs in
    let whole : line ≡ (zeros ++ reverse vs) ++ block = ap (λ (k : ℕ). take (16 + k) c.restore_behind.new.outputs) c.restore_behind.auto.block ∙ c.restore_behind.ensures.line in
    let few : length vs ≡ g.row.F = c.as_slice-2.ensures.count in
    let long : g.row.F ≤ length line = omega (arith, ap length whole, length-append (zeros ++ reverse vs) block, length-append zeros (reverse vs), length-reverse vs) in
    (ap length c.replace_all.ensures ∙ length-take-le g.row.F (reverse line) (omega (arith, length-reverse line)), c.put_differences.ensures.count)

pub returns : goal.returns
returns g c =
    let fs : List ℤ = reverse c.taps_back-fir_taps.result in
    let shift : ℕ = c.shift_of-shift.result in
    let f : Filters = fir_alone fs shift in
    let given : Filters = filters_of c.args.fir.now c.args.iir.now in
    let none : [] ≡ c.args.iir.now.coeffs.items = none_there c.args.iir.now.coeffs.items c.requires.none in
    let same : (p : Past) → predicted f p ≡ predicted given p =
    prepared c.args.fir.now c.args.iir.now fs [] c.as_slice.result.now []
    (g.row.M - length c.as_slice.result.now) 0 shift
    c.as_slice.ensures.value none c.taps_back-fir_taps.ensures.value refl c.shift_of-shift.ensures in
    let vs : List ℤ = c.as_slice-2.result.now in
    let ds : List ℤ = c.self.inside.differences in
    let here : past_by vs ds ≡ c.args.self.now = ap (λ (ys : List ℤ). past_by ys ds) c.as_slice-2.ensures.value ∙ c.self.view_is in
    let block : List ℤ = c.restore_behind.new.block in
    let old : List ℤ = c.args.block.now in
    let count : length block ≡ length old = c.restore_behind.auto.block in
    let few : length vs ≡ g.row.F = c.as_slice-2.ensures.count in
    let line : List ℤ = take (16 + length block) c.restore_behind.new.outputs in
    record {
      outputs = c.restore_behind.ensures.outputs
          ∙ outputs_of-alone fs shift c.args.step vs [] ds old
          ∙ ap (λ (p : Past). outputs_of f p c.args.step old) here
          ∙ outputs_of-same f given c.args.self.now c.args.step old same;
      past = ap (λ (ys : List ℤ). past_by ys c.put_differences.new.differences) c.replace_all.ensures
          ∙ ap (λ (ys : List ℤ). past_by (take g.row.F (reverse line)) ys) c.put_differences.ensures.value
          ∙ past_alone fs shift g.row.F g.row.I (16 - length vs) vs ds block line few (omega arith)
          (ap (λ (k : ℕ). take (16 + k) c.restore_behind.new.outputs) count ∙ c.restore_behind.ensures.line)
          ∙ ap (λ (p : Past). latest g.row.F g.row.I (past_of f p block)) here
          ∙ ap (latest g.row.F g.row.I) (past_of-same f given c.args.self.now block same);
    }
