use Rattle.std.proofs.Common.{◌≡◌, ℕ, ◌-◌, ◌+◌, List, ℤ, length, take, reverse, ap, ◌∙◌, arith}
use Rattle.mlp_predict.specs.Prediction.{Filters, Past, latest, outputs_of, past_of, predicted}
use Rattle.mlp_predict.specs.Filters.{filters_of}
use Rattle.mlp_predict.specs.Lines.{filters_in, past_in}
use Rattle.mlp_predict.proofs.Blocks.{prepared, outputs_of-same, past_of-same}
use Rattle.mlp_predict.proofs.Padding.{latest-past_of}
use Rattle.mlp_predict.proofs.predictor.Predictor.restore_with.Goals as goal

pub returns : goal.returns
returns g c =
    let f : Filters = filters_in c.taps_back-fir_taps.result c.taps_back-iir_taps.result c.shift_of.result in
    let given : Filters = filters_of c.args.fir.now c.args.iir.now in
    let same : (p : Past) → predicted f p ≡ predicted given p =
    prepared c.args.fir.now c.args.iir.now (reverse c.taps_back-fir_taps.result) (reverse c.taps_back-iir_taps.result) c.as_slice.result.now c.as_slice-2.result.now
    (g.row.M - length c.as_slice.result.now) (g.row.K - length c.as_slice-2.result.now) c.shift_of.result
    c.as_slice.ensures.value c.as_slice-2.ensures.value c.taps_back-fir_taps.ensures.value c.taps_back-iir_taps.ensures.value c.shift_of.ensures in
    let vs : List ℤ = c.as_slice-3.result.now in
    let ds : List ℤ = c.as_slice-4.result.now in
    let past : Past = record { outputs = vs; differences = ds } in
    let here : past ≡ c.args.self.now =
    ap (λ (ys : List ℤ). record { outputs = ys; differences = ds }) c.as_slice-3.ensures.value
    ∙ ap (λ (ys : List ℤ). record { outputs = c.self.inside.outputs; differences = ys }) c.as_slice-4.ensures.value
    ∙ c.self.view_is in
    let block : List ℤ = c.restore_between.new.block in
    let n : ℕ = length c.args.block.now in
    let count : length block ≡ n = c.restore_between.auto.block in
    let few : length vs ≡ g.row.F = c.as_slice-3.ensures.count in
    let few2 : length ds ≡ g.row.I = c.as_slice-4.ensures.count in
    let outs : List ℤ = c.restore_between.new.outputs in
    let difs : List ℤ = c.restore_between.new.differences in
    let first : c.replace_all.new.self ≡ take g.row.F (reverse (take (16 + length block) outs)) = c.replace_all.ensures in
    let second : c.replace_all-2.new.self ≡ take g.row.I (reverse (take (16 + length block) difs)) = c.replace_all-2.ensures in
    record {
      outputs = c.restore_between.ensures.outputs
          ∙ ap (λ (p : Past). outputs_of f p c.args.step c.args.block.now) here
          ∙ outputs_of-same f given c.args.self.now c.args.step c.args.block.now same;
      past = ap (λ (ys : List ℤ). record { outputs = ys; differences = c.replace_all-2.new.self }) first
          ∙ ap (λ (ys : List ℤ). record { outputs = take g.row.F (reverse (take (16 + length block) outs)); differences = ys }) second
          ∙ ap (λ (k : ℕ). latest g.row.F g.row.I (past_in (take (16 + k) outs) (take (16 + k) difs))) count
          ∙ ap (latest g.row.F g.row.I) c.restore_between.ensures.past
          ∙ latest-past_of g.row.F g.row.I (16 - length vs) (16 - length ds) f past block (omega arith) (omega arith)
          ∙ ap (λ (p : Past). latest g.row.F g.row.I (past_of f p block)) here
          ∙ ap (latest g.row.F g.row.I) (past_of-same f given c.args.self.now block same);
    }
