use Rattle.std.proofs.Common.{◌≡◌, ◌+◌, ◌-◌, ◌<◌, ◌≤◌, length, take, get_or, reverse, List, [], arith, ℤ, pos, ◌-ℤ◌, suc, to_z, of_z, w32, w64, FitsSigned, rules, ◌∙◌, ap, sym}
use Rattle.std.proofs.lemmas.Int.{to_z-of_z}
use Rattle.std.proofs.lemmas.List.{drop_all, take_all, length-take-le}
use Rattle.mlp_arith.specs.Words.{wrap}
use Rattle.mlp_predict.specs.Prediction.{Filters, Past, predicted}
use Rattle.mlp_predict.proofs.AloneLaws.{fir_alone, past_by, newest, newest_step, newest_start}
use Rattle.mlp_predict.proofs.alone.put_differences.Goals as goal

pub loop-i-init : goal.loop-i-init
loop-i-init g c = record {
  newest = newest_start g.row.I (reverse c.args.fir.now) c.args.shift c.args.outputs.now _ c.args.differences.now (omega arith) (λ h. omega arith);
  count = sym (ap length c.as_slice.ensures.value) ∙ c.as_slice.ensures.count;
}

pub loop-i-preserved : goal.loop-i-preserved
loop-i-preserved g c =
    let f : Filters = fir_alone (reverse c.args.fir.now) c.args.shift in
    let xs = c.args.outputs.now in
    let j = 16 + c.loop-i.i in
    let past : Past = past_by (reverse (take j xs)) [] in
    let r : ℤ = get_or xs j (pos 0) in
    let d : ℤ = c.difference_of.result in
    let fits : FitsSigned w32 r = search rules in
    let dif : to_z w32 (of_z w32 d) ≡ d = to_z-of_z w32 d (record { sfits = c.difference_of.type_inv }) in
    let prediction : to_z w64 (of_z w64 c.predict_alone-prediction.result) ≡ predicted f past =
    to_z-of_z w64 c.predict_alone-prediction.result (record { sfits = c.predict_alone-prediction.type_inv }) ∙ c.predict_alone-prediction.ensures.value in
    let difference : d ≡ wrap (r -ℤ predicted f past) = cc (c.difference_of.ensures, prediction, to_z-of_z w32 r fits) in
    let k : 16 + (c.loop-i.i + 1) ≡ suc j = omega arith in
    let h : j < length xs = omega arith in
    let count : length c.loop-i.differences ≡ g.row.I = c.loop-i.invariant.count in
    let fewer : length (take (g.row.I - 1) c.loop-i.differences) ≡ g.row.I - 1 = length-take-le (g.row.I - 1) c.loop-i.differences (omega arith) in
    rw (c.push.ensures, dif)
    (record {
      newest = newest_step g.row.I (reverse c.args.fir.now) c.args.shift xs j (16 + (c.loop-i.i + 1)) c.loop-i.differences _ d k c.requires.any h difference c.loop-i.invariant.newest;
      count = omega (arith, fewer);
    })

pub returns : goal.returns
returns g c =
    let line : List ℤ = c.args.outputs.now in
    let ds : List ℤ = c.loop-i.differences in
    let done : length line ≤ 16 + c.loop-i.i = omega arith in
    let count : length ds ≡ g.row.I = c.loop-i.invariant.count in
    record {
      value = sym (take_all g.row.I ds (omega arith))
          ∙ ap (λ (zs : List ℤ). newest g.row.I (reverse c.args.fir.now) c.args.shift (reverse (take (16 + c.loop-i.i) line)) ds zs) (sym (drop_all (16 + c.loop-i.i) line done))
          ∙ c.loop-i.invariant.newest;
      count = count;
    }
