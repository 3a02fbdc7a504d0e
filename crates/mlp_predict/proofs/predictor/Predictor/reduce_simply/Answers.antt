use Rattle.std.proofs.Common.{true, false, ◌≡◌, ◌↔◌, ◌≤◌, ℕ, ◌-◌, ◌+◌, ◌++◌, replicate, pos, List, [], ℤ, length, take, reverse, ap, ◌∙◌, arith, refl, subst, IsTrue, All, FitsSigned, w32}
use Rattle.mlp_predict.specs.Prediction.{Filters, Past, latest, past_of, predicted}
use Rattle.mlp_predict.specs.Filters.{filters_of}
use Rattle.mlp_predict.proofs.Blocks.{prepared, past_of-same}
use Rattle.mlp_predict.proofs.AloneLaws.{fir_alone, past_by, past_alone, none_there}
use Rattle.mlp_predict.proofs.ReducingLaws.{left_by}
use Rattle.std.proofs.lemmas.List.{length-append, length-reverse, length-take-le}
use Rattle.mlp_predict.proofs.predictor.Predictor.reduce_simply.Goals as goal

pub invariant_of-self : goal.invariant_of-self
invariant_of-self g c =
    let vs : List ℤ = c.as_slice-latest.result.now in
    let block : List ℤ = c.args.samples.now in
    let zeros : List ℤ = replicate (16 - length vs) (pos 0) in
    let line : List ℤ = take (16 + length block) c.reduce_behind.new.outputs in
    let whole : line ≡ (zeros ++ reverse vs) ++ block = c.reduce_behind.ensures.line in
    let few : length vs ≡ g.row.F = c.as_slice-latest.ensures.count in
    let long : g.row.F ≤ length line = omega (arith, ap length whole, length-append (zeros ++ reverse vs) block, length-append zeros (reverse vs), length-reverse vs) in
    (ap length c.replace_all.ensures ∙ length-take-le g.row.F (reverse line) (omega (arith, length-reverse line)), c.put_differences.ensures.count)

pub returns-then-not-reduce_behind-clause-fit : goal.returns-then-not-reduce_behind-clause-fit
returns-then-not-reduce_behind-clause-fit g c =
    let fs : List ℤ = reverse c.taps_back-fir_taps.result in
    let shift : ℕ = c.shift_of-shift.result in
    let given : Filters = filters_of c.args.fir.now c.args.iir.now in
    let none : [] ≡ c.args.iir.now.coeffs.items = none_there c.args.iir.now.coeffs.items c.requires.none in
    let same : (p : Past) → predicted (fir_alone fs shift) p ≡ predicted given p =
    prepared c.args.fir.now c.args.iir.now fs [] c.as_slice.result.now []
    (g.row.M - length c.as_slice.result.now) 0 shift
    c.as_slice.ensures.value none c.taps_back-fir_taps.ensures.value refl c.shift_of-shift.ensures in
    let vs : List ℤ = c.as_slice-latest.result.now in
    let ds : List ℤ = c.self.inside.differences in
    let here : past_by vs ds ≡ c.args.self.now = ap (λ (ys : List ℤ). past_by ys ds) c.as_slice-latest.ensures.value ∙ c.self.view_is in
    let left = left_by fs shift c.args.step vs ds c.args.self.now given c.args.samples.now here same in
    subst (λ (ys : List ℤ). IsTrue false ↔ All (FitsSigned w32) ys) left c.if-not-reduce_behind.ensures.fit

pub returns-clause-fit : goal.returns-clause-fit
returns-clause-fit g c =
    let fs : List ℤ = reverse c.taps_back-fir_taps.result in
    let shift : ℕ = c.shift_of-shift.result in
    let given : Filters = filters_of c.args.fir.now c.args.iir.now in
    let none : [] ≡ c.args.iir.now.coeffs.items = none_there c.args.iir.now.coeffs.items c.requires.none in
    let same : (p : Past) → predicted (fir_alone fs shift) p ≡ predicted given p =
    prepared c.args.fir.now c.args.iir.now fs [] c.as_slice.result.now []
    (g.row.M - length c.as_slice.result.now) 0 shift
    c.as_slice.ensures.value none c.taps_back-fir_taps.ensures.value refl c.shift_of-shift.ensures in
    let vs : List ℤ = c.as_slice-latest.result.now in
    let ds : List ℤ = c.self.inside.differences in
    let here : past_by vs ds ≡ c.args.self.now = ap (λ (ys : List ℤ). past_by ys ds) c.as_slice-latest.ensures.value ∙ c.self.view_is in
    let left = left_by fs shift c.args.step vs ds c.args.self.now given c.args.samples.now here same in
    subst (λ (ys : List ℤ). IsTrue true ↔ All (FitsSigned w32) ys) left c.if-not-reduce_behind.ensures.fit

pub returns-clause-values : goal.returns-clause-values
returns-clause-values g c =
    let fs : List ℤ = reverse c.taps_back-fir_taps.result in
    let shift : ℕ = c.shift_of-shift.result in
    let given : Filters = filters_of c.args.fir.now c.args.iir.now in
    let none : [] ≡ c.args.iir.now.coeffs.items = none_there c.args.iir.now.coeffs.items c.requires.none in
    let same : (p : Past) → predicted (fir_alone fs shift) p ≡ predicted given p =
    prepared c.args.fir.now c.args.iir.now fs [] c.as_slice.result.now []
    (g.row.M - length c.as_slice.result.now) 0 shift
    c.as_slice.ensures.value none c.taps_back-fir_taps.ensures.value refl c.shift_of-shift.ensures in
    let vs : List ℤ = c.as_slice-latest.result.now in
    let ds : List ℤ = c.self.inside.differences in
    let here : past_by vs ds ≡ c.args.self.now = ap (λ (ys : List ℤ). past_by ys ds) c.as_slice-latest.ensures.value ∙ c.self.view_is in
    let left = left_by fs shift c.args.step vs ds c.args.self.now given c.args.samples.now here same in
    λ h. c.if-not-reduce_behind.ensures.values h ∙ left

pub returns-clause-past : goal.returns-clause-past
returns-clause-past g c = λ _.
    let fs : List ℤ = reverse c.taps_back-fir_taps.result in
    let shift : ℕ = c.shift_of-shift.result in
    let given : Filters = filters_of c.args.fir.now c.args.iir.now in
    let none : [] ≡ c.args.iir.now.coeffs.items = none_there c.args.iir.now.coeffs.items c.requires.none in
    let same : (p : Past) → predicted (fir_alone fs shift) p ≡ predicted given p =
    prepared c.args.fir.now c.args.iir.now fs [] c.as_slice.result.now []
    (g.row.M - length c.as_slice.result.now) 0 shift
    c.as_slice.ensures.value none c.taps_back-fir_taps.ensures.value refl c.shift_of-shift.ensures in
    let vs : List ℤ = c.as_slice-latest.result.now in
    let ds : List ℤ = c.self.inside.differences in
    let here : past_by vs ds ≡ c.args.self.now = ap (λ (ys : List ℤ). past_by ys ds) c.as_slice-latest.ensures.value ∙ c.self.view_is in
    let block : List ℤ = c.args.samples.now in
    let few : length vs ≡ g.row.F = c.as_slice-latest.ensures.count in
    let line : List ℤ = take (16 + length block) c.reduce_behind.new.outputs in
    ap (λ (ys : List ℤ). past_by ys c.put_differences.new.differences) c.replace_all.ensures
    ∙ ap (λ (ys : List ℤ). past_by (take g.row.F (reverse line)) ys) c.put_differences.ensures.value
    ∙ past_alone fs shift g.row.F g.row.I (16 - length vs) vs ds block line few (omega arith) c.reduce_behind.ensures.line
    ∙ ap (λ (p : Past). latest g.row.F g.row.I (past_of (fir_alone fs shift) p block)) here
    ∙ ap (latest g.row.F g.row.I) (past_of-same (fir_alone fs shift) given c.args.self.now block same)
