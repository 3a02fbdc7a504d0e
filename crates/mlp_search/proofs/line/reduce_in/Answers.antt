use Rattle.std.proofs.Common.{◌≡◌, ◌<◌, ℤ, List, [], length, arith, sym, ap, ◌∙◌}
use Rattle.mlp_predict.proofs.AloneLaws.{none_there}
use Rattle.mlp_predict.specs.Filters.{shift_where}
use Rattle.mlp_syntax.specs.declared.params.Filter.{Filter}
use Rattle.mlp_search.specs.declared.pair.Pair.{Pair}
use Rattle.mlp_search.specs.Lines.{alone_by, left_in}
use Rattle.mlp_search.proofs.LineFits.{coefficients_are, shift_is, block_is}
use Rattle.mlp_search.proofs.line.reduce_in.Goals as goal
use Rattle.mlp_search.proofs.line.reduce_in.Goals.{then-is_empty, else-is_empty}

pub reduce_by-requires-clause-small_coeffs : goal.reduce_by-requires-clause-small_coeffs
reduce_by-requires-clause-small_coeffs c =
    let fir_is : c.pair.inside.fir.now ≡ c.args.pair.now.fir = ap (λ (p : Pair). p.fir) c.pair.view_is in
    coefficients_are c.args.pair.now.fir c.as_slice-coeffs.result.now c.requires.filters.fir_filter (omega (arith, c.if-pair-gt0.false, ap (λ (f : Filter 8). f.coeff_shift) fir_is))
    (c.as_slice-coeffs.ensures.value ∙ ap (λ (f : Filter 8). f.coeffs.items) fir_is)

pub returns-clause-value : goal.returns-clause-value
returns-clause-value c =
    λ t step past samples n is.
    let fir_is : c.pair.inside.fir.now ≡ c.args.pair.now.fir = ap (λ (p : Pair). p.fir) c.pair.view_is in
    let iir_is : c.pair.inside.iir.now ≡ c.args.pair.now.iir = ap (λ (p : Pair). p.iir) c.pair.view_is in
    let none : [] ≡ c.args.pair.now.iir.coeffs.items = none_there c.pair.inside.iir.now.coeffs.items (grind (arith, c.is_empty.ensures, c.if-not-is_empty.false)) ∙ ap (λ (f : Filter 4). f.coeffs.items) iir_is in
    let same = c.as_slice-coeffs.ensures.value ∙ ap (λ (f : Filter 8). f.coeffs.items) fir_is in
    let at : c.if-is_empty.shift ≡ shift_where c.args.pair.now.fir.coeffs.items c.args.pair.now.fir.shift c.args.pair.now.iir.shift =
    shift_is c.args.pair.now.fir.coeffs.items c.args.pair.now.fir.shift c.args.pair.now.iir.shift c.if-is_empty.shift
    (λ z. elim c.if-is_empty.branch [
      | then-is_empty w ↦ w.shift-is ∙ ap (λ (f : Filter 4). f.shift) iir_is
      | else-is_empty w ↦ absurd (let l : 0 < length c.as_slice-coeffs.result.now = grind (arith, c.is_empty-2.ensures, w.if-is_empty.false) in omega (arith, z, l, ap (λ (cs : List ℤ). length cs) same))
    ])
    (λ some. elim c.if-is_empty.branch [
      | then-is_empty w ↦ absurd (let l : length c.as_slice-coeffs.result.now ≡ 0 = grind (arith, c.is_empty-2.ensures, w.if-is_empty.true) in omega (arith, some, l, ap (λ (cs : List ℤ). length cs) same))
      | else-is_empty w ↦ w.shift-is ∙ ap (λ (f : Filter 8). f.shift) fir_is
    ])
    in
    block_is c.args.pair.now step past samples c.args.line.now.whole.now c.args.line.now.high.now c.args.line.now.low.now n c.if-is_empty.shift c.reduce_by.new.values is.parts
    (omega (arith, c.if-pair-gt0.false, ap (λ (f : Filter 8). f.coeff_shift) fir_is)) (sym none) at
    (c.reduce_by.ensures.value t ∙ ap (λ (cs : List ℤ). left_in (alone_by cs c.if-is_empty.shift) c.args.line.now.whole.now) same)
