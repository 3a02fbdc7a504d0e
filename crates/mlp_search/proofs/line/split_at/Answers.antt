use Rattle.std.proofs.Common.{◌≡◌, ◌+◌, ◌≤◌, ℕ, ℤ, pos, List, length, map, get_or, take, reverse, arith}
use Rattle.std.specs.Prelude.{All}
use Rattle.std.proofs.lemmas.List.{length-reverse}
use Rattle.mlp_arith.specs.Words.{floor_by, wrap}
use Rattle.mlp_arith.specs.Ranges.{Is26}
use Rattle.mlp_predict.specs.Prediction.{dot, IsCoefficient}
use Rattle.mlp_search.specs.Lines.{low_part}
use Rattle.mlp_search.proofs.LineLaws.{Split, split_less, all_reverse, before_small, before_parts}
use Rattle.mlp_search.proofs.line.split_at.Goals as goal

-- the sums over the parts of the values before place n
sums : (s n : ℕ) (y h l : ℤ) (fir xs highs lows : List ℤ) → 13 ≤ s → Is26 y → length fir ≤ 8 → All IsCoefficient fir → All Is26 xs → highs ≡ map (floor_by 13) xs → lows ≡ map low_part xs
    → h ≡ wrap (dot (reverse fir) (reverse (take n highs))) → l ≡ wrap (dot (reverse fir) (reverse (take n lows))) → Split s y h l (floor_by s (dot (reverse fir) (reverse (take n xs))))
sums s n y h l fir xs highs lows le small few coeffs words hp lp hs ls =
    split_less s y h l (reverse fir) (reverse (take n highs)) (reverse (take n lows)) (reverse (take n xs)) le small (all_reverse IsCoefficient fir coeffs) (before_small xs n words) (omega (arith, few, length-reverse fir))
    (before_parts (floor_by 13) xs highs n hp) (before_parts low_part xs lows n lp) hs ls

pub overflow_add-result-2 : goal.overflow_add-result-2
overflow_add-result-2 g c =
    let xs : List ℤ = c.args.whole.now in
    let n = 8 + c.args.i in
    (sums c.args.shift n (get_or xs n (pos 0)) c.dot_before-high_sum.result c.dot_before-low_sum.result c.args.fir.now xs c.args.high.now c.args.low.now c.requires.least_shift (c.requires.small n (pos 0) c.requires.within) (omega arith)
    c.requires.small_coeffs c.requires.small c.requires.high_parts c.requires.low_parts c.dot_before-high_sum.ensures c.dot_before-low_sum.ensures).sum

pub overflow_sub-result-2 : goal.overflow_sub-result-2
overflow_sub-result-2 g c =
    let xs : List ℤ = c.args.whole.now in
    let n = 8 + c.args.i in
    (sums c.args.shift n (get_or xs n (pos 0)) c.dot_before-high_sum.result c.dot_before-low_sum.result c.args.fir.now xs c.args.high.now c.args.low.now c.requires.least_shift (c.requires.small n (pos 0) c.requires.within) (omega arith)
    c.requires.small_coeffs c.requires.small c.requires.high_parts c.requires.low_parts c.dot_before-high_sum.ensures c.dot_before-low_sum.ensures).rest.fits

pub returns : goal.returns
returns g c =
    let xs : List ℤ = c.args.whole.now in
    let n = 8 + c.args.i in
    (sums c.args.shift n (get_or xs n (pos 0)) c.dot_before-high_sum.result c.dot_before-low_sum.result c.args.fir.now xs c.args.high.now c.args.low.now c.requires.least_shift (c.requires.small n (pos 0) c.requires.within) (omega arith)
    c.requires.small_coeffs c.requires.small c.requires.high_parts c.requires.low_parts c.dot_before-high_sum.ensures c.dot_before-low_sum.ensures).rest.value
