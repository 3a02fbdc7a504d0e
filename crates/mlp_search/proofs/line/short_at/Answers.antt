use Rattle.std.proofs.Common.{◌+◌, ℤ, pos, List, get_or, take, reverse}
use Rattle.mlp_predict.specs.Prediction.{dot}
use Rattle.mlp_search.proofs.LineLaws.{light_less}
use Rattle.mlp_search.proofs.line.short_at.Goals as goal

pub overflow_sub-result : goal.overflow_sub-result
overflow_sub-result g c =
    let xs : List ℤ = c.args.whole.now in
    let n = 8 + c.args.i in
    (light_less c.args.shift (get_or xs n (pos 0)) c.dot_before-sum.result (dot (reverse c.args.fir.now) (reverse (take n xs))) (c.requires.small n (pos 0) c.requires.within)
    (c.requires.short n) c.dot_before-sum.ensures).fits

pub returns : goal.returns
returns g c =
    let xs : List ℤ = c.args.whole.now in
    let n = 8 + c.args.i in
    (light_less c.args.shift (get_or xs n (pos 0)) c.dot_before-sum.result (dot (reverse c.args.fir.now) (reverse (take n xs))) (c.requires.small n (pos 0) c.requires.within)
    (c.requires.short n) c.dot_before-sum.ensures).value
