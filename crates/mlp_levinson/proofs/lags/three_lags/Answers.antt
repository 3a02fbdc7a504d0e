use Rattle.std.proofs.Common.{◌+◌, ℤ, List, [], ◌∷◌, take, drop, ◌∙◌, ap}
use Rattle.mlp_predict.specs.Prediction.{dot}
use Rattle.mlp_levinson.specs.Computed.{lag}
use Rattle.mlp_levinson.proofs.Padded.{lag_is}
use Rattle.mlp_levinson.proofs.lags.three_lags.Goals as goal

pub returns : goal.returns
returns c =
    let line = c.args.line.now in
    let n = c.args.count in
    let j = c.args.distance in
    let ys : List ℤ = take n line in
    let zeros = c.requires.zeros in
    c.products.ensures
    ∙ ap (λ (z : ℤ). z ∷ dot ys (drop (j + 1) line) ∷ dot ys (drop (j + 2) line) ∷ []) (lag_is line n j zeros)
    ∙ ap (λ (z : ℤ). lag ys j ∷ z ∷ dot ys (drop (j + 2) line) ∷ []) (lag_is line n (j + 1) zeros)
    ∙ ap (λ (z : ℤ). lag ys j ∷ lag ys (j + 1) ∷ z ∷ []) (lag_is line n (j + 2) zeros)
