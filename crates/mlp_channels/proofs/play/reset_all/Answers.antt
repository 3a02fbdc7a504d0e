use Rattle.std.proofs.Common.{◌≡◌, ◌∙◌, ◌++◌, ◌∷◌, [], ℕ, List, ap, sym, arith, take, replicate}
use Rattle.std.proofs.lemmas.List.{take_more_set, replicate_more, take_all, length-set}
use Rattle.mlp_predict.specs.Prediction.{Past, zeros}
use Rattle.mlp_channels.proofs.play.reset_all.Goals as goal

pub loop-i-preserved : goal.loop-i-preserved
loop-i-preserved c =
    let i = c.loop-i.i in
    let inv = c.loop-i.invariant in
    record {
      reset = take_more_set c.loop-i.predictors i c.reset.new.self (omega (arith, inv.count, c.loop-i-test.true))
          ∙ ap (λ (ps : List Past). ps ++ c.reset.new.self ∷ []) inv.reset
          ∙ ap (λ (p : Past). replicate i (zeros 8 4) ++ p ∷ []) c.reset.ensures
          ∙ replicate_more i (zeros 8 4);
      count = length-set c.loop-i.predictors i c.reset.new.self ∙ inv.count;
    }

pub returns : goal.returns
returns c =
    let inv = c.loop-i.invariant in
    let all : c.loop-i.i ≡ 8 = omega (arith, c.loop-i-test.false, c.loop-i.auto.i-end) in
    sym (take_all 8 c.loop-i.predictors (omega (arith, inv.count)))
    ∙ ap (λ (k : ℕ). take k c.loop-i.predictors) (sym all)
    ∙ inv.reset
    ∙ ap (λ (k : ℕ). replicate k (zeros 8 4)) all
