use Rattle.std.proofs.Common.{◌≡◌, ◌↔◌, ℕ, ◌+◌, ◌-◌, ◌++◌, length, take, drop, reverse, replicate, pos, [], List, ℤ, IsTrue, All, FitsSigned, w32, arith, ap, subst, ◌∙◌}
use Rattle.std.proofs.lemmas.Slice.{take-put_mid}
use borrow.Rule.Slice.PartMut.{put_mid}
use Rattle.mlp_predict.specs.Prediction.{residuals_of}
use Rattle.mlp_predict.proofs.LineLaws.{front_before}
use Rattle.mlp_predict.proofs.AloneLaws.{fir_alone, past_by}
use Rattle.mlp_predict.proofs.ReducingLaws.{left_at, left_in_line}
use Rattle.mlp_predict.proofs.reducing.reduce_behind.Goals as goal

pub returns : goal.returns
returns g c =
    let fs : List ℤ = reverse c.args.fir.now in
    let vs : List ℤ = c.args.latest.now in
    let block : List ℤ = c.args.samples.now in
    let n : ℕ = length block in
    let l1 : List ℤ = c.put_before.new.line in
    let b : List ℤ = c.copy_from_slice.new.self in
    let full : List ℤ = put_mid 16 (16 + n - 16) l1 b in
    let after : b ≡ block = c.copy_from_slice.ensures.after in
    let in_line : take (16 + n) full ≡ take 16 l1 ++ block = take-put_mid 16 (16 + n - 16) l1 b (16 + n) (omega arith) (omega arith) ∙ ap (λ (ys : List ℤ). take 16 l1 ++ ys) after in
    let front : take 16 l1 ≡ replicate (16 - length vs) (pos 0) ++ reverse vs =
    front_before (length c.args.outputs.now) vs l1 (omega arith) c.requires.latest_few
    (c.put_before.ensures ∙ ap (λ (zs : List ℤ). take (16 - length vs) zs ++ reverse vs ++ drop 16 zs) c.requires.empty) in
    let line : take (16 + n) full ≡ (replicate (16 - length vs) (pos 0) ++ reverse vs) ++ block = in_line ∙ ap (λ (ys : List ℤ). ys ++ block) front in
    let same : left_at fs c.args.shift c.args.step (take (16 + n) full) 16 ≡ residuals_of (fir_alone fs c.args.shift) (past_by vs []) c.args.step block =
    left_in_line fs c.args.shift c.args.step (16 - length vs) vs [] block (take (16 + n) full) (omega (arith, c.requires.latest_few)) line in
    record {
      fit = subst (λ (ys : List ℤ). IsTrue c.reduce_alone.result ↔ All (FitsSigned w32) ys) same c.reduce_alone.ensures.fit;
      values = λ h. c.reduce_alone.ensures.values h ∙ same;
      line = line;
    }
