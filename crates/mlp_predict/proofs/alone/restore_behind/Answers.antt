use Rattle.std.proofs.Common.{◌≡◌, ℕ, ◌+◌, ◌-◌, ◌++◌, length, take, drop, reverse, replicate, pos, [], List, ℤ, arith, ap, sym, ◌∙◌}
use Rattle.std.proofs.lemmas.List.{length-append, length-take-le, take_at}
use Rattle.std.proofs.lemmas.Slice.{take-put_mid}
use borrow.Rule.Slice.PartMut.{put_mid, post_of}
use Rattle.mlp_predict.specs.Prediction.{outputs_of}
use Rattle.mlp_predict.proofs.LineLaws.{block_in}
use Rattle.mlp_predict.proofs.AloneLaws.{AloneDone, alone_done, fir_alone, past_by}
use Rattle.mlp_predict.proofs.alone.restore_behind.Goals as goal

pub returns : goal.returns
returns g c =
    let fs : List ℤ = reverse c.args.fir.now in
    let vs : List ℤ = c.args.latest.now in
    let block : List ℤ = c.args.block.now in
    let n : ℕ = length block in
    let l1 : List ℤ = c.put_before.new.line in
    let b : List ℤ = c.copy_from_slice.new.self in
    let full : List ℤ = put_mid 16 (16 + n - 16) l1 b in
    let out : List ℤ = c.restore_alone.new.outputs in
    let after : b ≡ block = c.copy_from_slice.ensures.after in
    let count : length b ≡ n = ap length after in
    let room : length l1 ≡ length c.args.outputs.now = c.put_before.auto.line in
    let long : length (take 16 l1) ≡ 16 = length-take-le 16 l1 (omega arith) in
    let in_line : take (16 + n) full ≡ take 16 l1 ++ block = take-put_mid 16 (16 + n - 16) l1 b (16 + n) (omega arith) (omega arith) ∙ ap (λ (ys : List ℤ). take 16 l1 ++ ys) after in
    let done : AloneDone fs c.args.shift c.args.step vs block out =
    alone_done (length c.args.outputs.now) fs c.args.shift c.args.step vs block (take (16 + n) full) out l1 (omega arith) c.requires.latest_few
    (c.put_before.ensures ∙ ap (λ (zs : List ℤ). take (16 - length vs) zs ++ reverse vs ++ drop 16 zs) c.requires.empty)
    long in_line c.restore_alone.ensures in
    let whole : length out ≡ 16 + n = c.restore_alone.auto.outputs ∙ ap length in_line ∙ (omega (arith, length-append (take 16 l1) block)) in
    let same : c.copy_from_slice-2.new.self ≡ outputs_of (fir_alone fs c.args.shift) (past_by vs []) c.args.step block =
    c.copy_from_slice-2.ensures.after ∙ block_in out (post_of 0 (16 + n) full) (16 + n - 16) n whole (omega arith) ∙ done.outputs in
    record {
      outputs = same;
      line = take_at out (post_of 0 (16 + n) full) (16 + n) whole
          ∙ done.line
          ∙ ap (λ (ys : List ℤ). (replicate (16 - length vs) (pos 0) ++ reverse vs) ++ ys) (sym same);
    }
