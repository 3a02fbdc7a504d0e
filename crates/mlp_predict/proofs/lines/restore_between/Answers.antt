use Rattle.std.proofs.Common.{◌≡◌, ℕ, ◌+◌, ◌-◌, ◌++◌, length, take, drop, reverse, List, ℤ, arith, ap, sym, ◌∙◌}
use Rattle.std.proofs.lemmas.List.{length-append, length-take-le, take-take, take_at}
use Rattle.std.proofs.lemmas.Slice.{take-put_mid}
use borrow.Rule.Slice.PartMut.{put_mid, post_of}
use Rattle.mlp_predict.specs.Prediction.{Filters, Past, outputs_of, past_of, with_zeros}
use Rattle.mlp_predict.specs.Lines.{filters_in, past_in}
use Rattle.mlp_predict.proofs.LineLaws.{BlockDone, block_done, block_in}
use Rattle.mlp_predict.proofs.lines.restore_between.Goals as goal

pub returns : goal.returns
returns g c =
    let f : Filters = filters_in c.args.fir.now c.args.iir.now c.args.shift in
    let vs : List ℤ = c.args.latest_outputs.now in
    let ds : List ℤ = c.args.latest_differences.now in
    let past : Past = record { outputs = vs; differences = ds } in
    let block : List ℤ = c.args.block.now in
    let n : ℕ = length block in
    let l1 : List ℤ = c.put_before.new.line in
    let l2 : List ℤ = c.put_before-2.new.line in
    let b : List ℤ = c.copy_from_slice.new.self in
    let full : List ℤ = put_mid 16 (16 + n - 16) l1 b in
    let out : List ℤ = c.restore_line.new.outputs in
    let dif : List ℤ = c.restore_line.new.differences in
    let after : b ≡ block = c.copy_from_slice.ensures.after in
    let count : length b ≡ n = ap length after in
    let room : length l1 ≡ length c.args.outputs.now = c.put_before.auto.line in
    let long : length (take 16 l1) ≡ 16 = length-take-le 16 l1 (omega arith) in
    let in_line : take (16 + n) full ≡ take 16 l1 ++ block = take-put_mid 16 (16 + n - 16) l1 b (16 + n) (omega arith) (omega arith) ∙ ap (λ (ys : List ℤ). take 16 l1 ++ ys) after in
    let done : BlockDone f c.args.step past block out dif =
    block_done (length c.args.outputs.now) f c.args.step past block (take (16 + n) full) (take (16 + n) l2) out dif l1 l2 (omega arith) c.requires.outputs_few c.requires.differences_few
    (c.put_before.ensures ∙ ap (λ (zs : List ℤ). take (16 - length vs) zs ++ reverse vs ++ drop 16 zs) c.requires.outputs_empty)
    (c.put_before-2.ensures ∙ ap (λ (zs : List ℤ). take (16 - length ds) zs ++ reverse ds ++ drop 16 zs) c.requires.differences_empty)
    long in_line (take-take 16 (16 + n) l2 (omega arith)) c.restore_line.ensures.outputs c.restore_line.ensures.past in
    let whole : length out ≡ 16 + n = c.restore_line.auto.outputs ∙ ap length in_line ∙ (omega (arith, length-append (take 16 l1) block)) in
    let whole2 : length dif ≡ 16 + n = c.restore_line.auto.differences ∙ length-take-le (16 + n) l2 (omega arith) in
    let same : c.copy_from_slice-2.new.self ≡ outputs_of f past c.args.step block =
    c.copy_from_slice-2.ensures.after ∙ block_in out (post_of 0 (16 + n) full) (16 + n - 16) n whole (omega arith) ∙ done.outputs in
    record {
      outputs = same;
      past = ap (λ (ys : List ℤ). past_in ys (take (16 + n) (dif ++ post_of 0 (16 + n) l2))) (take_at out (post_of 0 (16 + n) full) (16 + n) whole)
          ∙ ap (λ (ys : List ℤ). past_in out ys) (take_at dif (post_of 0 (16 + n) l2) (16 + n) whole2)
          ∙ done.past
          ∙ ap (λ (ys : List ℤ). with_zeros (16 - length vs) (16 - length ds) (past_of f past ys)) (sym same);
    }
