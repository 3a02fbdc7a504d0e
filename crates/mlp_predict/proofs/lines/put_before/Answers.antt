use Rattle.std.proofs.Common.{ℤ, pos, get_or, w32, FitsSigned, rules}
use Rattle.std.proofs.lemmas.Int.{to_z-of_z}
use Rattle.mlp_predict.proofs.LineLaws.{put_more}
use Rattle.mlp_predict.proofs.lines.put_before.Goals as goal

pub loop-i-preserved : goal.loop-i-preserved
loop-i-preserved c =
    let i = c.loop-i.i in
    let v : ℤ = get_or c.args.values.now i (pos 0) in
    let fits : FitsSigned w32 v = search rules in
    rw (to_z-of_z w32 v fits)
    (put_more c.args.values.now c.args.line.now c.loop-i.line i c.loop-i-test.true c.requires.few c.requires.room c.loop-i.invariant)
