use Rattle.std.proofs.Common.{◌-◌, ◌<◌, length, ℤ, pos, get_or, w32, FitsSigned, rules, arith, ap}
use Rattle.std.proofs.lemmas.Int.{to_z-of_z}
use Rattle.mlp_predict.proofs.LineLaws.{last_more}
use Rattle.mlp_predict.proofs.history.History.replace_all.Goals as goal

pub loop-i-preserved : goal.loop-i-preserved
loop-i-preserved g c =
    let i = c.loop-i.i in
    let line = c.args.line.now in
    let v : ℤ = get_or line (length line - 1 - i) (pos 0) in
    let fits : FitsSigned w32 v = search rules in
    let within : i < length c.args.self.now = omega (arith, ap length c.as_slice.ensures.value, c.as_slice.ensures.count) in
    rw (c.replace.ensures, to_z-of_z w32 v fits) (last_more line c.args.self.now c.loop-i.self i (omega arith) within c.loop-i.invariant)
