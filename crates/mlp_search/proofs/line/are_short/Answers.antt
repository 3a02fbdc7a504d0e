use Rattle.std.proofs.Common.{◌*◌, ◌≤◌, arith}
use Rattle.std.proofs.Math.Nat.{mul-le-mul}
use Rattle.mlp_search.specs.Folded.{sizes}
use Rattle.mlp_search.proofs.LineLaws.{short_near}
use Rattle.mlp_search.proofs.line.are_short.Goals as goal

pub overflow_mul-size_of : goal.overflow_mul-size_of
overflow_mul-size_of c = omega (arith, mul-le-mul c.size_of.ensures.few (let far : c.from.result ≤ 4294967295 = omega (arith, c.from.ensures, c.type_inv.line) in far))

pub returns : goal.returns
returns c = λ t.
    let le : c.size_of.result * c.from.result ≤ 2013265920 = omega (arith, c.if-size_of-from-gt2013265920.false) in
    let same : sizes c.args.coeffs.now * c.args.line.now.far ≤ 2013265920 = rw (c.size_of.ensures.value, c.from.ensures) at le in
    short_near c.args.line.now.far c.args.coeffs.now c.args.line.now.whole.now c.requires.near same
