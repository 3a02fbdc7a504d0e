use Rattle.std.proofs.Common.{◌<◌, ◌/◌, ◌%◌, arith}
use Rattle.std.specs.Prelude.{bit_xor}
use lib.Bits.{xor_lt}
use Rattle.mlp_unit.proofs.WordTexts.{nibbles_sum}
use Rattle.mlp_unit.proofs.writing.nibbles.Goals as goal

pub returns-clause-sum : goal.returns-clause-sum
returns-clause-sum c = λ rest. nibbles_sum c.args.word rest (omega arith)

pub returns-clause-small : goal.returns-clause-small
returns-clause-small c =
    let n = c.args.word in
    let a : n / 256 / 16 < 16 = omega arith in
    let b : n / 256 % 16 < 16 = omega arith in
    let d : n % 256 / 16 < 16 = omega arith in
    let e : n % 256 % 16 < 16 = omega arith in
    xor_lt 4 (bit_xor (n / 256 / 16) (n / 256 % 16)) (bit_xor (n % 256 / 16) (n % 256 % 16)) (xor_lt 4 (n / 256 / 16) (n / 256 % 16) a b) (xor_lt 4 (n % 256 / 16) (n % 256 % 16) d e)
