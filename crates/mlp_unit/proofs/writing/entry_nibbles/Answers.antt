use lib.Bits.{xor_lt}
use Rattle.mlp_bits.specs.Bits.{bits}
use Rattle.mlp_unit.specs.Directory.{entry}
use Rattle.mlp_unit.proofs.WordTexts.{text_none, text_some, sum_both, sum_as}
use Rattle.mlp_unit.proofs.writing.entry_nibbles.Goals as goal

pub returns-in-None-clause-sum : goal.returns-in-None-clause-sum
returns-in-None-clause-sum c =
    let e = c.args.entry.now in
    sum_as (entry.spelling e) (bits 16 c.entry_word.result) c.nibbles-sum.result (text_none e c.entry_word.result c.entry_word.ensures c.in-None.is) c.nibbles-sum.ensures.sum

pub returns-in-Some-clause-sum : goal.returns-in-Some-clause-sum
returns-in-Some-clause-sum c =
    let e = c.args.entry.now in
    sum_as (entry.spelling e) _ _ (text_some e c.entry_word.result c.entry_word.ensures c.in-Some.extra c.in-Some.is)
    (sum_both (bits 16 c.entry_word.result) (bits 16 c.in-Some.extra) c.nibbles-sum.result c.nibbles.result c.nibbles-sum.ensures.sum c.nibbles.ensures.sum)

pub returns-in-Some-clause-small : goal.returns-in-Some-clause-small
returns-in-Some-clause-small c = xor_lt 4 c.nibbles-sum.result c.nibbles.result c.nibbles-sum.ensures.small c.nibbles.ensures.small
