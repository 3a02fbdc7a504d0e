use Rattle.std.proofs.Common.{◌++◌, List, Bool, ap, sym, ◌∙◌, append_assoc}
use Rattle.mlp_bits.specs.Bits.{bits, bits_of}
use Rattle.mlp_unit.proofs.WordTexts.{text_none, text_some}
use Rattle.mlp_unit.proofs.writing.push_entry.Goals as goal

pub returns-in-Some-clause-bits : goal.returns-in-Some-clause-bits
returns-in-Some-clause-bits c =
    let e = c.args.entry.now in
    let old = bits_of c.args.out.now.items in
    let word = bits 16 c.entry_word.result in
    let extra = bits 16 c.in-Some.extra in
    c.push_word-in-Some.ensures.bits ∙ ap (λ (t : List Bool). t ++ extra) c.push_word.ensures.bits ∙ append_assoc old word extra
    ∙ ap (λ (t : List Bool). old ++ t) (sym (text_some e c.entry_word.result c.entry_word.ensures c.in-Some.extra c.in-Some.is))

pub returns-in_default-clause-bits : goal.returns-in_default-clause-bits
returns-in_default-clause-bits c =
    let e = c.args.entry.now in
    let old = bits_of c.args.out.now.items in
    c.push_word.ensures.bits ∙ ap (λ (t : List Bool). old ++ t) (sym (text_none e c.entry_word.result c.entry_word.ensures c.in_default.is))
