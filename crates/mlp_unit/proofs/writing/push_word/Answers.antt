use Rattle.std.proofs.Common.{◌∷◌, [], ◌++◌, ◌%◌, ℕ, List, ◌∙◌, ap, arith}
use Rattle.mlp_bits.specs.Bits.{bits_of}
use Rattle.mlp_unit.proofs.WordTexts.{pushed_word}
use Rattle.mlp_unit.proofs.writing.push_word.Goals as goal

pub returns-clause-bits : goal.returns-clause-bits
returns-clause-bits c = ap bits_of (c.push-2.ensures.items ∙ ap (λ (xs : List ℕ). xs ++ c.args.word % 256 ∷ []) c.push.ensures.items) ∙ pushed_word c.args.out.now.items c.args.word (omega arith)
