use Rattle.std.proofs.Common.{arith, ◌∙◌}
use Rattle.mlp_outline.proofs.FirstBytes.{four_bytes, peeked_words}
use Rattle.mlp_outline.proofs.next.words_of.Goals as goal

pub skip-requires : goal.skip-requires
skip-requires c = rw c.new-r.ensures (omega (arith, four_bytes c.args.next.now c.requires))

pub returns-clause-value : goal.returns-clause-value
returns-clause-value c = c.peek.ensures.value ∙ rw (c.skip.ensures, c.new-r.ensures) (peeked_words c.args.next.now 4 c.requires (omega arith))
