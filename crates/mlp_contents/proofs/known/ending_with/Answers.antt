use Rattle.std.proofs.Common.{sym, ◌∙◌}
use Rattle.mlp_contents.proofs.Behind.{first_ending, same_ending}
use Rattle.mlp_contents.proofs.known.ending_with.Goals as goal

pub returns-in-None : goal.returns-in-None
returns-in-None c = λ before e. first_ending before c.args.segment.now (sym c.in-None.is ∙ e) c.ending_of.ensures

pub returns-in-Some : goal.returns-in-Some
returns-in-Some c = λ before e. same_ending before c.args.segment.now c.in-Some.ending (sym c.in-Some.is ∙ e)
