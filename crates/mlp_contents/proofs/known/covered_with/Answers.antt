use Rattle.std.proofs.Common.{sym, ap, ◌∙◌}
use Rattle.mlp_contents.specs.Known.{first_restart}
use Rattle.mlp_contents.proofs.Coverage.{covered_same, covered_more}
use Rattle.mlp_contents.proofs.known.covered_with.Goals as goal

pub returns-in-None : goal.returns-in-None
returns-in-None c = λ before e. e ∙ covered_same before c.args.segment.now (ap first_restart (sym c.deref.ensures.0) ∙ sym c.in-None.ensures)

pub returns-in-Some : goal.returns-in-Some
returns-in-Some c = λ before e.
    c.with_range.ensures ∙ covered_more before c.args.segment.now c.in-Some.restart.now c.args.covered e (ap first_restart (sym c.deref.ensures.0) ∙ sym c.in-Some.ensures)
