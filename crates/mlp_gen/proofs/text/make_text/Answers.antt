use Rattle.std.proofs.Common.{Err, sym, subst}
use Rattle.mlp_answers.specs.declared.failure.Failure.{Failure}
use Rattle.mlp_gen.specs.Generated.{Makes}
use Rattle.mlp_gen.proofs.Ends.{opened_err}
use Rattle.mlp_gen.proofs.text.make_text.Goals as goal

pub returns-in-Err : goal.returns-in-Err
returns-in-Err c =
    subst (λ (f : Failure). Makes c.args.profile c.args.seed c.args.units c.args.out.now.items (Err f)) (sym c.failure_of.ensures)
    (opened_err c.args.profile c.args.seed c.args.units c.args.out.now.items c.in-Err.refusal c.in-Err.ensures.bad)
