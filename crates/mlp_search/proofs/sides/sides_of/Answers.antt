use Rattle.std.proofs.Common.{ℤ, List, w16, arith, subst}
use Rattle.std.specs.Prelude.{FitsSigned}
use Rattle.std.proofs.lemmas.Int.{ints, to_z-of_z}
use Rattle.mlp_search.specs.Survey.{IsSurvey}
use Rattle.mlp_search.proofs.FoldSums.{no_floors, middle_offset}
use Rattle.mlp_search.proofs.sides.sides_of.Goals as goal

pub side_of-requires-clause-survey : goal.side_of-requires-clause-survey
side_of-requires-clause-survey c = subst (λ (vs : List ℤ). IsSurvey vs c.args.trial.now.survey) (no_floors c.args.values.now) c.requires.trial.survey

pub side_of-requires-2-clause-survey : goal.side_of-requires-2-clause-survey
side_of-requires-2-clause-survey c = subst (λ (vs : List ℤ). IsSurvey vs c.args.trial.now.survey) (no_floors c.args.values.now) c.requires.trial.survey

pub side_of-requires-2-clause-offset : goal.side_of-requires-2-clause-offset
side_of-requires-2-clause-offset c =
    let fits : FitsSigned w16 c.args.trial.now.middle = omega (arith, ints) in
    rw (to_z-of_z w16 c.args.trial.now.middle fits) (middle_offset c.args.step c.args.values.now c.args.trial.now.middle c.requires.trial.middle)
