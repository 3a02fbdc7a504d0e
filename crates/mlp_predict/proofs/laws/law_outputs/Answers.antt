use Rattle.mlp_predict.proofs.Sequences.{outputs_there, outputs_only, steps_give, steps_leave}
use Rattle.mlp_predict.proofs.laws.law_outputs.Goals as goal

pub returns : goal.returns
returns c = record { one = outputs_there; only = outputs_only; steps = steps_give; kept = steps_leave }
