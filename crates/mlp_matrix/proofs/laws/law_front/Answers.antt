use Rattle.mlp_matrix.proofs.Fronts.{take-applied, take-applied_each}
use Rattle.mlp_matrix.proofs.laws.law_front.Goals as goal

pub returns : goal.returns
returns c = record { frame = take-applied; frames = take-applied_each }
