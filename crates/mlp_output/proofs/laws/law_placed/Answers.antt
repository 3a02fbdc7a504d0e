use Rattle.mlp_output.proofs.Assignments.{assign_count, assign_within, is_assignment}
use Rattle.mlp_output.proofs.Places.{placed-at, placed-others}
use Rattle.mlp_output.proofs.laws.law_placed.Goals as goal

pub returns : goal.returns
returns c = record { assigned = placed-at; others = placed-others; restarts = is_assignment; count = assign_count; within = assign_within }
