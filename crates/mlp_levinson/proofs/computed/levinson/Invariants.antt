use Rattle.mlp_levinson.proofs.Runs.{Along}
use Rattle.mlp_levinson.proofs.computed.levinson.Given as goal

abbrev pub invariant-loop : goal.invariant-loop
invariant-loop l = Along l.lags l.counter l.level
