use Rattle.mlp_levinson.proofs.Runs.{Along, AreFound}
use Rattle.mlp_levinson.proofs.computed.levinson_all.Given as goal

abbrev pub invariant-loop : goal.invariant-loop
invariant-loop l = record { along : Along l.lags l.counter l.level; found : AreFound l.lags l.counter l.out.items }
