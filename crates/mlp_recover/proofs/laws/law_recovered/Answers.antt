use Rattle.mlp_recover.proofs.Intervals.{one_interval}
use Rattle.mlp_recover.proofs.Pieces.{one_recovery}
use Rattle.mlp_recover.proofs.SomePieces.{some_recovery}
use Rattle.mlp_recover.proofs.laws.law_recovered.Goals as goal

pub returns-clause-interval : goal.returns-clause-interval
returns-clause-interval c = one_interval

pub returns-clause-one : goal.returns-clause-one
returns-clause-one c = λ k bytes. record { some = some_recovery k bytes; one = one_recovery k bytes }
