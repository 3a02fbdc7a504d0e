use Rattle.std.proofs.Common.{subst, sym}
use Rattle.mlp_fifo.specs.Pace.{IsUsual}
use Rattle.mlp_fifo.proofs.Paces.{usual}
use Rattle.mlp_fifo.proofs.arrivals.Arrivals.open.Goals as goal

pub invariant_of-result-clause-usual : goal.invariant_of-result-clause-usual
invariant_of-result-clause-usual c = subst IsUsual (sym c.of.ensures) (usual c.args.kind c.args.rate c.requires)
