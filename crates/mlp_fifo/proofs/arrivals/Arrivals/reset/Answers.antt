use Rattle.std.proofs.Common.{subst, sym}
use Rattle.mlp_fifo.specs.Pace.{IsUsual}
use Rattle.mlp_fifo.proofs.Paces.{usual}
use Rattle.mlp_fifo.proofs.arrivals.Arrivals.reset.Goals as goal

pub invariant_of-self-clause-usual : goal.invariant_of-self-clause-usual
invariant_of-self-clause-usual c = subst IsUsual (sym c.of-self.ensures) (usual c.args.kind c.args.rate c.requires)
