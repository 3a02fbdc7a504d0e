use Rattle.std.proofs.Common.{[], sym, subst}
use Rattle.mlp_fifo.specs.LeftFifo.{Leaves}
use Rattle.mlp_fifo.proofs.PlacedLaws.{none_leaves}
use Rattle.mlp_fifo.proofs.fifo.Fifo.reset.Goals as goal

pub returns-clause-left : goal.returns-clause-left
returns-clause-left c = subst (Leaves c.args.kind c.args.rate []) (sym c.reset.ensures.is) (none_leaves c.args.kind c.args.rate)
