use Rattle.std.proofs.Common.{[], true, sym, ap, subst}
use Rattle.mlp_fifo.specs.Timed.{LeavesTimed}
use Rattle.mlp_fifo.proofs.CheckedLaws.{none_timed, with_timed}
use Rattle.mlp_fifo.proofs.checker.Checker.reset.Goals as goal

pub returns-clause-is : goal.returns-clause-is
returns-clause-is c = ap (with_timed true) c.reset.ensures.is

pub returns-clause-left : goal.returns-clause-left
returns-clause-left c = subst (LeavesTimed c.args.kind c.args.rate []) (sym (ap (with_timed true) c.reset.ensures.is)) (none_timed c.args.kind c.args.rate)
