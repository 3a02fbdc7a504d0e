use Rattle.std.proofs.Common.{sym, subst}
use Rattle.mlp_fifo.specs.Pace.{IsRate}
use Rattle.mlp_check.proofs.Rates.{rate_is}
use Rattle.mlp_retime.proofs.retimer.begin_buffer.Goals as goal

pub reset-requires : goal.reset-requires
reset-requires c = subst IsRate (sym c.sample_rate.ensures) (rate_is c.args.first.now c.requires.rate)
