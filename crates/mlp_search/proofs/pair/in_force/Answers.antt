use Rattle.std.proofs.Common.{arith}
use Rattle.mlp_search.proofs.FilterLaws.{no_state}
use Rattle.mlp_search.proofs.pair.in_force.Goals as goal

pub copied_filter-requires : goal.copied_filter-requires
copied_filter-requires c = (omega arith, no_state 8 c.args.state.now.fir c.requires.fir)

pub copied_filter-requires-2 : goal.copied_filter-requires-2
copied_filter-requires-2 c = (omega arith, no_state 4 c.args.state.now.iir c.requires.iir)
