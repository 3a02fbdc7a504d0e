use Rattle.std.proofs.Common.{true, map}
use Rattle.mlp_search.specs.Cost.{cost_over}
use Rattle.mlp_search.specs.Folded.{stepped}
use Rattle.mlp_search.specs.Least.{with_lows}
use Rattle.mlp_search.proofs.Scanning.{scan_joined}
use Rattle.mlp_search.proofs.weighing.with_books.Goals as goal

pub returns : goal.returns
returns c =
    scan_joined (cost_over c.args.state.now c.args.step true c.args.trial.now.pair (map (stepped c.args.step) c.args.values.now)) (with_lows c.args.trial.now.number c.args.trial.now.middle) c.args.best
    c.with_lows-uncoded.result c.with_codebooks.result 3
    c.with_lows-uncoded.ensures c.with_codebooks.ensures
