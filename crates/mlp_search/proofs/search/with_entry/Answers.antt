use Rattle.std.proofs.Common.{Some, arith, sym, ap, ◌∙◌}
use Rattle.mlp_search.proofs.ComputedPairs.{table_pair}
use Rattle.mlp_search.proofs.search.with_entry.Goals as goal

pub with_filters-requires-clause-pair : goal.with_filters-requires-clause-pair
with_filters-requires-clause-pair g c =
    table_pair c.args.state.now c.args.step c.args.samples.now g.row.N (omega arith) (omega arith) ∙ c.in_table-pair.ensures ∙ ap Some (sym c.view.ensures)
