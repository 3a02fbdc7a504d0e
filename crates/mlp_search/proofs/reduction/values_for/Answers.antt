use Rattle.std.proofs.Common.{◌≡◌, ℤ, List, arith, sym, subst}
use Rattle.std.specs.Prelude.{All}
use Rattle.mlp_arith.specs.Words.{clear}
use Rattle.mlp_predict.specs.Filters.{filters_of}
use Rattle.mlp_search.specs.Candidates.{past_for}
use Rattle.mlp_search.proofs.LineFits.{line_length}
use Rattle.mlp_search.proofs.Wholes.{residuals_whole}
use Rattle.mlp_search.proofs.reduction.values_for.Goals as goal

pub count_steps-requires-clause-whole : goal.count_steps-requires-clause-whole
count_steps-requires-clause-whole c =
    subst (λ (rs : List ℤ). All (λ r. clear c.args.step r ≡ r) rs) (sym (c.residuals_for.ensures.values c.if-not-residuals_for.false))
    (residuals_whole (filters_of c.args.pair.now.fir c.args.pair.now.iir) (past_for c.args.number c.args.pair.now c.args.history.now) c.args.step c.args.samples.now c.requires.whole)

pub reduce_in-requires-clause-room : goal.reduce_in-requires-clause-room
reduce_in-requires-clause-room c =
    let is = (c.requires.line c.if-line.true).parts in
    omega (arith, line_length c.args.step c.args.history.now c.args.samples.now c.args.line.now.whole.now c.args.line.now.high.now c.args.line.now.low.now is, c.requires.room)

pub reduce_in-requires-clause-small : goal.reduce_in-requires-clause-small
reduce_in-requires-clause-small c = (c.requires.line c.if-line.true).parts.words

pub reduce_in-requires-clause-high_parts : goal.reduce_in-requires-clause-high_parts
reduce_in-requires-clause-high_parts c = (c.requires.line c.if-line.true).parts.high_parts

pub reduce_in-requires-clause-low_parts : goal.reduce_in-requires-clause-low_parts
reduce_in-requires-clause-low_parts c = (c.requires.line c.if-line.true).parts.low_parts

pub reduce_recursive-requires-clause-room : goal.reduce_recursive-requires-clause-room
reduce_recursive-requires-clause-room c =
    let is = (c.requires.line c.if-line.true).parts in
    omega (arith, line_length c.args.step c.args.history.now c.args.samples.now c.args.line.now.whole.now c.args.line.now.high.now c.args.line.now.low.now is, c.requires.room)

pub reduce_recursive-requires-clause-words : goal.reduce_recursive-requires-clause-words
reduce_recursive-requires-clause-words c = (c.requires.line c.if-line.true).parts.words

pub reduce_recursive-requires-clause-small : goal.reduce_recursive-requires-clause-small
reduce_recursive-requires-clause-small c = (c.requires.line c.if-line.true).parts.small

pub reduce_in-requires-clause-near : goal.reduce_in-requires-clause-near
reduce_in-requires-clause-near c = (c.requires.line c.if-line.true).near
