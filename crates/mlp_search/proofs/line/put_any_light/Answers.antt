use Rattle.mlp_search.proofs.LineLaws.{short_light}
use Rattle.mlp_search.proofs.line.put_any_light.Goals as goal

pub put_short-requires-in-1-clause-short : goal.put_short-requires-in-1-clause-short
put_short-requires-in-1-clause-short c = short_light c.args.coeffs.now c.args.whole.now c.requires.light c.requires.small c.requires.few

pub put_short-requires-in-2-clause-short : goal.put_short-requires-in-2-clause-short
put_short-requires-in-2-clause-short c = short_light c.args.coeffs.now c.args.whole.now c.requires.light c.requires.small c.requires.few

pub put_short-requires-in-3-clause-short : goal.put_short-requires-in-3-clause-short
put_short-requires-in-3-clause-short c = short_light c.args.coeffs.now c.args.whole.now c.requires.light c.requires.small c.requires.few

pub put_short-requires-in_default-clause-short : goal.put_short-requires-in_default-clause-short
put_short-requires-in_default-clause-short c = short_light c.args.coeffs.now c.args.whole.now c.requires.light c.requires.small c.requires.few
