use Rattle.mlp_predict.proofs.predictor.Predictor.reduce_block.Goals as goal

pub returns-then-not-reduce_through-clause-fit : goal.returns-then-not-reduce_through-clause-fit
returns-then-not-reduce_through-clause-fit g c = rw c.copied-channel.ensures at c.if-not-reduce_through.ensures.fit
