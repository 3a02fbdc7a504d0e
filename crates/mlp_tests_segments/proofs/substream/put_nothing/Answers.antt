use Rattle.mlp_tests_segments.proofs.substream.put_nothing.Goals as goal

pub put_head-requires-clause-head : goal.put_head-requires-clause-head
put_head-requires-clause-head c = record { restart = tt; params = tt }
