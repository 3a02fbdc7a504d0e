use Rattle.mlp_contents.proofs.give.give.Goals as goal

pub returns-in-Some-clause-given : goal.returns-in-Some-clause-given
returns-in-Some-clause-given c = λ channels have. rw c.in-Some.is (c.give_by.ensures.given channels (rw c.in-Some.is at have))
