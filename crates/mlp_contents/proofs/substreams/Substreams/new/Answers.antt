use Rattle.std.proofs.Common.{refl}
use Rattle.mlp_contents.proofs.TakenLaws.{starts_with}
use Rattle.mlp_contents.proofs.substreams.Substreams.new.Goals as goal

pub returns-clause-value : goal.returns-clause-value
returns-clause-value c = rw (starts_with c.args.k c.new.result c.new-2.result c.new-3.result c.requires c.new.ensures c.new-2.ensures c.new-3.ensures) refl
