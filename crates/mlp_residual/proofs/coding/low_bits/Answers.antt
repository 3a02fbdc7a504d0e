use Rattle.std.proofs.lemmas.Nat.{and_mask}
use Rattle.mlp_residual.proofs.coding.low_bits.Goals as goal

pub returns : goal.returns
returns c = rw c.power.ensures.value (and_mask c.args.n c.args.b)
