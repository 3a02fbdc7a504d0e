use Rattle.std.proofs.Common.{◌+◌, ◌*◌, ◌/◌, refl}
use Rattle.std.specs.Int.RustNames.{bit_and}
use Rattle.mlp_search.proofs.FoldLaws.{same_at}
use Rattle.mlp_search.proofs.sums.parts.Goals as goal

pub returns : goal.returns
returns c = same_at (λ p. bit_and (p * 2099201) 25194511) (λ p. p + 4096 * (p / 2) + 8388608 * (p / 4)) 16 refl c.args.p c.requires
