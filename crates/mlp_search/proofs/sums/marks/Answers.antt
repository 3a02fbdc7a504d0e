use Rattle.std.proofs.Common.{◌+◌, ◌-◌, ◌*◌, ◌/◌, refl}
use Rattle.std.specs.Prelude.{nat_lt, if◌then◌else◌}
use Rattle.std.specs.Int.RustNames.{bit_and}
use Rattle.mlp_search.proofs.FoldLaws.{same_at}
use Rattle.mlp_search.proofs.sums.marks.Goals as goal

pub returns : goal.returns
returns c =
    same_at (λ p. bit_and ((387125520 - p * 16843009) / 16) 16843009)
    (λ p. (if nat_lt p 1 then 1 else 0) + 256 * (if nat_lt p 2 then 1 else 0) + 65536 * (if nat_lt p 4 then 1 else 0) + 16777216 * (if nat_lt p 8 then 1 else 0)) 16 refl c.args.p c.requires
