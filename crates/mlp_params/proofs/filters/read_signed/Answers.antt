use Rattle.std.proofs.Common.{◌≡◌, ◌<◌, ◌^◌, arith}
use Rattle.std.proofs.lemmas.Int.{to_z-of_z}
use mir.Val.{to_z, of_z}
use mir.Syntax.{w32}
use Rattle.mlp_layout.proofs.SignedLaws.{fits_32, signed_fits}
use Rattle.mlp_bits.specs.Signed.{HasBits}
use Rattle.mlp_params.proofs.filters.read_signed.Goals as goal

pub returns-clause-bound : goal.returns-clause-bound
returns-clause-bound c =
    let below : c.in_ok-n.n < 2 ^ c.args.width = rw (← c.from.ensures) c.in_ok-n.ensures.bound in
    let fits : HasBits c.args.width c.value_of.result = rw c.value_of.ensures (signed_fits c.args.width c.in_ok-n.n below) in
    let same : to_z w32 (of_z w32 c.value_of.result) ≡ c.value_of.result = to_z-of_z w32 c.value_of.result (fits_32 c.args.width c.value_of.result (omega arith) fits) in
    rw same fits
