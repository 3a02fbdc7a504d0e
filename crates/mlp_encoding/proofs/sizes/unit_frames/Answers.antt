use Rattle.std.proofs.Common.{◌≡◌, ap, arith}
use Rattle.mlp_fifo.specs.declared.pace.Pace.{Pace}
use Rattle.mlp_fifo.specs.Pace.{unit_of, pace_of}
use Rattle.mlp_fifo.proofs.Paces.{unit_most}
use Rattle.mlp_encoding.proofs.sizes.unit_frames.Goals as goal

pub returns-clause-most : goal.returns-clause-most
unfolding pace_of
returns-clause-most c =
    let e : c.of.result.unit ≡ unit_of c.args.profile.now.rate = ap (λ (p : Pace). p.unit) c.of.ensures in
    omega (arith, e, unit_most c.args.profile.now.rate)
