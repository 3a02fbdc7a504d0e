use Rattle.std.proofs.Common.{subst, ap, arith}
use Rattle.std.specs.Option.{option_copied}
use Rattle.mlp_unit.specs.Written.{FirstUsable}
use Rattle.mlp_unit.proofs.Rates.{rate_small}
use Rattle.mlp_unit.proofs.stream.stream_rate.Goals as goal

pub returns-in-Some-clause-most : goal.returns-in-Some-clause-most
returns-in-Some-clause-most c =
    let usable = subst FirstUsable (ap option_copied c.in-Some.is) c.requires in
    omega (arith, c.sample_rate.ensures, rate_small c.in-Some.sync.now usable)
