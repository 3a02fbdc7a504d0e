use Rattle.std.proofs.Common.{Option, sym, subst}
use Rattle.std.specs.Prelude.{IfSome}
use Rattle.mlp_syntax.specs.declared.major.MajorSync.{MajorSync}
use Rattle.mlp_major.specs.MajorSync.{IsUsable}
use Rattle.mlp_fifo.specs.Pace.{IsRate}
use Rattle.mlp_check.proofs.Rates.{rate_is}
use Rattle.mlp_check.proofs.check.begin.Goals as goal

pub reset-requires : goal.reset-requires
reset-requires c =
    let usable : IsUsable c.in-Some.major = subst (λ (o : Option MajorSync). IfSome o IsUsable) c.in-Some.is c.requires in
    subst IsRate (sym c.sample_rate.ensures) (rate_is c.in-Some.major usable.rate)
