use Rattle.std.proofs.Common.{◌≡◌, ℕ, ◌∙◌, ap, refl, arith}
use Rattle.mlp_syntax.specs.declared.major.Kind.{Kind}
use Rattle.mlp_fifo.specs.declared.pace.Pace.{Pace}
use Rattle.mlp_fifo.specs.Pace.{pace_of, unit_of}
use Rattle.mlp_fifo.proofs.Paces.{unit_most}
use Rattle.mlp_encode.proofs.SyncAllowed.{passes, rate_there}
use Rattle.mlp_gen.proofs.making.unit_frames.Goals as goal

unit_is : (kind : Kind) (rate : ℕ) → (pace_of kind rate).unit ≡ unit_of rate
unfolding pace_of
unit_is kind rate = refl

pub of-requires : goal.of-requires
of-requires c = rate_there c.args.profile.now.rate c.args.profile.now.channels (passes c.args.profile.now c.requires).rate

pub returns-clause-is : goal.returns-clause-is
returns-clause-is c = ap (λ (x : Pace). x.unit) c.of.ensures ∙ unit_is c.args.profile.now.kind c.args.profile.now.rate

pub returns-clause-most : goal.returns-clause-most
returns-clause-most c =
    let p = c.args.profile.now in
    omega (arith, ap (λ (x : Pace). x.unit) c.of.ensures, unit_is p.kind p.rate, unit_most p.rate)
