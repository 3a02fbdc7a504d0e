use Rattle.std.proofs.Common.{arith, take}
use Rattle.std.proofs.lemmas.Grind.{common_steps}
use Rattle.std.proofs.lemmas.List.Elements.{All-take}
use Rattle.mlp_arith.specs.Ranges.{Is26}
use Rattle.mlp_levinson.proofs.Padded.{zeros_after, padded26}
use Rattle.mlp_levinson.proofs.lags.padded.Goals as goal

pub loop-i-preserved : goal.loop-i-preserved
loop-i-preserved c = grind (arith, common_steps, zeros_after c.loop-i.line c.loop-i.i)

pub returns-clause-small : goal.returns-clause-small
returns-clause-small c =
    let i = c.loop-i.i in
    let samples = c.args.samples.now in
    padded26 c.loop-i.line c.args.step i (take i samples) c.loop-i.invariant.so_far c.loop-i.invariant.rest (All-take Is26 i samples c.requires.samples)
