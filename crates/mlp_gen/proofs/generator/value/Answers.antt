use Rattle.std.proofs.Common.{◌∙◌, ◌+ℤ◌, ◌*ℤ◌, ℤ, pos, ap, arith}
use Rattle.std.proofs.lemmas.Int.{ints}
use Rattle.mlp_gen.specs.Generator.{triangle}
use Rattle.mlp_gen.proofs.Samples.{value_by}
use Rattle.mlp_gen.proofs.generator.value.Goals as goal

pub returns-clause-value : goal.returns-clause-value
returns-clause-value c =
    value_by c.triangle.result c.noise.result c.triangle.ensures.least c.triangle.ensures.most c.noise.ensures.least c.noise.ensures.most
    ∙ ap (λ (t : ℤ). t *ℤ pos 4096 +ℤ c.noise.result *ℤ pos 16) c.triangle.ensures.value
    ∙ ap (λ (n : ℤ). triangle c.args.frame c.args.channel *ℤ pos 4096 +ℤ n *ℤ pos 16) c.noise.ensures.value

pub returns-clause-least : goal.returns-clause-least
returns-clause-least c = omega (arith, ints, c.triangle.ensures.least, c.noise.ensures.least)

pub returns-clause-most : goal.returns-clause-most
returns-clause-most c = omega (arith, ints, c.triangle.ensures.most, c.noise.ensures.most)
