use Rattle.std.proofs.Common.{◌∙◌, FitsSigned, w32, w64, to_z, of_z, sym, ap, subst}
use Rattle.std.proofs.lemmas.Int.{to_z-of_z}
use Rattle.mlp_arith.specs.Words.{clear}
use Rattle.mlp_gen.proofs.Samples.{clear_fits}
use Rattle.mlp_gen.proofs.generator.sample.Goals as goal

pub overflow_cast-result : goal.overflow_cast-result
overflow_cast-result c =
    let same = to_z-of_z w64 c.clear.result (record { sfits = c.clear.type_inv }) ∙ c.clear.ensures ∙ ap (clear c.args.low) (to_z-of_z w64 c.value.result (record { sfits = c.value.type_inv })) in
    subst (FitsSigned w32) (sym same) (clear_fits c.args.low c.value.result c.requires.low c.value.ensures.least c.value.ensures.most)

pub returns : goal.returns
returns c =
    let same = to_z-of_z w64 c.clear.result (record { sfits = c.clear.type_inv }) ∙ c.clear.ensures ∙ ap (clear c.args.low) (to_z-of_z w64 c.value.result (record { sfits = c.value.type_inv })) in
    ap (λ z. to_z w32 (of_z w32 z)) same
    ∙ to_z-of_z w32 (clear c.args.low c.value.result) (clear_fits c.args.low c.value.result c.requires.low c.value.ensures.least c.value.ensures.most)
    ∙ ap (clear c.args.low) c.value.ensures.value
