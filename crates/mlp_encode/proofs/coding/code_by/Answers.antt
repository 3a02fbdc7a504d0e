use Rattle.std.proofs.Common.{◌∙◌, ap, ℤ, Option, to_z, of_z, w16, w32}
use Rattle.std.specs.Prelude.{unwrap_or}
use Rattle.std.proofs.lemmas.Int.{to_z-of_z}
use Rattle.mlp_syntax.specs.declared.segment.Code.{Code}
use Rattle.mlp_encode.specs.Coding.{code_by}
use Rattle.mlp_encode.proofs.CodingLaws.{code_same}
use Rattle.mlp_encode.proofs.coding.code_by.Goals as goal

pub returns : goal.returns
returns c =
    let offset : ℤ = to_z w16 (of_z w16 c.args.offset) in
    let residual : ℤ = to_z w32 (of_z w32 c.args.residual) in
    let same = code_same c.args.book c.args.b offset c.args.step residual c.code_of.result c.code_of.ensures.some c.code_of.ensures.none in
    c.unwrap_or.ensures
    ∙ ap (λ (o : Option Code). unwrap_or o (record { symbol = 0; low = 0 })) same
    ∙ ap (λ (z : ℤ). code_by c.args.book c.args.b z c.args.step residual) (to_z-of_z w16 c.args.offset c.ranges.offset)
    ∙ ap (λ (z : ℤ). code_by c.args.book c.args.b c.args.offset c.args.step z) (to_z-of_z w32 c.args.residual c.ranges.residual)
