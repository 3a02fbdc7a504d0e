use Rattle.std.proofs.Common.{◌≡◌, ℤ, map, to_z, of_z, w16, subst}
use Rattle.std.proofs.lemmas.Int.{to_z-of_z}
use Rattle.mlp_residual.specs.Coding.{Counts}
use Rattle.mlp_residual.proofs.WidthLaws.{stepped}
use Rattle.mlp_residual.proofs.widths.bits_of_whole.Goals as goal

pub returns-then-whole-clause-whole : goal.returns-then-whole-clause-whole
returns-then-whole-clause-whole c w step =
    let o : ℤ = c.args.offset in
    let e : to_z w16 (of_z w16 o) ≡ o = to_z-of_z w16 o c.ranges.offset in
    subst (λ (z : ℤ). Counts c.args.book c.args.b z step (map (stepped step) c.args.values.now) c.bits_of_values.result) e (c.bits_of_values.ensures step)
