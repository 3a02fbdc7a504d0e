use Rattle.std.proofs.Common.{ℕ, ◌+◌, ℤ, Option, to_z, of_z, w16, ◌∙◌}
use Rattle.std.proofs.lemmas.List.{length-set}
use Rattle.mlp_residual.specs.Coding.{Counts}
use Rattle.mlp_residual.proofs.WidthLaws.{width_counts, filled_more}
use Rattle.mlp_residual.proofs.widths.bits_of_widths.Goals as goal

pub loop-i-preserved : goal.loop-i-preserved
loop-i-preserved c =
    let z : ℤ = to_z w16 (of_z w16 c.args.offset) in
    let i = c.loop-i.i in
    let rs = c.args.residuals.now in
    let whole = c.whole_values-whole.result in
    let here = width_counts whole c.args.book (c.args.least + i) c.args.step z rs c.whole_values-whole.new.values.items c.bits_of_whole.result c.whole_values-whole.ensures.all
    (λ f n t. c.whole_values-whole.ensures.some f c.args.book (c.args.least + i) n z t) (λ w. rw c.deref.ensures.0 at (c.bits_of_whole.ensures.whole w c.args.step)) c.bits_of_whole.ensures.not_whole in
    record {
      same = length-set c.loop-i.out i c.bits_of_whole.result ∙ c.loop-i.invariant.same;
      counts = filled_more (λ (j : ℕ) (o : Option ℕ). Counts c.args.book (c.args.least + j) z c.args.step rs o) c.loop-i.out i c.bits_of_whole.result (rw c.loop-i.invariant.same c.loop-i-test.true) c.loop-i.invariant.counts here;
    }
