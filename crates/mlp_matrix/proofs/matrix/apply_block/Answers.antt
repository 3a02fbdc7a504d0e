use Rattle.std.proofs.Common.{ℕ, ◌≤◌, length, get_or, ap, ◌∙◌, sym, arith}
use Rattle.std.proofs.lemmas.List.{drop_all}
use Rattle.mlp_matrix.specs.Matrix.{weights, weighted_each, applied_each_from}
use Rattle.mlp_matrix.proofs.Rows.{each_row_step, each_done}
use Rattle.mlp_matrix.proofs.matrix.apply_block.Goals as goal

pub loop-i-preserved : goal.loop-i-preserved
loop-i-preserved c =
    let row = c.index-rows-i.result in
    each_row_step c.args.rows.now c.args.steps.now c.args.bypass.now c.loop-i.i row c.loop-i.frames c.put_row_each.new.frames _ c.loop-i-test.true c.index-rows-i.is
    (c.put_row_each.ensures ∙ ap (λ (d : ℕ). weighted_each (weights row) row.dest (get_or c.args.steps.now d 0) c.loop-i.i c.args.bypass.now c.loop-i.frames) c.from.ensures)
    c.loop-i.invariant

pub returns : goal.returns
returns c =
    let done : length c.args.rows.now ≤ c.loop-i.i = omega arith in
    sym (each_done c.loop-i.i c.args.steps.now c.args.bypass.now c.loop-i.frames)
    ∙ ap (λ rs. applied_each_from c.loop-i.i rs c.args.steps.now c.args.bypass.now c.loop-i.frames) (sym (drop_all c.loop-i.i c.args.rows.now done))
    ∙ c.loop-i.invariant
