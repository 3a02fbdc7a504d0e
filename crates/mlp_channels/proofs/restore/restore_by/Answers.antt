use Rattle.std.proofs.Common.{◌∙◌, ap, sym, false, List, ℤ, map, arith}
use Rattle.std.proofs.lemmas.List.{length-map}
use Rattle.mlp_predict.specs.Prediction.{Past, Filters, outputs_of, past_of, latest, with_state}
use Rattle.mlp_predict.specs.Filters.{filters_of}
use Rattle.mlp_predict.proofs.FrameLists.{state_outputs, state_past}
use Rattle.mlp_predict.proofs.Scaling.{length-scaled}
use Rattle.mlp_residual.specs.Block.{residual_in}
use Rattle.mlp_channels.specs.Channels.{state_given}
use Rattle.mlp_channels.proofs.GivenRanges.{order_most}
use Rattle.mlp_channels.proofs.restore.restore_by.Goals as goal

pub returns-clause-outputs : goal.returns-clause-outputs
returns-clause-outputs c =
    let k = c.args.coded.now in
    let f : Filters = filters_of k.fir k.iir in
    let q = c.args.coding.now.step in
    let state = state_given c.args.given.now c.args.index in
    let rs : List ℤ = map (residual_in c.args.coding.now c.args.index) c.args.codes.now in
    c.restore_block.ensures.outputs
    ∙ ap (λ (p : Past). outputs_of f p q c.residuals.new.out) c.put_given.ensures
    ∙ ap (outputs_of f (with_state state c.args.past.now) q) c.residuals.ensures
    ∙ sym (state_outputs 8 4 f c.args.past.now q state rs
    (omega (arith, length-scaled k.fir.coeff_shift k.fir.coeffs.items, order_most 8 false k.fir c.requires.lawful.fir))
    (omega (arith, length-scaled k.iir.coeff_shift k.iir.coeffs.items, order_most 4 false k.iir c.requires.lawful.iir)))

pub returns-clause-past : goal.returns-clause-past
returns-clause-past c =
    let k = c.args.coded.now in
    let f : Filters = filters_of k.fir k.iir in
    let q = c.args.coding.now.step in
    let state = state_given c.args.given.now c.args.index in
    let rs : List ℤ = map (residual_in c.args.coding.now c.args.index) c.args.codes.now in
    let outputs = c.restore_block.ensures.outputs ∙ ap (λ (p : Past). outputs_of f p q c.residuals.new.out) c.put_given.ensures ∙ ap (outputs_of f (with_state state c.args.past.now) q) c.residuals.ensures in
    c.restore_block.ensures.past
    ∙ ap (λ (xs : List ℤ). latest 8 4 (past_of f c.put_given.new.past xs)) outputs
    ∙ ap (λ (p : Past). latest 8 4 (past_of f p (outputs_of f (with_state state c.args.past.now) q rs))) c.put_given.ensures
    ∙ sym (state_past 8 4 f c.args.past.now q state rs
    (omega (arith, length-scaled k.fir.coeff_shift k.fir.coeffs.items, order_most 8 false k.fir c.requires.lawful.fir))
    (omega (arith, length-scaled k.iir.coeff_shift k.iir.coeffs.items, order_most 4 false k.iir c.requires.lawful.iir))
    (omega (arith, length-map c.args.codes.now (residual_in c.args.coding.now c.args.index), c.requires.some)))
