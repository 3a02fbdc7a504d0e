use Rattle.std.proofs.Common.{◌+◌, List, Bool, drop, get_or, subst, ap, arith}
use Rattle.std.specs.List.{flat_map, AllByRecursion}
use Rattle.std.proofs.lemmas.Result.{err_from_is_err_and}
use Rattle.std.proofs.lemmas.List.{at_drop_more, drop_more, drop_all}
use Rattle.mlp_layout.specs.Layout.{number_of}
use Rattle.mlp_layout.specs.Writing.{FieldFits, field_bits}
use Rattle.mlp_layout.proofs.WritingLaws.{SoFar, so_far_begins, so_far_goes_on, so_far_stops, so_far_ends}
use Rattle.mlp_layout.proofs.writing.put_all.Goals as goal

pub loop-field-init : goal.loop-field-init
loop-field-init c = (so_far_begins c.args.w.now (flat_map field_bits c.args.fields.now) c.place-place.ensures.small, c.requires)

pub returns-in_err-put_number : goal.returns-in_err-put_number
unfolding number_of
returns-in_err-put_number c =
    let p = err_from_is_err_and c.from_residual.result c.from_residual.ensures.1 in
    let fs = c.args.fields.now in
    let i = c.loop-field.field-index in
    let more = at_drop_more (flat_map field_bits) fs i (0, 0) c.loop-field-test.true in
    let so_far = subst (λ (t : List Bool). SoFar c.args.w.now c.loop-field.w t (flat_map field_bits fs)) more c.loop-field.invariant.0 in
    rw p.1 (record { ok = tt; err = so_far_stops c.args.w.now c.loop-field.w c.put_number.new.w (field_bits (get_or fs i (0, 0))) (flat_map field_bits (drop (i + 1) fs)) (flat_map field_bits fs) so_far c.in_err-put_number.ensures.err })

pub loop-field-preserved : goal.loop-field-preserved
unfolding number_of
loop-field-preserved c =
    let fs = c.args.fields.now in
    let i = c.loop-field.field-index in
    let more = at_drop_more (flat_map field_bits) fs i (0, 0) c.loop-field-test.true in
    let so_far = subst (λ (t : List Bool). SoFar c.args.w.now c.loop-field.w t (flat_map field_bits fs)) more c.loop-field.invariant.0 in
    let fit = subst (AllByRecursion FieldFits) (drop_more fs i (0, 0) c.loop-field-test.true) c.loop-field.invariant.1 in
    (so_far_goes_on c.args.w.now c.loop-field.w c.put_number.new.w (field_bits (get_or fs i (0, 0))) (flat_map field_bits (drop (i + 1) fs)) (flat_map field_bits fs) so_far c.in_ok-put_number.ensures.ok, fit.1)

pub returns : goal.returns
returns c =
    let fs = c.args.fields.now in
    let none = ap (flat_map field_bits) (drop_all c.loop-field.field-index fs (omega arith)) in
    record { ok = so_far_ends c.args.w.now c.loop-field.w (flat_map field_bits fs) (subst (λ (t : List Bool). SoFar c.args.w.now c.loop-field.w t (flat_map field_bits fs)) none c.loop-field.invariant.0); err = tt }
