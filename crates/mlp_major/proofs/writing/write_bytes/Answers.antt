use Rattle.std.proofs.Common.{◌+◌, ◌++◌, ℕ, List, Bool, drop, get_or, subst, ap, sym, ◌∙◌, arith}
use Rattle.std.proofs.lemmas.Result.{err_from_is_err_and}
use Rattle.std.proofs.lemmas.List.{at_drop_more, drop_all}
use Rattle.mlp_bits.specs.Bits.{bits, bits_of}
use Rattle.mlp_bits.proofs.BitLists.{bits_of-cons}
use Rattle.mlp_layout.specs.Layout.{number_of}
use Rattle.mlp_layout.proofs.WritingLaws.{SoFar, so_far_begins, so_far_goes_on, so_far_stops, so_far_ends}
use Rattle.mlp_major.proofs.writing.write_bytes.Goals as goal

pub loop-byte-init : goal.loop-byte-init
loop-byte-init c = so_far_begins c.args.w.now (bits_of c.args.bytes.now) c.place-place.ensures.small

pub returns-in_err-put_number : goal.returns-in_err-put_number
unfolding number_of
returns-in_err-put_number c =
    let p = err_from_is_err_and c.from_residual.result c.from_residual.ensures.1 in
    let bs = c.args.bytes.now in
    let i = c.loop-byte.byte-index in
    let more = at_drop_more bits_of bs i 0 c.loop-byte-test.true ∙ bits_of-cons (get_or bs i 0) (drop (i + 1) bs) ∙ ap (λ (b : ℕ). bits 8 b ++ bits_of (drop (i + 1) bs)) (sym c.from.ensures) in
    let so_far = subst (λ (t : List Bool). SoFar c.args.w.now c.loop-byte.w t (bits_of bs)) more c.loop-byte.invariant in
    rw p.1 (record { ok = tt; err = so_far_stops c.args.w.now c.loop-byte.w c.put_number.new.w (bits 8 c.from.result) (bits_of (drop (i + 1) bs)) (bits_of bs) so_far c.in_err-put_number.ensures.err })

pub loop-byte-preserved : goal.loop-byte-preserved
unfolding number_of
loop-byte-preserved c =
    let bs = c.args.bytes.now in
    let i = c.loop-byte.byte-index in
    let more = at_drop_more bits_of bs i 0 c.loop-byte-test.true ∙ bits_of-cons (get_or bs i 0) (drop (i + 1) bs) ∙ ap (λ (b : ℕ). bits 8 b ++ bits_of (drop (i + 1) bs)) (sym c.from.ensures) in
    let so_far = subst (λ (t : List Bool). SoFar c.args.w.now c.loop-byte.w t (bits_of bs)) more c.loop-byte.invariant in
    so_far_goes_on c.args.w.now c.loop-byte.w c.put_number.new.w (bits 8 c.from.result) (bits_of (drop (i + 1) bs)) (bits_of bs) so_far c.in_ok-put_number.ensures.ok

pub returns : goal.returns
unfolding bits_of
returns c =
    let bs = c.args.bytes.now in
    let none = ap bits_of (drop_all c.loop-byte.byte-index bs (omega arith)) in
    record { ok = so_far_ends c.args.w.now c.loop-byte.w (bits_of bs) (subst (λ (t : List Bool). SoFar c.args.w.now c.loop-byte.w t (bits_of bs)) none c.loop-byte.invariant); err = tt }
