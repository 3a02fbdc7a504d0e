use Rattle.std.proofs.Common.{◌≡◌, ◌∙◌, arith}
use Rattle.std.proofs.lemmas.Result.{err_from_is_err_and}
use Rattle.std.proofs.lemmas.List.{length_push}
use Rattle.std.proofs.lemmas.Int.{to_z-of_z}
use mir.Val.{to_z, of_z}
use mir.Syntax.{w32}
use Rattle.mlp_layout.proofs.SignedLaws.{fits_32}
use Rattle.mlp_layout.specs.Combined.{signed_of}
use Rattle.mlp_layout.proofs.Repeated.{goes_on, stops, is_done}
use Rattle.mlp_params.proofs.filters.read_values.Goals as goal

pub returns-in_err-value : goal.returns-in_err-value
returns-in_err-value g c =
    let i = c.loop.invariant in
    let p = err_from_is_err_and c.from_residual.result c.from_residual.ensures.1 in
    rw (p.1, p.2) (stops (signed_of c.args.width) c.loop.values.items c.args.count c.loop.counter c.loop.r.all c.loop.r.place c.in_err-value.field-0.0 _ c.loop-test.true c.in_err-value.ensures.read i.so_far)

pub loop-preserved : goal.loop-preserved
loop-preserved g c =
    let i = c.loop.invariant in
    let read = c.in_ok-value.ensures.read in
    let on = goes_on (signed_of c.args.width) c.loop.values.items c.args.count c.loop.counter c.loop.r.all c.loop.r.place c.read_signed.new.r.place c.in_ok-value.value _ c.loop-test.true read.0 i.so_far in
    let same : to_z w32 (of_z w32 c.in_ok-value.value) ≡ c.in_ok-value.value = to_z-of_z w32 c.in_ok-value.value (fits_32 c.args.width c.in_ok-value.value (omega arith) c.in_ok-value.ensures.bound) in
    let pushed = rw same at c.push.ensures.items in
    record { moved = omega (arith, i.moved, read.2); so_far = rw (pushed, read.1) on; same_bits = read.1 ∙ i.same_bits; count = rw pushed (omega (arith, length_push c.loop.values.items c.in_ok-value.value, i.count)) }

pub returns : goal.returns
returns g c =
    let i = c.loop.invariant in
    (is_done (signed_of c.args.width) c.loop.values.items c.args.count c.loop.counter c.loop.r.all c.loop.r.place _ c.loop-test.false i.so_far, i.same_bits, i.moved)
