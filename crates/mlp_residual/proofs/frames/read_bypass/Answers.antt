use Rattle.std.proofs.Common.{◌≡◌, ◌+◌, [], ◌∷◌, ◌++◌, length, ◌∙◌, arith, add-one}
use Rattle.std.proofs.lemmas.Result.{err_from_is_err_and}
use Rattle.mlp_layout.specs.Layout.{seen}
use Rattle.mlp_layout.specs.Combined.{series}
use Rattle.mlp_layout.proofs.Loops.{series_goes_on, series_stops, series_is_done}
use Rattle.mlp_residual.specs.Frames.{bypass_bit, bypass_bits, unpacked}
use Rattle.mlp_residual.proofs.FrameLaws.{starts, unpacked-more, packed-unpacked, length-unpacked}
use Rattle.mlp_residual.proofs.frames.read_bypass.Goals as goal

pub loop-i-init : goal.loop-i-init
unfolding unpacked
loop-i-init c = record { moved = omega arith; so_far = starts (bypass_bit c.args.rows.now) (length c.args.rows.now) c.args.r.now.all c.args.r.now.place; same_bits = cc; small = omega arith }

pub returns-in_err-bit : goal.returns-in_err-bit
unfolding bypass_bits seen
returns-in_err-bit c =
    let i = c.loop-i.invariant in
    let rows = c.args.rows.now in
    let p = err_from_is_err_and c.from_residual.result c.from_residual.ensures.1 in
    let none = series_stops (bypass_bit rows) (unpacked c.loop-i.i c.loop-i.bypass) (length rows) c.loop-i.i c.loop-i.r.all c.loop-i.r.place c.in_err-bit.field-0.0 _ c.loop-i-test.true
    (rw (length-unpacked c.loop-i.i c.loop-i.bypass) c.in_err-bit.ensures) i.so_far in
    rw (p.1, p.2, none) cc

pub loop-i-preserved : goal.loop-i-preserved
loop-i-preserved c =
    let i = c.loop-i.invariant in
    let rows = c.args.rows.now in
    let read = c.in_ok-bit.ensures in
    let front = unpacked c.loop-i.i c.loop-i.bypass in
    let on = series_goes_on (bypass_bit rows) front (length rows) c.loop-i.i c.loop-i.r.all c.loop-i.r.place c.bit_if.new.r.place c.in_ok-bit.bit
    ((series (bypass_bit rows) (length rows) []).read c.args.r.now.all c.args.r.now.place) c.loop-i-test.true (rw (length-unpacked c.loop-i.i c.loop-i.bypass) read.0) i.so_far in
    let more : unpacked (c.loop-i.i + 1) c.with_bit-bypass.result ≡ front ++ c.in_ok-bit.bit ∷ [] = rw (c.with_bit-bypass.ensures.value, add-one) (unpacked-more c.loop-i.i c.loop-i.bypass c.in_ok-bit.bit i.small) in
    record { moved = omega (arith, i.moved, read.2); so_far = rw (more, read.1) on; same_bits = read.1 ∙ i.same_bits; small = c.with_bit-bypass.ensures.small }

pub returns : goal.returns
unfolding bypass_bits seen
returns c =
    let i = c.loop-i.invariant in
    let rows = c.args.rows.now in
    let done = series_is_done (bypass_bit rows) (unpacked c.loop-i.i c.loop-i.bypass) (length rows) c.loop-i.i c.loop-i.r.all c.loop-i.r.place _ c.loop-i-test.false i.so_far in
    (rw (done, packed-unpacked c.loop-i.i c.loop-i.bypass i.small) cc, i.same_bits, i.moved)
