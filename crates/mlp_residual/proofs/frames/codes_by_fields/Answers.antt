use Rattle.std.proofs.Common.{◌≡◌, ◌≤◌, ◌<◌, length, take, ◌∙◌, arith, []}
use Rattle.std.proofs.lemmas.Result.{err_from_is_err_and}
use Rattle.std.proofs.lemmas.List.{length-take-le, take_more_set, take_all}
use Rattle.mlp_layout.specs.Combined.{series}
use Rattle.mlp_layout.proofs.Loops.{series_goes_on, series_stops, series_is_done}
use Rattle.mlp_residual.specs.Frames.{code_at}
use Rattle.mlp_residual.proofs.frames.codes_by_fields.Goals as goal

pub returns-in_err-codes : goal.returns-in_err-codes
returns-in_err-codes c =
    let i = c.loop-i.invariant in
    let cs = c.args.channels.now in
    let p = err_from_is_err_and c.from_residual.result c.from_residual.ensures.1 in
    let le : c.loop-i.i ≤ length c.loop-i.codes = omega arith in
    let count : length (take c.loop-i.i c.loop-i.codes) ≡ c.loop-i.i = length-take-le c.loop-i.i c.loop-i.codes le in
    rw (p.1, p.2) (series_stops (code_at cs) (take c.loop-i.i c.loop-i.codes) (length cs) c.loop-i.i c.loop-i.r.all c.loop-i.r.place c.in_err-codes.field-0.0 _ c.loop-i-test.true (rw count c.in_err-codes.ensures) i.so_far)

pub loop-i-preserved : goal.loop-i-preserved
loop-i-preserved c =
    let i = c.loop-i.invariant in
    let cs = c.args.channels.now in
    let read = c.in_ok-codes.ensures in
    let le : c.loop-i.i ≤ length c.loop-i.codes = omega arith in
    let lt : c.loop-i.i < length c.loop-i.codes = omega arith in
    let count : length (take c.loop-i.i c.loop-i.codes) ≡ c.loop-i.i = length-take-le c.loop-i.i c.loop-i.codes le in
    let on = series_goes_on (code_at cs) (take c.loop-i.i c.loop-i.codes) (length cs) c.loop-i.i c.loop-i.r.all c.loop-i.r.place c.read_code.new.r.place c.in_ok-codes.field-0
    ((series (code_at cs) (length cs) []).read c.args.r.now.all c.args.r.now.place) c.loop-i-test.true (rw count read.0) i.so_far in
    record { moved = omega (arith, i.moved, read.2); so_far = rw (take_more_set c.loop-i.codes c.loop-i.i c.in_ok-codes.field-0 lt, read.1) on; same_bits = read.1 ∙ i.same_bits }

pub returns : goal.returns
returns c =
    let i = c.loop-i.invariant in
    let cs = c.args.channels.now in
    let le : length c.loop-i.codes ≤ c.loop-i.i = omega arith in
    let done = series_is_done (code_at cs) (take c.loop-i.i c.loop-i.codes) (length cs) c.loop-i.i c.loop-i.r.all c.loop-i.r.place ((series (code_at cs) (length cs) []).read c.args.r.now.all c.args.r.now.place)
    c.loop-i-test.false i.so_far in
    ((rw (take_all c.loop-i.i c.loop-i.codes le) at done), i.same_bits, i.moved)
