use Rattle.std.proofs.Common.{◌≡◌, ◌≤◌, ◌+◌, ◌-◌, ◌++◌, length, take, drop, Ok, Err, ◌∙◌, arith, []}
use Rattle.std.proofs.lemmas.Result.{err_from_is_err_and}
use Rattle.std.proofs.lemmas.List.{length-take, length-drop, take_all}
use Rattle.mlp_layout.specs.Combined.{series}
use Rattle.mlp_layout.proofs.Loops.{SeriesContinues, series_is_done}
use Rattle.mlp_residual.specs.Frames.{frame, coded_frames}
use Rattle.mlp_residual.proofs.FrameLaws.{starts, series_appends, series_breaks, some_in_place}
use Rattle.mlp_residual.proofs.frames.read_over.Goals as goal

pub loop-done-init : goal.loop-done-init
loop-done-init c = record { within = omega arith; moved = omega arith; so_far = starts (λ _. frame c.args.coding.now) (length c.args.out.now) c.args.r.now.all c.args.r.now.place; same_bits = cc }

pub returns-in_err-done : goal.returns-in_err-done
unfolding coded_frames
returns-in_err-done c =
    let i = c.loop-done.invariant in
    let k = c.args.coding.now in
    let rest = take (length c.loop-done.out - c.loop-done.done) (drop c.loop-done.done c.loop-done.out) in
    let p = err_from_is_err_and c.from_residual.result c.from_residual.ensures.1 in
    let h : (series (λ _. frame k) (length rest) []).read c.loop-done.r.all c.loop-done.r.place ≡ Err c.in_err-done.field-0.0 = c.in_err-done.ensures.read in
    let count : length rest ≤ length c.args.out.now - c.loop-done.done = omega (arith, length-take (length c.loop-done.out - c.loop-done.done) (drop c.loop-done.done c.loop-done.out), length-drop c.loop-done.done c.loop-done.out) in
    rw (p.1, p.2) (series_breaks (frame k) (length rest) (length c.args.out.now - c.loop-done.done) (take c.loop-done.done c.loop-done.out) c.loop-done.r.all c.loop-done.r.place c.in_err-done.field-0.0 _ count h i.so_far)

pub loop-done-preserved : goal.loop-done-preserved
unfolding coded_frames
loop-done-preserved c =
    let i = c.loop-done.invariant in
    let k = c.args.coding.now in
    let done = c.loop-done.done in
    let n = c.in_ok-done.field-0 in
    let ys = c.read_some.new.out in
    let rest = take (length c.loop-done.out - done) (drop done c.loop-done.out) in
    let total = (series (λ _. frame k) (length c.args.out.now) []).read c.args.r.now.all c.args.r.now.place in
    let h : (series (λ _. frame k) n []).read c.loop-done.r.all c.loop-done.r.place ≡ Ok (take n ys, c.read_some.new.r.place) = c.in_ok-done.ensures.read in
    let some : n ≤ length rest = c.in_ok-done.ensures.some.1 in
    let same : length ys ≡ length rest = c.read_some.auto.out in
    let here : n ≤ length ys = omega arith in
    let in_front : done ≤ length c.loop-done.out = omega arith in
    let few : n ≤ length c.args.out.now - done = omega (arith, length-take (length c.loop-done.out - done) (drop done c.loop-done.out), length-drop done c.loop-done.out) in
    let on : SeriesContinues (λ _. frame k) (length c.args.out.now - done - n) (take done c.loop-done.out ++ take n ys) c.loop-done.r.all c.read_some.new.r.place total = series_appends (frame k) n
    (length c.args.out.now - done) (take done c.loop-done.out) (take n ys) c.loop-done.r.all c.loop-done.r.place c.read_some.new.r.place total few h i.so_far in
    let left : length c.args.out.now - done - n ≡ length c.args.out.now - (done + n) = omega arith in
    let moved = c.in_ok-done.ensures.moved in
    record { within = omega arith; moved = omega (arith, i.moved, moved.1); so_far = rw (some_in_place done (length c.loop-done.out - done) n c.loop-done.out ys in_front here, moved.0, ← left) on; same_bits = moved.0 ∙ i.same_bits }

pub returns : goal.returns
unfolding coded_frames
returns c =
    let i = c.loop-done.invariant in
    let k = c.args.coding.now in
    let le : length c.args.out.now ≤ c.loop-done.done = omega arith in
    let all : length c.loop-done.out ≤ c.loop-done.done = omega arith in
    let whole = series_is_done (λ _. frame k) (take c.loop-done.done c.loop-done.out) (length c.args.out.now) c.loop-done.done c.loop-done.r.all c.loop-done.r.place
    ((series (λ _. frame k) (length c.args.out.now) []).read c.args.r.now.all c.args.r.now.place) le i.so_far in
    ((rw (take_all c.loop-done.done c.loop-done.out all) at whole), i.same_bits, i.moved)
