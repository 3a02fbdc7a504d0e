use Rattle.std.proofs.Common.{◌≡◌, ◌≤◌, ◌+◌, length, ap, arith}
use Rattle.std.proofs.lemmas.List.{length-drop, take_all}
use Rattle.mlp_residual.proofs.in_force.read_frames.Goals as goal

pub returns-clause-count : goal.returns-clause-count
returns-clause-count c =
    let old = c.args.out.now.items in
    let new = c.read_frames_behind.new.out.items in
    let n = c.len-first.result + c.args.frames in
    omega (arith, length-drop n old, length-drop n new, ap (λ xs. length xs) c.read_frames_behind.ensures.rest, c.read_frames_behind.ensures.enough, c.len-first.ensures.value)

pub returns-clause-read : goal.returns-clause-read
returns-clause-read c =
    let old = c.args.out.now.items in
    let new = c.read_frames_behind.new.out.items in
    let n = c.len-first.result + c.args.frames in
    let count : length new ≡ length old + c.args.frames = omega (arith, length-drop n old, length-drop n new, ap (λ xs. length xs) c.read_frames_behind.ensures.rest, c.read_frames_behind.ensures.enough, c.len-first.ensures.value) in
    let long : length old ≤ c.len-first.result = omega (arith, c.len-first.ensures.value) in
    let all : length new ≤ n = omega (arith, c.len-first.ensures.value) in
    rw (take_all c.len-first.result old long, take_all n new all) at c.read_frames_behind.ensures.read
