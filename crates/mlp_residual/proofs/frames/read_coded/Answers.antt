use Rattle.std.proofs.Common.{◌≡◌, ◌≤◌, ◌+◌, ◌-◌, ◌++◌, length, take, drop, ap, sym, ◌∙◌, arith}
use Rattle.std.proofs.lemmas.List.{length-take, length-drop, take-take}
use Rattle.std.proofs.lemmas.Slice.{take-put_mid, drop-put_mid}
use borrow.Rule.Slice.PartMut.{put_mid}
use Rattle.mlp_residual.specs.Frames.{coded_frames}
use Rattle.mlp_residual.proofs.FrameLaws.{length_in_place, written_back, stands_behind}
use Rattle.mlp_residual.proofs.frames.read_coded.Goals as goal

pub returns-clause-rest : goal.returns-clause-rest
returns-clause-rest c =
    let full = c.fill_up.new.out.items in
    let before = c.as_mut_slice.result.now in
    let first = c.args.first in
    let end = c.args.first + c.from.result in
    let read = c.read_over.new.out in
    let same : before ≡ full = c.as_mut_slice.ensures.value in
    let same_length : length before ≡ length full = ap (λ xs. length xs) same in
    let count : length read ≡ length (take (end - first) (drop first before)) = c.read_over.auto.out in
    let within : first ≤ length before = omega (arith, c.fill_up.ensures.enough) in
    let long : length read ≡ end - first = omega (arith, length-take (end - first) (drop first before), length-drop first before, c.fill_up.ensures.enough) in
    let ends : end ≡ first + c.args.frames = omega (arith, c.from.ensures) in
    let room : first + (end - first) ≤ length before = omega (arith, c.fill_up.ensures.enough) in
    let whole : length (put_mid first (end - first) before read) ≡ length full = length_in_place first (end - first) before read room long ∙ same_length in
    let back = written_back full (put_mid first (end - first) before read) whole in
    ap (drop (first + c.args.frames)) back ∙ (drop-put_mid first (end - first) before read (first + c.args.frames) (omega arith) within long ∙ (ap (drop (first + c.args.frames)) same ∙ rw (← ends) c.fill_up.ensures.rest))

pub returns-clause-read : goal.returns-clause-read
returns-clause-read c =
    let full = c.fill_up.new.out.items in
    let old = c.args.out.now.items in
    let before = c.as_mut_slice.result.now in
    let first = c.args.first in
    let end = c.args.first + c.from.result in
    let read = c.read_over.new.out in
    let part = take (end - first) (drop first before) in
    let same : before ≡ full = c.as_mut_slice.ensures.value in
    let same_length : length before ≡ length full = ap (λ xs. length xs) same in
    let count : length read ≡ length part = c.read_over.auto.out in
    let within : first ≤ length before = omega (arith, c.fill_up.ensures.enough) in
    let long : length read ≡ end - first = omega (arith, length-take (end - first) (drop first before), length-drop first before, c.fill_up.ensures.enough) in
    let ends : first + c.args.frames ≡ first + length read = omega (arith, c.from.ensures) in
    let room : first + (end - first) ≤ length before = omega (arith, c.fill_up.ensures.enough) in
    let whole : length (put_mid first (end - first) before read) ≡ length full = length_in_place first (end - first) before read room long ∙ same_length in
    let back = written_back full (put_mid first (end - first) before read) whole in
    let in_front : first ≤ length old = c.requires.first in
    let kept : take first before ≡ take first old = ap (take first) same ∙ (sym (take-take first (length old) full in_front) ∙ ap (take first) c.fill_up.ensures.kept) in
    let made : take (first + c.args.frames) (take (length full) (put_mid first (end - first) before read ++ drop (length (put_mid first (end - first) before read)) full)) ≡ take first old ++ read =
    ap (take (first + c.args.frames)) back ∙ (take-put_mid first (end - first) before read (first + c.args.frames) ends within ∙ ap (λ xs. xs ++ read) kept) in
    let frames : length part ≡ c.args.frames = omega (arith, c.from.ensures) in
    stands_behind (take first old) read _ (length part) c.args.frames (coded_frames c.args.coding.now) c.args.r.now c.read_over.new.r c.read_over.result frames made c.read_over.ensures
