use Rattle.std.proofs.Common.{◌≡◌, ℕ, ◌+◌, ◌-◌, ◌^◌, ◌<◌, ℤ, pos, ◌*ℤ◌, get_or, set, bit_xor, length, FitsSigned, w32, to_z, of_z, ap, subst, ◌∙◌, arith, rules}
use Rattle.std.proofs.lemmas.Int.{to_z-of_z}
use Rattle.mlp_arith.specs.Words.{low24}
use Rattle.mlp_output.specs.Frames.{check_of_sums}
use Rattle.mlp_output.proofs.Sums.{part, summed_at}
use Rattle.mlp_output.proofs.Filling.{IsFilled, filled_more, filled_none, filled_all}
use Rattle.mlp_output.proofs.samples.put_frame.Goals as goal

pub loop-c-init : goal.loop-c-init
loop-c-init c = filled_none c.args.shifts.now c.args.assign.now c.args.frame.now (length c.args.shifts.now) (check_of_sums 0 c.args.sums.now) (omega arith) (omega (arith, c.requires.same))

pub loop-c-preserved : goal.loop-c-preserved
loop-c-preserved c =
    let i : ℕ = c.loop-c.c - 1 in
    let next : c.loop-c.c ≡ i + 1 = omega (arith, c.loop-c-test.true) in
    let in_range : i < length c.args.shifts.now = omega (arith, c.loop-c-test.true, c.loop-c.auto) in
    let x : ℤ = get_or c.args.frame.now i (pos 0) in
    let fits : FitsSigned w32 x = search rules in
    let word : to_z w32 (of_z w32 c.sample24-sample.result) ≡ c.sample24-sample.result = to_z-of_z w32 c.sample24-sample.result (record { sfits = c.sample24-sample.type_inv }) in
    let value : c.sample24-sample.result ≡ low24 (x *ℤ pos (2 ^ get_or c.args.shifts.now i 0)) =
    c.sample24-sample.ensures ∙ ap (λ (z : ℤ). low24 (z *ℤ pos (2 ^ get_or c.args.shifts.now i 0))) (to_z-of_z w32 x fits) in
    let few : i < length c.loop-c.sums = omega (arith, in_range, c.requires.few) in
    rw c.from.ensures
    (filled_more c.args.shifts.now c.args.assign.now c.args.frame.now i c.loop-c.row (check_of_sums 0 c.args.sums.now) (check_of_sums 0 c.loop-c.sums)
    (check_of_sums 0 (set c.loop-c.sums i (bit_xor (get_or c.loop-c.sums i 0) c.cast_unsigned.result))) (to_z w32 (of_z w32 c.sample24-sample.result))
    in_range (omega (arith, in_range, c.requires.same)) (omega (arith, in_range, c.requires.few, c.told-frame)) (word ∙ value)
    (summed_at i c.loop-c.sums c.cast_unsigned.result few ∙ ap (λ (n : ℕ). bit_xor (check_of_sums 0 c.loop-c.sums) (part i n)) c.cast_unsigned.ensures)
    (subst (λ (m : ℕ). IsFilled c.args.shifts.now c.args.assign.now c.args.frame.now m c.loop-c.row (check_of_sums 0 c.args.sums.now) (check_of_sums 0 c.loop-c.sums)) next c.loop-c.invariant))

pub returns : goal.returns
returns c =
    let all = filled_all c.args.shifts.now c.args.assign.now c.args.frame.now c.loop-c.c c.loop-c.row (check_of_sums 0 c.args.sums.now) (check_of_sums 0 c.loop-c.sums) c.loop-c-test.false c.loop-c.invariant in
    record { row = all.in_place; check = all.sum }
