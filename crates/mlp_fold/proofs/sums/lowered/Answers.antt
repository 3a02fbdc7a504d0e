use Rattle.std.proofs.Common.{◌≡◌, ℕ, ◌≤◌, ℤ, pos, neg_ℤ, ◌≤ℤ◌, ◌<ℤ◌, FitsSigned, w32, w64, arith, ap, ◌∙◌}
use Rattle.std.proofs.lemmas.Int.{ints, to_z-of_z, int_wrap_fits}
use Rattle.std.proofs.Math.Pow.{pow-lt}
use Rattle.mlp_arith.specs.Words.{floor_by, clear}
use Rattle.mlp_arith.proofs.Floors.{floor_le, lt_floor}
use Rattle.mlp_arith.proofs.Residues.{clear_le, lt_clear}
use Rattle.mlp_fold.specs.Mix.{IsSample, lowered}
use Rattle.mlp_fold.proofs.sums.lowered.Goals as goal

-- a value less a sum over 2^14 has 26 bits
low : (q : ℕ) (v s : ℤ) → q ≤ 8 → IsSample q v → neg_ℤ (pos 274877906944) ≤ℤ s → s ≤ℤ pos 274877906944 → neg_ℤ (pos 33554432) ≤ℤ lowered q v s
low q v s l f a b = omega (arith, ints, clear_le q (floor_by 14 s), lt_clear q (floor_by 14 s), floor_le s 16384 (omega arith), lt_floor s 16384 (omega arith), pow-lt {i = q} {j = 9} (omega arith), f.low, f.high, a, b)

high : (q : ℕ) (v s : ℤ) → q ≤ 8 → IsSample q v → neg_ℤ (pos 274877906944) ≤ℤ s → s ≤ℤ pos 274877906944 → lowered q v s <ℤ pos 33554432
high q v s l f a b = omega (arith, ints, clear_le q (floor_by 14 s), lt_clear q (floor_by 14 s), floor_le s 16384 (omega arith), lt_floor s 16384 (omega arith), pow-lt {i = q} {j = 9} (omega arith), f.low, f.high, a, b)

pub overflow_sub-from : goal.overflow_sub-from
overflow_sub-from c =
    let v : ℤ = c.args.value in
    let d1 = low c.args.q v c.args.sum c.requires.q c.requires.value c.requires.low c.requires.high in
    let d2 = high c.args.q v c.args.sum c.requires.q c.requires.value c.requires.low c.requires.high in
    let wide : FitsSigned w64 v = omega (arith, ints, c.requires.value.low, c.requires.value.high) in
    let word : c.from.result ≡ v = c.from.ensures ∙ to_z-of_z w32 v c.ranges.value in
    let quotient : c.floor_by.result ≡ floor_by 14 c.args.sum = c.floor_by.ensures ∙ ap (floor_by 14) (to_z-of_z w64 c.args.sum c.ranges.sum) in
    let second : c.clear.result ≡ clear c.args.q (floor_by 14 c.args.sum) =
    c.clear.ensures ∙ ap (clear c.args.q) (to_z-of_z w64 c.floor_by.result (record { sfits = c.floor_by.type_inv }) ∙ quotient) in
    rw (to_z-of_z w64 c.from.result (rw word wide), to_z-of_z w64 c.clear.result (record { sfits = c.clear.type_inv }), word, second)
    (omega (arith, ints, d1, d2))

pub returns : goal.returns
returns c =
    let v : ℤ = c.args.value in
    let d : ℤ = lowered c.args.q v c.args.sum in
    let d1 = low c.args.q v c.args.sum c.requires.q c.requires.value c.requires.low c.requires.high in
    let d2 = high c.args.q v c.args.sum c.requires.q c.requires.value c.requires.low c.requires.high in
    let wide : FitsSigned w64 v = omega (arith, ints, c.requires.value.low, c.requires.value.high) in
    let word : c.from.result ≡ v = c.from.ensures ∙ to_z-of_z w32 v c.ranges.value in
    let quotient : c.floor_by.result ≡ floor_by 14 c.args.sum = c.floor_by.ensures ∙ ap (floor_by 14) (to_z-of_z w64 c.args.sum c.ranges.sum) in
    let second : c.clear.result ≡ clear c.args.q (floor_by 14 c.args.sum) =
    c.clear.ensures ∙ ap (clear c.args.q) (to_z-of_z w64 c.floor_by.result (record { sfits = c.floor_by.type_inv }) ∙ quotient) in
    let fits : FitsSigned w32 d = omega (arith, ints, d1, d2) in
    let wider : FitsSigned w64 d = omega (arith, ints, d1, d2) in
    cc (
      word,
      second,
      to_z-of_z w64 c.from.result (rw word wide),
      to_z-of_z w64 c.clear.result (record { sfits = c.clear.type_inv }),
      to_z-of_z w64 d wider,
      to_z-of_z w32 c.wrap.result (record { sfits = c.wrap.type_inv }),
      c.wrap.ensures,
      int_wrap_fits w32 d fits,
    )
