use Rattle.std.proofs.Common.{◌≡◌, ℕ, ◌+◌, ◌<◌, ◌≤◌, List, ℤ, pos, get_or, take, drop, length, ◌+ℤ◌, ◌*ℤ◌, w32, FitsSigned, to_z, of_z, rules, arith, ap, sym, ◌∙◌}
use Rattle.std.proofs.lemmas.Int.{ints, to_z-of_z}
use Rattle.std.proofs.lemmas.List.{get_or-drop, length-drop}
use Rattle.mlp_predict.specs.Prediction.{dot}
use Rattle.mlp_predict.proofs.Dots.{dot_more}
use Rattle.mlp_levinson.proofs.lags.products.Goals as goal

-- one product more
more : (ys line : List ℤ) (n i : ℕ) (r : ℤ) → FitsSigned w32 (get_or ys i (pos 0)) → FitsSigned w32 (get_or line (n + i) (pos 0)) → i < length ys → length ys + n ≤ length line
    → r ≡ to_z w32 (of_z w32 (get_or ys i (pos 0))) *ℤ to_z w32 (of_z w32 (get_or line (n + i) (pos 0))) → dot (take i ys) (drop n line) +ℤ r ≡ dot (take (i + 1) ys) (drop n line)
more ys line n i r f g here known e =
    let x : ℤ = get_or ys i (pos 0) in
    let y : ℤ = get_or line (n + i) (pos 0) in
    let so_far : ℤ = dot (take i ys) (drop n line) in
    let is : r ≡ x *ℤ y = e ∙ ap (λ z. z *ℤ to_z w32 (of_z w32 y)) (to_z-of_z w32 x f) ∙ ap (λ z. x *ℤ z) (to_z-of_z w32 y g) in
    ap (λ z. so_far +ℤ z) (is ∙ ap (λ z. x *ℤ z) (sym (get_or-drop n line i (pos 0))))
    ∙ sym (dot_more ys (drop n line) i here (omega (arith, known, length-drop n line)))

pub overflow_add-first : goal.overflow_add-first
overflow_add-first c = omega (arith, ints, c.product-first.ensures.low, c.product-first.ensures.high, c.loop-i.invariant.first_low, c.loop-i.invariant.first_high, c.requires.few, c.loop-i-test.true)

pub overflow_add-second : goal.overflow_add-second
overflow_add-second c = omega (arith, ints, c.product-second.ensures.low, c.product-second.ensures.high, c.loop-i.invariant.second_low, c.loop-i.invariant.second_high, c.requires.few, c.loop-i-test.true)

pub overflow_add-third : goal.overflow_add-third
overflow_add-third c = omega (arith, ints, c.product-third.ensures.low, c.product-third.ensures.high, c.loop-i.invariant.third_low, c.loop-i.invariant.third_high, c.requires.few, c.loop-i-test.true)

pub product-first-requires-clause-b : goal.product-first-requires-clause-b
product-first-requires-clause-b c =
    let d : ℤ = get_or c.args.line.now (c.args.distance + c.loop-i.i) (pos 0) in
    let f : FitsSigned w32 d = search rules in
    rw (to_z-of_z w32 d f) (c.requires.line (c.args.distance + c.loop-i.i) (pos 0) (omega (arith, c.loop-i-test.true, c.requires.known)))

pub product-second-requires-clause-b : goal.product-second-requires-clause-b
product-second-requires-clause-b c =
    let d : ℤ = get_or c.args.line.now (c.args.distance + 1 + c.loop-i.i) (pos 0) in
    let f : FitsSigned w32 d = search rules in
    rw (to_z-of_z w32 d f) (c.requires.line (c.args.distance + 1 + c.loop-i.i) (pos 0) (omega (arith, c.loop-i-test.true, c.requires.known)))

pub product-third-requires-clause-b : goal.product-third-requires-clause-b
product-third-requires-clause-b c =
    let d : ℤ = get_or c.args.line.now (c.args.distance + 2 + c.loop-i.i) (pos 0) in
    let f : FitsSigned w32 d = search rules in
    rw (to_z-of_z w32 d f) (c.requires.line (c.args.distance + 2 + c.loop-i.i) (pos 0) (omega (arith, c.loop-i-test.true, c.requires.known)))

pub loop-i-preserved : goal.loop-i-preserved
loop-i-preserved c =
    let i = c.loop-i.i in
    let n = c.args.distance in
    let ys = c.args.ys.now in
    let line = c.args.line.now in
    let f : FitsSigned w32 (get_or ys i (pos 0)) = search rules in
    let fa : FitsSigned w32 (get_or line (n + i) (pos 0)) = search rules in
    let fb : FitsSigned w32 (get_or line (n + 1 + i) (pos 0)) = search rules in
    let fd : FitsSigned w32 (get_or line (n + 2 + i) (pos 0)) = search rules in
    let a = more ys line n i c.product-first.result f fa c.loop-i-test.true (omega (arith, c.requires.known)) c.product-first.ensures.value in
    let b = more ys line (n + 1) i c.product-second.result f fb c.loop-i-test.true (omega (arith, c.requires.known)) c.product-second.ensures.value in
    let d = more ys line (n + 2) i c.product-third.result f fd c.loop-i-test.true (omega (arith, c.requires.known)) c.product-third.ensures.value in
    record {
      first = omega (arith, ints, a, c.product-first.ensures.low, c.product-first.ensures.high);
      second = omega (arith, ints, b, c.product-second.ensures.low, c.product-second.ensures.high);
      third = omega (arith, ints, d, c.product-third.ensures.low, c.product-third.ensures.high);
      first_low = omega (arith, ints, c.product-first.ensures.low, c.product-first.ensures.high);
      first_high = omega (arith, ints, c.product-first.ensures.low, c.product-first.ensures.high);
      second_low = omega (arith, ints, c.product-second.ensures.low, c.product-second.ensures.high);
      second_high = omega (arith, ints, c.product-second.ensures.low, c.product-second.ensures.high);
      third_low = omega (arith, ints, c.product-third.ensures.low, c.product-third.ensures.high);
      third_high = omega (arith, ints, c.product-third.ensures.low, c.product-third.ensures.high);
    }
