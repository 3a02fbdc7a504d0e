use Rattle.std.proofs.Common.{◌≡◌, ◌+◌, ℤ, pos, [], map, drop, get_or, to_z, of_z, w16, w64, arith, sym, subst, ◌∙◌}
use Rattle.std.proofs.lemmas.Int.{ints, to_z-of_z}
use Rattle.std.proofs.lemmas.List.{drop_all, length-map}
use Rattle.mlp_residual.specs.Coding.{TakeBits}
use Rattle.mlp_residual.proofs.Counting.{counted_one, counted_never, counted_all}
use Rattle.mlp_residual.proofs.WidthLaws.{Scale, stepped, value_takes, value_never, map_next}
use Rattle.mlp_residual.proofs.widths.bits_of_values.Goals as goal

pub returns-in_err-bits : goal.returns-in_err-bits
returns-in_err-bits c =
    let o : ℤ = c.args.offset in
    let z : ℤ = to_z w16 (of_z w16 o) in
    let e : z ≡ o = to_z-of_z w16 o c.ranges.offset in
    let vs = c.args.values.now in
    let i = c.loop-value.value-index in
    let v = get_or vs i (pos 0) in
    let base : ℤ = to_z w64 (of_z w64 c.base_of-base.result) in
    let k : Scale c.args.book c.args.b z base c.lengths_in-lengths.result.now = record {
      above = to_z-of_z w64 c.base_of-base.result (omega (arith, ints, c.base_of-base.ensures.least, c.base_of-base.ensures.most))
          ∙ c.base_of-base.ensures.value;
      each = c.lengths_in-lengths.ensures.each;
      fits = c.lengths_in-lengths.ensures.fits;
    } in
    rw c.from_residual.ensures (λ step n t.
    let all = map (stepped step) vs in
    counted_never c.args.book c.args.b z step all (drop i all) (drop (i + 1) all) (stepped step v) c.loop-value.bits (map_next (stepped step) vs i c.loop-value-test.true)
    (value_never c.args.book c.args.b step z base v c.lengths_in-lengths.result.now k c.in_err-bits.ensures.none) (c.loop-value.invariant.counted step) n (subst (λ (y : ℤ). TakeBits c.args.book c.args.b y step all n) (sym e) t))

pub loop-value-preserved : goal.loop-value-preserved
loop-value-preserved c =
    let z : ℤ = to_z w16 (of_z w16 c.args.offset) in
    let vs = c.args.values.now in
    let i = c.loop-value.value-index in
    let v = get_or vs i (pos 0) in
    let h = c.in_ok-bits.ensures.some in
    let base : ℤ = to_z w64 (of_z w64 c.base_of-base.result) in
    let k : Scale c.args.book c.args.b z base c.lengths_in-lengths.result.now = record {
      above = to_z-of_z w64 c.base_of-base.result (omega (arith, ints, c.base_of-base.ensures.least, c.base_of-base.ensures.most))
          ∙ c.base_of-base.ensures.value;
      each = c.lengths_in-lengths.ensures.each;
      fits = c.lengths_in-lengths.ensures.fits;
    } in
    record {
      counted = λ step.
          let all = map (stepped step) vs in
          counted_one c.args.book c.args.b z step all (drop i all) (drop (i + 1) all) (stepped step v) c.loop-value.bits c.in_ok-bits.field-0 (map_next (stepped step) vs i c.loop-value-test.true)
          (value_takes c.args.book c.args.b step c.in_ok-bits.field-0 h.0 h.1 z base v c.lengths_in-lengths.result.now k h.2 h.3 h.4 h.5) (c.loop-value.invariant.counted step);
      small = omega (arith, c.in_ok-bits.ensures.small, c.loop-value.invariant.small);
    }

pub returns : goal.returns
returns c step =
    let o : ℤ = c.args.offset in
    let e : to_z w16 (of_z w16 o) ≡ o = to_z-of_z w16 o c.ranges.offset in
    let all = map (stepped step) c.args.values.now in
    let end : drop c.loop-value.value-index all ≡ [] = drop_all c.loop-value.value-index all (rw (length-map c.args.values.now (stepped step)) c.loop-value-test.false) in
    subst (λ (z : ℤ). TakeBits c.args.book c.args.b z step all c.loop-value.bits) e
    (counted_all _ _ _ _ _ _ _ end (c.loop-value.invariant.counted step))
