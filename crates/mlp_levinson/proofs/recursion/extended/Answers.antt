use Rattle.std.proofs.Common.{◌≡◌, ℕ, ◌+◌, ◌-◌, ◌<◌, List, [], ◌∷◌, ◌++◌, length, drop, reverse, get_or, ℤ, pos, ◌-ℤ◌, ◌*ℤ◌, to_z, of_z, w64, FitsSigned, arith, rules, ap, ◌∙◌, sym}
use Rattle.std.proofs.lemmas.Int.{to_z-of_z}
use Rattle.std.proofs.lemmas.List.{get_or-reverse, length-reverse}
use Rattle.mlp_arith.specs.Words.{floor_by}
use Rattle.mlp_levinson.specs.Computed.{lessened}
use Rattle.mlp_levinson.proofs.Levels.{lessened_step}
use Rattle.mlp_levinson.proofs.recursion.extended.Goals as goal

pub loop-j-preserved : goal.loop-j-preserved
loop-j-preserved c =
    let j : ℕ = c.loop-j.j in
    let old : List ℤ = c.args.old.now in
    let k : ℤ = to_z w64 (of_z w64 c.args.k) in
    let own : ℤ = get_or c.args.old.now c.loop-j.j (pos 0) in
    let opposite : ℤ = get_or c.args.old.now (length c.args.old.now - 1 - c.loop-j.j) (pos 0) in
    let h : j < length old = c.loop-j-test.true in
    let fo : FitsSigned w64 own = search rules in
    let fp : FitsSigned w64 opposite = search rules in
    let fr : FitsSigned w64 c.less.result = record { sfits = c.less.type_inv } in
    let is : c.less.result ≡ own -ℤ floor_by 20 (k *ℤ get_or (reverse old) j (pos 0)) =
    c.less.ensures
    ∙ ap (λ z. z -ℤ floor_by 20 (k *ℤ to_z w64 (of_z w64 opposite))) (to_z-of_z w64 own fo)
    ∙ ap (λ z. own -ℤ floor_by 20 (k *ℤ z)) (to_z-of_z w64 opposite fp ∙ sym (get_or-reverse old j (pos 0) h)) in
    record {
      more =
          ap (λ xs. xs ++ lessened k (drop (j + 1) old) (drop (j + 1) (reverse old)))
          (c.push.ensures.items ∙ ap (λ z. c.loop-j.new.items ++ z ∷ []) (to_z-of_z w64 c.less.result fr))
          ∙ lessened_step k old (reverse old) c.loop-j.new.items _ j c.less.result h (omega (arith, h, length-reverse old)) is c.loop-j.invariant.more;
      count = omega arith;
    }
