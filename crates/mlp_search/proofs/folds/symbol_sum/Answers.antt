use Rattle.std.proofs.Common.{◌≡◌, ℕ, w16, arith, sym, ap, ◌∙◌}
use Rattle.std.proofs.lemmas.Int.{to_z-of_z}
use Rattle.mlp_search.specs.Folded.{all_folded, all_symbol_bits}
use Rattle.mlp_search.proofs.FoldSteps.{no_symbols}
use Rattle.mlp_search.proofs.folds.symbol_sum.Goals as goal
use Rattle.mlp_search.proofs.folds.symbol_sum.Goals.{in-0, in-1, in-2, in_default}

pub returns-clause-value : goal.returns-clause-value
returns-clause-value c =
    let e = to_z-of_z w16 c.args.offset c.ranges.offset in
    let sum : c.match-book.sum ≡ all_symbol_bits c.args.book c.args.b (all_folded c.args.offset c.args.values.now) = elim c.match-book.branch [
      | in-0 w ↦
          let is : c.args.book ≡ 0 = omega arith in
          w.sum-is ∙ sym (no_symbols c.args.b (all_folded c.args.offset c.args.values.now)) ∙ ap (λ (k : ℕ). all_symbol_bits k c.args.b (all_folded c.args.offset c.args.values.now)) (sym is)
      | in-1 w ↦
          let is : c.args.book ≡ 1 = omega arith in
          w.sum-is ∙ (rw e at w.symbol_sum_in-sum.ensures.value) ∙ ap (λ (k : ℕ). all_symbol_bits k c.args.b (all_folded c.args.offset c.args.values.now)) (sym is)
      | in-2 w ↦
          let is : c.args.book ≡ 2 = omega arith in
          w.sum-is ∙ (rw e at w.symbol_sum_in-sum-in-2.ensures.value) ∙ ap (λ (k : ℕ). all_symbol_bits k c.args.b (all_folded c.args.offset c.args.values.now)) (sym is)
      | in_default w ↦
          let is : c.args.book ≡ 3 = omega (arith, c.requires.book) in
          w.sum-is ∙ (rw e at w.symbol_sum_in-sum-in_default.ensures.value) ∙ ap (λ (k : ℕ). all_symbol_bits k c.args.b (all_folded c.args.offset c.args.values.now)) (sym is)
    ] in
    c.from.ensures ∙ sum
