use Rattle.std.proofs.Common.{◌≡◌, ℕ, arith, sym, subst}
use Rattle.std.specs.Prelude.{IfSome}
use Rattle.mlp_search.specs.Folded.{all_folded, all_symbol_bits}
use Rattle.mlp_search.proofs.tally.Tally.sum_of.Goals as goal

pub returns-in_default : goal.returns-in_default
returns-in_default c =
    λ offset vs is.
    let three : c.args.book ≡ 3 = omega (arith, c.requires.book) in
    subst (λ (k : ℕ). IfSome c.third.result (λ n. n ≡ all_symbol_bits k c.args.b (all_folded offset vs))) (sym three) (c.third.ensures offset vs c.args.b is (omega arith))
