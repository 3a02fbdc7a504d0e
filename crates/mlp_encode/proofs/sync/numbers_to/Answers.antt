use Rattle.std.proofs.Common.{◌≡◌, ◌+◌, length, ap, ◌∙◌, sym, arith, List, [], ◌∷◌, ◌++◌, ℕ}
use Rattle.std.specs.List.{range_with_len}
use Rattle.std.proofs.lemmas.List.FromFn.{length-range_with_len}
use Rattle.mlp_encode.proofs.Lists.{range_more}
use Rattle.mlp_encode.proofs.sync.numbers_to.Goals as goal

pub push-requires : goal.push-requires
push-requires c = omega (arith, ap length c.loop-i.invariant, length-range_with_len 0 c.loop-i.i)

pub loop-i-preserved : goal.loop-i-preserved
loop-i-preserved c =
    c.push.ensures.items
    ∙ ap (λ (ks : List ℕ). ks ++ c.loop-i.i ∷ []) c.loop-i.invariant
    ∙ sym (range_more 0 c.loop-i.i c.loop-i.i (omega arith))

pub returns : goal.returns
returns c = let e : c.loop-i.i ≡ c.args.last + 1 = omega arith in c.loop-i.invariant ∙ ap (range_with_len 0) e
