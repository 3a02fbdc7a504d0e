-- How the restart of a block is read.
use Rattle.std.proofs.Common.{◌≡◌, ℕ, zero, suc, ◌<◌, Bool, true, false, eqb, leb, arith, refl, subst}
use Rattle.std.specs.Prelude.{◌&&◌, ◌||◌}
use Rattle.std.proofs.lemmas.Bool.{and_right, eqb-true}
use Rattle.mlp_bits.specs.Bits.{bit}
use Rattle.mlp_substream.specs.Restarts.{all_covered}

-- one channel that isn't covered
pub covered_fails : (covered min max n c : ℕ) → c < n → (bit covered c || (leb min c && leb c max)) ≡ false → all_covered covered min max n ≡ false
unfolding all_covered
covered_fails covered min max zero c lt h = absurd (omega arith)
covered_fails covered min max (suc n) c lt h = go (eqb c n) refl (λ less. covered_fails covered min max n c less h)
  where
    go : (b : Bool) → eqb c n ≡ b → (c < n → all_covered covered min max n ≡ false) → ((bit covered n || (leb min n && leb n max)) && all_covered covered min max n) ≡ false
    go true same later = let e : c ≡ n = eqb-true c n same in let here : (bit covered n || (leb min n && leb n max)) ≡ false = subst (λ (k : ℕ). (bit covered k || (leb min k && leb k max)) ≡ false) e h in rw here refl
    go false other later = let less : c < n = grind (arith, other) in rw (later less) (and_right (bit covered n || (leb min n && leb n max)) false refl)
