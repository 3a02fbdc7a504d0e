-- States of zeros.
use Rattle.std.proofs.Common.{◌≡◌, ℕ, zero, suc, ◌<◌, ℤ, pos, Bool, List, ◌∷◌, replicate, arith, refl, sym, ◌∙◌, ap, subst}
use Rattle.std.specs.Prelude.{All, FitsSigned, if◌then◌else◌}
use Rattle.std.specs.Int.{w32}
use Rattle.std.proofs.lemmas.Int.{ints}
use Rattle.std.proofs.lemmas.Bool.{ne_eqb}
use Rattle.std.proofs.lemmas.List.Elements.{All-cons}
use Rattle.mlp_syntax.specs.declared.params.FilterState.{FilterState}
use Rattle.mlp_params.specs.Filters.{order_of}
use Rattle.mlp_predict.specs.Prediction.{Past, with_state}
use Rattle.mlp_predict.specs.Filters.{scaled, differences_of, IsState}
use Rattle.mlp_search.specs.declared.pair.Pair.{Pair}
use Rattle.mlp_search.specs.Candidates.{past_for}

abbrev pub zeros : ℕ → FilterState
zeros n = record { bits = 0; shift = 0; values = record { items = replicate n (pos 0) } }

scaled_zeros : (n : ℕ) → scaled 0 (replicate n (pos 0)) ≡ replicate n (pos 0)
scaled_zeros zero = refl
scaled_zeros (suc n) = ap (λ (xs : List ℤ). pos 0 ∷ xs) (scaled_zeros n)

all_words : (n : ℕ) → All (FitsSigned w32) (replicate n (pos 0))
all_words zero = λ i d h. absurd (omega (arith, h))
all_words (suc n) = All-cons (FitsSigned w32) (pos 0) (replicate n (pos 0)) (omega (arith, ints)) (all_words n)

pub zeros_state : (n : ℕ) → IsState (zeros n)
zeros_state n = record { shift = omega arith; differences = subst (λ (xs : List ℤ). All (FitsSigned w32) xs) (sym (scaled_zeros n)) (all_words n) }

-- the state that filters other than those in force come with
pub put_is : (n : ℕ) (pair : Pair) (past : Past) (s : FilterState) → 0 < n → s ≡ zeros (order_of pair.iir) → with_state (differences_of s) past ≡ past_for n pair past
put_is n pair past s lt e =
    ap (λ (s : FilterState). with_state (differences_of s) past) e
    ∙ ap (λ (ds : List ℤ). with_state ds past) (scaled_zeros (order_of pair.iir))
    ∙ ap (λ (t : Bool). with_state (replicate (if t then 0 else order_of pair.iir) (pos 0)) past) (sym (ne_eqb n 0 (λ z. absurd (omega (arith, lt, z)))))
