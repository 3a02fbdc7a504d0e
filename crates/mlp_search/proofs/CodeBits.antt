-- The bits that codes take: one number, and not above 40 each.
use Rattle.std.proofs.Common.{◌≡◌, ℕ, ◌*◌, ◌<◌, ◌≤◌, ℤ, false, List, [], ◌∷◌, length, Option, Some, None, arith, refl, ap}
use Rattle.std.specs.Prelude.{IfSome, IfNone}
use Rattle.std.proofs.lemmas.Bool.{ltb-false, le-ltb}
use Rattle.mlp_residual.specs.Coding.{TakeBits, Counts}
use Rattle.mlp_residual.proofs.Counting.{length_is, most_length, same_bits}
use Rattle.mlp_search.specs.declared.choice.Choice.{Choice}
use Rattle.mlp_search.specs.Cost.{bits_for}
use Rattle.mlp_search.specs.Least.{is_better}
use Rattle.mlp_search.proofs.CodeLaws.{bits_counted}

-- ---- one number

one_count : (book b step : ℕ) (offset : ℤ) (rs : List ℤ) (o p : Option ℕ) → Counts book b offset step rs o → Counts book b offset step rs p → o ≡ p
one_count book b step offset rs None None h k = refl
one_count book b step offset rs None (Some n) h k = absurd (h n k)
one_count book b step offset rs (Some m) None h k = absurd (k m h)
one_count book b step offset rs (Some m) (Some n) h k = ap Some (same_bits book b offset step rs m n h k)

count_from : (book b step : ℕ) (offset : ℤ) (rs : List ℤ) (o : Option ℕ) → IfSome o (TakeBits book b offset step rs) → IfNone o ((n : ℕ) → TakeBits book b offset step rs n → ⊥) → Counts book b offset step rs o
count_from book b step offset rs None some none = none
count_from book b step offset rs (Some n) some none = some

-- what a count says is the number by division
pub counted_is : (book b step : ℕ) (offset : ℤ) (rs : List ℤ) (o : Option ℕ) → IfSome o (TakeBits book b offset step rs) → IfNone o ((n : ℕ) → TakeBits book b offset step rs n → ⊥) → o ≡ bits_for book b offset step rs
counted_is book b step offset rs o some none = one_count book b step offset rs o (bits_for book b offset step rs) (count_from book b step offset rs o some none) (bits_counted book b offset step rs)

-- ---- bounds

most_taken : (book b step : ℕ) (offset : ℤ) (rs : List ℤ) (n : ℕ) → b < 32 → TakeBits book b offset step rs n → n ≤ 40 * length rs
unfolding TakeBits
most_taken book b step offset [] n l h = omega (arith, h)
most_taken book b step offset (r ∷ rs) n l h =
    let later = most_taken book b step offset rs h.1 l h.3 in
    omega (arith, later, h.4, length_is book b h.0, most_length book h.0.symbol h.2.symbol_in, l)

pub most_counted : (book b step : ℕ) (offset : ℤ) (rs : List ℤ) (o : Option ℕ) → b < 32 → length rs ≤ 160 → IfSome o (TakeBits book b offset step rs) → IfSome o (λ n. n ≤ 6400)
most_counted book b step offset rs None l few h = tt
most_counted book b step offset rs (Some n) l few h = omega (arith, most_taken book b step offset rs n l h, few)

-- ---- choices that can't be better

pub never_better : (m n : ℕ) (best : Option Choice) → m ≤ n → is_better m best ≡ false → is_better n best ≡ false
never_better m n None le e = e
never_better m n (Some b) le e = le-ltb n b.bits (omega (arith, le, ltb-false m b.bits e))
