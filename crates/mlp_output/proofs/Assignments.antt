-- A restart header assigns each matrix channel an output channel of its own.
use Rattle.std.proofs.Common.{◌≡◌, ℕ, zero, suc, ◌+◌, ◌<◌, ◌≤◌, ◌≢◌, Bool, true, false, leb, eqb, List, [], ◌∷◌, ◌++◌, length, take, get_or, refl, sym, ap, ◌∙◌, arith, eq-eqb, append_assoc}
use Rattle.std.specs.Prelude.{All, not}
use Rattle.std.specs.List.{list_any}
use Rattle.std.proofs.lemmas.Bool.{and_parts, or_parts, leb-true}
use Rattle.std.proofs.lemmas.List.{append-nil, get_or-take, length-take-le}
use Rattle.std.proofs.lemmas.List.Elements.{All-nil, All-cons, All-same}
use Rattle.mlp_syntax.specs.declared.major.Kind.{Kind}
use Rattle.mlp_syntax.specs.declared.restart.Restart.{Restart}
use Rattle.mlp_layout.specs.Layout.{number_of, ruled, part, made, item}
use Rattle.mlp_layout.specs.Combined.{fixed, checked, series}
use Rattle.mlp_layout.specs.Allowed.{Allowed}
use Rattle.mlp_layout.proofs.RuleReading.{rule_holds}
use Rattle.mlp_params.specs.RestartHeader.{restart, restart_fields, assigned}
use Rattle.mlp_params.proofs.RestartRanges.{ranges}
use Rattle.mlp_output.specs.Places.{IsAssignment}

-- ---- the series of output channels

-- one of these is this number
abbrev has : List ℕ → ℕ → Bool
has before a = list_any (λ b. eqb b a) before

abbrev AssignsFits : ℕ → ℕ → List ℕ → List ℕ → Type 0
AssignsFits m n before xs = (series (assigned m) n before).Fits xs

abbrev AssignsMeets : ℕ → ℕ → List ℕ → List ℕ → Type 0
AssignsMeets m n before xs = (series (assigned m) n before).Meets xs

pub series_count : (m n : ℕ) (before xs : List ℕ) → AssignsFits m n before xs → length xs ≡ n
unfolding series item made
series_count m zero before xs fits = ap (λ (ys : List ℕ). length ys) fits
series_count m (suc n) before [] fits = absurd fits
series_count m (suc n) before (x ∷ xs) fits = ap suc (series_count m n (before ++ x ∷ []) xs fits.1)

is_false : (b : Bool) → not b ≡ true → b ≡ false
is_false true h = sym h
is_false false h = refl

-- what the rule says of the first one
head_parts : (m n : ℕ) (before : List ℕ) (x : ℕ) (xs : List ℕ) → AssignsMeets m (suc n) before (x ∷ xs) → (x ≤ m) × (has before x ≡ false)
unfolding series item ruled
head_parts m n before x xs meets =
    let both = and_parts (leb x m) (not (has before x)) (rule_holds _ 0 meets.0.1) in
    (leb-true x m both.0, is_false (has before x) both.1)

series_most : (m n : ℕ) (before xs : List ℕ) → AssignsFits m n before xs → AssignsMeets m n before xs → All (λ a. a ≤ m) xs
unfolding series item made
series_most m zero before xs fits meets = All-same (λ a. a ≤ m) xs [] fits (All-nil (λ a. a ≤ m))
series_most m (suc n) before [] fits meets = absurd fits
series_most m (suc n) before (x ∷ xs) fits meets =
    All-cons (λ a. a ≤ m) x xs (head_parts m n before x xs meets).0 (series_most m n (before ++ x ∷ []) xs fits.1 meets.1)

-- none of them is among those before it
series_new : (m n : ℕ) (before xs : List ℕ) → AssignsFits m n before xs → AssignsMeets m n before xs → (c : ℕ) → c < length xs → has (before ++ take c xs) (get_or xs c 0) ≡ false
unfolding series item made
series_new m zero before xs fits meets c lt = let none : length xs ≡ 0 = ap (λ (ys : List ℕ). length ys) fits in absurd (omega arith)
series_new m (suc n) before [] fits meets c lt = absurd fits
series_new m (suc n) before (x ∷ xs) fits meets zero lt =
    ap (λ (ys : List ℕ). has ys x) (append-nil before) ∙ (head_parts m n before x xs meets).1
series_new m (suc n) before (x ∷ xs) fits meets (suc c) lt =
    ap (λ (ys : List ℕ). has ys (get_or xs c 0)) (sym (append_assoc before (x ∷ []) (take c xs)))
    ∙ series_new m n (before ++ x ∷ []) xs fits.1 meets.1 c (omega arith)

-- ---- a number that isn't among others is none of them

has_not : (ys : List ℕ) (a k : ℕ) → has ys a ≡ false → k < length ys → get_or ys k 0 ≢ a
has_not [] a k absent lt same = absurd (omega arith)
has_not (y ∷ ys) a zero absent lt same = let yes_it = eq-eqb y a same in let parts = or_parts (eqb y a) (has ys a) absent in absurd cc
has_not (y ∷ ys) a (suc k) absent lt same = has_not ys a k (or_parts (eqb y a) (has ys a) absent).1 (omega arith) same

-- ---- a restart header's

series_at : (format : Kind) (r : Restart) → Allowed (restart format) r → AssignsFits r.max_matrix (r.max_matrix + 1) [] r.assign.items × AssignsMeets r.max_matrix (r.max_matrix + 1) [] r.assign.items
unfolding restart restart_fields checked fixed part
series_at format r h =
    let fits = h.fits.0.1.1.1.1.1.1 in
    let meets = h.meets.0.1.1.1.1.1.1 in
    (fits.1.1.1.1.1.1.0, meets.1.1.1.1.1.1.0)

pub noise_shift_most : (format : Kind) (r : Restart) → Allowed (restart format) r → r.noise_shift < 16
unfolding restart restart_fields checked fixed part number_of
noise_shift_most format r h = h.fits.0.1.1.1.1.1.1.0

pub assign_count : (format : Kind) (r : Restart) → Allowed (restart format) r → length r.assign.items ≡ r.max_matrix + 1
assign_count format r h = series_count r.max_matrix (r.max_matrix + 1) [] r.assign.items (series_at format r h).0

pub assign_within : (format : Kind) (r : Restart) → Allowed (restart format) r → All (λ a. a ≤ r.max_matrix) r.assign.items
assign_within format r h = let s = series_at format r h in series_most r.max_matrix (r.max_matrix + 1) [] r.assign.items s.0 s.1

pub is_assignment : (format : Kind) (r : Restart) → Allowed (restart format) r → IsAssignment r.assign.items
is_assignment format r h =
    let s = series_at format r h in
    let known = ranges format r h in
    let within = assign_within format r h in
    let xs : List ℕ = r.assign.items in
    record {
      few = λ k d lt. let le : get_or xs k d ≤ r.max_matrix = within k d lt in omega (arith, known.same, known.at_most_7);
      own = λ b c lt in_range same.
          let new = series_new r.max_matrix (r.max_matrix + 1) [] xs s.0 s.1 c in_range in
          let there : length (take c xs) ≡ c = length-take-le c xs (omega arith) in
          has_not (take c xs) (get_or xs c 0) b new (omega arith) (get_or-take c xs b 0 lt ∙ same);
    }
