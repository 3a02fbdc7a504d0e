-- The filters of the numbers from 1 on: those of the table, and computed ones.
use Rattle.std.proofs.Common.{◌≡◌, ℕ, ◌+◌, ◌-◌, ◌≤◌, ℤ, Bool, true, false, List, Some, None, arith, sym, ◌∙◌, ap}
use Rattle.std.specs.Prelude.{◌==◌, nat_le, slice_get, option_map, if◌then◌else◌}
use Rattle.std.proofs.lemmas.Bool.{ne_eqb, lt-leb, le-leb}
use Rattle.mlp_syntax.specs.declared.params.Filter.{Filter}
use Rattle.mlp_params.specs.declared.state.ChannelState.{ChannelState}
use Rattle.mlp_levinson.specs.Computed.{computed}
use Rattle.mlp_search.specs.Candidates.{AreComputed, alone, in_force, table, pair_of}

pub computed_number : (force : ChannelState) (step : ℕ) (samples : List ℤ) (n : ℕ) → 10 ≤ n → n ≤ 17 → pair_of force step samples n ≡ option_map alone (computed step samples (n - 9))
computed_number force step samples n from to =
    let a : (n == 0) ≡ false = ne_eqb n 0 (λ e. absurd (omega (arith, from, e))) in
    let b : nat_le n 9 ≡ false = lt-leb n 9 (omega (arith, from)) in
    let d : nat_le n 17 ≡ true = le-leb n 17 to in
    ap (λ (t : Bool). if t then Some (in_force force) else if nat_le n 9 then slice_get table (n - 1) else if nat_le n 17 then option_map alone (computed step samples (n - 9)) else None) a
    ∙ ap (λ (t : Bool). if t then slice_get table (n - 1) else if nat_le n 17 then option_map alone (computed step samples (n - 9)) else None) b
    ∙ ap (λ (t : Bool). if t then option_map alone (computed step samples (n - 9)) else None) d

pub computed_pair : (force : ChannelState) (step : ℕ) (samples : List ℤ) (firs : List (Filter 8)) (n : ℕ) → 10 ≤ n → n ≤ 17 → AreComputed step samples firs → pair_of force step samples n ≡ option_map alone (slice_get firs (n - 10))
computed_pair force step samples firs n from to are =
    let order : n - 9 ≡ n - 10 + 1 = omega (arith, from) in
    computed_number force step samples n from to
    ∙ ap (λ (k : ℕ). option_map alone (computed step samples k)) order
    ∙ ap (option_map alone) (sym (are (n - 10) (omega (arith, from, to))))

pub table_pair : (force : ChannelState) (step : ℕ) (samples : List ℤ) (n : ℕ) → 1 ≤ n → n ≤ 9 → pair_of force step samples n ≡ slice_get table (n - 1)
table_pair force step samples n from to =
    let a : (n == 0) ≡ false = ne_eqb n 0 (λ e. absurd (omega (arith, from, e))) in
    let b : nat_le n 9 ≡ true = le-leb n 9 to in
    ap (λ (t : Bool). if t then Some (in_force force) else if nat_le n 9 then slice_get table (n - 1) else if nat_le n 17 then option_map alone (computed step samples (n - 9)) else None) a
    ∙ ap (λ (t : Bool). if t then slice_get table (n - 1) else if nat_le n 17 then option_map alone (computed step samples (n - 9)) else None) b
