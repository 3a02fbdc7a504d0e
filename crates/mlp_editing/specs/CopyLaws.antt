-- The session that copies is one: what a trait asks of it, with its proof.
use Rattle.std.proofs.Common.{◌≡◌, ℕ, ◌+◌, ◌<◌, ◌≤◌, ltb, cond, Bool, true, false, List, ◌++◌, length, take, inl, inr, refl, sym, ap, subst, ◌∙◌, arith, length-append}
use Rattle.std.specs.Prelude.{IsTrue, ◌↔◌}
use Rattle.std.proofs.lemmas.Bool.{cases_lt, lt-ltb, le-ltb}
use Rattle.std.proofs.lemmas.List.{take-append-le}
use Rattle.mlp_stream.specs.Moves.{Move, Waits, Takes, IsMove, TakesWithin, IsSession}
use Rattle.mlp_editing.specs.Copying.{piece_size, least, piece_of, copy_step, copy_count}

-- by whether there are too few bytes
abbrev pub moved_by : ℕ → List ℕ → Bool → Move ℕ
moved_by pieces next few = cond few Waits (Takes (piece_of next) (take (piece_of next) next) (pieces + 1))

pub step_is : (pieces : ℕ) (ended : Bool) (next : List ℕ)
    → copy_step pieces ended next ≡ moved_by pieces next (ltb (length next) (least ended))
unfolding copy_step
step_is pieces ended next = refl

-- there are as many as are waited for
pub step_takes : (pieces : ℕ) (ended : Bool) (next : List ℕ) → least ended ≤ length next
    → copy_step pieces ended next ≡ Takes (piece_of next) (take (piece_of next) next) (pieces + 1)
step_takes pieces ended next le = step_is pieces ended next
    ∙ ap (moved_by pieces next) (le-ltb (length next) (least ended) le)

pub step_waits : (pieces : ℕ) (ended : Bool) (next : List ℕ) → length next < least ended
    → copy_step pieces ended next ≡ Waits
step_waits pieces ended next lt = step_is pieces ended next
    ∙ ap (moved_by pieces next) (lt-ltb (length next) (least ended) lt)

-- it waits exactly where there are too few
waits_by : (pieces : ℕ) (next : List ℕ) (few : Bool) → IsTrue few ↔ (moved_by pieces next few ≡ Waits)
waits_by pieces next true = (λ e. refl, λ e. refl)
waits_by pieces next false = (λ e. absurd cc, λ e. absurd cc)

pub copy_waits : (pieces : ℕ) (next : List ℕ)
    → IsTrue (ltb (length next) piece_size) ↔ (copy_step pieces false next ≡ Waits)
copy_waits pieces next =
    subst (λ (m : Move ℕ). IsTrue (ltb (length next) piece_size) ↔ (m ≡ Waits))
    (sym (step_is pieces false next)) (waits_by pieces next (ltb (length next) piece_size))

moves : (pieces : ℕ) (ended : Bool) (next : List ℕ) → least ended ≤ length next → IsMove (copy_step pieces ended next)
moves pieces ended next le = subst IsMove (sym (step_takes pieces ended next le)) tt

-- where it moves there are enough
enough_by : (pieces : ℕ) (next : List ℕ) (few : Bool) → ltb (length next) piece_size ≡ few
    → IsMove (moved_by pieces next few) → piece_size ≤ length next
enough_by pieces next true e m = absurd m
enough_by pieces next false e m = elim (cases_lt (length next) piece_size) [
  | inl lt ↦ absurd (let t = lt-ltb (length next) piece_size lt in cc)
  | inr ge ↦ ge
]

least_small : (ended : Bool) → least ended ≤ piece_size
least_small true = omega arith
least_small false = omega arith

least_some : (ended : Bool) → 0 < least ended
least_some true = omega arith
least_some false = omega arith

settles : (pieces : ℕ) (next more : List ℕ) (ended : Bool) → IsMove (copy_step pieces false next)
    → copy_step pieces ended (next ++ more) ≡ copy_step pieces false next
settles pieces next more ended m =
    let le = enough_by pieces next (ltb (length next) piece_size) refl (subst IsMove (step_is pieces false next) m) in
    let long = length-append next more in
    let small = least_small ended in
    let same : piece_of (next ++ more) ≡ piece_of next = omega arith in
    let front : take (piece_of (next ++ more)) (next ++ more) ≡ take (piece_of next) next =
    ap (λ (n : ℕ). take n (next ++ more)) same ∙ take-append-le (piece_of next) next more (omega arith) in
    step_takes pieces ended (next ++ more) (omega arith)
    ∙ ap (λ (n : ℕ). Takes n (take (piece_of (next ++ more)) (next ++ more)) (pieces + 1)) same
    ∙ ap (λ (xs : List ℕ). Takes (piece_of next) xs (pieces + 1)) front
    ∙ sym (step_takes pieces false next le)

within_by : (pieces : ℕ) (next : List ℕ) (ended : Bool) (few : Bool)
    → ltb (length next) (least ended) ≡ few
    → TakesWithin copy_count pieces next (moved_by pieces next few)
within_by pieces next ended true e = tt
within_by pieces next ended false e = elim (cases_lt (length next) (least ended)) [
  | inl lt ↦ absurd (let t = lt-ltb (length next) (least ended) lt in cc)
  | inr ge ↦ (let some = least_some ended in (omega arith, omega arith, refl))
]

pub copy_lawful : IsSession copy_step copy_count
copy_lawful = record {
  settled = settles;
  enough = λ pieces next long. moves pieces false next (omega arith);
  ends = λ pieces next some. moves pieces true next some;
  within = λ pieces next ended.
      subst (TakesWithin copy_count pieces next) (sym (step_is pieces ended next))
      (within_by pieces next ended (ltb (length next) (least ended)) refl);
}
