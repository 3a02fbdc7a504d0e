-- Whether units have the timing of a stream is decided, one unit after the other.
use Rattle.std.proofs.Common.{◌≡◌, ℕ, ◌≤◌, ◌++◌, ◌↔◌, IsTrue, Bool, false, List, [], ◌∷◌, length, inl, inr, refl, sym, ap, subst, arith, length-append, append_assoc}
use Rattle.std.proofs.lemmas.Bool.{cases_lt}
use Rattle.std.proofs.lemmas.List.{append-nil}
use Rattle.mlp_syntax.specs.declared.major.Kind.{Kind}
use Rattle.mlp_fifo.specs.Timed.{TimedUnit, unit_at, AreTimed, LeftChecker, LeavesTimed}
use Rattle.mlp_fifo.specs.Checked.{empty_checker, checked_after}
use Rattle.mlp_fifo.proofs.CheckedLaws.{none_timed, checked_leaves}

pub record Decision (P : Type 0) : Type 0 where
  pub answer : Bool
  pub is : IsTrue answer ↔ P

module _ (kind : Kind) (rate : ℕ) where
  -- an input timing has 16 bits
  too_large : (done : List TimedUnit) (v : TimedUnit) (more : List TimedUnit) → 65536 ≤ v.input → AreTimed kind rate (done ++ v ∷ more) → ⊥
  too_large done v more large t =
      let low = t.has_times.low (length done) (omega (arith, length-append done (v ∷ more))) in
      let here : (unit_at (done ++ v ∷ more) (length done)).input ≡ v.input = ap (λ (u : TimedUnit). u.input) (at_end done) in
      absurd (omega (arith, low, here))
    where
      at_end : (done : List TimedUnit) → unit_at (done ++ v ∷ more) (length done) ≡ v
      at_end [] = refl
      at_end (u ∷ us) = at_end us

  decided_behind : (more done : List TimedUnit) (left : LeftChecker) → LeavesTimed kind rate done left → Decision (AreTimed kind rate (done ++ more))
  decided_behind [] done left h = record { answer = left.timed; is = subst (λ (us : List TimedUnit). IsTrue left.timed ↔ AreTimed kind rate us) (sym (append-nil done)) h.timed_is }
  decided_behind (v ∷ more) done left h = elim (cases_lt v.input 65536) [
    | inl lt ↦ subst (λ (us : List TimedUnit). Decision (AreTimed kind rate us)) (append_assoc done (v ∷ []) more)
        (decided_behind more (done ++ v ∷ []) (checked_after left v) (checked_leaves kind rate done left v h lt))
    | inr ge ↦ record { answer = false; is = ((λ e. absurd cc), λ t. absurd (too_large done v more ge t)) }
  ]

  pub timed_decided : (us : List TimedUnit) → Decision (AreTimed kind rate us)
  timed_decided us = decided_behind us [] (empty_checker kind rate) (none_timed kind rate)
