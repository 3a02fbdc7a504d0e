-- What an answer says of the bytes behind the units that were taken.
use Rattle.std.proofs.Common.{◌≡◌, ◌≢◌, ℕ, not, ◌&&◌, cond, Bool, true, false, List, [], ◌∷◌, ◌++◌, length, Result, Ok, Err, inl, inr, refl, sym, ap, subst, ◌∙◌, arith}
use Rattle.std.proofs.lemmas.Bool.{and_from, and_left, and_right}
use Rattle.mlp_bits.specs.Bits.{bits_of}
use Rattle.mlp_bits.proofs.BitLists.{length-bits_of}
use Rattle.mlp_layout.specs.Streams.{UnitOf, IsNext}
use Rattle.mlp_layout.proofs.StreamLaws.{more_left}
use Rattle.mlp_walk.specs.declared.refusal.Refusal.{Refusal as Declined}
use Rattle.mlp_walk.specs.declared.refusal.Refusal.TheVariants as declined
use Rattle.mlp_walk.specs.Next.{Taken, next_of}
use Rattle.mlp_walk.specs.Meaning as walk
use Rattle.mlp_walk.proofs.WalkLaws.{no_bits, taken_none, units_taken, units_some, unit_next, next_there, some_more, fault_next, fault_begun, lack_next}
use Rattle.mlp_stream.specs.declared.refusal.Refusal.{Refusal}
use Rattle.mlp_stream.specs.declared.refusal.Refusal.TheVariants as refused
use Rattle.mlp_stream.specs.declared.stop.Stop.{Stop}
use Rattle.mlp_stream.specs.declared.stop.Stop.TheVariants.{TooLong}
use Rattle.mlp_answers.specs.Working.{Working, left_of, IsWorking}
use Rattle.mlp_answers.specs.Answers.{refusing, Gives, HasTaken, AreUnits, Worked, IsDecided, Answers, finished, unfinished, breaks, lacks, refuses, waits}
use Rattle.mlp_answers.specs.Reading.{refusal_of}

-- what stands behind the units that were taken
pub data Decision (O C : Type 0) : Type 0 where
  -- it depends on more bytes
  holds : Decision O C
  -- nothing
  ends : Decision O C
  -- a unit
  takes : UnitOf O C → Decision O C
  -- what is refused
  declines : Declined → Decision O C

abbrev pub by_next : {O C : Type 0} → Result (Taken O C) Declined → Decision O C
by_next (Ok t) = takes t.unit
by_next (Err e) = declines e

abbrev pub by_rest : {O C : Type 0} → List (UnitOf O C) → List ℕ → Result (Taken O C) Declined → Decision O C
by_rest [] rest r = by_next r
by_rest (u ∷ us) [] r = ends
by_rest (u ∷ us) (x ∷ rest) r = by_next r

rest_some : {O C : Type 0} (us : List (UnitOf O C)) (rest : List ℕ) (r : Result (Taken O C) Declined) → (us ≢ [] → rest ≢ []) → by_rest us rest r ≡ by_next r
rest_some [] rest r some = refl
rest_some (u ∷ us) [] r some = absurd (some (λ e. cc) refl)
rest_some (u ∷ us) (x ∷ rest) r some = refl

rest_same : {O C : Type 0} (us : List (UnitOf O C)) (rest other : List ℕ) (r : Result (Taken O C) Declined) → length rest ≡ length other → by_rest us rest r ≡ by_rest us other r
rest_same [] rest other r e = refl
rest_same (u ∷ us) [] [] r e = refl
rest_same (u ∷ us) [] (y ∷ other) r e = absurd (omega arith)
rest_same (u ∷ us) (x ∷ rest) [] r e = absurd (omega arith)
rest_same (u ∷ us) (x ∷ rest) (y ∷ other) r e = refl

module _ {L O C : Type 0} (w : Working L O C) (is : IsWorking w) where
  abbrev pub next_behind : List (UnitOf O C) → List ℕ → Result (Taken O C) Declined
  next_behind us rest = next_of w.format w.wanted (length us) (left_of w us) rest

  abbrev pub is_held : Bool → List (UnitOf O C) → List ℕ → Bool
  is_held ended us rest = not ended && w.is_open (left_of w us) rest

  unfoldable pub decide : Bool → List (UnitOf O C) → List ℕ → Decision O C
  decide ended us rest = cond (is_held ended us rest) holds (by_rest us rest (next_behind us rest))

  -- bits alone decide
  pub decide_same : (ended : Bool) (us : List (UnitOf O C)) (rest other : List ℕ) → bits_of rest ≡ bits_of other → decide ended us rest ≡ decide ended us other
  unfolding decide next_of
  decide_same ended us rest other e =
      let long : length rest ≡ length other = omega (arith, ap length e, length-bits_of rest, length-bits_of other) in
      let held : is_held ended us rest ≡ is_held ended us other = ap (λ (b : Bool). not ended && b) (is.open_is.by_bits (left_of w us) rest other e) in
      let next : next_behind us rest ≡ next_behind us other = rw e refl in
      ap (λ (b : Bool). cond b holds (by_rest us rest (next_behind us rest))) held
      ∙ ap (λ (d : Decision O C). cond (is_held ended us other) holds d) (ap (by_rest us rest) next ∙ rest_same us rest other (next_behind us other) long)

  not_held : (ended : Bool) (us : List (UnitOf O C)) (rest : List ℕ) → IsDecided w ended us rest → is_held ended us rest ≡ false
  not_held ended us rest (inl all) = and_left (not ended) (w.is_open (left_of w us) rest) (ap not all)
  not_held ended us rest (inr closed) = and_right (not ended) (w.is_open (left_of w us) rest) closed

  decided : (ended : Bool) (us : List (UnitOf O C)) (rest : List ℕ) → is_held ended us rest ≡ false → (us ≢ [] → rest ≢ [])
      → (r : Result (Taken O C) Declined) → next_behind us rest ≡ r → decide ended us rest ≡ by_next r
  unfolding decide
  decided ended us rest free some r e =
      ap (λ (b : Bool). cond b holds (by_rest us rest (next_behind us rest))) free ∙ ap (by_rest us rest) e ∙ rest_some us rest r some

  held : (ended : Bool) (us : List (UnitOf O C)) (rest : List ℕ) → ended ≡ false → w.is_open (left_of w us) rest ≡ true → decide ended us rest ≡ holds
  unfolding decide
  held ended us rest on opens = ap (λ (b : Bool). cond b holds (by_rest us rest (next_behind us rest))) (and_from (not ended) (w.is_open (left_of w us) rest) (ap not on) opens)

  at_end : (ended : Bool) (u : UnitOf O C) (us : List (UnitOf O C)) → ended ≡ true → decide ended (u ∷ us) [] ≡ ends
  unfolding decide
  at_end ended u us all = ap (λ (b : Bool). cond b holds (by_rest (u ∷ us) [] (next_behind (u ∷ us) []))) (not_held ended (u ∷ us) [] (inl all))

  -- ---- a unit that stands there

  some_left : (us : List (UnitOf O C)) (rest : List ℕ) (u : UnitOf O C) → IsNext w.format (left_of w us) (bits_of rest) u → rest ≢ []
  some_left us rest u next none = more_left w.format is.format_is (left_of w us) (bits_of rest) u next (ap bits_of none ∙ no_bits)

  free_of : (ended : Bool) (us : List (UnitOf O C)) (rest : List ℕ) (u : UnitOf O C) → IsNext w.format (left_of w us) (bits_of rest) u → (b : Bool) → w.is_open (left_of w us) rest ≡ b → is_held ended us rest ≡ false
  free_of ended us rest u next true e = absurd (is.open_is.no_unit (left_of w us) rest u e next)
  free_of ended us rest u next false e = and_right (not ended) (w.is_open (left_of w us) rest) e

  pub decide_takes : (ended : Bool) (bytes : List ℕ) (us : List (UnitOf O C)) (rest : List ℕ) (u : UnitOf O C)
      → HasTaken w bytes us rest → walk.Told w.format w.start w.wanted bytes → IsNext w.format (left_of w us) (bits_of rest) u
      → decide ended us rest ≡ takes u
  decide_takes ended bytes us rest u h told next =
      decided ended us rest (free_of ended us rest u next (w.is_open (left_of w us) rest) refl) (λ some. some_left us rest u next) _ (next_there w.format is.format_is w.start w.wanted bytes us rest u h told next)

  -- ---- an answer says what stands there

  abbrev pub Ended : Result (List ℕ) Refusal → Result Unit Stop → List ℕ → List ℕ → Type 0
  Ended (Ok ys) end xs output = (end ≡ Ok tt) × (output ≡ xs ++ ys)
  Ended (Err r) end xs output = (end ≡ refusing r) × (output ≡ xs)

  abbrev pub Closing : Decision O C → List (UnitOf O C) → Result Unit Stop → List ℕ → List ℕ → Type 0
  Closing holds us end xs output = (end ≡ Err TooLong) × (output ≡ xs)
  Closing ends us end xs output = (r : Result (List ℕ) Refusal) × w.Ends us r × Ended r end xs output
  Closing (takes u) us end xs output = (r : Refusal) × (w.out us u ≡ Err r) × (end ≡ refusing r) × (output ≡ xs)
  Closing (declines e) us end xs output = (end ≡ refusing (refusal_of e)) × (output ≡ xs)

  pub record Closed (ended : Bool) (bytes : List ℕ) (end : Result Unit Stop) (output : List ℕ) : Type 0 where
    pub us : List (UnitOf O C)
    pub rest : List ℕ
    pub xs : List ℕ
    pub worked : Worked w bytes us rest xs
    pub closing : Closing (decide ended us rest) us end xs output

  abbrev ClosingAt : List (UnitOf O C) → Result Unit Stop → List ℕ → List ℕ → Decision O C → Type 0
  ClosingAt us end xs output d = Closing d us end xs output

  units_end : (ended : Bool) (bytes : List ℕ) (us : List (UnitOf O C)) → ended ≡ true → AreUnits w bytes us → decide ended us [] ≡ ends
  units_end ended bytes [] all units = absurd (units_some w.format is.format_is w.start w.wanted bytes [] units refl)
  units_end ended bytes (u ∷ us) all units = at_end ended u us all

  pub closed_of : (ended : Bool) (bytes : List ℕ) (end : Result Unit Stop) (output : List ℕ) → Answers w ended bytes end output → Closed ended bytes end output
  unfolding Gives
  closed_of ended bytes end output (finished us xs ys all units gives out e) = record {
    us = us;
    rest = [];
    xs = xs;
    worked = record { taken = units_taken w.format is.format_is w.start w.wanted bytes us units; gives = gives };
    closing = subst (ClosingAt us (Ok tt) xs output) (sym (units_end ended bytes us all units)) (Ok ys, out, (refl, e));
  }
  closed_of ended bytes end output (unfinished us r all units gives out) = record {
    us = us;
    rest = [];
    xs = output;
    worked = record { taken = units_taken w.format is.format_is w.start w.wanted bytes us units; gives = gives };
    closing = subst (ClosingAt us (refusing r) output output) (sym (units_end ended bytes us all units)) (Err r, out, (refl, refl));
  }
  closed_of ended bytes end output (breaks us rest fault worked n fails d) = record {
    us = us;
    rest = rest;
    xs = output;
    worked = worked;
    closing = subst (ClosingAt us (refusing (refused.Fault fault)) output output)
        (sym (decided ended us rest (not_held ended us rest d) (fault_begun w.format is.format_is w.start w.wanted bytes us rest fault worked.taken n fails) (Err (declined.Fault fault))
        (fault_next w.format is.format_is w.start w.wanted bytes us rest fault worked.taken n fails))) (refl, refl);
  }
  closed_of ended bytes end output (lacks have d decide_is) = record {
    us = [];
    rest = bytes;
    xs = [];
    worked = record { taken = taken_none w.format is.format_is w.start w.wanted bytes; gives = refl };
    closing = subst (ClosingAt [] (refusing (refused.NoPresentation have)) [] [])
        (sym (decided ended [] bytes (not_held ended [] bytes decide_is) (λ some. absurd (some refl)) (Err (declined.NoPresentation have)) (lack_next w.format is.format_is w.start w.wanted bytes have d))) (refl, refl);
  }
  closed_of ended bytes end output (refuses us rest more u r worked taken out) = record {
    us = us;
    rest = rest;
    xs = output;
    worked = worked;
    closing = subst (ClosingAt us (refusing r) output output) (sym (decide_takes ended bytes us rest u worked.taken (taken.there (some_more w.format is.format_is w.start us u []))
        (unit_next w.format is.format_is w.start w.wanted bytes us rest more u worked.taken taken))) (r, out, refl, refl);
  }
  closed_of ended bytes end output (waits us rest on worked opens) = record {
    us = us;
    rest = rest;
    xs = output;
    worked = worked;
    closing = subst (ClosingAt us (Err TooLong) output output) (sym (held ended us rest on opens)) (refl, refl);
  }
