-- What the next unit means for the whole stream.
use Rattle.std.proofs.Common.{◌≡◌, ◌≢◌, ℕ, suc, ◌<◌, ◌≤◌, ◌/◌, ◌++◌, cond, List, [], ◌∷◌, length, drop, Bool, Result, Ok, Err, Option, Some, None, ◌⊎◌, inl, inr, refl, sym, ap, subst, ◌∙◌, arith}
use Rattle.std.proofs.lemmas.Bool.{ne_eqb}
use Rattle.std.proofs.lemmas.List.{nil_from_length}
use Rattle.mlp_syntax.specs.declared.fault.Fault.{Fault}
use Rattle.mlp_bits.specs.Bits.{bits_of}
use Rattle.mlp_bits.proofs.BitLists.{length-bits_of}
use Rattle.mlp_layout.specs.Reading.{broken}
use Rattle.mlp_layout.specs.Streams.{Format, UnitOf, IsFormat, spelling_of, left_after, rest_of, in_unit, IsNext, OuterFails, UnitFails, Begins, Units, UnitsFail, Exists, Has}
use Rattle.mlp_layout.proofs.LayoutLaws.{has_one_reading}
use Rattle.mlp_layout.proofs.StreamLaws.{more_left, begins_none, begins_same, same_unit, one_has, has_one, has_one_end}
use Rattle.mlp_walk.specs.declared.refusal.Refusal.{Refusal}
use Rattle.mlp_walk.specs.declared.refusal.Refusal.TheVariants as refused
use Rattle.mlp_walk.specs.Next.{Taken, fault_of, asked, next_of, TakesBytes}
use Rattle.mlp_walk.specs.Meaning.{Told, AreUnits, Fail, Lack, HasTaken, Means, NextMeans, EndMeans, IsOneWalk}
use Rattle.mlp_walk.proofs.NextLaws.{some_is, none_some, FaultFrom, fault_from, NoneFrom, none_from, told_from, next_found, next_failed, next_lacks, from_unit, begins_on}

pub no_bits : bits_of [] ≡ []
unfolding bits_of
no_bits = refl

asked_later : (wanted : Option ℕ) (n : ℕ) → asked wanted (suc n) ≡ None
asked_later wanted n = ap (λ (c : Bool). cond c wanted None) (ne_eqb (suc n) 0 (λ e. omega arith))

module _ {L O C : Type 0} (f : Format L O C) (is : IsFormat f) (start : L) where
  pub taken_none : (wanted : Option ℕ) (bytes : List ℕ) → HasTaken f start wanted bytes [] bytes
  taken_none wanted bytes = record { begins = begins_none f is start (bits_of bytes); there = λ some. absurd (some refl) }

  -- where no unit was taken, the rest is all
  all_left : (bytes rest : List ℕ) → Begins f start (bits_of bytes) [] (bits_of rest) → bits_of bytes ≡ bits_of rest
  unfolding Begins
  all_left bytes rest b = b

  -- a list of units takes bits
  pub some_bits : (all : List Bool) (us : List (UnitOf O C)) (rest : List Bool) → Begins f start all us rest → us ≢ [] → all ≢ []
  unfolding Begins
  some_bits all [] rest b some = absurd (some refl)
  some_bits all (u ∷ us) rest b some = more_left f is start all u b.0

  -- of two lists of units that bits begin with, the longer goes on behind the shorter
  pub longer : (left : L) (all : List Bool) (us vs : List (UnitOf O C)) (rest other : List Bool) → Begins f left all us rest → Begins f left all vs other → length us < length vs
      → (u : UnitOf O C) × (more : List (UnitOf O C)) × (vs ≡ us ++ u ∷ more)
  unfolding Begins
  longer left all [] [] rest other b c l = absurd (omega arith)
  longer left all [] (v ∷ vs) rest other b c l = (v, vs, refl)
  longer left all (u ∷ us) [] rest other b c l = absurd (omega arith)
  longer left all (u ∷ us) (v ∷ vs) rest other b c l =
      let same : v ≡ u = same_unit f is left all v u c.0 b.0 in
      let moved = subst (λ (w : UnitOf O C). Begins f (f.after left w) (rest_of f left all w) vs other) same c.1 in
      let later = longer (f.after left u) (rest_of f left all u) us vs rest other b.1 moved (omega arith) in
      let list : v ∷ vs ≡ u ∷ (us ++ later.0 ∷ later.1) = let tail = later.2 in cc in
      (later.0, later.1, list)

  -- units behind the first of them
  pub begins_behind : (left : L) (all : List Bool) (us vs : List (UnitOf O C)) (rest other : List Bool) → Begins f left all (us ++ vs) other → Begins f left all us rest → Begins f (left_after f left us) rest vs other
  unfolding Begins
  begins_behind left all [] vs rest other b c = subst (λ (t : List Bool). Begins f left t vs other) c b
  begins_behind left all (u ∷ us) vs rest other b c = begins_behind (f.after left u) (rest_of f left all u) us vs rest other b.1 c.1

  pub first_next : (left : L) (all : List Bool) (u : UnitOf O C) (us : List (UnitOf O C)) (rest : List Bool) → Begins f left all (u ∷ us) rest → IsNext f left all u
  unfolding Begins
  first_next left all u us rest b = b.0

  -- where the bytes are units, they begin with them and nothing is left
  units_begin : (bytes : List ℕ) (us : List (UnitOf O C)) → Units f start (bits_of bytes) us → Begins f start (bits_of bytes) us (bits_of [])
  units_begin bytes us u = subst (Begins f start (bits_of bytes) us) (sym no_bits) u.begins

  pub units_taken : (wanted : Option ℕ) (bytes : List ℕ) (us : List (UnitOf O C)) → AreUnits f start wanted bytes us → HasTaken f start wanted bytes us []
  units_taken None bytes us u = record { begins = units_begin bytes us u; there = λ some. tt }
  units_taken (Some k) bytes us u = record { begins = units_begin bytes us u.units; there = λ some. u.exists }

  some_of : (bytes : List ℕ) (us : List (UnitOf O C)) → Units f start (bits_of bytes) us → us ≢ []
  unfolding Begins
  some_of bytes us u none = u.some (subst (λ (vs : List (UnitOf O C)). Begins f start (bits_of bytes) vs []) none u.begins)

  pub units_some : (wanted : Option ℕ) (bytes : List ℕ) (us : List (UnitOf O C)) → AreUnits f start wanted bytes us → us ≢ []
  units_some None bytes us u = some_of bytes us u
  units_some (Some k) bytes us u = some_of bytes us u.units

  -- ---- a fault

  begun_bits : (bytes rest : List ℕ) → (rest ≢ []) ⊎ (bytes ≡ []) → (bits_of rest ≢ []) ⊎ (bits_of bytes ≡ [])
  begun_bits bytes rest (inl some) = inl (λ none. some (nil_from_length rest (omega (arith, ap length none, length-bits_of rest))))
  begun_bits bytes rest (inr none) = inr (ap bits_of none ∙ no_bits)

  units_fail : (wanted : Option ℕ) (bytes : List ℕ) (us : List (UnitOf O C)) (rest : List ℕ) (fault : Fault) → HasTaken f start wanted bytes us rest → (rest ≢ []) ⊎ (bytes ≡ [])
      → FaultFrom f is wanted (length us) (left_after f start us) rest fault → UnitsFail f start (bits_of bytes) fault
  units_fail wanted bytes us rest fault h begun d = record {
    before = us;
    rest = bits_of rest;
    begins = h.begins;
    number = sym d.unit_fails.number_is;
    begun = begun_bits bytes rest begun;
    fails = d.unit_fails.fails;
  }

  first_fails : (k : ℕ) (bytes rest : List ℕ) (fault : Fault) → bits_of bytes ≡ bits_of rest → fault.unit ≡ 0 → OuterFails f start (bits_of rest) (in_unit fault) ⊎ Exists f start k (bits_of rest)
      → ((fault.unit ≡ 0) × OuterFails f start (bits_of bytes) (in_unit fault)) ⊎ Exists f start k (bits_of bytes)
  first_fails k bytes rest fault all n (inl outer) = inl (n, subst (λ (t : List Bool). OuterFails f start t (in_unit fault)) (sym all) outer)
  first_fails k bytes rest fault all n (inr there) = inr (subst (λ (t : List Bool). Exists f start k t) (sym all) there)

  fault_told : (k : ℕ) (bytes : List ℕ) (us : List (UnitOf O C)) (rest : List ℕ) (fault : Fault) → HasTaken f start (Some k) bytes us rest → FaultFrom f is (Some k) (length us) (left_after f start us) rest fault
      → ((fault.unit ≡ 0) × OuterFails f start (bits_of bytes) (in_unit fault)) ⊎ Exists f start k (bits_of bytes)
  fault_told k bytes [] rest fault h d = first_fails k bytes rest fault (all_left bytes rest h.begins) d.unit_fails.number_is (d.told k refl)
  fault_told k bytes (u ∷ us) rest fault h d = inr (h.there (λ e. cc))

  fails : (wanted : Option ℕ) (bytes : List ℕ) (us : List (UnitOf O C)) (rest : List ℕ) (fault : Fault) → HasTaken f start wanted bytes us rest → (rest ≢ []) ⊎ (bytes ≡ [])
      → FaultFrom f is wanted (length us) (left_after f start us) rest fault → Fail f start wanted bytes fault
  fails None bytes us rest fault h begun d = units_fail None bytes us rest fault h begun d
  fails (Some k) bytes us rest fault h begun d = record { fails = units_fail (Some k) bytes us rest fault h begun d; exists = fault_told k bytes us rest fault h d }

  -- ---- no presentation

  lacks : (wanted : Option ℕ) (bytes : List ℕ) (us : List (UnitOf O C)) (rest : List ℕ) (have : ℕ) → HasTaken f start wanted bytes us rest → NoneFrom f is wanted (length us) (left_after f start us) rest have
      → (us ≡ []) × Lack f start wanted bytes have
  lacks wanted bytes (u ∷ us) rest have h d = absurd (none_some d.k (sym (asked_later wanted (length us)) ∙ d.asked_for))
  lacks None bytes [] rest have h d = absurd (none_some d.k d.asked_for)
  lacks (Some k) bytes [] rest have h d =
      let same : k ≡ d.k = let e = d.asked_for in cc in
      (refl, (subst (λ (t : List Bool). Has f start t have) (sym (all_left bytes rest h.begins)) d.has, omega (arith, d.missing)))

  module _ (b : TakesBytes f) where
    -- ---- a unit

    still_told : (wanted : Option ℕ) (bytes : List ℕ) (us : List (UnitOf O C)) (rest : List ℕ) (t : Taken O C) → HasTaken f start wanted bytes us rest → next_of f wanted (length us) (left_after f start us) rest ≡ Ok t
        → Told f start wanted bytes
    still_told None bytes us rest t h e = tt
    still_told (Some k) bytes [] rest t h e = subst (λ (s : List Bool). Exists f start k s) (sym (all_left bytes rest h.begins)) (told_from f is (Some k) 0 start rest t e k refl)
    still_told (Some k) bytes (u ∷ us) rest t h e = h.there (λ e. cc)

    pub takes_one : (wanted : Option ℕ) (bytes : List ℕ) (us : List (UnitOf O C)) (rest : List ℕ) (t : Taken O C) → HasTaken f start wanted bytes us rest → next_of f wanted (length us) (left_after f start us) rest ≡ Ok t
        → HasTaken f start wanted bytes (us ++ t.unit ∷ []) (drop t.size rest)
    takes_one wanted bytes us rest t h e = record {
      begins = begins_on f is b start (bits_of bytes) us rest t h.begins (from_unit f is b wanted (length us) (left_after f start us) rest t e);
      there = λ some. still_told wanted bytes us rest t h e;
    }

    by_answer : (wanted : Option ℕ) (bytes : List ℕ) (us : List (UnitOf O C)) (rest : List ℕ) → HasTaken f start wanted bytes us rest → (rest ≢ []) ⊎ (bytes ≡ [])
        → (r : Result (Taken O C) Refusal) → next_of f wanted (length us) (left_after f start us) rest ≡ r → Means f start wanted bytes us rest r
    by_answer wanted bytes us rest h begun (Ok t) e = takes_one wanted bytes us rest t h e
    by_answer wanted bytes us rest h begun (Err (refused.Fault fault)) e = fails wanted bytes us rest fault h begun (fault_from f is wanted (length us) (left_after f start us) rest fault e)
    by_answer wanted bytes us rest h begun (Err (refused.NoPresentation n)) e = lacks wanted bytes us rest n h (none_from f is wanted (length us) (left_after f start us) rest n e)

    pub law_next : NextMeans f start
    law_next wanted bytes us rest h begun = by_answer wanted bytes us rest h begun (next_of f wanted (length us) (left_after f start us) rest) refl

  -- ---- the end

  pub law_end : EndMeans f start
  law_end wanted bytes us h some = by_wanted wanted h
    where
      all : (w : Option ℕ) → HasTaken f start w bytes us [] → Units f start (bits_of bytes) us
      all w k = let begins = subst (Begins f start (bits_of bytes) us) no_bits k.begins in record { begins = begins; some = some_bits (bits_of bytes) us [] begins some }

      by_wanted : (w : Option ℕ) → HasTaken f start w bytes us [] → AreUnits f start w bytes us
      by_wanted None k = all None k
      by_wanted (Some n) k = record { units = all (Some n) k; exists = k.there some }

  -- ---- one of the three

  pub one_walk : (wanted : Option ℕ) (bytes : List ℕ) → IsOneWalk f start wanted bytes
  one_walk None bytes =
      let one = has_one_end f is start (bits_of bytes) in
      record {
        some = elim one.some [ inl us ↦ inl us | inr fault ↦ inr (inl fault) ];
        not_units_and_fault = one.not_both;
        not_units_and_lack = λ us have s n. n;
        not_fault_and_lack = λ fault have d n. n;
        one_list = one.one_list;
        one_fault = one.one_fault;
        one_number = λ g h n m. absurd n;
      }
  one_walk (Some k) bytes =
      let one = has_one f is start k (bits_of bytes) in
      record {
        some = one.some;
        not_units_and_fault = one.not_stream_and_breaks;
        not_units_and_lack = one.not_stream_and_none;
        not_fault_and_lack = one.not_breaks_and_none;
        one_list = one.one_list;
        one_fault = one.one_fault;
        one_number = one.one_number;
      }

  -- ---- the other way round: what is there decides what comes of the next unit

  -- the number of presentations that the first unit tells isn't too small, where it tells the presentation
  record HasEnough (wanted : Option ℕ) (us : List (UnitOf O C)) (rest : List ℕ) : Type 0 where
    none : (k have : ℕ) → asked wanted (length us) ≡ Some k → Has f (left_after f start us) (bits_of rest) have → have ≤ k → ⊥

  told_enough : (k : ℕ) (all : List Bool) → Exists f start k all → (have : ℕ) → Has f start all have → have ≤ k → ⊥
  told_enough k all told have has few = let same = one_has f is start all told.0 have told.1 has in omega (arith, told.2)

  exists_at : (k j : ℕ) (bytes rest : List ℕ) → Begins f start (bits_of bytes) [] (bits_of rest) → Some k ≡ Some j → Exists f start k (bits_of bytes) → Exists f start j (bits_of rest)
  exists_at k j bytes rest b e told =
      subst (λ (m : ℕ). Exists f start m (bits_of rest)) (some_is k j e) (subst (λ (t : List Bool). Exists f start k t) (all_left bytes rest b) told)

  enough : (wanted : Option ℕ) (bytes : List ℕ) (us : List (UnitOf O C)) (rest : List ℕ) → Begins f start (bits_of bytes) us (bits_of rest) → Told f start wanted bytes → HasEnough wanted us rest
  enough wanted bytes (u ∷ us) rest b told = record { none = λ k have e has few. none_some k (sym (asked_later wanted (length us)) ∙ e) }
  enough None bytes [] rest b told = record { none = λ k have e has few. none_some k e }
  enough (Some n) bytes [] rest b told = record { none = λ k have e has few. told_enough k (bits_of rest) (exists_at n k bytes rest b e told) have has few }

  -- a unit is next
  pub unit_next : (wanted : Option ℕ) (bytes : List ℕ) (us : List (UnitOf O C)) (rest more : List ℕ) (u : UnitOf O C) → HasTaken f start wanted bytes us rest → HasTaken f start wanted bytes (us ++ u ∷ []) more
      → IsNext f (left_after f start us) (bits_of rest) u
  unit_next wanted bytes us rest more u h k =
      first_next (left_after f start us) (bits_of rest) u [] (bits_of more) (begins_behind start (bits_of bytes) us (u ∷ []) (bits_of rest) (bits_of more) k.begins h.begins)

  pub next_there : (wanted : Option ℕ) (bytes : List ℕ) (us : List (UnitOf O C)) (rest : List ℕ) (u : UnitOf O C)
      → HasTaken f start wanted bytes us rest → Told f start wanted bytes → IsNext f (left_after f start us) (bits_of rest) u
      → next_of f wanted (length us) (left_after f start us) rest ≡ Ok (record { size = length (spelling_of f (left_after f start us) u) / 8; unit = u })
  next_there wanted bytes us rest u h told next = next_found f is wanted (length us) (left_after f start us) rest u next (enough wanted bytes us rest h.begins told).none

  pub some_more : (us : List (UnitOf O C)) (u : UnitOf O C) (more : List (UnitOf O C)) → us ++ u ∷ more ≢ []
  some_more [] u more e = cc
  some_more (v ∷ us) u more e = cc

  -- a fault is
  record FailsHere (us : List (UnitOf O C)) (rest : List ℕ) (fault : Fault) : Type 0 where
    here : UnitFails f (left_after f start us) (bits_of rest) (in_unit fault)
    begun : us ≢ [] → bits_of rest ≢ []

  fails_here : (wanted : Option ℕ) (bytes : List ℕ) (us : List (UnitOf O C)) (rest : List ℕ) (fault : Fault) → HasTaken f start wanted bytes us rest → length us ≡ fault.unit → UnitsFail f start (bits_of bytes) fault
      → FailsHere us rest fault
  fails_here wanted bytes us rest fault h n d =
      let same = begins_same f is start (bits_of bytes) d.before us d.rest (bits_of rest) (omega (arith, d.number, n)) d.begins h.begins in
      record {
        here = subst (λ (t : List Bool). UnitFails f (left_after f start us) t (in_unit fault)) same.1 (subst (λ (vs : List (UnitOf O C)). UnitFails f (left_after f start vs) d.rest (in_unit fault)) same.0 d.fails);
        begun = λ some. elim d.begun [
          | inl there ↦ (λ e. there (same.1 ∙ e))
          | inr none ↦ absurd (some_bits (bits_of bytes) us (bits_of rest) h.begins some none)
        ];
      }

  units_fault : (wanted : Option ℕ) (bytes : List ℕ) (fault : Fault) → Fail f start wanted bytes fault → UnitsFail f start (bits_of bytes) fault
  units_fault None bytes fault d = d
  units_fault (Some k) bytes fault d = d.fails

  -- the outer part fails, or tells the presentation
  fault_enough : (wanted : Option ℕ) (bytes : List ℕ) (us : List (UnitOf O C)) (rest : List ℕ) (fault : Fault) → HasTaken f start wanted bytes us rest → Fail f start wanted bytes fault → HasEnough wanted us rest
  fault_enough wanted bytes (u ∷ us) rest fault h d = record { none = λ k have e has few. none_some k (sym (asked_later wanted (length us)) ∙ e) }
  fault_enough None bytes [] rest fault h d = record { none = λ k have e has few. none_some k e }
  fault_enough (Some n) bytes [] rest fault h d = record {
    none = λ k have e has few. elim d.exists [
      | inl outer ↦ (let fails = subst (λ (t : List Bool). OuterFails f start t (in_unit fault)) (all_left bytes rest h.begins) outer.1 in
          (has_one_reading (is.outer_is start) (bits_of rest) 0 (omega arith)).not_both has.0 (broken fault.field fault.bit) has.1 fails.1)
      | inr told ↦ told_enough k (bits_of rest) (exists_at n k bytes rest h.begins e told) have has few
    ];
  }

  fault_is : (fault : Fault) (n : ℕ) → n ≡ fault.unit → fault_of n (in_unit fault) ≡ fault
  fault_is fault n e = ap (λ (m : ℕ). fault_of m (in_unit fault)) e

  pub fault_next : (wanted : Option ℕ) (bytes : List ℕ) (us : List (UnitOf O C)) (rest : List ℕ) (fault : Fault) → HasTaken f start wanted bytes us rest → length us ≡ fault.unit → Fail f start wanted bytes fault
      → next_of f wanted (length us) (left_after f start us) rest ≡ Err (refused.Fault fault)
  fault_next wanted bytes us rest fault h n d =
      let here = fails_here wanted bytes us rest fault h n (units_fault wanted bytes fault d) in
      next_failed f is wanted (length us) (left_after f start us) rest (in_unit fault) here.here (fault_enough wanted bytes us rest fault h d).none
      ∙ ap (λ (e : Fault). Err (refused.Fault e)) (fault_is fault (length us) n)

  -- behind a unit bytes are left then
  pub fault_begun : (wanted : Option ℕ) (bytes : List ℕ) (us : List (UnitOf O C)) (rest : List ℕ) (fault : Fault)
      → HasTaken f start wanted bytes us rest → length us ≡ fault.unit → Fail f start wanted bytes fault → us ≢ [] → rest ≢ []
  fault_begun wanted bytes us rest fault h n d some e = (fails_here wanted bytes us rest fault h n (units_fault wanted bytes fault d)).begun some (ap bits_of e ∙ no_bits)

  -- the presentation isn't there
  pub lack_next : (wanted : Option ℕ) (bytes : List ℕ) (have : ℕ) → Lack f start wanted bytes have → next_of f wanted 0 start bytes ≡ Err (refused.NoPresentation have)
  lack_next None bytes have d = absurd d
  lack_next (Some k) bytes have d = next_lacks f is (Some k) 0 start bytes k have refl d.0 d.1
