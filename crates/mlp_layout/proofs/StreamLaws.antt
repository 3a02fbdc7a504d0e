-- Exactly one of stream, break and no presentation.
use Rattle.std.proofs.Common.{◌≡◌, ◌≢◌, ℕ, zero, suc, ◌+◌, ◌<◌, ◌≤◌, List, Bool, [], ◌∷◌, ◌++◌, length, Result, Ok, Err, ◌⊎◌, inl, inr, refl, sym, ap, subst, ◌∙◌, arith}
use Rattle.std.proofs.lemmas.Bool.{cases_lt}
use Rattle.std.proofs.lemmas.List.{nil_from_length, length-drop, drop-append-le}
use Rattle.mlp_syntax.specs.declared.fault.Fault.{Fault}
use Rattle.mlp_layout.specs.Reading.{Read, broken}
use Rattle.mlp_layout.specs.Layout.{Found, Sound, behind, HasOneReading}
use Rattle.mlp_layout.specs.Contents.{SoundIn, UnitFault}
use Rattle.mlp_layout.specs.Streams.{UnitOf, Format, in_unit, spelling_of, rest_of, IsNext, OuterFails, UnitFails, read_unit, then_contents, with_outer}
use Rattle.mlp_layout.specs.Streams.{left_after, Begins, Units, UnitsFail, HasOneEnd, Has, Exists, Stream, Breaks, NoPres, HasOne, IsFormat}
use Rattle.mlp_layout.proofs.LayoutLaws.{has_one_reading}
use Rattle.mlp_layout.proofs.Settled.{found_more}

no_bits : (all : List Bool) → 0 < length all → all ≢ []
no_bits all lt e = omega (arith, ap length e)

some_or_none : (all : List Bool) → (all ≢ []) ⊎ (all ≡ [])
some_or_none [] = inr refl
some_or_none (b ∷ all) = inl (λ e. cc)

module _ {L O C : Type 0} (f : Format L O C) (is : IsFormat f) where
  -- ---- one unit

  abbrev SoundUnit : L → List Bool → Result (UnitOf O C × ℕ) UnitFault → Type 0
  SoundUnit left all (Ok x) = IsNext f left all x.0 × (x.1 ≡ length (spelling_of f left x.0))
  SoundUnit left all (Err e) = UnitFails f left all e

  contents_sound : (left : L) (all : List Bool) (o : O × ℕ) → Found (f.outer left) all 0 o.0 → o.1 ≡ behind (f.outer left) 0 o.0
      → (r : Result C UnitFault) → SoundIn (f.contents left o.0) ((f.outer left).spelling o.0) r → SoundUnit left all (with_outer f o r)
  contents_sound left all o h at (Ok c) s = (record { outer = h; contents = s }, omega (arith, at))
  contents_sound left all o h at (Err e) s = inr (o.0, h, s)

  outer_sound : (left : L) (all : List Bool) (r : Read O) → Sound (f.outer left) all 0 r → SoundUnit left all (then_contents f left r)
  outer_sound left all (Ok o) s = contents_sound left all o s.0 s.1 ((f.contents left o.0).read ((f.outer left).spelling o.0)) ((is.contents_are left o.0).sound ((f.outer left).spelling o.0))
  outer_sound left all (Err b) s = inl (refl, s)

  -- what reading a unit gives is there
  pub unit_sound : (left : L) (all : List Bool) → SoundUnit left all (read_unit f left all)
  unit_sound left all = outer_sound left all ((f.outer left).read all 0) ((is.outer_is left).sound all 0 (omega arith))

  abbrev unit_ok : UnitOf O C × ℕ → Result (UnitOf O C × ℕ) UnitFault
  unit_ok x = Ok x

  -- the next unit is read
  pub unit_found : (left : L) (all : List Bool) (u : UnitOf O C) → IsNext f left all u → read_unit f left all ≡ Ok (u, length (spelling_of f left u))
  unit_found left all u h =
      let one = (is.outer_is left).found all 0 u.outer h.outer in
      let two = (is.contents_are left u.outer).found (spelling_of f left u) u.contents h.contents in
      let end : 0 + length (spelling_of f left u) ≡ length (spelling_of f left u) = omega arith in
      rw (one, two) (ap (λ (n : ℕ). unit_ok (u, n)) end)

  abbrev unit_err : UnitFault → Result (UnitOf O C × ℕ) UnitFault
  unit_err e = Err e

  -- the fault is given
  pub unit_failed : (left : L) (all : List Bool) (e : UnitFault) → UnitFails f left all e → read_unit f left all ≡ Err e
  unit_failed left all e (inl h) =
      let one = (is.outer_is left).failed all 0 (broken e.field e.bit) h.1 in
      rw one (ap (λ (n : ℕ). unit_err (record { substream = n; field = e.field; bit = e.bit })) (sym h.0))
  unit_failed left all e (inr h) =
      let one = (is.outer_is left).found all 0 h.0 h.1 in
      let two = (is.contents_are left h.0).failed ((f.outer left).spelling h.0) e h.2 in
      rw (one, two) refl

  unit_or_fault : (left : L) (all : List Bool) (r : Result (UnitOf O C × ℕ) UnitFault) → SoundUnit left all r → ((u : UnitOf O C) × IsNext f left all u) ⊎ ((e : UnitFault) × UnitFails f left all e)
  unit_or_fault left all (Ok x) s = inl (x.0, s.0)
  unit_or_fault left all (Err e) s = inr (e, s)

  one_unit : (left : L) (all : List Bool) → ((u : UnitOf O C) × IsNext f left all u) ⊎ ((e : UnitFault) × UnitFails f left all e)
  one_unit left all = unit_or_fault left all (read_unit f left all) (unit_sound left all)

  ok_is : (x y : UnitOf O C × ℕ) → unit_ok x ≡ unit_ok y → x ≡ y
  ok_is x y e = cc

  err_is : (d e : UnitFault) → unit_err d ≡ unit_err e → d ≡ e
  err_is d e h = cc

  pub same_unit : (left : L) (all : List Bool) (u v : UnitOf O C) → IsNext f left all u → IsNext f left all v → u ≡ v
  same_unit left all u v h k = ap (λ (x : UnitOf O C × ℕ). x.0) (ok_is _ _ (sym (unit_found left all u h) ∙ unit_found left all v k))

  pub same_fault : (left : L) (all : List Bool) (d e : UnitFault) → UnitFails f left all d → UnitFails f left all e → d ≡ e
  same_fault left all d e h k = err_is d e (sym (unit_failed left all d h) ∙ unit_failed left all e k)

  pub not_both : (left : L) (all : List Bool) (u : UnitOf O C) (e : UnitFault) → IsNext f left all u → UnitFails f left all e → ⊥
  not_both left all u e h k = let a = unit_found left all u h in let b = unit_failed left all e k in absurd cc

  -- a unit takes bits
  pub has_bits : (left : L) (all : List Bool) (u : UnitOf O C) → IsNext f left all u → 0 < length (spelling_of f left u)
  has_bits left all u h = is.takes_bits left u.outer h.outer.fits

  pub more_left : (left : L) (all : List Bool) (u : UnitOf O C) → IsNext f left all u → all ≢ []
  more_left left all u h = no_bits all (omega (arith, h.outer.stands.within, has_bits left all u h))

  -- ---- units and the fault behind them

  -- so many units, bits left behind them, and then this fault
  FailsAt : L → List Bool → ℕ → UnitFault → Type 0
  FailsAt left all zero e = UnitFails f left all e
  FailsAt left all (suc n) e = (u : UnitOf O C) × IsNext f left all u × (rest_of f left all u ≢ []) × FailsAt (f.after left u) (rest_of f left all u) n e

  -- behind a unit that began, bits are left
  left_behind : (left : L) (all : List Bool) (us : List (UnitOf O C)) (rest : List Bool) → Begins f left all us rest → rest ≢ [] → all ≢ []
  unfolding Begins
  left_behind left all [] rest b some e = some (sym b ∙ e)
  left_behind left all (u ∷ us) rest b some e = more_left left all u b.0 e

  fails_at : (left : L) (all : List Bool) (us : List (UnitOf O C)) (rest : List Bool) (e : UnitFault) → Begins f left all us rest
      → (us ≢ [] → rest ≢ []) → UnitFails f (left_after f left us) rest e → FailsAt left all (length us) e
  unfolding Begins FailsAt
  fails_at left all [] rest e b some h = subst (λ (t : List Bool). UnitFails f left t e) (sym b) h
  fails_at left all (u ∷ us) rest e b some h = (
    u,
    b.0,
    left_behind (f.after left u) (rest_of f left all u) us rest b.1 (some (λ e. cc)),
    fails_at (f.after left u) (rest_of f left all u) us rest e b.1 (λ more. some (λ e. cc)) h,
  )

  -- bits are left behind the first unit
  still_begun : (left : L) (all : List Bool) (us : List (UnitOf O C)) (rest : List Bool) → Begins f left all us rest → (rest ≢ []) ⊎ (all ≡ []) → us ≢ [] → rest ≢ []
  unfolding Begins
  still_begun left all us rest b (inl some) more = some
  still_begun left all [] rest b (inr none) more = absurd (more refl)
  still_begun left all (u ∷ us) rest b (inr none) more = absurd (more_left left all u b.0 none)

  units_fail_at : (start : L) (all : List Bool) (fault : Fault) → UnitsFail f start all fault → FailsAt start all fault.unit (in_unit fault)
  units_fail_at start all fault h =
      subst (λ (n : ℕ). FailsAt start all n (in_unit fault)) h.number (fails_at start all h.before h.rest (in_unit fault) h.begins (still_begun start all h.before h.rest h.begins h.begun) h.fails)

  abbrev fault_of : ℕ → UnitFault → Fault
  fault_of n e = record { unit = n; substream = e.substream; field = e.field; bit = e.bit }

  -- the other way round
  units_fail : (left : L) (all : List Bool) (n : ℕ) (e : UnitFault) → FailsAt left all n e
      → (us : List (UnitOf O C)) × (rest : List Bool) × Begins f left all us rest × (length us ≡ n) × ((rest ≢ []) ⊎ (all ≡ [])) × UnitFails f (left_after f left us) rest e
  unfolding Begins FailsAt
  units_fail left all zero e h = ([], all, refl, refl, some_or_none all, h)
  units_fail left all (suc n) e (u, next, more, h) =
      let later = units_fail (f.after left u) (rest_of f left all u) n e h in
      let some : (later.1 ≢ []) ⊎ (all ≡ []) = elim later.4 [
        | inl there ↦ inl there
        | inr none ↦ absurd (more none)
      ] in
      (u ∷ later.0, later.1, (next, later.2), ap suc later.3, some, later.5)

  failing : (start : L) (all : List Bool) (n : ℕ) (e : UnitFault) → FailsAt start all n e → UnitsFail f start all (fault_of n e)
  failing start all n e h = let it = units_fail start all n e h in record { before = it.0; rest = it.1; begins = it.2; number = it.3; begun = it.4; fails = it.5 }

  units_or_fault : (left : L) (all : List Bool) (us : List (UnitOf O C)) (n : ℕ) (e : UnitFault) → all ≢ [] → Begins f left all us [] → FailsAt left all n e → ⊥
  unfolding Begins FailsAt
  units_or_fault left all [] n e some s b = some s
  units_or_fault left all (u ∷ us) zero e some s b = not_both left all u e s.0 b
  units_or_fault left all (u ∷ us) (suc n) e some s b =
      let same : b.0 ≡ u = same_unit left all b.0 u b.1 s.0 in
      let moved = subst (λ (v : UnitOf O C). (rest_of f left all v ≢ []) × FailsAt (f.after left v) (rest_of f left all v) n e) same (b.2, b.3) in
      units_or_fault (f.after left u) (rest_of f left all u) us n e moved.0 s.1 moved.1

  one_begins : (left : L) (all : List Bool) (us vs : List (UnitOf O C)) → Begins f left all us [] → Begins f left all vs [] → us ≡ vs
  unfolding Begins
  one_begins left all [] [] s t = refl
  one_begins left all [] (v ∷ vs) s t = absurd (more_left left all v t.0 s)
  one_begins left all (u ∷ us) [] s t = absurd (more_left left all u s.0 t)
  one_begins left all (u ∷ us) (v ∷ vs) s t =
      let same : v ≡ u = same_unit left all v u t.0 s.0 in
      let later = one_begins (f.after left u) (rest_of f left all u) us vs s.1 (subst (λ (w : UnitOf O C). Begins f (f.after left w) (rest_of f left all w) vs []) same t.1) in
      cc

  one_failing : (left : L) (all : List Bool) (m n : ℕ) (d e : UnitFault) → FailsAt left all m d → FailsAt left all n e → (m ≡ n) × (d ≡ e)
  unfolding FailsAt
  one_failing left all zero zero d e a b = (refl, same_fault left all d e a b)
  one_failing left all zero (suc n) d e a b = absurd (not_both left all b.0 d b.1 a)
  one_failing left all (suc m) zero d e a b = absurd (not_both left all a.0 e a.1 b)
  one_failing left all (suc m) (suc n) d e a b =
      let same : b.0 ≡ a.0 = same_unit left all b.0 a.0 b.1 a.1 in
      let later = one_failing (f.after left a.0) (rest_of f left all a.0) m n d e a.3 (subst (λ (v : UnitOf O C). FailsAt (f.after left v) (rest_of f left all v) n e) same b.3) in
      (ap suc later.0, later.1)

  same_fault_of : (d e : Fault) → d.unit ≡ e.unit → in_unit d ≡ in_unit e → d ≡ e
  same_fault_of d e n s =
      let sub : d.substream ≡ e.substream = ap (λ (x : UnitFault). x.substream) s in
      let field : d.field ≡ e.field = ap (λ (x : UnitFault). x.field) s in
      let bit : d.bit ≡ e.bit = ap (λ (x : UnitFault). x.bit) s in
      let same : record { unit = d.unit; substream = d.substream; field = d.field; bit = d.bit } ≡ record { unit = e.unit; substream = e.substream; field = e.field; bit = e.bit } = rw (n, sub, field, bit) refl in
      same

  one_units_fault : (start : L) (all : List Bool) (d e : Fault) → UnitsFail f start all d → UnitsFail f start all e → d ≡ e
  one_units_fault start all d e a b =
      let same = one_failing start all d.unit e.unit (in_unit d) (in_unit e) (units_fail_at start all d a) (units_fail_at start all e b) in
      same_fault_of d e same.0 same.1

  -- ---- units or a fault there are

  Ends : L → List Bool → Type 0
  Ends left all = ((u : UnitOf O C) × (us : List (UnitOf O C)) × Begins f left all (u ∷ us) []) ⊎ ((n : ℕ) × (e : UnitFault) × FailsAt left all n e)

  ends_after : (left : L) (all : List Bool) (u : UnitOf O C) → IsNext f left all u → rest_of f left all u ≢ [] → Ends (f.after left u) (rest_of f left all u) → Ends left all
  unfolding Begins FailsAt Ends
  ends_after left all u next more (inl s) = inl (u, s.0 ∷ s.1, (next, s.2))
  ends_after left all u next more (inr b) = inr (suc b.0, b.1, (u, next, more, b.2))

  ends_here : (left : L) (all : List Bool) (u : UnitOf O C) → IsNext f left all u → rest_of f left all u ≡ [] → Ends left all
  unfolding Begins Ends
  ends_here left all u next none = inl (u, [], (next, none))

  ends : (fuel : ℕ) (left : L) (all : List Bool) → length all ≤ fuel → Ends left all
  unfolding FailsAt Ends
  ends zero left all enough = elim (one_unit left all) [
    | inl u ↦ absurd (more_left left all u.0 u.1 (nil_from_length all (omega arith)))
    | inr b ↦ inr (0, b.0, b.1)
  ]
  ends (suc fuel) left all enough = elim (one_unit left all) [
    | inl u ↦ elim (cases_lt 0 (length (rest_of f left all u.0))) [
      | inl lt ↦ ends_after left all u.0 u.1 (no_bits (rest_of f left all u.0) lt)
          (ends fuel (f.after left u.0) (rest_of f left all u.0) (omega (arith, length-drop (length (spelling_of f left u.0)) all, u.1.outer.stands.within, has_bits left all u.0 u.1)))
      | inr ge ↦ ends_here left all u.0 u.1 (nil_from_length (rest_of f left all u.0) (omega arith))
    ]
    | inr b ↦ inr (0, b.0, b.1)
  ]

  units_of : (start : L) (all : List Bool) (u : UnitOf O C) (us : List (UnitOf O C)) → Begins f start all (u ∷ us) [] → Units f start all (u ∷ us)
  unfolding Begins
  units_of start all u us b = record { begins = b; some = more_left start all u b.0 }

  end_of : (start : L) (all : List Bool) → Ends start all → ((us : List (UnitOf O C)) × Units f start all us) ⊎ ((fault : Fault) × UnitsFail f start all fault)
  unfolding Ends
  end_of start all (inl s) = inl (s.0 ∷ s.1, units_of start all s.0 s.1 s.2)
  end_of start all (inr b) = inr (fault_of b.0 b.1, failing start all b.0 b.1 b.2)

  not_units_and_fault : (start : L) (all : List Bool) (us : List (UnitOf O C)) (fault : Fault) → Units f start all us → UnitsFail f start all fault → ⊥
  not_units_and_fault start all us fault u b = units_or_fault start all us fault.unit (in_unit fault) u.some u.begins (units_fail_at start all fault b)

  -- bits are units or fail, and not both
  pub has_one_end : (start : L) (all : List Bool) → HasOneEnd f start all
  has_one_end start all = record {
    some = end_of start all (ends (length all) start all (omega arith));
    not_both = not_units_and_fault start all;
    one_list = λ us vs s t. one_begins start all us vs s.begins t.begins;
    one_fault = one_units_fault start all;
  }

  -- ---- the three cases

  has_of : (left : L) (all : List Bool) (u : UnitOf O C) → IsNext f left all u → Has f left all (f.presentations u.outer)
  has_of left all u next = (u.outer, next.outer, refl)

  one_outer : (left : L) (all : List Bool) → HasOneReading (f.outer left) all 0
  one_outer left all = has_one_reading (is.outer_is left) all 0 (omega arith)

  pub one_has : (left : L) (all : List Bool) (g h : ℕ) → Has f left all g → Has f left all h → g ≡ h
  one_has left all g h a b = sym a.2 ∙ ap f.presentations ((one_outer left all).one_value a.0 b.0 a.1 b.1) ∙ b.2

  -- the first unit's outer part fails, or tells a number
  has_units : (start : L) (all : List Bool) (us : List (UnitOf O C)) → all ≢ [] → Begins f start all us [] → (have : ℕ) × Has f start all have
  unfolding Begins
  has_units start all [] some b = absurd (some b)
  has_units start all (u ∷ us) some b = (f.presentations u.outer, has_of start all u b.0)

  has_failing : (start : L) (all : List Bool) (n : ℕ) (e : UnitFault) → FailsAt start all n e → ((n ≡ 0) × OuterFails f start all e) ⊎ ((have : ℕ) × Has f start all have)
  unfolding FailsAt
  has_failing start all zero e (inl h) = inl (refl, h)
  has_failing start all zero e (inr h) = inr (f.presentations h.0, (h.0, h.1, refl))
  has_failing start all (suc n) e h = inr (f.presentations h.0.outer, has_of start all h.0 h.1)

  Case : L → ℕ → List Bool → Type 0
  Case start k all = ((us : List (UnitOf O C)) × Stream f start k all us) ⊎ (((fault : Fault) × Breaks f start k all fault) ⊎ ((have : ℕ) × NoPres f start k all have))

  -- the number of presentations is known
  told : (start : L) (k : ℕ) (all : List Bool) (have : ℕ) → Has f start all have → (Exists f start k all → Case start k all) → Case start k all
  unfolding Case
  told start k all have h there = elim (cases_lt k have) [
    | inl lt ↦ there (have, h, lt)
    | inr ge ↦ inr (inr (have, (h, ge)))
  ]

  case_of : (start : L) (k : ℕ) (all : List Bool) → ((us : List (UnitOf O C)) × Units f start all us) ⊎ ((fault : Fault) × UnitsFail f start all fault) → Case start k all
  unfolding Case
  case_of start k all (inl s) =
      let has = has_units start all s.0 s.1.some s.1.begins in
      told start k all has.0 has.1 (λ exists. inl (s.0, record { units = s.1; exists = exists }))
  case_of start k all (inr b) = elim (has_failing start all b.0.unit (in_unit b.0) (units_fail_at start all b.0 b.1)) [
    | inl o ↦ inr (inl (b.0, record { fails = b.1; exists = inl o }))
    | inr has ↦ told start k all has.0 has.1 (λ exists. inr (inl (b.0, record { fails = b.1; exists = inr exists })))
  ]

  -- bits are a stream for k, break, or have no such presentation, and no two of these
  pub has_one : (start : L) (k : ℕ) (all : List Bool) → HasOne f start k all
  unfolding Case
  has_one start k all = record {
    some = case_of start k all (has_one_end start all).some;
    not_stream_and_breaks = λ us fault s b. not_units_and_fault start all us fault s.units b.fails;
    not_stream_and_none = λ us have s none. omega (arith, s.exists.2, none.1, one_has start all s.exists.0 have s.exists.1 none.0);
    not_breaks_and_none = λ fault have b none. elim b.exists [
      | inl o ↦ (one_outer start all).not_both none.0.0 (broken fault.field fault.bit) none.0.1 o.1.1
      | inr has ↦ omega (arith, has.2, none.1, one_has start all has.0 have has.1 none.0)
    ];
    one_list = λ us vs s t. (has_one_end start all).one_list us vs s.units t.units;
    one_fault = λ d e a b. (has_one_end start all).one_fault d e a.fails b.fails;
    one_number = λ g h a b. one_has start all g h a.0 b.0;
  }

  -- ---- one unit more

  -- units, and behind them units
  pub begins_more : (left : L) (all : List Bool) (us : List (UnitOf O C)) (middle : List Bool) (vs : List (UnitOf O C)) (rest : List Bool)
      → Begins f left all us middle → Begins f (left_after f left us) middle vs rest → Begins f left all (us ++ vs) rest
  unfolding Begins
  begins_more left all [] middle vs rest b c = subst (λ (t : List Bool). Begins f left t vs rest) (sym b) c
  begins_more left all (u ∷ us) middle vs rest b c = (b.0, begins_more (f.after left u) (rest_of f left all u) us middle vs rest b.1 c)

  pub left_more : (left : L) (us vs : List (UnitOf O C)) → left_after f left (us ++ vs) ≡ left_after f (left_after f left us) vs
  left_more left [] vs = refl
  left_more left (u ∷ us) vs = left_more (f.after left u) us vs

  pub begins_none : (left : L) (all : List Bool) → Begins f left all [] all
  unfolding Begins
  begins_none left all = refl

  pub begins_one : (left : L) (all : List Bool) (u : UnitOf O C) → IsNext f left all u → Begins f left all (u ∷ []) (rest_of f left all u)
  unfolding Begins
  begins_one left all u next = (next, refl)

  -- what the units are is known where so many begin the same bits
  pub begins_same : (left : L) (all : List Bool) (us vs : List (UnitOf O C)) (middle rest : List Bool) → length us ≡ length vs → Begins f left all us middle → Begins f left all vs rest → (us ≡ vs) × (middle ≡ rest)
  unfolding Begins
  begins_same left all [] [] middle rest n s t = (refl, sym s ∙ t)
  begins_same left all [] (v ∷ vs) middle rest n s t = absurd (omega arith)
  begins_same left all (u ∷ us) [] middle rest n s t = absurd (omega arith)
  begins_same left all (u ∷ us) (v ∷ vs) middle rest n s t =
      let same : v ≡ u = same_unit left all v u t.0 s.0 in
      let later = begins_same (f.after left u) (rest_of f left all u) us vs middle rest (omega arith) s.1 (subst (λ (w : UnitOf O C). Begins f (f.after left w) (rest_of f left all w) vs rest) same t.1) in
      let list : u ∷ us ≡ v ∷ vs = let tail = later.0 in cc in
      (list, later.1)

  -- ---- more bits behind

  -- the next unit stays the next one
  pub next_more : (left : L) (all more : List Bool) (u : UnitOf O C) → IsNext f left all u → IsNext f left (all ++ more) u
  next_more left all more u next = record { outer = found_more (f.outer left) all more 0 u.outer next.outer; contents = next.contents }

  rest_more : (left : L) (all more : List Bool) (u : UnitOf O C) → IsNext f left all u → rest_of f left (all ++ more) u ≡ rest_of f left all u ++ more
  rest_more left all more u next = drop-append-le (length (spelling_of f left u)) all more (omega (arith, next.outer.stands.within))

  pub begins_with_more : (left : L) (all more : List Bool) (us : List (UnitOf O C)) (rest : List Bool) → Begins f left all us rest → Begins f left (all ++ more) us (rest ++ more)
  unfolding Begins
  begins_with_more left all more [] rest b = ap (λ (t : List Bool). t ++ more) b
  begins_with_more left all more (u ∷ us) rest b = (
    next_more left all more u b.0,
    subst (λ (t : List Bool). Begins f (f.after left u) t us (rest ++ more)) (sym (rest_more left all more u b.0)) (begins_with_more (f.after left u) (rest_of f left all u) more us rest b.1),
  )
