-- What comes of the next unit, by what was read of it.
use Rattle.std.proofs.Common.{◌≡◌, ℕ, ◌*◌, ◌/◌, ◌<◌, ◌≤◌, ◌++◌, cond, List, [], ◌∷◌, length, drop, Bool, Result, Ok, Err, Option, Some, None, ◌⊎◌, inl, inr, refl, sym, ap, subst, ◌∙◌, arith}
use Rattle.std.proofs.lemmas.Bool.{cases_lt, lt-leb, le-leb}
use Rattle.mlp_syntax.specs.declared.fault.Broken.{Broken}
use Rattle.mlp_syntax.specs.declared.fault.Fault.{Fault}
use Rattle.mlp_bits.specs.Bits.{bits_of}
use Rattle.mlp_bits.proofs.Words.{bits_of-drop}
use Rattle.mlp_bits.proofs.BitLists.{length-bits_of}
use Rattle.mlp_layout.specs.Reading.{Read}
use Rattle.mlp_layout.specs.Layout.{Found}
use Rattle.mlp_layout.specs.Contents.{UnitFault}
use Rattle.mlp_layout.specs.Streams.{Format, UnitOf, IsFormat, read_unit, outer_fault, spelling_of, rest_of, left_after, in_unit, IsNext, OuterFails, UnitFails, Begins, Exists, Has}
use Rattle.mlp_layout.proofs.StreamLaws.{unit_sound, unit_found, unit_failed, one_has, has_bits, begins_more, begins_one}
use Rattle.mlp_walk.specs.declared.refusal.Refusal.{Refusal}
use Rattle.mlp_walk.specs.declared.refusal.Refusal.TheVariants as refused
use Rattle.mlp_walk.specs.Next.{Taken, fault_of, asked, numbered, gated, next_of, TakesBytes}

pub some_is : (j k : ℕ) → Some j ≡ Some k → j ≡ k
some_is j k e = cc

pub none_some : (k : ℕ) → None ≡ Some k → ⊥
none_some k e = cc

module _ {L O C : Type 0} (f : Format L O C) (is : IsFormat f) where
  abbrev Answer : Type 0
  Answer = Result (Taken O C) Refusal

  abbrev ok_of : Taken O C → Answer
  ok_of t = Ok t

  ok_is : (s t : Taken O C) → ok_of s ≡ ok_of t → s ≡ t
  ok_is s t e = cc

  abbrev err_of : Refusal → Answer
  err_of r = Err r

  err_is : (r s : Refusal) → err_of r ≡ err_of s → r ≡ s
  err_is r s e = cc

  refused_fault : (d e : Fault) → refused.Fault d ≡ refused.Fault e → d ≡ e
  refused_fault d e h = cc

  refused_number : (m n : ℕ) → refused.NoPresentation m ≡ refused.NoPresentation n → m ≡ n
  refused_number m n h = cc

  -- ---- the gate

  -- the outer part, where it was read, tells presentation k
  abbrev Tells : ℕ → Read O → Type 0
  Tells k (Ok x) = k < f.presentations x.0
  Tells k (Err e) = Unit {0}

  record IsShut (w : Option ℕ) (o : Read O) (unit : Answer) : Type 0 where
    k : ℕ
    outer : O × ℕ
    wanted : w ≡ Some k
    read : o ≡ Ok outer
    few : f.presentations outer.0 ≤ k
    answer : gated f w o unit ≡ err_of (refused.NoPresentation (f.presentations outer.0))

  record IsOpen (w : Option ℕ) (o : Read O) (unit : Answer) : Type 0 where
    answer : gated f w o unit ≡ unit
    tells : (k : ℕ) → w ≡ Some k → Tells k o

  gate : (w : Option ℕ) (o : Read O) (unit : Answer) → IsShut w o unit ⊎ IsOpen w o unit
  gate None o unit = inr (record { answer = refl; tells = λ k e. absurd (none_some k e) })
  gate (Some k) (Err e) unit = inr (record { answer = refl; tells = λ j h. tt })
  gate (Some k) (Ok x) unit = elim (cases_lt k (f.presentations x.0)) [
    | inl lt ↦ inr (record {
      answer = ap (λ (c : Bool). cond c (err_of (refused.NoPresentation (f.presentations x.0))) unit) (lt-leb (f.presentations x.0) k lt);
      tells = λ j h. subst (λ (m : ℕ). m < f.presentations x.0) (some_is k j h) lt;
    })
    | inr ge ↦ inl (record {
      k = k;
      outer = x;
      wanted = refl;
      read = refl;
      few = ge;
      answer = ap (λ (c : Bool). cond c (err_of (refused.NoPresentation (f.presentations x.0))) unit) (le-leb (f.presentations x.0) k ge);
    })
  ]

  -- ---- what was read

  outer_at : (left : L) (bytes : List ℕ) (x : O × ℕ) → (f.outer left).read (bits_of bytes) 0 ≡ Ok x → Found (f.outer left) (bits_of bytes) 0 x.0
  outer_at left bytes x e = let s = rw e at ((is.outer_is left).sound (bits_of bytes) 0 (omega arith)) in s.0

  outer_fails_at : (left : L) (bytes : List ℕ) (b : Broken) → (f.outer left).read (bits_of bytes) 0 ≡ Err b → (f.outer left).Fails (bits_of bytes) 0 b
  outer_fails_at left bytes b e = rw e at ((is.outer_is left).sound (bits_of bytes) 0 (omega arith))

  abbrev ReadUnit : L → List ℕ → Result (UnitOf O C × ℕ) UnitFault
  ReadUnit left bytes = read_unit f left (bits_of bytes)

  -- the next unit of the bytes, which it was taken from
  pub record FromUnit (left : L) (bytes : List ℕ) (t : Taken O C) : Type 0 where
    pub next : IsNext f left (bits_of bytes) t.unit
    pub size : 8 * t.size ≡ length (spelling_of f left t.unit)

  -- the next unit fails so
  pub record FromFault (number : ℕ) (left : L) (bytes : List ℕ) (fault : Fault) : Type 0 where
    pub fails : UnitFails f left (bits_of bytes) (in_unit fault)
    pub number_is : fault.unit ≡ number

  fault_by : (number : ℕ) (left : L) (bytes : List ℕ) (r : Result (UnitOf O C × ℕ) UnitFault) → ReadUnit left bytes ≡ r
      → (fault : Fault) → numbered f number r ≡ err_of (refused.Fault fault) → FromFault number left bytes fault
  fault_by number left bytes (Ok u) e fault same = absurd cc
  fault_by number left bytes (Err d) e fault same =
      let it : fault_of number d ≡ fault = refused_fault _ _ (err_is _ _ same) in
      let fails = rw e at (unit_sound f is left (bits_of bytes)) in
      subst (FromFault number left bytes) it (record { fails = fails; number_is = refl })

  never_none : (number : ℕ) (r : Result (UnitOf O C × ℕ) UnitFault) (n : ℕ) → numbered f number r ≡ err_of (refused.NoPresentation n) → ⊥
  never_none number (Ok u) n e = absurd cc
  never_none number (Err d) n e = absurd cc

  -- a fault of the outer part is the unit's
  outer_err : (number : ℕ) (left : L) (bytes : List ℕ) (b : Broken) → (f.outer left).read (bits_of bytes) 0 ≡ Err b → numbered f number (ReadUnit left bytes) ≡ err_of (refused.Fault (fault_of number (outer_fault b)))
  outer_err number left bytes b e = rw e refl

  -- the outer part fails with it, or tells presentation k
  outer_or_told : (number : ℕ) (left : L) (bytes : List ℕ) (k : ℕ) (fault : Fault) (o : Read O) → (f.outer left).read (bits_of bytes) 0 ≡ o → Tells k o → numbered f number (ReadUnit left bytes) ≡ err_of (refused.Fault fault)
      → OuterFails f left (bits_of bytes) (in_unit fault) ⊎ Exists f left k (bits_of bytes)
  outer_or_told number left bytes k fault (Ok x) e tells same = inr (f.presentations x.0, (x.0, outer_at left bytes x e, refl), tells)
  outer_or_told number left bytes k fault (Err b) e tells same =
      let it : fault_of number (outer_fault b) ≡ fault = refused_fault _ _ (err_is _ _ (sym (outer_err number left bytes b e) ∙ same)) in
      let fails : OuterFails f left (bits_of bytes) (in_unit (fault_of number (outer_fault b))) = (refl, outer_fails_at left bytes b e) in
      inl (subst (λ (d : Fault). OuterFails f left (bits_of bytes) (in_unit d)) it fails)

  told_by : (number : ℕ) (left : L) (bytes : List ℕ) (k : ℕ) (t : Taken O C) (o : Read O) → (f.outer left).read (bits_of bytes) 0 ≡ o
      → Tells k o → numbered f number (ReadUnit left bytes) ≡ ok_of t → Exists f left k (bits_of bytes)
  told_by number left bytes k t (Ok x) e tells same = (f.presentations x.0, (x.0, outer_at left bytes x e, refl), tells)
  told_by number left bytes k t (Err b) e tells same = absurd (err_ok (sym (outer_err number left bytes b e) ∙ same))
    where
      err_ok : err_of (refused.Fault (fault_of number (outer_fault b))) ≡ ok_of t → ⊥
      err_ok h = cc

  -- ---- by what comes of the next unit

  module _ (wanted : Option ℕ) (number : ℕ) (left : L) (bytes : List ℕ) where
    abbrev w : Option ℕ
    w = asked wanted number

    abbrev o : Read O
    o = (f.outer left).read (bits_of bytes) 0

    abbrev unit : Answer
    unit = numbered f number (ReadUnit left bytes)

    next_is : next_of f wanted number left bytes ≡ gated f w o unit
    unfolding next_of
    next_is = refl

    -- it was refused for no presentation, or it is what was read
    shut_err : (s : IsShut w o unit) (a : Answer) → next_of f wanted number left bytes ≡ a → a ≡ err_of (refused.NoPresentation (f.presentations s.outer.0))
    shut_err s a e = sym e ∙ next_is ∙ s.answer

    open_unit : (q : IsOpen w o unit) (a : Answer) → next_of f wanted number left bytes ≡ a → unit ≡ a
    open_unit q a e = sym q.answer ∙ sym next_is ∙ e

    -- a fault is the next unit's; where a presentation is asked for, its outer part fails or tells it
    pub record FaultFrom (fault : Fault) : Type 0 where
      pub unit_fails : FromFault number left bytes fault
      pub told : (k : ℕ) → asked wanted number ≡ Some k → OuterFails f left (bits_of bytes) (in_unit fault) ⊎ Exists f left k (bits_of bytes)

    pub fault_from : (fault : Fault) → next_of f wanted number left bytes ≡ err_of (refused.Fault fault) → FaultFrom fault
    fault_from fault e = elim (gate w o unit) [
      | inl s ↦ absurd (let no = shut_err s (err_of (refused.Fault fault)) e in other no)
      | inr q ↦ (let u = open_unit q (err_of (refused.Fault fault)) e in record {
        unit_fails = fault_by number left bytes (ReadUnit left bytes) refl fault u;
        told = λ k h. outer_or_told number left bytes k fault o refl (q.tells k h) u;
      })
    ]
      where
        other : {n : ℕ} → err_of (refused.Fault fault) ≡ err_of (refused.NoPresentation n) → ⊥
        other h = cc

    -- the first unit's outer part tells so many presentations
    pub record NoneFrom (have : ℕ) : Type 0 where
      pub k : ℕ
      pub asked_for : asked wanted number ≡ Some k
      pub has : Has f left (bits_of bytes) have
      pub missing : have ≤ k

    pub none_from : (have : ℕ) → next_of f wanted number left bytes ≡ err_of (refused.NoPresentation have) → NoneFrom have
    none_from have e = elim (gate w o unit) [
      | inl s ↦ (let same : have ≡ f.presentations s.outer.0 = refused_number _ _ (err_is _ _ (shut_err s (err_of (refused.NoPresentation have)) e)) in
          record { k = s.k; asked_for = s.wanted; has = (s.outer.0, outer_at left bytes s.outer s.read, sym same); missing = omega (arith, s.few) })
      | inr q ↦ absurd (never_none number (ReadUnit left bytes) have (open_unit q (err_of (refused.NoPresentation have)) e))
    ]

    -- where a unit is taken and a presentation is asked for, it tells it
    pub told_from : (t : Taken O C) → next_of f wanted number left bytes ≡ ok_of t → (k : ℕ) → asked wanted number ≡ Some k → Exists f left k (bits_of bytes)
    told_from t e k h = elim (gate w o unit) [
      | inl s ↦ absurd (ok_err (shut_err s (ok_of t) e))
      | inr q ↦ told_by number left bytes k t o refl (q.tells k h) (open_unit q (ok_of t) e)
    ]
      where
        ok_err : {r : Refusal} → ok_of t ≡ err_of r → ⊥
        ok_err h = cc

    taken_unit : (t : Taken O C) → next_of f wanted number left bytes ≡ ok_of t → unit ≡ ok_of t
    taken_unit t e = elim (gate w o unit) [
      | inl s ↦ absurd (ok_err (shut_err s (ok_of t) e))
      | inr q ↦ open_unit q (ok_of t) e
    ]
      where
        ok_err : {r : Refusal} → ok_of t ≡ err_of r → ⊥
        ok_err h = cc

    -- where the outer part is read alike with more bytes, these change nothing
    pub next_settled : (more : List ℕ) → (f.outer left).read (bits_of (bytes ++ more)) 0 ≡ (f.outer left).read (bits_of bytes) 0 → next_of f wanted number left (bytes ++ more) ≡ next_of f wanted number left bytes
    unfolding next_of
    next_settled more s = rw s refl

    -- ---- by what is there

    -- what was read passes the gate, unless the outer part tells too few presentations
    passed : (a : Answer) → unit ≡ a → ((k have : ℕ) → asked wanted number ≡ Some k → Has f left (bits_of bytes) have → have ≤ k → ⊥) → next_of f wanted number left bytes ≡ a
    passed a e none = elim (gate w o unit) [
      | inl s ↦ absurd (none s.k (f.presentations s.outer.0) s.wanted (s.outer.0, outer_at left bytes s.outer s.read, refl) s.few)
      | inr q ↦ next_is ∙ q.answer ∙ e
    ]

    pub next_found : (u : UnitOf O C) → IsNext f left (bits_of bytes) u → ((k have : ℕ) → asked wanted number ≡ Some k → Has f left (bits_of bytes) have → have ≤ k → ⊥)
        → next_of f wanted number left bytes ≡ ok_of (record { size = length (spelling_of f left u) / 8; unit = u })
    next_found u next none =
        let read = unit_found f is left (bits_of bytes) u next in
        passed (ok_of (record { size = length (spelling_of f left u) / 8; unit = u })) (ap (numbered f number) read) none

    pub next_failed : (d : UnitFault) → UnitFails f left (bits_of bytes) d → ((k have : ℕ) → asked wanted number ≡ Some k → Has f left (bits_of bytes) have → have ≤ k → ⊥)
        → next_of f wanted number left bytes ≡ err_of (refused.Fault (fault_of number d))
    next_failed d fails none = passed (err_of (refused.Fault (fault_of number d))) (ap (numbered f number) (unit_failed f is left (bits_of bytes) d fails)) none

    pub next_lacks : (k have : ℕ) → asked wanted number ≡ Some k → Has f left (bits_of bytes) have → have ≤ k → next_of f wanted number left bytes ≡ err_of (refused.NoPresentation have)
    next_lacks k have e has few = elim (gate w o unit) [
      | inl s ↦ next_is ∙ s.answer ∙ ap (λ (n : ℕ). err_of (refused.NoPresentation n)) (one_has f is left (bits_of bytes) (f.presentations s.outer.0) have (s.outer.0, outer_at left bytes s.outer s.read, refl) has)
      | inr q ↦ (let found = (is.outer_is left).found (bits_of bytes) 0 has.0 has.1 in
          let t : k < f.presentations has.0 = subst (Tells k) found (q.tells k e) in
          absurd (omega (arith, t, few, has.2)))
    ]

  module _ (b : TakesBytes f) where
    from_read : (number : ℕ) (left : L) (bytes : List ℕ) (r : Result (UnitOf O C × ℕ) UnitFault) → ReadUnit left bytes ≡ r → (t : Taken O C) → numbered f number r ≡ ok_of t → FromUnit left bytes t
    from_read number left bytes (Ok u) e t same =
        let sound = rw e at (unit_sound f is left (bits_of bytes)) in
        let it : record { size = u.1 / 8; unit = u.0 } ≡ t = ok_is _ t same in
        let whole = b.whole left u.0.outer sound.0.outer.fits in
        let size : 8 * (u.1 / 8) ≡ length (spelling_of f left u.0) = omega (arith, sound.1, whole.1) in
        subst (FromUnit left bytes) it (record { next = sound.0; size = size })
    from_read number left bytes (Err d) e t same = absurd cc

    pub from_unit : (wanted : Option ℕ) (number : ℕ) (left : L) (bytes : List ℕ) (t : Taken O C) → next_of f wanted number left bytes ≡ ok_of t → FromUnit left bytes t
    from_unit wanted number left bytes t e = from_read number left bytes (ReadUnit left bytes) refl t (taken_unit wanted number left bytes t e)

    -- it has bytes, and no more than are there
    pub unit_within : (wanted : Option ℕ) (number : ℕ) (left : L) (bytes : List ℕ) (t : Taken O C) → next_of f wanted number left bytes ≡ ok_of t
        → (0 < t.size) × (t.size ≤ length bytes)
    unit_within wanted number left bytes t e =
        let u = from_unit wanted number left bytes t e in
        let some = has_bits f is left (bits_of bytes) t.unit u.next in
        let within = u.next.outer.stands.within in
        (omega (arith, u.size, some), omega (arith, u.size, within, length-bits_of bytes))

    pub begins_on : (start : L) (all : List Bool) (us : List (UnitOf O C)) (rest : List ℕ) (t : Taken O C) → Begins f start all us (bits_of rest) → FromUnit (left_after f start us) rest t
        → Begins f start all (us ++ t.unit ∷ []) (bits_of (drop t.size rest))
    begins_on start all us rest t h u =
        let left = left_after f start us in
        let behind : rest_of f left (bits_of rest) t.unit ≡ bits_of (drop t.size rest) = ap (λ (n : ℕ). drop n (bits_of rest)) (sym u.size) ∙ bits_of-drop rest t.size in
        let more = begins_more f is start all us (bits_of rest) (t.unit ∷ []) (rest_of f left (bits_of rest) t.unit) h (begins_one f is left (bits_of rest) t.unit u.next) in
        subst (Begins f start all (us ++ t.unit ∷ [])) behind more
