-- What the next unit means for the whole stream.
use Rattle.std.specs.Prelude.{◌≡◌, ◌≢◌, ℕ, List, [], ◌∷◌, ◌++◌, length, drop, ◌⊎◌, Result, Ok, Err, Option, Some, None}
use Rattle.mlp_bits.specs.Bits.{bits_of}
use Rattle.mlp_layout.specs.Streams.{Format, UnitOf, left_after, Begins, Units, UnitsFail, Exists, Stream, Breaks, NoPres}
use Rattle.mlp_syntax.specs.declared.fault.Fault.{Fault}
use Rattle.mlp_walk.specs.declared.refusal.Refusal.{Refusal}
use Rattle.mlp_walk.specs.declared.refusal.Refusal.TheVariants as refused
use Rattle.mlp_walk.specs.Next.{Taken, next_of}

module _ {L O C : Type 0} (f : Format L O C) (start : L) where
  -- the first unit tells the presentation that is asked for
  abbrev pub Told : Option ℕ → List ℕ → Type 0
  Told None bytes = Unit {0}
  Told (Some k) bytes = Exists f start k (bits_of bytes)

  -- the bytes are these units
  abbrev pub AreUnits : Option ℕ → List ℕ → List (UnitOf O C) → Type 0
  AreUnits None bytes us = Units f start (bits_of bytes) us
  AreUnits (Some k) bytes us = Stream f start k (bits_of bytes) us

  -- they break with this fault
  abbrev pub Fail : Option ℕ → List ℕ → Fault → Type 0
  Fail None bytes fault = UnitsFail f start (bits_of bytes) fault
  Fail (Some k) bytes fault = Breaks f start k (bits_of bytes) fault

  -- they have so many presentations, and not the one that is asked for
  abbrev pub Lack : Option ℕ → List ℕ → ℕ → Type 0
  Lack None bytes have = ⊥
  Lack (Some k) bytes have = NoPres f start k (bits_of bytes) have

  -- the bytes begin with these units, of which the first tells the presentation, and these bytes are the rest
  pub record HasTaken (wanted : Option ℕ) (bytes : List ℕ) (us : List (UnitOf O C)) (rest : List ℕ) : Type 0 where
    pub begins : Begins f start (bits_of bytes) us (bits_of rest)
    pub there : us ≢ [] → Told wanted bytes

  -- by what comes of the next unit behind these
  abbrev pub Means : Option ℕ → List ℕ → List (UnitOf O C)
      → List ℕ → Result (Taken O C) Refusal → Type 0
  Means wanted bytes us rest (Ok t) = HasTaken wanted bytes (us ++ t.unit ∷ []) (drop t.size rest)
  Means wanted bytes us rest (Err (refused.Fault fault)) = Fail wanted bytes fault
  Means wanted bytes us rest (Err (refused.NoPresentation have)) = (us ≡ []) × Lack wanted bytes have

  -- .. where bytes are left, or there are none at all
  abbrev pub NextMeans : Type 0
  NextMeans =
      (wanted : Option ℕ) (bytes : List ℕ) (us : List (UnitOf O C)) (rest : List ℕ)
      → HasTaken wanted bytes us rest → (rest ≢ []) ⊎ (bytes ≡ [])
      → Means wanted bytes us rest (next_of f wanted (length us) (left_after f start us) rest)

  -- where no bytes are left behind a unit, the units are all
  abbrev pub EndMeans : Type 0
  EndMeans =
      (wanted : Option ℕ) (bytes : List ℕ) (us : List (UnitOf O C))
      → HasTaken wanted bytes us [] → us ≢ [] → AreUnits wanted bytes us

  abbrev pub HasSome : Option ℕ → List ℕ → Type 0
  HasSome wanted bytes =
      ((us : List (UnitOf O C)) × AreUnits wanted bytes us)
      ⊎ (((fault : Fault) × Fail wanted bytes fault) ⊎ ((have : ℕ) × Lack wanted bytes have))

  -- bytes are units, break or lack the presentation, with one list of units, one fault or one number, and no two of
  -- these
  pub record IsOneWalk (wanted : Option ℕ) (bytes : List ℕ) : Type 0 where
    pub some : HasSome wanted bytes
    pub not_units_and_fault : (us : List (UnitOf O C)) (e : Fault)
        → AreUnits wanted bytes us → Fail wanted bytes e → ⊥
    pub not_units_and_lack : (us : List (UnitOf O C)) (have : ℕ)
        → AreUnits wanted bytes us → Lack wanted bytes have → ⊥
    pub not_fault_and_lack : (fault : Fault) (have : ℕ) → Fail wanted bytes fault → Lack wanted bytes have → ⊥
    pub one_list : (us vs : List (UnitOf O C)) → AreUnits wanted bytes us → AreUnits wanted bytes vs → us ≡ vs
    pub one_fault : (d e : Fault) → Fail wanted bytes d → Fail wanted bytes e → d ≡ e
    pub one_number : (g h : ℕ) → Lack wanted bytes g → Lack wanted bytes h → g ≡ h
