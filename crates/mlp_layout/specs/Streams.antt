-- Units one after the other, each against what those before it leave.
--
-- A format of units is a record of four functions:
--
--     format : ℕ → Format Left AccessUnit (List Segment)
--     format k = record {
--       outer = λ left. access_unit left.first_sync;                    -- head, major sync, directory and body
--       contents = λ left outer. segments (portion left outer) (k + 1) [];  -- the segments of the substreams 0 to k
--       after = λ left unit. ...;                                       -- what the units so far leave, with this one
--       presentations = λ outer. ...;                                   -- how many presentations a first unit tells
--     }
--
-- `portion left outer before` says of the segment behind those in `before` at which bit of the unit it begins, how
-- many bits it has, and which whole text is spelled there. A fault of the outer part has substream 0, one of a segment
-- the number of segments before it. Where only the outer parts are looked at, contents are `λ left outer. nothing`.
use Rattle.std.specs.Prelude.{◌≡◌, ◌≢◌, ℕ, ◌<◌, ◌≤◌, List, Bool, [], ◌∷◌, length, drop, ◌⊎◌, Result, Ok, Err}
use Rattle.mlp_syntax.specs.declared.fault.Broken.{Broken}
use Rattle.mlp_syntax.specs.declared.fault.Fault.{Fault}
use Rattle.mlp_layout.specs.Reading.{Read, broken}
use Rattle.mlp_layout.specs.Layout.{Layout, Found, IsLayout}
use Rattle.mlp_layout.specs.Contents.{Contents, FoundIn, UnitFault, IsContents}

-- a unit: its outer part, which has all of its bits, and what stands in them
pub record UnitOf (O C : Type 0) : Type 0 where
  pub outer : O
  pub contents : C

-- by what earlier units left: the outer part of the next unit, what it contains, and what it leaves; and how many
-- presentations an outer part tells
pub record Format (L O C : Type 0) : Type 1 where
  pub outer : L → Layout O
  pub contents : L → O → Contents C
  pub after : L → UnitOf O C → L
  pub presentations : O → ℕ

-- a fault without the number of its unit
abbrev pub in_unit : Fault → UnitFault
in_unit fault = record { substream = fault.substream; field = fault.field; bit = fault.bit }

abbrev pub outer_fault : Broken → UnitFault
outer_fault b = record { substream = 0; field = b.field; bit = b.bit }

module _ {L O C : Type 0} (f : Format L O C) where
  -- ---- one unit

  abbrev pub spelling_of : L → UnitOf O C → List Bool
  spelling_of left u = (f.outer left).spelling u.outer

  abbrev pub rest_of : L → List Bool → UnitOf O C → List Bool
  rest_of left all u = drop (length (spelling_of left u)) all

  -- the bits begin with this unit, which meets the rules
  pub record IsNext (left : L) (all : List Bool) (u : UnitOf O C) : Type 0 where
    pub outer : Found (f.outer left) all 0 u.outer
    pub contents : FoundIn (f.contents left u.outer) (spelling_of left u) u.contents

  -- the outer part fails so
  abbrev pub OuterFails : L → List Bool → UnitFault → Type 0
  OuterFails left all e = (e.substream ≡ 0) × (f.outer left).Fails all 0 (broken e.field e.bit)

  -- it does, or it doesn't and what it contains fails so
  abbrev pub UnitFails : L → List Bool → UnitFault → Type 0
  UnitFails left all e = OuterFails left all e
      ⊎ ((o : O) × Found (f.outer left) all 0 o × (f.contents left o).Fails ((f.outer left).spelling o) e)

  -- how a unit is read: the unit and the place behind it, or the first fault
  abbrev pub with_outer : O × ℕ → Result C UnitFault → Result (UnitOf O C × ℕ) UnitFault
  with_outer o (Ok c) = Ok (record { outer = o.0; contents = c }, o.1)
  with_outer o (Err e) = Err e

  abbrev pub then_contents : L → Read O → Result (UnitOf O C × ℕ) UnitFault
  then_contents left (Ok o) = with_outer o ((f.contents left o.0).read ((f.outer left).spelling o.0))
  then_contents left (Err b) = Err (outer_fault b)

  abbrev pub read_unit : L → List Bool → Result (UnitOf O C × ℕ) UnitFault
  read_unit left all = then_contents left ((f.outer left).read all 0)

  -- ---- units

  -- what the units leave
  abbrev pub left_after : L → List (UnitOf O C) → L
  left_after left [] = left
  left_after left (u ∷ us) = left_after (f.after left u) us

  -- the bits begin with these units, each of which meets the rules, and these bits are the rest
  unfoldable pub Begins : L → List Bool → List (UnitOf O C) → List Bool → Type 0
  Begins left all [] rest = all ≡ rest
  Begins left all (u ∷ us) rest = IsNext left all u × Begins (f.after left u) (rest_of left all u) us rest

  -- the bits are these units, of which there is one at least
  pub record Units (start : L) (all : List Bool) (us : List (UnitOf O C)) : Type 0 where
    pub begins : Begins start all us []
    pub some : all ≢ []

  -- so many units begin the bits, bits are left behind them or there are none at all, and the next unit fails so
  pub record UnitsFail (start : L) (all : List Bool) (fault : Fault) : Type 0 where
    pub before : List (UnitOf O C)
    pub rest : List Bool
    pub begins : Begins start all before rest
    pub number : length before ≡ fault.unit
    pub begun : (rest ≢ []) ⊎ (all ≡ [])
    pub fails : UnitFails (left_after start before) rest (in_unit fault)

  -- exactly one of the two holds, with one list of units or one fault
  pub record HasOneEnd (start : L) (all : List Bool) : Type 0 where
    pub some : ((us : List (UnitOf O C)) × Units start all us) ⊎ ((fault : Fault) × UnitsFail start all fault)
    pub not_both : (us : List (UnitOf O C)) (fault : Fault) → Units start all us → UnitsFail start all fault → ⊥
    pub one_list : (us vs : List (UnitOf O C)) → Units start all us → Units start all vs → us ≡ vs
    pub one_fault : (d e : Fault) → UnitsFail start all d → UnitsFail start all e → d ≡ e

  -- ---- for presentation k

  -- the first unit tells so many presentations
  abbrev pub Has : L → List Bool → ℕ → Type 0
  Has start all have = (o : O) × Found (f.outer start) all 0 o × (f.presentations o ≡ have)

  -- it tells presentation k
  abbrev pub Exists : L → ℕ → List Bool → Type 0
  Exists start k all = (have : ℕ) × Has start all have × (k < have)

  pub record Stream (start : L) (k : ℕ) (all : List Bool) (us : List (UnitOf O C)) : Type 0 where
    pub units : Units start all us
    pub exists : Exists start k all

  -- unless the fault is in the outer part of the first unit, the presentation exists
  pub record Breaks (start : L) (k : ℕ) (all : List Bool) (fault : Fault) : Type 0 where
    pub fails : UnitsFail start all fault
    pub exists : ((fault.unit ≡ 0) × OuterFails start all (in_unit fault)) ⊎ Exists start k all

  -- the first unit's outer part tells so many presentations, and not k
  abbrev pub NoPres : L → ℕ → List Bool → ℕ → Type 0
  NoPres start k all have = Has start all have × (have ≤ k)

  -- exactly one of the three holds, with one list of units, one fault or one number
  pub record HasOne (start : L) (k : ℕ) (all : List Bool) : Type 0 where
    pub some : ((us : List (UnitOf O C)) × Stream start k all us)
        ⊎ (((fault : Fault) × Breaks start k all fault) ⊎ ((have : ℕ) × NoPres start k all have))
    pub not_stream_and_breaks : (us : List (UnitOf O C)) (fault : Fault)
        → Stream start k all us → Breaks start k all fault → ⊥
    pub not_stream_and_none : (us : List (UnitOf O C)) (have : ℕ)
        → Stream start k all us → NoPres start k all have → ⊥
    pub not_breaks_and_none : (fault : Fault) (have : ℕ)
        → Breaks start k all fault → NoPres start k all have → ⊥
    pub one_list : (us vs : List (UnitOf O C)) → Stream start k all us → Stream start k all vs → us ≡ vs
    pub one_fault : (d e : Fault) → Breaks start k all d → Breaks start k all e → d ≡ e
    pub one_number : (g h : ℕ) → NoPres start k all g → NoPres start k all h → g ≡ h

-- ---- what a format owes: then each list of bits has one of the three

-- the outer part and what a unit contains are lawful, and a unit takes bits
pub record IsFormat {L O C : Type 0} (f : Format L O C) : Type 0 where
  pub outer_is : (left : L) → IsLayout (f.outer left)
  pub contents_are : (left : L) (o : O) → IsContents (f.contents left o)
  pub takes_bits : (left : L) (o : O) → (f.outer left).Fits o → 0 < length ((f.outer left).spelling o)
