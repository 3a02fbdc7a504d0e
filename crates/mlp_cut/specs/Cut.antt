-- A cut of a stream: some of its units, byte for byte.
use Rattle.std.specs.Prelude.{ℕ, ◌+◌, ◌==◌, nat_le, nat_lt, ◌&&◌, not, Bool, false, IsTrue, List, [], ◌∷◌, take, drop, Option, None, is_none, is_some, if◌then◌else◌}
use Rattle.std.specs.List.{flat_map}
use Rattle.mlp_syntax.specs.declared.major.MajorSync.{MajorSync}
use Rattle.mlp_layout.specs.Streams.{UnitOf}
use Rattle.mlp_unit.specs.AccessUnit.{AccessUnit}
use Rattle.mlp_unit.specs.Written.{unit_text}
use Rattle.mlp_substream.specs.Checks.{bytes_of}

-- the bytes of a unit's own text: all its segments, and the extra data behind them
unfoldable pub unit_bytes : AccessUnit → List ℕ
unit_bytes u = bytes_of (unit_text u)

-- units one after the other
abbrev pub units_bytes : {C : Type 0} → List (UnitOf AccessUnit C) → List ℕ
units_bytes us = flat_map (λ u. unit_bytes u.outer) us

-- the c units from unit f on
abbrev pub cut : {C : Type 0} → ℕ → ℕ → List (UnitOf AccessUnit C) → List ℕ
cut f c us = units_bytes (take c (drop f us))

abbrev pub first_sync : {C : Type 0} → List (UnitOf AccessUnit C) → Option MajorSync
first_sync [] = None
first_sync (u ∷ us) = u.outer.major

-- unit f has a major sync
abbrev pub HasSync : {C : Type 0} → ℕ → List (UnitOf AccessUnit C) → Type 0
HasSync f us = IsTrue (is_some (first_sync (drop f us)))

-- ---- unit by unit

-- is unit n one of the c units from unit f on?
abbrev pub is_inside : ℕ → ℕ → ℕ → Bool
is_inside f c n = nat_le f n && nat_lt n (f + c)

-- what comes out of unit n, which has these bytes
abbrev pub piece : ℕ → ℕ → ℕ → List ℕ → List ℕ
piece f c n bytes = if is_inside f c n then bytes else []

-- a cut that has units begins at one with a major sync: does unit n lack it?
abbrev pub lacks_restart : ℕ → ℕ → ℕ → Option MajorSync → Bool
lacks_restart f c n major = (n == f) && (not (c == 0) && is_none major)

-- .. of the units from unit f on
abbrev pub lacks_sync : {C : Type 0} → ℕ → List (UnitOf AccessUnit C) → Bool
lacks_sync c [] = false
lacks_sync c (u ∷ us) = not (c == 0) && is_none u.outer.major
