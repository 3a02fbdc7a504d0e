-- The stream of presentation k alone, out of a stream that may have more.
use Rattle.std.specs.Prelude.{ℕ, List}
use Rattle.std.specs.List.{flat_map}
use Rattle.mlp_layout.specs.Streams.{UnitOf}
use Rattle.mlp_unit.specs.AccessUnit.{AccessUnit}
use Rattle.mlp_unit.specs.Extracted.{extracted}
use Rattle.mlp_cut.specs.Cut.{unit_bytes}

-- what presentation k needs of a unit
abbrev pub extracted_bytes : ℕ → AccessUnit → List ℕ
extracted_bytes k u = unit_bytes (extracted k u)

-- of units, one after the other
abbrev pub extract : {C : Type 0} → ℕ → List (UnitOf AccessUnit C) → List ℕ
extract k us = flat_map (λ u. extracted_bytes k u.outer) us
