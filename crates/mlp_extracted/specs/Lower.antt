-- What a lower presentation reads of a unit.
use Rattle.std.specs.Prelude.{ℕ, ◌+◌, take}
use Rattle.mlp_contents.specs.Units.{Unit_of}

-- all of its outer part, and the segments of the substreams 0 to j
abbrev pub lowered : ℕ → Unit_of → Unit_of
lowered j u = record { outer = u.outer; contents = take (j + 1) u.contents }
