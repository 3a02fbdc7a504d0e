-- How many bytes are taken of an input.
use Rattle.std.specs.Prelude.{ℕ, ◌^◌}

-- the most bytes of an input
abbrev pub limit : ℕ
limit = 2 ^ 40
