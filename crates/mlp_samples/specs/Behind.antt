-- What the units of a stream leave.
use Rattle.std.specs.Prelude.{ℕ, List}
use Rattle.mlp_layout.specs.Streams.{left_after}
use Rattle.mlp_contents.specs.Units.{Left, Unit_of, start, whole}

-- .. for presentation k
abbrev pub left_behind : ℕ → List Unit_of → Left
left_behind k us = left_after (whole k) (start k) us
