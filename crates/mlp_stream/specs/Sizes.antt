-- The sizes of a stream and of the window on it.
use Rattle.std.specs.Prelude.{ℕ}

-- the most bytes of an access unit
abbrev pub most_of_unit : ℕ
most_of_unit = 8190

-- the most bytes that are taken from the input and not yet used
abbrev pub window_room : ℕ
window_room = 16380
