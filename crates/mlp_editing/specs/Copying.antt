-- The session that copies its input.
use Rattle.std.specs.Prelude.{ℕ, ◌+◌, min, nat_lt, if◌then◌else◌, Bool, true, false, List, [], length, take, Result, Ok}
use Rattle.mlp_stream.specs.declared.refusal.Refusal.{Refusal}
use Rattle.mlp_stream.specs.Moves.{Move, Waits, Takes}

-- at most so many bytes at once
abbrev pub piece_size : ℕ
piece_size = 4096

-- as many are waited for, and at the end one
abbrev pub least : Bool → ℕ
least true = 1
least false = piece_size

abbrev pub piece_of : List ℕ → ℕ
piece_of next = min piece_size (length next)

-- by the number of pieces so far
unfoldable pub copy_step : ℕ → Bool → List ℕ → Move ℕ
copy_step pieces ended next =
    if nat_lt (length next) (least ended) then Waits
    else Takes (piece_of next) (take (piece_of next) next) (pieces + 1)

abbrev pub copy_last : ℕ → Result (List ℕ) Refusal
copy_last pieces = Ok []

abbrev pub copy_count : ℕ → ℕ
copy_count pieces = pieces
