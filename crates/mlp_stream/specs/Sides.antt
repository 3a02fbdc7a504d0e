-- What a side of a run, as its input, has before and behind it.
use Rattle.std.specs.Prelude.{ℕ, List, Option}

-- the bytes that an input has left, or that an output holds, where they are told
pub record Side : Type 0 where
  pub before : Option (List ℕ)
  pub behind : Option (List ℕ)

-- by what it tells, and the two states
abbrev pub side : {A : Type 0} → (A → Option (List ℕ)) → A → A → Side
side bytes old new = record { before = bytes old; behind = bytes new }
