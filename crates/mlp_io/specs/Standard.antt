-- What a source over a reader and a sink over a writer are.
use Rattle.std.specs.Prelude.{ℕ, List, Option}

-- the bytes that the reader has left, where it tells them, and how many faults came
pub record StdLeft : Type 0 where
  pub bytes_left : Option (List ℕ)
  pub failed : ℕ

-- the bytes that the writer holds, where it tells them, and how many faults came
pub record StdTaken : Type 0 where
  pub bytes_taken : Option (List ℕ)
  pub failed : ℕ
