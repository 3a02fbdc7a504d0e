-- What a sink that grows is.
use Rattle.std.specs.Prelude.{ℕ, List}

-- all that was written, and how many pieces there was no memory for
pub record Grown : Type 0 where
  pub kept : List ℕ
  pub failed : ℕ
