-- What assigns output channels to matrix channels.
use Rattle.std.specs.Prelude.{ℕ, ◌<◌, ◌≤◌, ◌≢◌, List, length, slice_index, All}

-- each matrix channel has an output channel of its own, one of eight
pub record IsAssignment (assign : List ℕ) : Type 0 where
  pub few : All (λ a. a ≤ 7) assign
  pub own : (b c : ℕ) → b < c → c < length assign → slice_index assign b ≢ slice_index assign c

-- no matrix channel is assigned to this output channel
abbrev pub IsUnassigned : List ℕ → ℕ → Type 0
IsUnassigned assign a = (c : ℕ) → c < length assign → slice_index assign c ≢ a
