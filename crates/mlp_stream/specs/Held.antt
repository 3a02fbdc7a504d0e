-- What a window holds.
use Rattle.std.specs.Prelude.{◌≡◌, ℕ, ◌+◌, ◌-◌, ◌<◌, ◌≤◌, List, [], ◌∷◌, ◌++◌, length, Option, Bool, true, false}
use Rattle.std.specs.Io.KnownBytes.{Consumes, IsAtEnd}
use Rattle.mlp_stream.specs.Sides.{Side}
use Rattle.mlp_io.specs.Limit.{limit}
use Rattle.mlp_stream.specs.Sizes.{most_of_unit, window_room}
use Rattle.mlp_stream.specs.declared.window.Rest.{Rest}
use Rattle.mlp_stream.specs.declared.window.Rest.TheVariants.{More, Ended, Over}

-- the bytes that were taken from the input and not yet from here, how many came here in all, and whether more may come
pub record Held : Type 0 where
  pub bytes : List ℕ
  pub taken : ℕ
  pub rest : Rest

abbrev pub is_ended : Rest → Bool
is_ended More = false
is_ended Ended = true
is_ended Over = false

-- whether more may come, where now so many were taken, and so many came of so many that were wanted
abbrev pub RestIs : ℕ → ℕ → ℕ → Rest → Type 0
RestIs taken count want More = (taken ≤ limit) × (want ≤ count)
RestIs taken count want Ended = (taken ≤ limit) × (count < want)
RestIs taken count want Over = limit < taken

-- the byte past the limit isn't kept
abbrev pub kept : Rest → ℕ → ℕ
kept More count = count
kept Ended count = count
kept Over count = count - 1

-- an input gave these bytes, the last of which makes it so many; past the limit one more byte was taken
abbrev pub Gave : Rest → ℕ → Option (List ℕ) → Option (List ℕ) → List ℕ → Type 0
Gave More taken before now got = Consumes before now got
Gave Ended taken before now got = Consumes before now got × IsAtEnd now
Gave Over taken before now got = (b : ℕ) × Consumes before now (got ++ b ∷ []) × (taken ≡ limit)

-- once the end or the limit is reached, the input is left alone
abbrev pub GaveMore : Rest → Rest → ℕ → Option (List ℕ) → Option (List ℕ) → List ℕ → Type 0
GaveMore More rest taken before now got = Gave rest taken before now got
GaveMore Ended rest taken before now got = (rest ≡ Ended) × (got ≡ []) × (now ≡ before)
GaveMore Over rest taken before now got = (rest ≡ Over) × (got ≡ []) × (now ≡ before)

-- the window took more bytes from an input: now it has enough for a unit, or the end or the limit is reached
pub record Refills (old new : Held) (input : Side) : Type 0 where
  pub got : List ℕ
  pub bytes : new.bytes ≡ old.bytes ++ got
  pub taken : new.taken ≡ old.taken + length got
  pub gave : GaveMore old.rest new.rest new.taken input.before input.behind got
  pub ready : new.rest ≡ More → most_of_unit ≤ length new.bytes
  pub within : new.taken ≤ limit

-- the input failed behind these bytes
pub record Fails (old : Held) (input : Side) : Type 0 where
  pub got : List ℕ
  pub gave : Consumes input.before input.behind got
  pub room : length old.bytes + length got ≤ window_room
  pub few : old.taken + length got ≤ limit + 1
  pub more : old.rest ≡ More
