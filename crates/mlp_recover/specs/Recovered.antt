-- What is intact in damaged bytes, and what lies between.
use Rattle.std.specs.Prelude.{◌≡◌, ℕ, ◌<◌, ◌≤◌, ◌&&◌, Bool, true, false, List, [], ◌∷◌, length, All}
use Rattle.mlp_contents.specs.Units.{Unit_of}
use Rattle.mlp_recover.specs.Interval.{Interval, NoneAt}

-- the bytes from one place up to another: lost, or kept as these units
pub data Piece : Type 0 where
  Lost : ℕ → ℕ → Piece
  Kept : ℕ → ℕ → List Unit_of → Piece

abbrev pub first_of : Piece → ℕ
first_of (Lost first past) = first
first_of (Kept first past us) = first

abbrev pub past_of : Piece → ℕ
past_of (Lost first past) = past
past_of (Kept first past us) = past

abbrev pub is_lost : Piece → Bool
is_lost (Lost first past) = true
is_lost (Kept first past us) = false

-- each piece has bytes and begins where the one before it ends, from one place to another
abbrev pub Tile : ℕ → List Piece → ℕ → Type 0
Tile from [] to = from ≡ to
Tile from (p ∷ ps) to = (first_of p ≡ from) × (from < past_of p) × Tile (past_of p) ps to

-- no two neighbours are lost
abbrev pub Apart : List Piece → Type 0
Apart [] = Unit {0}
Apart (p ∷ []) = Unit {0}
Apart (p ∷ q ∷ ps) = ((is_lost p && is_lost q) ≡ false) × Apart (q ∷ ps)

-- what is kept is an interval, and at no byte that is lost one begins
abbrev pub IsRight : ℕ → List ℕ → Piece → Type 0
IsRight k bytes (Lost first past) = (place : ℕ) → first ≤ place → place < past → NoneAt k bytes place
IsRight k bytes (Kept first past us) = Interval k bytes first past us

-- the pieces of damaged bytes, for presentation k
pub record AreRecovered (k : ℕ) (bytes : List ℕ) (ps : List Piece) : Type 0 where
  pub tile : Tile 0 ps (length bytes)
  pub right : All (IsRight k bytes) ps
  pub apart : Apart ps
