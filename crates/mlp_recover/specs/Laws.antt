-- What the laws of recovery say.
use Rattle.std.specs.Prelude.{◌≡◌, ℕ, List, Some}
use Rattle.mlp_syntax.specs.declared.restart.Restart.{Restart}
use Rattle.mlp_output.specs.Output.{folded}
use Rattle.mlp_contents.specs.Known.{first_restart}
use Rattle.mlp_contents.specs.Units.{Unit_of, top_of}
use Rattle.mlp_recover.specs.Interval.{Interval}
use Rattle.mlp_samples.specs.Behind.{left_behind}
use Rattle.mlp_recover.specs.Recovered.{Piece, AreRecovered}

-- at most one interval begins at a byte
abbrev pub IsOneInterval : ℕ → List ℕ → ℕ → Type 0
IsOneInterval k bytes first =
    (p q : ℕ) (us vs : List Unit_of) → Interval k bytes first p us → Interval k bytes first q vs → (p ≡ q) × (us ≡ vs)

-- the restart of a unit behind these, in the last substream that is read, carries the check of their interval
abbrev pub CarriesCheck : ℕ → List Unit_of → Unit_of → Type 0
CarriesCheck k us u =
    (r : Restart) × (first_restart (top_of k u.contents).blocks.items ≡ Some r)
    × (r.lossless ≡ folded (left_behind k us).check)

-- bytes have pieces, and no others
pub record HasOneRecovery (k : ℕ) (bytes : List ℕ) : Type 0 where
  pub some : (ps : List Piece) × AreRecovered k bytes ps
  pub one : (ps qs : List Piece) → AreRecovered k bytes ps → AreRecovered k bytes qs → ps ≡ qs
