-- What came out and isn't written yet.
use Rattle.std.specs.Prelude.{◌≡◌, ℕ, List, ◌++◌, take}
use Rattle.std.specs.Io.KnownBytes.{Appends}
use Rattle.mlp_stream.specs.Sides.{Side}
use Rattle.mlp_stream.specs.declared.stop.Stop.{Stop}
use Rattle.mlp_stream.specs.declared.stop.Stop.TheVariants.{WriteFault}

-- an output gained some bytes: with those that are still gathered they are the ones that were, and then these
pub record Gathers (output : Side) (old out new : List ℕ) : Type 0 where
  pub put : List ℕ
  pub wrote : Appends output.before output.behind put
  pub same : old ++ out ≡ put ++ new

-- a write failed behind some of these bytes
abbrev pub IsWriteStop : Side → List ℕ → Stop → Type 0
IsWriteStop output bytes stop =
    (stop ≡ WriteFault) × ((n : ℕ) × Appends output.before output.behind (take n bytes))
