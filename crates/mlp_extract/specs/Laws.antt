-- What comes out of a stream, or of bytes that break.
use Rattle.std.specs.Prelude.{◌≡◌, ℕ, List}
use Rattle.mlp_answers.specs.Answers.{HasTaken}
use Rattle.mlp_contents.specs.Units.{Unit_of}
use Rattle.mlp_extract.specs.Extract.{extract}
use Rattle.mlp_extract.specs.Extracting.{extracting}

-- what presentation k needs of some units that the bytes begin with
pub record IsExtraction (k : ℕ) (bytes output : List ℕ) : Type 0 where
  pub units : List Unit_of
  pub rest : List ℕ
  pub taken : HasTaken (extracting k) bytes units rest
  pub output_is : output ≡ extract k units
