-- What comes of bytes that are units.
use Rattle.std.specs.Prelude.{◌≡◌, ℕ, ◌+◌, ◌<◌, ◌≤◌, true, false, List, [], length, drop, Ok}
use Rattle.mlp_stream.specs.declared.refusal.Refusal.TheVariants.{NoRestart, NotThere}
use Rattle.mlp_answers.specs.Answers.{Answer, refusing}
use Rattle.mlp_cut.specs.Cut.{cut, lacks_sync}
use Rattle.mlp_cut.specs.Cutting.{OuterUnit, cutting}

-- the c units from unit f on come out, where they are there and begin with a major sync; of a cut that isn't all there what
-- is there; and nothing of one that can't begin
pub record IsCut (f c : ℕ) (bytes : List ℕ) (us : List OuterUnit) : Type 0 where
  pub all : lacks_sync c (drop f us) ≡ false → f + c ≤ length us → Answer (cutting f c) bytes (Ok tt) (cut f c us)
  pub some : lacks_sync c (drop f us) ≡ false → length us < f + c
      → Answer (cutting f c) bytes (refusing (NotThere (length us))) (cut f c us)
  pub none : lacks_sync c (drop f us) ≡ true → Answer (cutting f c) bytes (refusing (NoRestart f)) []
