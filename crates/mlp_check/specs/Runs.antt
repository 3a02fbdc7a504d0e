-- What the command does to an input and an output.
use Rattle.std.specs.Prelude.{◌≡◌, ℕ, Result, Ok, Err}
use Rattle.mlp_stream.specs.Sides.{Side}
use Rattle.mlp_answers.specs.declared.failure.Failure.{Failure}
use Rattle.mlp_answers.specs.declared.failure.Failure.TheVariants.{Usage, OutOfMemory, Stopped}
use Rattle.mlp_answers.specs.Works.{Works}
use Rattle.mlp_check.specs.Checking.{checking}

-- it does its work, or finds no memory before it begins
abbrev pub Checks : ℕ → Side → Side → Result Unit Failure → Type 0
Checks k input output (Ok _) = Works (checking k) input output (Ok tt)
Checks k input output (Err Usage) = ⊥
Checks k input output (Err OutOfMemory) = (input.behind ≡ input.before) × (output.behind ≡ output.before)
Checks k input output (Err (Stopped stop)) = Works (checking k) input output (Err stop)
