-- What the command does to an input and an output.
use Rattle.std.specs.Prelude.{◌≡◌, Result, Ok, Err}
use Rattle.mlp_stream.specs.Sides.{Side}
use Rattle.mlp_answers.specs.declared.failure.Failure.{Failure}
use Rattle.mlp_answers.specs.declared.failure.Failure.TheVariants.{Usage, OutOfMemory, Stopped}
use Rattle.mlp_answers.specs.Works.{Works}
use Rattle.mlp_retime.specs.Retiming.{retiming}

-- it does its work, or finds no memory before it begins
abbrev pub Retimes : Side → Side → Result Unit Failure → Type 0
Retimes input output (Ok _) = Works retiming input output (Ok tt)
Retimes input output (Err Usage) = ⊥
Retimes input output (Err OutOfMemory) = (input.behind ≡ input.before) × (output.behind ≡ output.before)
Retimes input output (Err (Stopped stop)) = Works retiming input output (Err stop)
