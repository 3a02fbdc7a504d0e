-- Which failures counts of faults show.
use Rattle.std.specs.Prelude.{Bool, false, Result, Ok, Err}
use Rattle.mlp_stream.specs.declared.stop.Stop.{Stop}
use Rattle.mlp_stream.specs.declared.stop.Stop.TheVariants.{Refused, ReadFault, WriteFault, TooLong}
use Rattle.mlp_stream.specs.Pumped.{is_read_fault, is_write_fault}
use Rattle.mlp_answers.specs.declared.failure.Failure.{Failure}
use Rattle.mlp_answers.specs.declared.failure.Failure.TheVariants.{Usage, OutOfMemory, Stopped}

abbrev pub is_read_failure : Result Unit Failure → Bool
is_read_failure (Ok _) = false
is_read_failure (Err Usage) = false
is_read_failure (Err OutOfMemory) = false
is_read_failure (Err (Stopped stop)) = is_read_fault (Err stop)

abbrev pub is_write_failure : Result Unit Failure → Bool
is_write_failure (Ok _) = false
is_write_failure (Err Usage) = false
is_write_failure (Err OutOfMemory) = false
is_write_failure (Err (Stopped stop)) = is_write_fault (Err stop)

-- what stops work into memory: a write fails for want of it
abbrev pub failure_by : Stop → Failure
failure_by (Refused r) = Stopped (Refused r)
failure_by ReadFault = Stopped ReadFault
failure_by WriteFault = OutOfMemory
failure_by TooLong = Stopped TooLong

-- how work on an input ends
abbrev pub end_of : Result Unit Stop → Result Unit Failure
end_of (Ok _) = Ok tt
end_of (Err stop) = Err (Stopped stop)
