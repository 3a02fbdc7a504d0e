-- Where retiming stops, and what has come out by then.
use Rattle.std.specs.Prelude.{◌≡◌, ◌≢◌, ◌⊎◌, ℕ, suc, ◌+◌, Bool, List, [], length, take, map}
use Rattle.mlp_syntax.specs.declared.fault.Fault.{Fault}
use Rattle.mlp_syntax.specs.declared.refusal.NoRoom.{NoRoom}
use Rattle.mlp_bits.specs.Bits.{bits_of}
use Rattle.mlp_layout.specs.Streams.{Has, Begins}
use Rattle.mlp_unit.specs.AccessUnit.{stream_kind, stream_rate}
use Rattle.mlp_stream.specs.declared.refusal.Refusal.{Refusal}
use Rattle.mlp_stream.specs.declared.refusal.Refusal.TheVariants as refused
use Rattle.mlp_cut.specs.Cut.{first_sync, units_bytes}
use Rattle.mlp_contents.specs.Units.{Unit_of, start, whole}
use Rattle.mlp_fifo.specs.Placed.{LacksRoom}
use Rattle.mlp_retime.specs.Retimed.{length_of, IsRetimed}
use Rattle.mlp_retime.specs.Laws.{IsHighest}
use Rattle.mlp_retimed.specs.Plays.{BreaksHighest}

-- the bytes begin with these units, which meet the rules for the highest presentation that the first one tells
abbrev pub BeginHighest : List ℕ → List Unit_of → Type 0
BeginHighest bytes us =
    (k : ℕ) × Has (whole k) (start k) (bits_of bytes) (k + 1)
    × ((rest : List Bool) × Begins (whole k) (start k) (bits_of bytes) us rest)

-- the lengths of these units have a schedule, and the units came out with the times of the earliest one
pub record CameOut (us : List Unit_of) (output : List ℕ) : Type 0 where
  pub retimed : List Unit_of
  pub is_retimed : IsRetimed us retimed
  pub output_is : output ≡ units_bytes retimed

-- the bytes are a stream, and its units came out
pub record EndsWell (bytes output : List ℕ) : Type 0 where
  pub k : ℕ
  pub units : List Unit_of
  pub highest : IsHighest k bytes units
  pub came_out : CameOut units output

-- the bytes break with this fault, and the units before it came out
pub record StopsAtFault (bytes : List ℕ) (fault : Fault) (output : List ℕ) : Type 0 where
  pub breaks : BreaksHighest bytes fault
  pub before : List Unit_of
  pub begin : before ≢ [] → BeginHighest bytes before
  pub count : length before ≡ fault.unit
  pub came_out : CameOut before output

-- the lengths of the units up to this one have no schedule, and those before it came out
pub record StopsForRoom (bytes : List ℕ) (e : NoRoom) (output : List ℕ) : Type 0 where
  pub units : List Unit_of
  pub begin : BeginHighest bytes units
  pub count : length units ≡ suc e.unit
  pub lacks : let sync = first_sync units in LacksRoom (stream_kind sync) (stream_rate sync) (map length_of units) e
  pub came_out : CameOut (take e.unit units) output

-- a fault, or want of room
abbrev pub IsFaultOrNoRoom : Refusal → Type 0
IsFaultOrNoRoom r = ((fault : Fault) × (r ≡ refused.Fault fault)) ⊎ ((e : NoRoom) × (r ≡ refused.NoRoom e))
