-- The status and the line of each end.
use Rattle.std.specs.Prelude.{ℕ, List, [], ◌++◌, Result, Ok, Err, codes, decimal}
use Rattle.mlp_syntax.specs.Field.{name_of}
use Rattle.mlp_syntax.specs.declared.fault.Fault.{Fault}
use Rattle.mlp_syntax.specs.declared.refusal.PcmFault.{PcmFault}
use Rattle.mlp_syntax.specs.declared.refusal.PcmFault.TheVariants.{WaveHeader, Profile, Empty, PadBits, PartialFrame, PartialUnit}
use Rattle.mlp_syntax.specs.declared.refusal.ProfileFault.{ProfileFault}
use Rattle.mlp_syntax.specs.declared.refusal.ProfileFault.TheVariants.{Channels, Rate, Depth, MixShape}
use Rattle.mlp_syntax.specs.declared.refusal.WaveField.{WaveField}
use Rattle.mlp_syntax.specs.declared.refusal.WaveField.TheVariants.{Riff, Chunk, FmtMissing, FmtSize, Tag, Align, Bits}
use Rattle.mlp_stream.specs.declared.refusal.Refusal.{Refusal}
use Rattle.mlp_stream.specs.declared.refusal.Refusal.TheVariants as refused
use Rattle.mlp_stream.specs.declared.refusal.Refusal.TheVariants.{Pcm, NoRoom, NoPresentation, LowBits, NoRestart, NotThere}
use Rattle.mlp_stream.specs.declared.stop.Stop.{Stop}
use Rattle.mlp_stream.specs.declared.stop.Stop.TheVariants.{Refused, ReadFault, WriteFault, TooLong}
use Rattle.mlp_answers.specs.declared.failure.Failure.{Failure}
use Rattle.mlp_answers.specs.declared.failure.Failure.TheVariants.{Usage, OutOfMemory, Stopped}

abbrev pub refusal_status : Refusal → ℕ
refusal_status (refused.Fault fault) = 1
refusal_status (Pcm fault) = 3
refusal_status (NoRoom unit) = 4
refusal_status (NoPresentation have) = 8
refusal_status (LowBits frame) = 10
refusal_status (NoRestart unit) = 11
refusal_status (NotThere units) = 11

abbrev pub stop_status : Stop → ℕ
stop_status (Refused refusal) = refusal_status refusal
stop_status ReadFault = 5
stop_status WriteFault = 6
stop_status TooLong = 9

abbrev pub status_of : Result Unit Failure → ℕ
status_of (Ok _) = 0
status_of (Err Usage) = 2
status_of (Err OutOfMemory) = 7
status_of (Err (Stopped stop)) = stop_status stop

abbrev pub wave_name : WaveField → List ℕ
wave_name Riff = codes "Riff"
wave_name Chunk = codes "Chunk"
wave_name FmtMissing = codes "FmtMissing"
wave_name FmtSize = codes "FmtSize"
wave_name Tag = codes "Tag"
wave_name Align = codes "Align"
wave_name Bits = codes "Bits"

abbrev pub profile_name : ProfileFault → List ℕ
profile_name Channels = codes "Channels"
profile_name Rate = codes "Rate"
profile_name Depth = codes "Depth"
profile_name MixShape = codes "MixShape"

abbrev pub pcm_name : PcmFault → List ℕ
pcm_name (WaveHeader field) = codes "WaveHeader " ++ wave_name field
pcm_name (Profile fault) = profile_name fault
pcm_name Empty = codes "Empty"
pcm_name (PadBits frame) = codes "PadBits " ++ decimal frame
pcm_name PartialFrame = codes "PartialFrame"
pcm_name PartialUnit = codes "PartialUnit"

abbrev pub fault_line : Fault → List ℕ
fault_line fault =
    codes "bad stream: unit " ++ decimal fault.unit ++ codes ", substream " ++ decimal fault.substream
    ++ codes ", " ++ name_of fault.field ++ codes ", bit " ++ decimal fault.bit ++ codes "\n"

-- so many bytes of a unit that has no schedule
abbrev pub no_room_line : ℕ → ℕ → List ℕ
no_room_line unit bytes = codes "no schedule: unit " ++ decimal unit ++ codes ", " ++ decimal bytes ++ codes " bytes\n"

-- of so many presentations there isn't the one that is wanted
abbrev pub missing_line : ℕ → ℕ → List ℕ
missing_line wanted have = codes "no presentation: " ++ decimal wanted ++ codes " of " ++ decimal have ++ codes "\n"

-- of a session for the presentation k
abbrev pub refusal_line : ℕ → Refusal → List ℕ
refusal_line k (refused.Fault fault) = fault_line fault
refusal_line k (Pcm fault) = codes "pcm refused: " ++ pcm_name fault ++ codes "\n"
refusal_line k (NoRoom unit) = no_room_line unit.unit unit.bytes
refusal_line k (NoPresentation have) = missing_line k have
refusal_line k (LowBits frame) = codes "low bits: frame " ++ decimal frame ++ codes "\n"
refusal_line k (NoRestart unit) = codes "no cut: unit " ++ decimal unit ++ codes " has no restart\n"
refusal_line k (NotThere units) = codes "no cut: " ++ decimal units ++ codes " units\n"

abbrev pub stop_line : ℕ → Stop → List ℕ
stop_line k (Refused refusal) = refusal_line k refusal
stop_line k ReadFault = codes "read fault\n"
stop_line k WriteFault = codes "write fault\n"
stop_line k TooLong = codes "too long\n"

-- of a command for the presentation k
abbrev pub line_of : ℕ → Result Unit Failure → List ℕ
line_of k (Ok _) = []
line_of k (Err Usage) = codes "usage\n"
line_of k (Err OutOfMemory) = codes "out of memory\n"
line_of k (Err (Stopped stop)) = stop_line k stop
