-- What `gen` makes of a profile, a seed and a number of units.
use Rattle.std.specs.Prelude.{◌≡◌, ◌≢◌, ◌<◌, ℕ, ◌*◌, ◌==◌, ◌⊎◌, true, List, length, map, take, slice_index_or, Some, Result, Ok, Err, if◌then◌else◌, ℤ}
use Rattle.std.specs.Io.KnownBytes.{Appends}
use Rattle.mlp_bits.specs.Bits.{bits_of}
use Rattle.mlp_layout.specs.Streams.{Stream}
use Rattle.mlp_stream.specs.declared.stop.Stop.TheVariants.{Refused, ReadFault, WriteFault, TooLong}
use Rattle.mlp_stream.specs.declared.refusal.Refusal.{Refusal}
use Rattle.mlp_stream.specs.declared.refusal.Refusal.TheVariants as refused
use Rattle.mlp_stream.specs.Sides.{Side}
use Rattle.mlp_syntax.specs.declared.refusal.NoRoom.{NoRoom}
use Rattle.mlp_syntax.specs.declared.refusal.ProfileFault.{ProfileFault}
use Rattle.mlp_syntax.specs.declared.refusal.PcmFault.TheVariants as pcm
use Rattle.mlp_answers.specs.declared.failure.Failure.{Failure}
use Rattle.mlp_answers.specs.declared.failure.Failure.TheVariants.{Usage, OutOfMemory, Stopped}
use Rattle.mlp_contents.specs.Units.{Unit_of, whole, start}
use Rattle.mlp_fold.specs.declared.profile.Profile.{Profile}
use Rattle.mlp_fold.specs.Mix.{presented_of}
use Rattle.mlp_fold.specs.Profile.{checked}
use Rattle.mlp_fold.specs.Substreams.{substreams_of}
use Rattle.mlp_encode.specs.Numbers.{low_zeros}
use Rattle.mlp_encode.specs.declared.encoder.OpenRefusal.{OpenRefusal}
use Rattle.mlp_encode.specs.declared.encoder.OpenRefusal.TheVariants as unopened
use Rattle.mlp_encode.specs.Left.{Left, going}
use Rattle.mlp_encode.specs.Unit.{joined}
use Rattle.mlp_encode.specs.Sent.{sent}
use Rattle.mlp_lossless.specs.Streams.{all_frames}
use Rattle.mlp_extract.specs.Extract.{extract}
use Rattle.mlp_gen.specs.declared.report.Shown.{Shown}
use Rattle.mlp_gen.specs.declared.report.Report.{Report}
use Rattle.mlp_gen.specs.Generator.{generated}
use Rattle.mlp_gen.specs.Player.{Played, sum_with, shown_by, player_at}
use Rattle.mlp_gen.specs.Report.{report_text}

-- the bytes of a sample of raw PCM
abbrev pub width_of : ℕ → ℕ
width_of depth = if depth == 16 then 2 else 3

abbrev pub nothing_shown : Shown
nothing_shown = record { frames = 0; sum = 0; extracted = 0 }

-- of the bytes, which are a stream for presentation k: the frames and the sum of the samples that the presentation shows
-- of the PCM, and how many bytes its extraction has
pub record IsShown (p : Profile) (k : ℕ) (pcm : List (List ℤ)) (bytes : List ℕ) (s : Shown) : Type 0 where
  pub units : List Unit_of
  pub stream : Stream (whole k) (start k) k (bits_of bytes) units
  pub frames : s.frames ≡ length pcm
  pub sum : s.sum ≡ sum_with k 0 (map (presented_of p.mix (low_zeros p.depth) p.channels k) pcm)
  pub extracted : s.extracted ≡ length (extract k units)

-- the bytes that are sent of the PCM, what each presentation of them shows, and what is extracted for each
pub record IsReport (p : Profile) (seed count : ℕ) (r : Report) : Type 0 where
  pub profile : checked p ≡ Ok tt
  pub units : List (List ℕ)
  pub left : Left
  pub sent_is : sent true (Ok (going p)) (generated p seed count) ≡ record { units = units; end = Ok left }
  pub pcm : r.pcm ≡ length (all_frames (generated p seed count)) * (p.channels * width_of p.depth)
  pub stream : r.stream ≡ length (joined units)
  pub presentations : length r.shown.items ≡ substreams_of p.channels
  pub shown : (k : ℕ) → k < substreams_of p.channels
      → IsShown p k (all_frames (generated p seed count)) (joined units) (slice_index_or r.shown.items k nothing_shown)
  pub units_are : r.units ≡ count

-- .. as what the players gave
pub record IsMade (p : Profile) (seed count size : ℕ) (players : List Played) : Type 0 where
  pub units : List (List ℕ)
  pub left : Left
  pub sent_is : sent true (Ok (going p)) (generated p seed count) ≡ record { units = units; end = Ok left }
  pub stream : size ≡ length (joined units)
  pub shown : (k : ℕ) → k < substreams_of p.channels
      → IsShown p k (all_frames (generated p seed count)) (joined units) (shown_by (player_at players k))

-- or a unit has no place
abbrev pub HasNoPlace : Profile → ℕ → ℕ → NoRoom → Type 0
HasNoPlace p seed count room = (sent true (Ok (going p)) (generated p seed count)).end ≡ Err room

abbrev pub IsText : Profile → ℕ → ℕ → List ℕ → Type 0
IsText p seed count text = (r : Report) × IsReport p seed count r × (text ≡ report_text r)

-- why there is none: the profile can't be encoded, or a unit has no place
abbrev pub IsRefused : Profile → ℕ → ℕ → Refusal → Type 0
IsRefused p seed count refusal =
    ((fault : ProfileFault) × (refusal ≡ refused.Pcm (pcm.Profile fault)) × (checked p ≡ Err fault))
    ⊎ ((room : NoRoom) × (refusal ≡ refused.NoRoom room) × (checked p ≡ Ok tt)
    × HasNoPlace p seed count room)

-- what is made, by the end
abbrev pub Makes : Profile → ℕ → ℕ → List ℕ → Result Unit Failure → Type 0
Makes p seed count text (Ok _) = IsText p seed count text
Makes p seed count text (Err Usage) = ⊥
Makes p seed count text (Err OutOfMemory) = Unit {0}
Makes p seed count text (Err (Stopped (Refused refusal))) = IsRefused p seed count refusal
Makes p seed count text (Err (Stopped ReadFault)) = ⊥
Makes p seed count text (Err (Stopped WriteFault)) = ⊥
Makes p seed count text (Err (Stopped TooLong)) = ⊥

-- what the command does to an output: it gets the text, of which a failing write leaves a front, or else nothing
abbrev pub Generates : Profile → ℕ → ℕ → Side → Result Unit Failure → Type 0
Generates p seed count output (Ok _) =
    (text : List ℕ) × IsText p seed count text × Appends output.before output.behind text
Generates p seed count output (Err Usage) = ⊥
Generates p seed count output (Err OutOfMemory) = output.behind ≡ output.before
Generates p seed count output (Err (Stopped (Refused refusal))) =
    IsRefused p seed count refusal × (output.behind ≡ output.before)
Generates p seed count output (Err (Stopped ReadFault)) = ⊥
Generates p seed count output (Err (Stopped WriteFault)) =
    (text : List ℕ) × IsText p seed count text × ((n : ℕ) × Appends output.before output.behind (take n text))
Generates p seed count output (Err (Stopped TooLong)) = ⊥

-- the end of a run that had memory and whose writes didn't fail
abbrev pub IsAnswer : Result Unit Failure → Type 0
IsAnswer end = (end ≢ Err OutOfMemory) × (end ≢ Err (Stopped WriteFault))

-- an output that tells its bytes
abbrev pub told : List ℕ → List ℕ → Side
told before behind = record { before = Some before; behind = Some behind }

-- such runs have an end and an output, and no other
pub record HasOneText (p : Profile) (seed count : ℕ) (before : List ℕ) : Type 0 where
  pub some : (end : Result Unit Failure) × (behind : List ℕ)
      × IsAnswer end × Generates p seed count (told before behind) end
  pub one : (d e : Result Unit Failure) (xs ys : List ℕ) → IsAnswer d → IsAnswer e
      → Generates p seed count (told before xs) d → Generates p seed count (told before ys) e
      → (d ≡ e) × (xs ≡ ys)

-- why no encoder was opened, as a failure
abbrev pub open_failure : OpenRefusal → Failure
open_failure unopened.Memory = OutOfMemory
open_failure (unopened.BadProfile fault) = Stopped (Refused (refused.Pcm (pcm.Profile fault)))
