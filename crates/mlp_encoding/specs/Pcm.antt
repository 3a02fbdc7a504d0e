-- The PCM that an encoder is given, unit by unit.
use Rattle.std.specs.Prelude.{◌≡◌, ◌≢◌, ◌<◌, ◌≤◌, ◌⊎◌, ℕ, ◌+◌, ◌*◌, ◌%◌, ◌==◌, nat_le, ◌||◌, Bool, true, false, List, [], ◌∷◌, ◌++◌, length, map, take, All, Option, None, Some, Result, Ok, Err, ℤ, if◌then◌else◌}
use Rattle.mlp_syntax.specs.declared.major.Kind.TheVariants.{Fbb}
use Rattle.mlp_syntax.specs.declared.refusal.PcmFault.{PcmFault}
use Rattle.mlp_syntax.specs.declared.refusal.PcmFault.TheVariants.{Empty, PadBits, PartialFrame, PartialUnit}
use Rattle.mlp_stream.specs.declared.refusal.Refusal.TheVariants.{Pcm}
use Rattle.mlp_stream.specs.declared.stop.Stop.{Stop}
use Rattle.mlp_stream.specs.declared.stop.Stop.TheVariants.{Refused, TooLong}
use Rattle.mlp_pcm.specs.Samples.{rows_in, are_clear, first_failing}
use Rattle.mlp_fifo.specs.Pace.{unit_of}
use Rattle.mlp_fold.specs.declared.profile.Profile.{Profile}
use Rattle.mlp_encode.specs.Unit.{joined}

-- ---- sizes in bytes

abbrev pub sample_size : ℕ → ℕ
sample_size depth = if depth == 16 then 2 else 3

abbrev pub frame_size : Profile → ℕ
frame_size p = p.channels * sample_size p.depth

-- of the frames of an access unit
abbrev pub full_size : Profile → ℕ
full_size p = unit_of p.rate * frame_size p

-- ---- what bytes hold

-- the whole frames
abbrev pub frames_in : Profile → List ℕ → List (List ℤ)
frames_in p bytes = rows_in (sample_size p.depth) p.channels bytes

-- the number of the first of them with a sample whose low bits, which its depth doesn't have, are not 0
abbrev pub first_padded : Profile → List ℕ → Option ℕ
first_padded p bytes = first_failing (are_clear p.depth) (frames_in p bytes)

-- ---- where the data end

-- the data are all bytes, or as many as a header states, if it does
abbrev pub data_in : Option ℕ → List ℕ → List ℕ
data_in None bytes = bytes
data_in (Some size) bytes = take size bytes

-- was the end of the data seen, where the bytes are all (true) or may go on (false)?
abbrev pub is_seen : Option ℕ → Bool → List ℕ → Bool
is_seen None ended bytes = ended
is_seen (Some size) ended bytes = ended || nat_le size (length bytes)

-- ---- the data, unit by unit

pub record IsFull (p : Profile) (bytes : List ℕ) : Type 0 where
  pub size : length bytes ≡ full_size p
  pub clear : first_padded p bytes ≡ None

-- the last unit, which may have fewer frames in TrueHD
pub record IsLastUnit (p : Profile) (bytes : List ℕ) : Type 0 where
  pub some : 0 < length bytes
  pub most : length bytes ≤ full_size p
  pub whole : length bytes % frame_size p ≡ 0
  pub full : p.kind ≡ Fbb → length bytes ≡ full_size p
  pub clear : first_padded p bytes ≡ None

-- these units and what is behind them
pub record AreFull (p : Profile) (pcm : List ℕ) (units : List (List ℕ)) (rest : List ℕ) : Type 0 where
  pub are : pcm ≡ joined units ++ rest
  pub full : All (IsFull p) units

abbrev pub refusing : PcmFault → Result Unit Stop
refusing fault = Err (Refused (Pcm fault))

-- all bytes of the data were read; those behind them are passed over
abbrev pub complete : Bool → Result Unit Stop
complete true = Ok tt
complete false = Err TooLong

-- What is behind so many full units, where bytes and data end or may go on: the frames of one more unit, or none;
-- whether that unit is the last one; and how it ends, if each unit has a place.
pub data Ends (p : Profile) (units : ℕ) (ended seen : Bool) (rest : List ℕ) :
    List (List (List ℤ)) → Bool → Result Unit Stop → Type 0 where
  -- the last unit
  whole : seen ≡ true → IsLastUnit p rest → Ends p units ended seen rest (frames_in p rest ∷ []) true (complete ended)
  -- there was no byte of data
  empty : seen ≡ true → units ≡ 0 → rest ≡ [] → Ends p units ended seen rest [] false (refusing Empty)
  -- a frame of the next unit, all of whose bytes are there, has a sample with low bits that aren't 0
  padded : (frame : ℕ) → (seen ≡ true) ⊎ (full_size p ≤ length rest)
      → first_padded p (take (full_size p) rest) ≡ Some frame
      → Ends p units ended seen rest [] false (refusing (PadBits (units * unit_of p.rate + frame)))
  -- the data end inside a frame
  cut_frame : seen ≡ true → length rest < full_size p → first_padded p rest ≡ None → length rest % frame_size p ≢ 0
      → Ends p units ended seen rest [] false (refusing PartialFrame)
  -- the data of MLP end inside a unit
  cut_unit : seen ≡ true → p.kind ≡ Fbb → 0 < length rest → length rest < full_size p → first_padded p rest ≡ None
      → length rest % frame_size p ≡ 0 → Ends p units ended seen rest [] false (refusing PartialUnit)
  -- the next unit isn't whole, or may be the last one
  unfinished : seen ≡ false → (0 < length rest) ⊎ (units ≡ 0) → length rest ≤ full_size p
      → (length rest ≡ full_size p → first_padded p rest ≡ None)
      → Ends p units ended seen rest [] false (Err TooLong)

-- Data are the frames of these units, the last of which is the last one of all (true) or not (false), up to how they
-- end.
pub record IsPcm (p : Profile) (ended seen : Bool) (pcm : List ℕ)
    (frames : List (List (List ℤ))) (last : Bool) (end : Result Unit Stop) : Type 0 where
  pub units : List (List ℕ)
  pub rest : List ℕ
  pub more : List (List (List ℤ))
  pub full : AreFull p pcm units rest
  pub ends : Ends p (length units) ended seen rest more last end
  pub frames_are : frames ≡ map (frames_in p) units ++ more
