-- What `decode-raw` makes of a stream, for presentation k and so many bits a sample.
use Rattle.std.specs.Prelude.{◌≡◌, ℕ, ◌+◌, min, Bool, List, [], ◌∷◌, length, Option, Some, None, Result, Ok, Err, ℤ}
use Rattle.std.specs.Option.{option_map}
use Rattle.mlp_syntax.specs.declared.segment.Segment.{Segment}
use Rattle.mlp_unit.specs.AccessUnit.{AccessUnit}
use Rattle.mlp_layout.specs.Streams.{left_after}
use Rattle.mlp_walk.specs.declared.refusal.Refusal.{Refusal as Declined}
use Rattle.mlp_walk.specs.Next.{Taken}
use Rattle.mlp_stream.specs.declared.refusal.Refusal.{Refusal}
use Rattle.mlp_stream.specs.declared.refusal.Refusal.TheVariants.{LowBits}
use Rattle.mlp_stream.specs.Moves.{Move}
use Rattle.mlp_answers.specs.Working.{Working}
use Rattle.mlp_answers.specs.Reading.{refusal_of, Reader, read_step}
use Rattle.mlp_pcm.specs.Samples.{packed, first_low}
use Rattle.mlp_contents.specs.Units.{Left, Unit_of, start, whole, after, frames_out}
use Rattle.mlp_present.specs.Decoding.{Held, opened, after_unit, channels_by, is_open_behind, last_word}

-- the frames of a unit as bytes; where samples have 16 bits, the first frame with a low byte that isn't 0 is refused. So
-- many frames came before
abbrev pub as_bytes : ℕ → ℕ → ℕ → List (List ℤ) → Option ℕ → Result (List ℕ) Refusal
as_bytes bits channels before frames None = Ok (packed bits channels frames)
as_bytes bits channels before frames (Some i) = Err (LowBits (before + i))

abbrev pub played : ℕ → ℕ → ℕ → List (List ℤ) → Result (List ℕ) Refusal
played bits channels before frames = as_bytes bits channels before frames (first_low bits channels frames)

-- the number of frames that units give, behind what earlier ones leave
abbrev pub frames_given : ℕ → Left → List Unit_of → ℕ
frames_given k left [] = 0
frames_given k left (u ∷ us) = length (frames_out k left u) + frames_given k (after k left u) us

-- a frame has places for 8 channels
abbrev pub places : ℕ → ℕ
places channels = min channels 8

-- what comes out of a unit: its frames, in as many channels as the presentation has behind it
abbrev pub unit_played : ℕ → ℕ → ℕ → Left → Unit_of → Result (List ℕ) Refusal
unit_played k bits before left u = played bits (places (channels_by k (after k left u))) before (frames_out k left u)

abbrev pub playing : ℕ → ℕ → Working Left AccessUnit (List Segment)
playing k bits = record {
  format = whole k;
  start = start k;
  wanted = Some k;
  is_open = is_open_behind;
  out = λ us u. unit_played k bits (frames_given k (start k) us) (left_after (whole k) (start k) us) u;
  Ends = λ us last. last ≡ Ok [];
}

-- ---- the session

-- a decoder, the bits of a sample, and the number of frames that it gave
pub record Player : Type 0 where
  pub held : Held
  pub bits : ℕ
  pub frames : ℕ

abbrev pub player : ℕ → ℕ → Player
player k bits = record { held = opened k; bits = bits; frames = 0 }

-- behind one more unit
abbrev pub after_played : Player → Unit_of → Player
after_played s u = record {
  held = after_unit s.held u;
  bits = s.bits;
  frames = s.frames + length (frames_out s.held.k s.held.left u);
}

abbrev pub with_session : Player → Result (List ℕ) Refusal → Result (List ℕ × Player) Refusal
with_session s (Ok bytes) = Ok (bytes, s)
with_session s (Err refusal) = Err refusal

abbrev pub given : Player → Taken AccessUnit (List Segment) → Result (List ℕ × Player) Refusal
given s t = with_session (after_played s t.unit) (unit_played s.held.k s.bits s.frames s.held.left t.unit)

abbrev pub decode_count : Player → ℕ
decode_count s = s.held.units

abbrev pub decode_reader : Reader Player Left AccessUnit (List Segment)
decode_reader = record {
  left = λ s. s.held.left;
  count = decode_count;
  refusal = λ s. option_map refusal_of s.held.refusal;
  gives = given;
}

-- of the session's own presentation
abbrev pub decode_step : Player → Bool → List ℕ → Move Player
decode_step s = read_step (whole s.held.k) (Some s.held.k) is_open_behind decode_reader s

-- nothing comes out at the end
abbrev pub on_end : Result (Unit {0}) Declined → Result (List ℕ) Refusal
on_end (Ok _) = Ok []
on_end (Err refusal) = Err (refusal_of refusal)

abbrev pub decode_last : Player → Result (List ℕ) Refusal
decode_last s = on_end (last_word s.held)
