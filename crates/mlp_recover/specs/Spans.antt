-- What is told of a piece.
use Rattle.std.specs.Prelude.{◌≡◌, ℕ, ◌<◌, ◌^◌, true, false, List, map, length, Option, Some, None}
use Rattle.mlp_unit.specs.AccessUnit.{stream_rate}
use Rattle.mlp_samples.specs.Samples.{samples}
use Rattle.mlp_present.specs.Decoding.{channels_by}
use Rattle.mlp_recover.specs.declared.span.Span.{Span}
use Rattle.mlp_samples.specs.Behind.{left_behind}
use Rattle.mlp_recover.specs.Recovered.{Piece, Lost, Kept, AreRecovered}

-- its numbers: of a kept piece the units, the frames of the presentation, its channels and its rate
abbrev pub span_of : ℕ → Piece → Span
span_of k (Lost first past) = record {
  first = first;
  past = past;
  kept = false;
  units = 0;
  frames =
      0;
  channels = 0;
  rate = 0;
}
span_of k (Kept first past us) = record {
  first = first;
  past = past;
  kept = true;
  units = length us;
  frames = length (samples k us);
  channels = channels_by k (left_behind k us);
  rate = stream_rate (left_behind k us).sync;
}

-- as few as bytes up to the limit have
abbrev pub HasFewFrames : Span → Type 0
HasFewFrames span = span.frames < 2 ^ 46

-- these spans are those of the pieces
pub record AreSpans (k : ℕ) (bytes : List ℕ) (spans : List Span) : Type 0 where
  pub pieces : List Piece
  pub recovered : AreRecovered k bytes pieces
  pub spans_are : spans ≡ map (span_of k) pieces
