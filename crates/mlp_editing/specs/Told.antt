-- What is written of the pieces of damaged bytes.
use Rattle.std.specs.Prelude.{◌≡◌, ℕ, List, ◌++◌, map, length, All, codes, decimal, Result, Ok, Err}
use Rattle.std.specs.Io.KnownBytes.{Appends}
use Rattle.std.specs.List.{flat_map}
use Rattle.mlp_stream.specs.declared.stop.Stop.{Stop}
use Rattle.mlp_stream.specs.Sides.{Side}
use Rattle.mlp_stream.specs.Gathers.{IsWriteStop}
use Rattle.mlp_decoded.specs.Decoded.{decoded}
use Rattle.mlp_recover.specs.declared.span.Span.{Span}
use Rattle.mlp_recover.specs.Recovered.{Piece, Lost, Kept, IsRight}
use Rattle.mlp_recover.specs.Spans.{span_of}

-- the first byte and the one past the last
abbrev pub lost_line : ℕ → ℕ → List ℕ
lost_line first past = codes "lost " ++ decimal first ++ codes " " ++ decimal past ++ codes "\n"

-- .. and of a kept one the numbers of units, of channels and of bytes that follow, and the rate in hertz
abbrev pub kept_line : Span → ℕ → List ℕ
kept_line span bytes =
    codes "kept " ++ decimal span.first ++ codes " " ++ decimal span.past
    ++ codes " units " ++ decimal span.units ++ codes " channels " ++ decimal span.channels
    ++ codes " rate " ++ decimal span.rate ++ codes " bytes " ++ decimal bytes ++ codes "\n"

-- behind the line of a kept piece stand its samples, in 24 bits
abbrev pub told : ℕ → Piece → List ℕ
told k (Lost first past) = lost_line first past
told k (Kept first past us) =
    kept_line (span_of k (Kept first past us)) (length (decoded k 24 us)) ++ decoded k 24 us

abbrev pub all_told : ℕ → List Piece → List ℕ
all_told k ps = flat_map (told k) ps

-- ---- writing it

-- the output gained the text, or a write failed behind its front
abbrev pub Puts : Side → List ℕ → Result Unit Stop → Type 0
Puts output text (Ok _) = Appends output.before output.behind text
Puts output text (Err stop) = IsWriteStop output text stop

-- this span is that of a piece of the bytes
abbrev pub IsSpan : ℕ → List ℕ → Span → Piece → Type 0
IsSpan k bytes span p = IsRight k bytes p × (span ≡ span_of k p)

-- .. each of these
abbrev pub AreSpansOf : ℕ → List ℕ → List Span → List Piece → Type 0
AreSpansOf k bytes spans ps = All (IsRight k bytes) ps × (spans ≡ map (span_of k) ps)
