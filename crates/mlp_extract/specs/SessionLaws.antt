-- An extractor is a session: what a trait asks of it, with its proof.
use Rattle.std.proofs.Common.{◌≡◌, ℕ, ◌+◌, List, Result, Ok, Err, Some, sym, ap}
use Rattle.mlp_syntax.specs.declared.segment.Segment.{Segment}
use Rattle.mlp_unit.specs.AccessUnit.{AccessUnit}
use Rattle.mlp_walk.specs.Next.{Taken}
use Rattle.mlp_stream.specs.declared.refusal.Refusal.{Refusal}
use Rattle.mlp_stream.specs.Moves.{IsSession}
use Rattle.mlp_answers.specs.Reading.{IsReader, read_step}
use Rattle.mlp_contents.specs.Units.{whole}
use Rattle.mlp_present.specs.Decoding.{Held, is_open_behind}
use Rattle.mlp_sessions.specs.PlayLaws.{whole_lawful}
use Rattle.mlp_extract.specs.Extractor.{given, extract_count, extract_reader, extract_step}

-- each unit is counted
units_in : Result (List ℕ × Held) Refusal → ℕ
units_in (Ok x) = x.1.units
units_in (Err r) = 0

counted : (s t : Held) (u : Taken AccessUnit (List Segment)) (out : List ℕ)
    → given s u ≡ Ok (out, t) → t.units ≡ s.units + 1
unfolding units_in
counted s t u out e = sym (ap units_in e)

reader_is : (k : ℕ) → IsReader (whole k) (Some k) is_open_behind extract_reader
reader_is k = record { counts = λ s t u out e. counted s t u out e }

lawful_at : (k : ℕ) → IsSession (read_step (whole k) (Some k) is_open_behind extract_reader) extract_count
lawful_at k = whole_lawful k extract_reader (reader_is k)

pub extract_lawful : IsSession extract_step extract_count
extract_lawful = record {
  settled = λ s next more ended m. (lawful_at s.k).settled s next more ended m;
  enough = λ s next long. (lawful_at s.k).enough s next long;
  ends = λ s next some. (lawful_at s.k).ends s next some;
  within = λ s next ended. (lawful_at s.k).within s next ended;
}
