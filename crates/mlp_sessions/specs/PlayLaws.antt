-- The session of `decode-raw` is one: what a trait asks of it, with its proof.
use Rattle.std.proofs.Common.{◌≡◌, ℕ, List, Result, Ok, Err, Some, sym, ap}
use Rattle.mlp_syntax.specs.declared.segment.Segment.{Segment}
use Rattle.mlp_unit.specs.AccessUnit.{AccessUnit}
use Rattle.mlp_stream.specs.declared.refusal.Refusal.{Refusal}
use Rattle.mlp_stream.specs.Moves.{IsSession}
use Rattle.mlp_answers.specs.Working.{IsOpenTest}
use Rattle.mlp_answers.specs.Reading.{IsReader, Reader, read_step}
use Rattle.mlp_answers.proofs.ReadingLaws.{read_lawful}
use Rattle.mlp_contents.specs.Units.{Left, whole}
use Rattle.mlp_contents.proofs.FormatLaws.{whole_is, whole_bytes}
use Rattle.mlp_present.specs.Decoding.{is_open_behind}
use Rattle.mlp_present.proofs.WaitLaws.{waits_bits, waits_empty, waits_enough, waits_none, waits_stays, waits_settled}
use Rattle.mlp_sessions.specs.Playing.{Player, after_played, with_session, unit_played, decode_reader, decode_count, decode_step}

-- whether the next unit is open
pub whole_open : (k : ℕ) → IsOpenTest (whole k) is_open_behind
whole_open k = record {
  by_bits = waits_bits;
  none = waits_empty;
  enough = waits_enough;
  no_unit = λ left bytes u opens next. waits_none k left bytes u opens next;
  stays = waits_stays;
  settled = waits_settled k;
}

-- a session that reads whole units and counts them is one
pub whole_lawful : {S : Type 0} (k : ℕ) (reader : Reader S Left AccessUnit (List Segment))
    → IsReader (whole k) (Some k) is_open_behind reader
    → IsSession (read_step (whole k) (Some k) is_open_behind reader) reader.count
whole_lawful k reader counts = read_lawful (whole k) (Some k) is_open_behind reader (whole_is k)
    (whole_bytes k) (whole_open k) counts

-- each unit is counted
units_in : Result (List ℕ × Player) Refusal → ℕ
units_in (Ok x) = x.1.held.units
units_in (Err r) = 0

given_units : (s t : Player) (x : Result (List ℕ) Refusal) (out : List ℕ)
    → with_session s x ≡ Ok (out, t) → t.held.units ≡ s.held.units
unfolding units_in
given_units s t (Ok bytes) out e = sym (ap units_in e)
given_units s t (Err r) out e = absurd cc

decode_counts : (k : ℕ) → IsReader (whole k) (Some k) is_open_behind decode_reader
decode_counts k = record {
  counts = λ s t u out e. given_units (after_played s u.unit) t
      (unit_played s.held.k s.bits s.frames s.held.left u.unit) out e;
}

lawful_at : (k : ℕ) → IsSession (read_step (whole k) (Some k) is_open_behind decode_reader) decode_count
lawful_at k = whole_lawful k decode_reader (decode_counts k)

pub decode_lawful : IsSession decode_step decode_count
decode_lawful = record {
  settled = λ s next more ended m. (lawful_at s.held.k).settled s next more ended m;
  enough = λ s next long. (lawful_at s.held.k).enough s next long;
  ends = λ s next some. (lawful_at s.held.k).ends s next some;
  within = λ s next ended. (lawful_at s.held.k).within s next ended;
}
