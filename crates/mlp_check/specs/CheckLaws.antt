-- The session of `check` is one: what a trait asks of it, with its proof.
use Rattle.std.proofs.Common.{ℕ, List, Result, Ok, Err, Some, sym, ap}
use Rattle.mlp_stream.specs.declared.refusal.Refusal.{Refusal}
use Rattle.mlp_stream.specs.Moves.{IsSession}
use Rattle.mlp_answers.specs.Reading.{IsReader, read_step}
use Rattle.mlp_contents.specs.Units.{whole}
use Rattle.mlp_present.specs.Decoding.{is_open_behind}
use Rattle.mlp_sessions.specs.PlayLaws.{whole_lawful}
use Rattle.mlp_check.specs.Check.{CheckState, check_reader, check_count, check_step}

-- each unit is counted
units_in : Result (List ℕ × CheckState) Refusal → ℕ
units_in (Ok x) = x.1.held.units
units_in (Err r) = 0

check_counts : (k : ℕ) → IsReader (whole k) (Some k) is_open_behind check_reader
unfolding units_in
check_counts k = record { counts = λ s t u out e. sym (ap units_in e) }

lawful_at : (k : ℕ) → IsSession (read_step (whole k) (Some k) is_open_behind check_reader) check_count
lawful_at k = whole_lawful k check_reader (check_counts k)

pub check_lawful : IsSession check_step check_count
check_lawful = record {
  settled = λ s next more ended m. (lawful_at s.held.k).settled s next more ended m;
  enough = λ s next long. (lawful_at s.held.k).enough s next long;
  ends = λ s next some. (lawful_at s.held.k).ends s next some;
  within = λ s next ended. (lawful_at s.held.k).within s next ended;
}
