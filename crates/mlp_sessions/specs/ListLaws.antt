-- The session of `list` is one: what a trait asks of it, with its proof.
use Rattle.std.proofs.Common.{ℕ, List, Result, Ok, Err, None, sym, ap}
use Rattle.mlp_unit.specs.Outline.{outline}
use Rattle.mlp_unit.proofs.OutlineLaws.{outline_is}
use Rattle.mlp_stream.specs.declared.refusal.Refusal.{Refusal}
use Rattle.mlp_stream.specs.Moves.{IsSession}
use Rattle.mlp_answers.specs.Working.{IsOpenTest}
use Rattle.mlp_answers.specs.Reading.{IsReader}
use Rattle.mlp_answers.proofs.ReadingLaws.{read_lawful}
use Rattle.mlp_outline.specs.Outlining.{Outlined}
use Rattle.mlp_outline.proofs.OpenLaws.{closed_decided, open_none, open_bits, open_empty, open_enough, closed_stays}
use Rattle.mlp_outline.proofs.Outlines.{outline_bytes}
use Rattle.mlp_sessions.specs.Listing.{is_open_outline, list_reader, list_count, list_step}

-- whether the next unit is open, of which the outer part alone is read
pub outline_open : IsOpenTest outline is_open_outline
outline_open = record {
  by_bits = λ first xs ys e. open_bits xs ys e;
  none = λ first. open_empty;
  enough = λ first bytes l. open_enough bytes l;
  no_unit = λ first bytes u opens next. open_none first bytes opens u.outer next.outer;
  stays = λ first bytes more closed. closed_stays bytes more closed;
  settled = λ first bytes more closed. closed_decided first bytes closed more;
}

-- each unit is counted
units_in : Result (List ℕ × Outlined) Refusal → ℕ
units_in (Ok x) = x.1.units
units_in (Err r) = 0

list_counts : IsReader outline None is_open_outline list_reader
unfolding units_in
list_counts = record { counts = λ s t u out e. sym (ap units_in e) }

pub list_lawful : IsSession list_step list_count
list_lawful = read_lawful outline None is_open_outline list_reader outline_is outline_bytes outline_open list_counts
