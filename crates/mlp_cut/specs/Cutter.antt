-- What a cutter knows, and what it does with the next unit.
use Rattle.std.specs.Prelude.{ℕ, ◌==◌, Bool, List, option_map, Option, Some, None, Result, Ok, Err, if◌then◌else◌}
use Rattle.mlp_syntax.specs.declared.major.MajorSync.{MajorSync}
use Rattle.mlp_stream.specs.declared.refusal.Refusal.{Refusal}
use Rattle.mlp_stream.specs.Moves.{Move}
use Rattle.mlp_walk.specs.Next.{Taken}
use Rattle.mlp_walk.specs.declared.refusal.Refusal.{Refusal as Declined}
use Rattle.mlp_unit.specs.AccessUnit.{AccessUnit}
use Rattle.mlp_unit.specs.Outline.{outline}
use Rattle.mlp_answers.specs.Reading.{refusal_of, no_unit, Reader, read_step}
use Rattle.mlp_outline.specs.Outlining.{Outlined, nothing_read, after_outline}
use Rattle.mlp_cut.specs.Cut.{unit_bytes}
use Rattle.mlp_cut.specs.Cutting.{is_open_outline, cut_out, cut_end}

-- where the cut begins and how many units it has, what was read, and what was refused
pub record Held : Type 0 where
  pub first : ℕ
  pub count : ℕ
  pub read : Outlined
  pub refusal : Option Refusal

abbrev pub held_with : ℕ → ℕ → Outlined → Held
held_with f c read = record { first = f; count = c; read = read; refusal = None }

abbrev pub opened : ℕ → ℕ → Held
opened f c = held_with f c nothing_read

abbrev pub after_unit : Held → Taken AccessUnit (Unit {0}) → Held
after_unit held t = record {
  first = held.first;
  count = held.count;
  read =
      after_outline held.read (Ok t);
  refusal = held.refusal;
}

abbrev pub with_after : Held → Taken AccessUnit (Unit {0}) → Result (List ℕ) Refusal → Result (List ℕ × Held) Refusal
with_after held t (Ok out) = Ok (out, after_unit held t)
with_after held t (Err refusal) = Err refusal

-- what was refused, or what its reader of outer parts refused
abbrev pub refused : Option Refusal → Option Declined → Option Refusal
refused (Some refusal) read = Some refusal
refused None read = option_map refusal_of read

abbrev pub reader : Reader Held (Option MajorSync) AccessUnit (Unit {0})
reader = record {
  left = λ held. held.read.first;
  count = λ held. held.read.units;
  refusal = λ held. refused held.refusal held.read.refusal;
  gives = λ held t. with_after held t
      (cut_out held.first held.count held.read.units t.unit.outer.major (unit_bytes t.unit.outer));
}

abbrev pub cut_step : Held → Bool → List ℕ → Move Held
cut_step = read_step outline None is_open_outline reader

abbrev pub cut_count : Held → ℕ
cut_count held = held.read.units

abbrev pub last_of : Option Refusal → ℕ → ℕ → ℕ → Result (List ℕ) Refusal
last_of (Some refusal) f c n = Err refusal
last_of None f c n = if n == 0 then Err no_unit else cut_end f c n

abbrev pub cut_last : Held → Result (List ℕ) Refusal
cut_last held = last_of held.refusal held.first held.count held.read.units
