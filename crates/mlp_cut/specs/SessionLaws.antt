-- A cutter is a session: what a trait asks of it, with its proof.
use Rattle.std.proofs.Common.{◌≡◌, ℕ, ◌+◌, List, Result, Ok, Err, None, sym, ap}
use Rattle.mlp_stream.specs.declared.refusal.Refusal.{Refusal}
use Rattle.mlp_stream.specs.Moves.{IsSession}
use Rattle.mlp_walk.specs.Next.{Taken}
use Rattle.mlp_unit.specs.AccessUnit.{AccessUnit}
use Rattle.mlp_unit.specs.Outline.{outline}
use Rattle.mlp_unit.proofs.OutlineLaws.{outline_is}
use Rattle.mlp_answers.specs.Working.{IsOpenTest}
use Rattle.mlp_answers.specs.Reading.{IsReader}
use Rattle.mlp_answers.proofs.ReadingLaws.{read_lawful}
use Rattle.mlp_outline.proofs.OpenLaws.{closed_decided, open_none, open_bits, open_empty, open_enough, closed_stays}
use Rattle.mlp_outline.proofs.Outlines.{outline_bytes}
use Rattle.mlp_cut.specs.Cut.{unit_bytes}
use Rattle.mlp_cut.specs.Cutting.{is_open_outline, cut_out}
use Rattle.mlp_cut.specs.Cutter.{Held, after_unit, with_after, reader, cut_step, cut_count}

-- whether the next unit is open, of which the outer part alone is read
pub outline_open : IsOpenTest outline is_open_outline
outline_open = record {
  by_bits = λ first xs ys e. open_bits xs ys e;
  none = λ first. open_empty;
  enough = λ first bytes l. open_enough bytes l;
  no_unit = λ first bytes u opens next. open_none first bytes opens u.outer next.outer;
  stays = λ first bytes more closed. closed_stays bytes more closed;
  settled = λ first bytes more closed. closed_decided first bytes closed more;
}

-- ---- each unit is counted

abbrev given : List ℕ × Held → Result (List ℕ × Held) Refusal
given x = Ok x

given_is : (x y : List ℕ × Held) → given x ≡ given y → x ≡ y
given_is x y e = cc

counted : (s t : Held) (u : Taken AccessUnit (Unit {0})) (out : List ℕ)
    (r : Result (List ℕ) Refusal) → with_after s u r ≡ Ok (out, t) → t.read.units ≡ s.read.units + 1
counted s t u out (Ok xs) e = ap (λ (x : List ℕ × Held). x.1.read.units)
    (sym (given_is (xs, after_unit s u) (out, t) e))
counted s t u out (Err r) e = absurd cc

reader_is : IsReader outline None is_open_outline reader
reader_is = record {
  counts = λ s t u out e. counted s t u out
      (cut_out s.first s.count s.read.units u.unit.outer.major (unit_bytes u.unit.outer)) e;
}

pub cut_lawful : IsSession cut_step cut_count
cut_lawful = read_lawful outline None is_open_outline reader outline_is outline_bytes outline_open reader_is
