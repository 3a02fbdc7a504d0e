-- A retimer is a session: what a trait asks of it, with its proof.
use Rattle.std.proofs.Common.{◌≡◌, ℕ, ◌+◌, ltb, cond, not, Bool, true, false, List, length, Result, Ok, Err, Option, None, is_none, refl, sym, ap, ◌∙◌}
use Rattle.std.specs.Prelude.{if◌then◌else◌}
use Rattle.mlp_syntax.specs.declared.fault.Field.TheVariants as rule
use Rattle.mlp_syntax.specs.declared.major.MajorSync.{MajorSync}
use Rattle.mlp_syntax.specs.declared.segment.Segment.{Segment}
use Rattle.mlp_bits.specs.Bits.{bits_of}
use Rattle.mlp_layout.specs.Layout.{Layout, Found, tested}
use Rattle.mlp_layout.specs.Streams.{IsFormat}
use Rattle.mlp_unit.specs.AccessUnit.{AccessUnit, access_unit}
use Rattle.mlp_walk.specs.Next.{Taken, TakesBytes}
use Rattle.mlp_stream.specs.declared.refusal.Refusal.{Refusal}
use Rattle.mlp_stream.specs.Moves.{IsSession}
use Rattle.mlp_answers.specs.Working.{IsOpenTest}
use Rattle.mlp_answers.specs.Reading.{IsReader}
use Rattle.mlp_answers.proofs.ReadingLaws.{read_lawful}
use Rattle.mlp_outline.specs.Next.{is_open}
use Rattle.mlp_outline.proofs.OpenLaws.{open_none}
use Rattle.mlp_contents.proofs.FormatLaws.{whole_is, whole_bytes}
use Rattle.mlp_fifo.specs.LeftFifo.{LeftFifo}
use Rattle.mlp_present.specs.Decoding.{Held, opened, is_open_behind}
use Rattle.mlp_sessions.specs.PlayLaws.{whole_open}
use Rattle.mlp_retime.specs.Top.{highest, highest_behind, begun, top}
use Rattle.mlp_retime.specs.Retimer.{RetimeState, after_top, with_state, retime_given, retime_count, retime_reader, retime_step}

-- ---- the format is lawful, as those of the presentations are

pub top_is : IsFormat top
top_is = record {
  outer_is = (whole_is 0).outer_is;
  contents_are = λ left o. (whole_is (highest_behind left o)).contents_are (begun (highest_behind left o) left) o;
  takes_bits = (whole_is 0).takes_bits;
}

pub top_bytes : TakesBytes top
top_bytes = record { whole = (whole_bytes 0).whole }

-- an outer part tells whether a unit is there, whatever the presentation
abbrev outer_at : Bool → Option MajorSync → Layout AccessUnit
outer_at ended first = tested rule.AfterEnd (not ended) (access_unit first)

none_stands : (ended : Bool) (first : Option MajorSync) (next : List ℕ) (o : AccessUnit)
    → cond ended (ltb (length next) 1) (is_open next) ≡ true
    → Found (outer_at ended first) (bits_of next) 0 o → ⊥
unfolding tested
none_stands true first next o e f = let never = f.meets.0 in absurd cc
none_stands false first next o e f =
    open_none first next e o (record { fits = f.fits; meets = f.meets.1; stands = f.stands })

pub top_open : IsOpenTest top is_open_behind
top_open = record {
  by_bits = (whole_open 0).by_bits;
  none = (whole_open 0).none;
  enough = (whole_open 0).enough;
  no_unit = λ left bytes u opens next. none_stands left.ended left.sync bytes u.outer opens next.outer;
  stays = (whole_open 0).stays;
  settled = (whole_open 0).settled;
}

-- ---- each unit is counted

units_in : Result (List ℕ × RetimeState) Refusal → ℕ
units_in (Ok x) = x.1.held.units
units_in (Err r) = 0

decoder_units : (held : Held) (o : AccessUnit) (none : Bool)
    → (if none then record (opened (highest o.major)) { units = held.units } else held).units
    ≡ held.units
decoder_units held o true = refl
decoder_units held o false = refl

given_units : (held : Held) (fifo : LeftFifo) (t : RetimeState) (x : Result (List ℕ) Refusal)
    (out : List ℕ) → with_state held fifo x ≡ Ok (out, t) → t.held.units ≡ held.units
unfolding units_in
given_units held fifo t (Ok bytes) out e = sym (ap units_in e)
given_units held fifo t (Err r) out e = absurd cc

counted : (s t : RetimeState) (u : Taken AccessUnit (List Segment)) (out : List ℕ)
    → retime_given s u ≡ Ok (out, t) → t.held.units ≡ s.held.units + 1
counted s t u out e =
    given_units (after_top s.held u.unit) _ t _ out e
    ∙ ap (λ (n : ℕ). n + 1) (decoder_units s.held u.unit.outer (is_none s.held.left.sync))

reader_is : IsReader top None is_open_behind retime_reader
reader_is = record { counts = λ s t u out e. counted s t u out e }

pub retime_lawful : IsSession retime_step retime_count
retime_lawful = read_lawful top None is_open_behind retime_reader top_is top_bytes top_open reader_is
