-- The command that cuts a stream: it reads the outer parts of all units, and no segment.
use Rattle.std.specs.Prelude.{◌≡◌, ℕ, ◌+◌, nat_le, Bool, List, [], length, Option, None, Result, Ok, Err, if◌then◌else◌}
use Rattle.mlp_syntax.specs.declared.major.MajorSync.{MajorSync}
use Rattle.mlp_stream.specs.declared.refusal.Refusal.{Refusal}
use Rattle.mlp_stream.specs.declared.refusal.Refusal.TheVariants.{NoRestart, NotThere}
use Rattle.mlp_layout.specs.Streams.{UnitOf}
use Rattle.mlp_unit.specs.AccessUnit.{AccessUnit}
use Rattle.mlp_unit.specs.Outline.{outline}
use Rattle.mlp_answers.specs.Working.{Working}
use Rattle.mlp_outline.specs.Next.{is_open}
use Rattle.mlp_cut.specs.Cut.{unit_bytes, piece, lacks_restart}

-- a unit whose outer part alone is read
abbrev pub OuterUnit : Type 0
OuterUnit = UnitOf AccessUnit (Unit {0})

abbrev pub is_open_outline : Option MajorSync → List ℕ → Bool
is_open_outline first bytes = is_open bytes

-- what comes out of unit n, which has this major sync and these bytes, or that the cut can't begin at it
abbrev pub cut_out : ℕ → ℕ → ℕ → Option MajorSync → List ℕ → Result (List ℕ) Refusal
cut_out f c n major bytes = if lacks_restart f c n major then Err (NoRestart f) else Ok (piece f c n bytes)

-- behind n units in all: nothing more comes out, or the cut isn't all there
abbrev pub cut_end : ℕ → ℕ → ℕ → Result (List ℕ) Refusal
cut_end f c n = if nat_le (f + c) n then Ok [] else Err (NotThere n)

-- the c units from unit f on. All units are read, also those behind the cut
abbrev pub cutting : ℕ → ℕ → Working (Option MajorSync) AccessUnit (Unit {0})
cutting f c = record {
  format = outline;
  start = None;
  wanted = None;
  is_open = is_open_outline;
  out = λ us u. cut_out f c (length us) u.outer.major (unit_bytes u.outer);
  Ends = λ us r. r ≡ cut_end f c (length us);
}
