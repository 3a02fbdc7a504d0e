-- The command that retimes a stream: it reads all that decoding its highest presentation reads.
use Rattle.std.specs.Prelude.{◌≡◌, ℕ, ◌%◌, List, [], ◌∷◌, length, map, Option, None, Result, Ok, Err}
use Rattle.mlp_syntax.specs.declared.major.MajorSync.{MajorSync}
use Rattle.mlp_syntax.specs.declared.refusal.NoRoom.{NoRoom}
use Rattle.mlp_syntax.specs.declared.segment.Segment.{Segment}
use Rattle.mlp_layout.specs.Streams.{left_after}
use Rattle.mlp_unit.specs.AccessUnit.{AccessUnit, in_force, stream_kind, stream_rate}
use Rattle.mlp_cut.specs.Cut.{unit_bytes}
use Rattle.mlp_stream.specs.declared.refusal.Refusal.{Refusal}
use Rattle.mlp_stream.specs.declared.refusal.Refusal.TheVariants as refused
use Rattle.mlp_answers.specs.Working.{Working}
use Rattle.mlp_contents.specs.Units.{Left, Unit_of, start}
use Rattle.mlp_fifo.specs.Schedule.{out_of}
use Rattle.mlp_fifo.specs.LeftFifo.{LeftFifo}
use Rattle.mlp_fifo.specs.Placed.{placed, emptied}
use Rattle.mlp_present.specs.Decoding.{is_open_behind}
use Rattle.mlp_retime.specs.Top.{top}
use Rattle.mlp_retime.specs.Retimed.{retimed, length_of, pace_in}

-- an empty buffer for a stream with this first major sync
abbrev pub fifo_for : Option MajorSync → LeftFifo
fifo_for sync = emptied (stream_kind sync) (stream_rate sync)

-- .. and behind units of these lengths, placed one after the other
abbrev pub behind_placed : LeftFifo → Result (ℕ × LeftFifo) NoRoom → LeftFifo
behind_placed fifo (Ok r) = r.1
behind_placed fifo (Err e) = fifo

abbrev pub fifo_behind : LeftFifo → List ℕ → LeftFifo
fifo_behind fifo [] = fifo
fifo_behind fifo (b ∷ bs) = fifo_behind (behind_placed fifo (placed fifo b)) bs

-- the unit with this output timing, by its place in the earliest schedule
abbrev pub on_placed : Option MajorSync → ℕ → Unit_of → Result (ℕ × LeftFifo) NoRoom → Result (List ℕ) Refusal
on_placed sync output u (Ok r) = Ok (unit_bytes (retimed sync (r.0 % 65536) (output % 65536) u))
on_placed sync output u (Err e) = Err (refused.NoRoom e)

-- what comes out of the unit of this number, before which the buffer holds this
abbrev pub retimed_out : Option MajorSync → ℕ → LeftFifo → Unit_of → Result (List ℕ) Refusal
retimed_out sync number fifo u =
    on_placed sync (out_of (pace_in sync) number) u (placed fifo (length_of u))

-- the stream's first major sync, which may be this unit's
abbrev pub sync_with : List Unit_of → Unit_of → Option MajorSync
sync_with us u = in_force (left_after top (start 0) us).sync u.outer.major

abbrev pub retiming : Working Left AccessUnit (List Segment)
retiming = record {
  format = top;
  start = start 0;
  wanted = None;
  is_open = is_open_behind;
  out = λ us u.
      let sync = sync_with us u in
      retimed_out sync (length us) (fifo_behind (fifo_for sync) (map length_of us)) u;
  Ends = λ us last. last ≡ Ok [];
}
