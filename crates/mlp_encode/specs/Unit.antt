-- The next unit that is sent.
use Rattle.std.specs.Prelude.{◌≡◌, ℕ, ◌+◌, ◌-◌, ◌/◌, ◌%◌, ◌^◌, ◌<◌, ◌≤◌, ◌==◌, Bool, true, false, not, List, [], ◌∷◌, ◌++◌, length, map, replicate, take, slice_index_or, Option, Some, None, Result, Ok, Err, ℤ, pos, All, if◌then◌else◌}
use Rattle.std.specs.List.{range_with_len}
use Rattle.mlp_syntax.specs.declared.major.Kind.{Kind}
use Rattle.mlp_syntax.specs.declared.major.Kind.TheVariants.{Fbb, Fba}
use Rattle.mlp_syntax.specs.declared.major.MajorSync.{MajorSync}
use Rattle.mlp_syntax.specs.declared.refusal.NoRoom.{NoRoom}
use Rattle.mlp_syntax.specs.declared.restart.Restart.{Restart}
use Rattle.mlp_syntax.specs.declared.segment.Segment.{Segment}
use Rattle.mlp_syntax.specs.declared.unit.DirEntry.{DirEntry}
use Rattle.mlp_params.specs.declared.state.State.{State}
use Rattle.mlp_predict.specs.Prediction.{Past}
use Rattle.mlp_output.specs.Output.{check_of, folded}
use Rattle.mlp_substream.specs.declared.known.Place.{Place}
use Rattle.mlp_substream.specs.Checks.{bytes_of}
use Rattle.mlp_substream.specs.Segment.{segment, unknown}
use Rattle.mlp_unit.specs.Written.{unit_size, written_unit, unit_text}
use Rattle.mlp_fifo.specs.Pace.{pace_of, unit_of}
use Rattle.mlp_fifo.specs.LeftFifo.{LeftFifo}
use Rattle.mlp_fifo.specs.Placed.{placed}
use Rattle.mlp_fifo.specs.Schedule.{out_of}
use Rattle.mlp_fold.specs.declared.profile.Profile.{Profile}
use Rattle.mlp_fold.specs.declared.coding.CodedFrame.{CodedFrame}
use Rattle.mlp_fold.specs.Mix.{AreSamples, coded_frame, presented_of}
use Rattle.mlp_fold.specs.Substreams.{substreams_of}
use Rattle.mlp_encode.specs.Numbers.{has_sync, low_zeros}
use Rattle.mlp_encode.specs.Sync.{sync_of, restart_of}
use Rattle.mlp_encode.specs.Blocks.{SentSegment, segment_sent}
use Rattle.mlp_encode.specs.Left.{Going, Left}
use Rattle.mlp_encode.specs.Lawful.{AreWords, place_in, segments_most}

-- ---- the frames

-- filled up with frames of zeros
abbrev pub filled : Profile → List (List ℤ) → List (List ℤ)
filled p frames = frames ++ replicate (unit_of p.rate - length frames) (replicate 8 (pos 0))

abbrev pub coded : Profile → List (List ℤ) → List CodedFrame
coded p frames = map (coded_frame p.mix (low_zeros p.depth) p.channels) frames

-- the frames of a unit: as many as it has, or fewer in the last one, which MLP can't fill up
pub record AreNext (p : Profile) (frames : List (List ℤ)) (last : Bool) : Type 0 where
  pub some : 0 < length frames
  pub most : length frames ≤ unit_of p.rate
  pub whole : (last ≡ false) → length frames ≡ unit_of p.rate
  pub filled_up : p.kind ≡ Fbb → length frames ≡ unit_of p.rate
  pub samples : All (AreSamples (low_zeros p.depth) p.channels) frames

-- ---- what stands at the end of each segment of the last unit

-- the second word of the terminator, which in TrueHD says how many frames were filled up
abbrev pub end_word : Kind → ℕ → ℕ
end_word Fbb more = 0xD234
end_word Fba more = 0x2000 + more

abbrev pub terminator_of : Profile → ℕ → Bool → Option ℕ
terminator_of p count last = if last then Some (end_word p.kind (unit_of p.rate - count)) else None

-- ---- the restarts of a unit with a major sync

-- the output timing of unit n
abbrev pub output_timing : Profile → ℕ → ℕ
output_timing p n = out_of (pace_of p.kind p.rate) n % 2 ^ 16

-- no interval ends before the first unit
abbrev pub check_in : ℕ → ℕ → ℕ
check_in n running = if n == 0 then 0 else folded running

abbrev pub restart_in : Profile → ℕ → List ℕ → ℕ → Option Restart
restart_in p n checks j =
    if has_sync n then Some (restart_of j (output_timing p n) (check_in n (slice_index_or checks j 0))) else None

-- ---- the segments, one after the other: each leaves the pasts of its channels

pub record SentUnit : Type 0 where
  pub segments : List Segment
  pub force : List (Option State)
  pub pasts : List Past

abbrev pub nothing_sent : List Past → SentUnit
nothing_sent pasts = record { segments = []; force = []; pasts = pasts }

abbrev pub before : SentSegment → SentUnit → SentUnit
before s rest = record {
  segments = s.segment ∷ rest.segments;
  force =
      Some s.behind.state ∷ rest.force;
  pasts = rest.pasts;
}

-- .. from substream j on, by the restart of each
abbrev pub segments_from : Profile → (ℕ → Option Restart) → List CodedFrame → Option ℕ → ℕ
    → List (Option State) → List Past → SentUnit
segments_from p restarts frames terminator j [] pasts = nothing_sent pasts
segments_from p restarts frames terminator j (force ∷ more) pasts =
    elim (segment_sent j p (restarts j) force pasts frames terminator) [
      | None ↦ nothing_sent pasts
      | Some s ↦ before s (segments_from p restarts frames terminator (j + 1) more s.behind.pasts)
    ]

-- the segments of the next unit, of these frames
unfoldable pub unit_sent : Going → List (List ℤ) → Bool → SentUnit
unit_sent g frames last =
    segments_from g.profile (restart_in g.profile g.units g.checks) (coded g.profile (filled g.profile frames))
    (terminator_of g.profile (length frames) last) 0 g.force g.pasts

-- ---- the bytes

abbrev pub place_of : Going → Place
place_of g = record { format = g.profile.kind; unit_frames = unit_of g.profile.rate; major = has_sync g.units }

-- of each segment, against what is in force before it
abbrev pub segments_bytes : Place → List (Option State) → List Segment → List (List ℕ)
segments_bytes place force [] = []
segments_bytes place [] (s ∷ segments) = []
segments_bytes place (f ∷ force) (s ∷ segments) =
    bytes_of ((segment place unknown f true).spelling s) ∷ segments_bytes place force segments

abbrev pub joined : List (List ℕ) → List ℕ
joined [] = []
joined (bytes ∷ more) = bytes ++ joined more

-- an entry: no extra word, checked, and where it ends in words
abbrev pub entry_at : Bool → ℕ → DirEntry
entry_at sync end = record { extra = None; restart_absent = not sync; checked = true; reserved = false; end = end }

-- .. for each segment
abbrev pub entries_from : Bool → ℕ → List (List ℕ) → List DirEntry
entries_from sync start [] = []
entries_from sync start (bytes ∷ more) =
    entry_at sync (start + length bytes / 2) ∷ entries_from sync (start + length bytes / 2) more

-- by what is in force in three substreams, of which so many are there
abbrev pub segments_in : Profile → ℕ → List ℕ → List CodedFrame → Option ℕ → List (Option State) → List Past → SentUnit
segments_in p n checks frames t force pasts =
    segments_from p (restart_in p n checks) frames t 0 (take (substreams_of p.channels) force) pasts

abbrev pub bytes_in : Profile → ℕ → List ℕ → List CodedFrame → Option ℕ → List (Option State)
    → List Past → List (List ℕ)
bytes_in p n checks frames t force pasts =
    segments_bytes (place_in p (has_sync n)) (take (substreams_of p.channels) force)
    (segments_in p n checks frames t force pasts).segments

-- of each segment of a unit the bytes: whole words, and together no more than segments may have
pub record AreWhole (p : Profile) (segments : List (List ℕ)) : Type 0 where
  pub count : length segments ≡ substreams_of p.channels
  pub words : AreWords segments
  pub most : length (joined segments) ≤ segments_most p

-- what was sent of a unit in the substreams, where this was in force and these are the pasts before it: what is in force
-- behind it, the pasts, the entries and the bytes
pub record IsSentUnit (p : Profile) (n : ℕ) (checks : List ℕ) (frames : List CodedFrame)
    (t : Option ℕ) (old : List (Option State)) (old_pasts : List Past) (force : List (Option State))
    (pasts : List Past) (entries : List DirEntry) (bytes : List ℕ) : Type 0 where
  pub force_is : take (substreams_of p.channels) force ≡ (segments_in p n checks frames t old old_pasts).force
  pub pasts_are : pasts ≡ (segments_in p n checks frames t old old_pasts).pasts
  pub entries_are : entries ≡ entries_from (has_sync n) 0 (bytes_in p n checks frames t old old_pasts)
  pub bytes_are : bytes ≡ joined (bytes_in p n checks frames t old old_pasts)

abbrev pub major_of : Going → Option MajorSync
major_of g = if has_sync g.units then Some (sync_of g.profile) else None

-- the unit but for its input timing
pub record Body : Type 0 where
  pub major : Option MajorSync
  pub entries : List DirEntry
  pub bytes : List ℕ

abbrev pub body_by : Going → List (List ℕ) → Body
body_by g segments = record {
  major = major_of g;
  entries = entries_from (has_sync g.units) 0 segments;
  bytes = joined segments;
}

abbrev pub body_of : Going → SentUnit → Body
body_of g s = body_by g (segments_bytes (place_of g) g.force s.segments)

abbrev pub body_size : Body → ℕ
body_size b = unit_size b.major b.entries b.bytes

abbrev pub unit_bytes : ℕ → Body → List ℕ
unit_bytes time b = bytes_of (unit_text (written_unit (time % 2 ^ 16) b.major b.entries b.bytes))

-- ---- the next unit

-- the checks behind it: a restart begins them anew
abbrev pub check_with : Profile → Bool → List ℕ → List (List ℤ) → ℕ → ℕ
check_with p sync checks frames j =
    check_of (if sync then 0 else slice_index_or checks j 0)
    (map (presented_of p.mix (low_zeros p.depth) p.channels j) frames)

abbrev pub check_behind : Going → List (List ℤ) → ℕ → ℕ
check_behind g frames = check_with g.profile (has_sync g.units) g.checks (filled g.profile frames)

abbrev pub checks_behind : Going → List (List ℤ) → List ℕ
checks_behind g frames = map (check_behind g frames) (range_with_len 0 (substreams_of g.profile.channels))

abbrev pub behind : Going → List (List ℤ) → SentUnit → LeftFifo → Going
behind g frames s fifo = record {
  profile = g.profile;
  units = g.units + 1;
  force = s.force;
  pasts = s.pasts;
  checks = checks_behind g frames;
  fifo = fifo;
}

abbrev pub sent_at : Going → List (List ℤ) → SentUnit → Body → Result (ℕ × LeftFifo) NoRoom
    → Result (List ℕ × Left) NoRoom
sent_at g frames s body (Ok x) = Ok (unit_bytes x.0 body, Ok (behind g frames s x.1))
sent_at g frames s body (Err e) = Err e

abbrev pub sent_by : Going → List (List ℤ) → SentUnit → Result (List ℕ × Left) NoRoom
sent_by g frames s = sent_at g frames s (body_of g s) (placed g.fifo (body_size (body_of g s)))

-- the bytes of the next unit and what it leaves, or that it has no place; behind a unit without one there is none
abbrev pub next_sent : Left → List (List ℤ) → Bool → Result (List ℕ × Left) NoRoom
next_sent (Ok g) frames last = sent_by g frames (unit_sent g frames last)
next_sent (Err e) frames last = Err e
