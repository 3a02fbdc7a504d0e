-- The session of `check` does its work.
use Rattle.std.proofs.Common.{◌≡◌, ℕ, ◌+◌, ◌<◌, ◌==◌, ◌++◌, if◌then◌else◌, Bool, true, false, List, [], ◌∷◌, length, map, Result, Ok, Err, Option, Some, None, refl, sym, ap, subst, ◌∙◌, arith, length-append}
use Rattle.std.specs.Prelude.{count_by, is_some, ◌≢◌}
use Rattle.std.specs.Option.{option_map}
use Rattle.std.proofs.lemmas.List.{map-append, length-replicate}
use Rattle.std.proofs.lemmas.List.Sums.{sum_by-append}
use Rattle.std.proofs.lemmas.Bool.Decides.{nat_tests}
use Rattle.mlp_syntax.specs.declared.fault.Field.TheVariants as rule
use Rattle.mlp_syntax.specs.declared.major.MajorSync.{MajorSync}
use Rattle.mlp_syntax.specs.declared.segment.Segment.{Segment}
use Rattle.mlp_bits.specs.Bits.{bits_of}
use Rattle.mlp_layout.specs.Layout.{Found, tested}
use Rattle.mlp_layout.specs.Reading.{broken}
use Rattle.mlp_layout.specs.Streams.{IsNext, left_after, spelling_of}
use Rattle.mlp_layout.proofs.StreamLaws.{left_more}
use Rattle.mlp_unit.specs.AccessUnit.{AccessUnit, access_unit, in_force, stream_kind, stream_rate}
use Rattle.mlp_unit.specs.Written.{FirstUsable}
use Rattle.mlp_unit.proofs.Reread.{parts_of}
use Rattle.mlp_stream.specs.declared.stop.Stop.{Stop}
use Rattle.mlp_stream.specs.Sides.{Side}
use Rattle.mlp_stream.specs.Pumped.{Pumped}
use Rattle.mlp_stream.specs.declared.refusal.Refusal.{Refusal}
use Rattle.mlp_walk.specs.declared.refusal.Refusal.{Refusal as Declined}
use Rattle.mlp_walk.specs.Next.{Taken}
use Rattle.mlp_walk.proofs.NextLaws.{from_unit}
use Rattle.mlp_answers.specs.Works.{Works}
use Rattle.mlp_answers.specs.Reading.{refusal_of, read_step}
use Rattle.mlp_answers.specs.Follows.{next_behind, IsMoved, IsLast, Follows, ReadsOn}
use Rattle.mlp_answers.proofs.ReadingLaws.{read_follows}
use Rattle.mlp_answers.proofs.RunLaws.{works}
use Rattle.mlp_outline.proofs.NextParts.{next_broken}
use Rattle.mlp_channels.specs.Channels.{nothing_coded}
use Rattle.mlp_contents.specs.Units.{Left, Unit_of, start, place_of, whole, after, frames_out}
use Rattle.mlp_contents.proofs.ChannelLists.{length-each}
use Rattle.mlp_contents.proofs.FormatLaws.{whole_is, whole_bytes}
use Rattle.mlp_fifo.specs.Timed.{TimedUnit, LeftChecker, LeavesTimed}
use Rattle.mlp_fifo.specs.Checked.{checked_after}
use Rattle.mlp_fifo.proofs.CheckedLaws.{none_timed, checked_leaves}
use Rattle.mlp_present.specs.Decoding.{is_open_behind, last_of, no_unit, after_unit, timing_by, channels_by}
use Rattle.mlp_samples.proofs.SyncLaws.{unit_usable, unit_synced}
use Rattle.mlp_sessions.proofs.PlayFollows.{none_there}
use Rattle.mlp_samples.specs.Samples.{frames_by_steps}
use Rattle.mlp_check.specs.declared.report.Report.{Report}
use Rattle.mlp_check.specs.Checking.{output_timing, timing_in, timed_unit, IsReport, checking}
use Rattle.mlp_samples.specs.Behind.{left_behind}
use Rattle.mlp_samples.proofs.Streams.{in_force_some}
use Rattle.mlp_check.specs.Check.{CheckState, check_opened, begun, one_if, after_checked, check_reader, check_step, report_of, report_after, check_last}
use Rattle.mlp_check.proofs.Restarts.{timing_is}
use Rattle.mlp_check.proofs.Reports.{checking_is}

-- what the session knows of units that it took, if there are any
pub record HasChecked (k : ℕ) (us : List Unit_of) (s : CheckState) : Type 0 where
  pub channels : s.held.channels ≡ channels_by k (left_behind k us)
  pub synced : is_some (left_behind k us).sync ≡ true
  pub timed :
      let sync = (left_behind k us).sync in
      LeavesTimed (stream_kind sync) (stream_rate sync) (map timed_unit us) s.checker

pub record Checked (k : ℕ) (us : List Unit_of) (s : CheckState) : Type 0 where
  pub k_is : s.held.k ≡ k
  pub units : s.held.units ≡ length us
  pub left : s.held.left ≡ left_behind k us
  pub refusal : s.held.refusal ≡ None
  pub usable : FirstUsable (left_behind k us).sync
  pub frames : s.frames ≡ length (frames_by_steps k (start k) us)
  pub restarts : s.restarts ≡ count_by (λ u. is_some u.outer.major) us
  pub some : us ≢ [] → HasChecked k us s

-- ---- sums over one more unit

frames_on : (k : ℕ) (left : Left) (us : List Unit_of) (u : Unit_of)
    → length (frames_by_steps k left (us ++ u ∷ [])) ≡ length (frames_by_steps k left us) + length (frames_out k (left_after (whole k) left us) u)
frames_on k left [] u = omega (arith, length-append (frames_out k left u) [])
frames_on k left (v ∷ us) u =
    let more = frames_by_steps k (after k left v) (us ++ u ∷ []) in
    omega (arith, frames_on k (after k left v) us u, length-append (frames_out k left v) more, length-append (frames_out k left v) (frames_by_steps k (after k left v) us))

count_on : (p : Unit_of → Bool) (us : List Unit_of) (u : Unit_of) → count_by p (us ++ u ∷ []) ≡ count_by p us + one_if (p u)
count_on p us u = omega (arith, sum_by-append (λ v. one_if (p v)) us (u ∷ []))

-- ---- what units leave

substreams_after : (k : ℕ) (left : Left) (u : Unit_of) → length (after k left u).substreams ≡ length left.substreams
unfolding after
substreams_after k left u = length-each (place_of left u.outer) left.substreams u.contents

behind_on : (k : ℕ) (us : List Unit_of) (u : Unit_of) → left_behind k (us ++ u ∷ []) ≡ after k (left_behind k us) u
behind_on k us u = left_more (whole k) (whole_is k) (start k) us (u ∷ [])

substreams_behind : (k : ℕ) (left : Left) (us : List Unit_of) → length (left_after (whole k) left us).substreams ≡ length left.substreams
substreams_behind k left [] = refl
substreams_behind k left (u ∷ us) = substreams_behind k (after k left u) us ∙ substreams_after k left u

some_substreams : (k : ℕ) (us : List Unit_of) → 0 < length (left_behind k us).substreams
some_substreams k us = omega (arith, substreams_behind k (start k) us, length-replicate (k + 1) nothing_coded)

-- ---- one more unit

module _ (k : ℕ) (us : List Unit_of) (u : Unit_of) (text : List Bool) (next : IsNext (whole k) (left_behind k us) text u) (usable : FirstUsable (left_behind k us).sync) where
  found : Found (access_unit (left_behind k us).sync) text 0 u.outer
  unfolding tested
  found = record { fits = next.outer.fits; meets = next.outer.meets.1; stands = next.outer.stands }

  small : u.outer.head.timing < 65536
  small = (parts_of (left_behind k us).sync u.outer (λ none. usable) found.fits found.meets).timing

  sync_on : (left_behind k (us ++ u ∷ [])).sync ≡ in_force (left_behind k us).sync u.outer.major
  unfolding after
  sync_on = ap (λ (left : Left). left.sync) (behind_on k us u)

  usable_on : FirstUsable (left_behind k (us ++ u ∷ [])).sync
  usable_on = subst FirstUsable (sym sync_on) (unit_usable (left_behind k us).sync text u.outer usable found)

  synced_on : is_some (left_behind k (us ++ u ∷ [])).sync ≡ true
  synced_on = ap is_some sync_on ∙ unit_synced (left_behind k us).sync text u.outer usable found

  timing_on : timing_by u.outer.major (after k (left_behind k us) u).substreams ≡ output_timing u
  timing_on = timing_is k (left_behind k us) u (spelling_of (whole k) (left_behind k us) u) next.contents (some_substreams k us)

-- what units leave to a checker, in a stream with this first major sync
abbrev LeavesChecker : Option MajorSync → List TimedUnit → LeftChecker → Type 0
LeavesChecker sync units checker = LeavesTimed (stream_kind sync) (stream_rate sync) units checker

first_begun : (o : Option MajorSync) (n : ℕ) (checker : LeftChecker) → n ≡ 0 → is_some (in_force None o) ≡ true → LeavesChecker (in_force None o) [] (begun n o checker)
first_begun None n checker e some = absurd cc
first_begun (Some m) n checker e some = subst (λ (i : ℕ). LeavesChecker (Some m) [] (begun i (Some m) checker)) (sym e) (none_timed (stream_kind (Some m)) (stream_rate (Some m)))

later_begun : (n : ℕ) (o : Option MajorSync) (checker : LeftChecker) → 0 < n → begun n o checker ≡ checker
later_begun n None checker some = refl
later_begun n (Some m) checker some = let no : (n == 0) ≡ false = grind (arith, nat_tests) in rw no refl

begun_on : (k : ℕ) (us : List Unit_of) (u : Unit_of) (s : CheckState) → Checked k us s → is_some (in_force (left_behind k us).sync u.outer.major) ≡ true
    → LeavesChecker (in_force (left_behind k us).sync u.outer.major) (map timed_unit us) (begun s.held.units u.outer.major s.checker)
begun_on k [] u s h some = first_begun u.outer.major s.held.units s.checker h.units some
begun_on k (v ∷ vs) u s h some =
    let has = h.some (λ e. absurd cc) in
    let same = in_force_some (left_behind k (v ∷ vs)).sync u.outer.major has.synced in
    subst (λ (sync : Option MajorSync). LeavesChecker sync (map timed_unit (v ∷ vs)) (begun s.held.units u.outer.major s.checker)) (sym same)
    (subst (LeavesChecker (left_behind k (v ∷ vs)).sync (map timed_unit (v ∷ vs))) (sym (later_begun s.held.units u.outer.major s.checker (omega (arith, h.units)))) has.timed)

module _ (k : ℕ) (us : List Unit_of) (s : CheckState) (u : Unit_of) (text : List Bool) (next : IsNext (whole k) (left_behind k us) text u) (h : Checked k us s) where
  left_here : after s.held.k s.held.left u ≡ after k (left_behind k us) u
  left_here = ap (λ (j : ℕ). after j s.held.left u) h.k_is ∙ ap (λ (left : Left). after k left u) h.left

  timing_here : timing_in u.outer.head (after_unit s.held u).timing ≡ timed_unit u
  timing_here = ap (λ (left : Left). timing_in u.outer.head (timing_by u.outer.major left.substreams)) left_here ∙ ap (timing_in u.outer.head) (timing_on k us u text next h.usable)

  timed_on : LeavesChecker (left_behind k (us ++ u ∷ [])).sync (map timed_unit (us ++ u ∷ [])) (after_checked s u).checker
  timed_on =
      let sync = in_force (left_behind k us).sync u.outer.major in
      let before = begun_on k us u s h (unit_synced (left_behind k us).sync text u.outer h.usable (found k us u text next h.usable)) in
      let behind = checked_leaves (stream_kind sync) (stream_rate sync) (map timed_unit us) (begun s.held.units u.outer.major s.checker) (timed_unit u) before (small k us u text next h.usable) in
      subst (λ (o : Option MajorSync). LeavesChecker o (map timed_unit (us ++ u ∷ [])) (after_checked s u).checker) (sym (sync_on k us u text next h.usable))
      (subst (λ (units : List TimedUnit). LeavesChecker sync units (after_checked s u).checker) (sym (map-append timed_unit us (u ∷ [])))
      (subst (λ (v : TimedUnit). LeavesChecker sync (map timed_unit us ++ timed_unit u ∷ []) (checked_after (begun s.held.units u.outer.major s.checker) v)) (sym timing_here) behind))

  checked_on : Checked k (us ++ u ∷ []) (after_checked s u)
  checked_on = record {
    k_is = h.k_is;
    units = omega (arith, h.units, length-append us (u ∷ []));
    left = left_here ∙ sym (behind_on k us u);
    refusal = refl;
    usable = usable_on k us u text next h.usable;
    frames =
        ap (λ (n : ℕ). n + length (frames_out s.held.k s.held.left u)) h.frames
        ∙ ap (λ (j : ℕ). length (frames_by_steps k (start k) us) + length (frames_out j s.held.left u)) h.k_is
        ∙ ap (λ (left : Left). length (frames_by_steps k (start k) us) + length (frames_out k left u)) h.left
        ∙ sym (frames_on k (start k) us u);
    restarts = ap (λ (n : ℕ). n + one_if (is_some u.outer.major)) h.restarts ∙ sym (count_on (λ v. is_some v.outer.major) us u);
    some = λ none. record {
      channels = ap (λ (j : ℕ). channels_by j (after s.held.k s.held.left u)) h.k_is ∙ ap (channels_by k) (left_here ∙ sym (behind_on k us u));
      synced = synced_on k us u text next h.usable;
      timed = timed_on;
    };
  }

given : (k : ℕ) (us : List Unit_of) (s : CheckState) (bytes : List ℕ) (t : Taken AccessUnit (List Segment)) → Checked k us s → next_behind (checking k) (Checked k) us bytes ≡ Ok t → Checked k (us ++ t.unit ∷ []) (after_checked s t.unit)
given k us s bytes t h e =
    let from = from_unit (whole k) (whole_is k) (whole_bytes k) (Some k) (length us) (left_behind k us) bytes t e in
    checked_on k us s t.unit (bits_of bytes) from.next h

reads_on : (k : ℕ) → ReadsOn (checking k) (Checked k) check_reader
reads_on k = record {
  left = λ us s h. h.left;
  count = λ us s h. h.units;
  refusal = λ us s h. ap (option_map refusal_of) h.refusal;
  given = λ us s bytes t h next. (refl, given k us s bytes t h next);
}

-- ---- the end

none_next : (k : ℕ) → next_behind (checking k) (Checked k) [] [] ≡ Err no_unit
none_next k = next_broken (whole k) (Some k) 0 (start k) [] (broken rule.UnitHeader 0) (none_there k)

last_by : Report → ℕ → Option Declined → Result (List ℕ) Refusal
last_by r units refusal = report_after r (last_of units refusal)

some_report : (k : ℕ) (us : List Unit_of) (s : CheckState) → Checked k us s → HasChecked k us s → IsReport k us (report_of s)
some_report k us s h has = record {
  units = h.units;
  frames = h.frames;
  channels = has.channels;
  rate = ap (λ (left : Left). stream_rate left.sync) h.left;
  restarts = h.restarts;
  timed = has.timed.timed_is;
}

last_is : (k : ℕ) (us : List Unit_of) (s : CheckState) → Checked k us s → IsLast (checking k) (Checked k) us (check_last s)
unfolding last_by
last_is k [] s h = (no_unit, none_next k, ap (λ (n : ℕ). last_by (report_of s) n s.held.refusal) h.units ∙ ap (last_by (report_of s) 0) h.refusal)
last_is k (u ∷ us) s h =
    let some : (length (u ∷ us) == 0) ≡ false = grind (arith, nat_tests) in (
      report_of s,
      some_report k (u ∷ us) s h (h.some (λ e. absurd cc)),
      ap (λ (n : ℕ). last_by (report_of s) n s.held.refusal) h.units ∙ ap (last_by (report_of s) (length (u ∷ us))) h.refusal
          ∙ ap (λ (b : Bool). report_after (report_of s) (if b then Err no_unit else Ok tt)) some,
    )

-- ---- a run

follows : (k : ℕ) → Follows (checking k) (Checked k) check_step check_last
follows k =
    let at_k = read_follows (checking k) (Checked k) check_reader (reads_on k) check_last (last_is k) in
    record {
      moves = λ us s ended bytes sums some.
          subst (λ (j : ℕ). IsMoved (checking k) (Checked k) ended us bytes (read_step (whole j) (Some j) is_open_behind check_reader s ended bytes))
          (sym sums.k_is) (at_k.moves us s ended bytes sums some);
      ends = last_is k;
    }

-- what a run of the session says
pub check_works : (k : ℕ) (t : CheckState) (input output : Side) (end : Result Unit Stop) → Pumped check_step check_last 0 (check_opened k) t input output end → Works (checking k) input output end
check_works k t input output end p =
    works (checking k) (checking_is k) (Checked k) check_step check_last (follows k) (check_opened k) t input output end
    (record { k_is = refl; units = refl; left = refl; refusal = refl; usable = tt; frames = refl; restarts = refl; some = λ none. absurd (none refl) }) p
