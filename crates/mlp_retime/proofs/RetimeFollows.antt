-- A retimer does the work of the command that retimes.
use Rattle.std.proofs.Common.{◌≡◌, ℕ, ◌==◌, ◌++◌, if◌then◌else◌, Bool, true, false, List, [], ◌∷◌, length, map, Result, Ok, Err, Option, Some, None, is_none, refl, sym, ap, subst, ◌∙◌, arith, length-append}
use Rattle.std.specs.Prelude.{is_some, ◌≢◌}
use Rattle.std.proofs.lemmas.List.{map-append}
use Rattle.std.proofs.lemmas.Bool.Decides.{nat_tests}
use Rattle.mlp_syntax.specs.declared.fault.Field.TheVariants as rule
use Rattle.mlp_syntax.specs.declared.major.MajorSync.{MajorSync}
use Rattle.mlp_syntax.specs.declared.segment.Segment.{Segment}
use Rattle.mlp_bits.specs.Bits.{bits_of}
use Rattle.mlp_layout.specs.Layout.{Found, tested}
use Rattle.mlp_layout.specs.Reading.{broken}
use Rattle.mlp_layout.specs.Streams.{IsNext, left_after}
use Rattle.mlp_layout.proofs.StreamLaws.{left_more}
use Rattle.mlp_unit.specs.AccessUnit.{AccessUnit, access_unit, in_force}
use Rattle.mlp_unit.specs.Written.{FirstUsable}
use Rattle.mlp_stream.specs.declared.stop.Stop.{Stop}
use Rattle.mlp_stream.specs.Sides.{Side}
use Rattle.mlp_stream.specs.Pumped.{Pumped}
use Rattle.mlp_stream.specs.declared.refusal.Refusal.{Refusal}
use Rattle.mlp_walk.specs.declared.refusal.Refusal.{Refusal as Declined}
use Rattle.mlp_walk.specs.Next.{Taken}
use Rattle.mlp_walk.proofs.NextLaws.{from_unit}
use Rattle.mlp_answers.specs.Working.{IsWorking}
use Rattle.mlp_answers.specs.Works.{Works}
use Rattle.mlp_answers.specs.Follows.{next_behind, IsLast, Follows, IsGiven, ReadsOn}
use Rattle.mlp_answers.proofs.ReadingLaws.{read_follows}
use Rattle.mlp_answers.proofs.RunLaws.{works}
use Rattle.mlp_outline.proofs.NextParts.{next_broken}
use Rattle.mlp_contents.specs.Units.{Left, Unit_of, start, after}
use Rattle.mlp_fifo.specs.LeftFifo.{LeftFifo}
use Rattle.mlp_fifo.specs.Placed.{placed}
use Rattle.mlp_samples.proofs.SyncLaws.{unit_usable, unit_synced}
use Rattle.mlp_present.specs.Decoding.{Held, last_of, no_unit}
use Rattle.mlp_sessions.specs.Playing.{on_end}
use Rattle.mlp_sessions.proofs.NoUnit.{none_read}
use Rattle.mlp_retime.specs.Top.{highest, top}
use Rattle.mlp_retime.specs.Retimed.{length_of}
use Rattle.mlp_retime.specs.Retiming.{fifo_for, behind_placed, fifo_behind, retimed_out, sync_with, retiming}
use Rattle.mlp_retime.specs.Retimer.{RetimeState, retime_opened, after_top, buffer_for, with_state, retime_given, retime_reader, retime_step, last_said, retime_last}
use Rattle.mlp_retime.proofs.Decoders.{units_by, sync_by, k_by, left_by, some_none}
use Rattle.mlp_retime.specs.SessionLaws.{top_is, top_bytes, top_open}

-- what the session knows of units that it took, if there are any
pub record HasPlaced (us : List Unit_of) (s : RetimeState) : Type 0 where
  pub synced : is_none s.held.left.sync ≡ false
  pub k_is : s.held.k ≡ highest s.held.left.sync
  pub fifo : s.fifo ≡ fifo_behind (fifo_for s.held.left.sync) (map length_of us)

pub record HasRetimed (us : List Unit_of) (s : RetimeState) : Type 0 where
  pub units : s.held.units ≡ length us
  pub left : s.held.left ≡ left_after top (start 0) us
  pub refusal : s.refusal ≡ None
  pub none_refused : s.held.refusal ≡ None
  pub usable : FirstUsable s.held.left.sync
  pub some : us ≢ [] → HasPlaced us s

pub retiming_is : IsWorking retiming
retiming_is = record {
  format_is = top_is;
  takes_bytes = top_bytes;
  open_is = top_open;
  some_end = λ us. (Ok [], refl);
  one_end = λ us q r a b. a ∙ sym b;
}

-- ---- the buffer behind one more unit

pub fifo_more : (fifo : LeftFifo) (bs : List ℕ) (b : ℕ) → fifo_behind fifo (bs ++ b ∷ []) ≡ behind_placed (fifo_behind fifo bs) (placed (fifo_behind fifo bs) b)
fifo_more fifo [] b = refl
fifo_more fifo (x ∷ bs) b = fifo_more (behind_placed fifo (placed fifo x)) bs b

pub left_on : (us : List Unit_of) (u : Unit_of) → left_after top (start 0) (us ++ u ∷ []) ≡ top.after (left_after top (start 0) us) u
left_on us u = left_more top top_is (start 0) us (u ∷ [])

-- ---- one more unit

none_of_no : (us : List Unit_of) (held : Held) → us ≡ [] → held.left ≡ left_after top (start 0) us → held.left.sync ≡ None
none_of_no us held none e = ap (λ (left : Left). left.sync) (e ∙ ap (λ (vs : List Unit_of). left_after top (start 0) vs) none)

-- the buffer before it
buffer_by : (sync major : Option MajorSync) (us : List Unit_of) (fifo : LeftFifo) → (us ≡ [] → sync ≡ None) → (us ≢ [] → (is_none sync ≡ false) × (fifo ≡ fifo_behind (fifo_for sync) (map length_of us)))
    → buffer_for sync major fifo ≡ fifo_behind (fifo_for (in_force sync major)) (map length_of us)
buffer_by None major [] fifo none some = refl
buffer_by (Some m) major [] fifo none some = let no : Some m ≡ None = none refl in absurd cc
buffer_by None major (u ∷ us) fifo none some = let there = (some (λ e. absurd cc)).0 in absurd cc
buffer_by (Some m) major (u ∷ us) fifo none some = (some (λ e. absurd cc)).1

module _ (us : List Unit_of) (s : RetimeState) (u : Unit_of) (h : HasRetimed us s) (text : List Bool) (next : IsNext top (left_after top (start 0) us) text u) where
  abbrev sync : Option MajorSync
  sync = in_force s.held.left.sync u.outer.major

  abbrev before : LeftFifo
  before = buffer_for s.held.left.sync u.outer.major s.fifo

  abbrev behind : RetimeState
  behind = record { held = after_top s.held u; fifo = behind_placed before (placed before (length_of u)); refusal = None }

  found : Found (access_unit s.held.left.sync) text 0 u.outer
  unfolding tested
  found = subst (λ (left : Left). Found (access_unit left.sync) text 0 u.outer) (sym h.left) (record { fits = next.outer.fits; meets = next.outer.meets.1; stands = next.outer.stands })

  buffer_is : before ≡ fifo_behind (fifo_for sync) (map length_of us)
  buffer_is = buffer_by s.held.left.sync u.outer.major us s.fifo (λ none. none_of_no us s.held none h.left) (λ some. ((h.some some).synced, (h.some some).fifo))

  sync_is : sync ≡ sync_with us u
  sync_is = ap (λ (left : Left). in_force left.sync u.outer.major) h.left

  out_is : retimed_out sync s.held.units before u ≡ retiming.out us u
  out_is =
      ap (λ (n : ℕ). retimed_out sync n before u) h.units ∙ ap (λ (f : LeftFifo). retimed_out sync (length us) f u) buffer_is
      ∙ ap (λ (o : Option MajorSync). retimed_out o (length us) (fifo_behind (fifo_for o) (map length_of us)) u) sync_is

  told : is_none s.held.left.sync ≡ false → s.held.k ≡ highest s.held.left.sync
  told there = by_case us refl
    where
      by_case : (vs : List Unit_of) → us ≡ vs → s.held.k ≡ highest s.held.left.sync
      by_case [] e = let none = none_of_no us s.held e h.left in let no : is_none s.held.left.sync ≡ true = ap (λ (o : Option MajorSync). is_none o) none in absurd cc
      by_case (v ∷ vs) e = (h.some (λ n. let no : v ∷ vs ≡ [] = sym e ∙ n in absurd cc)).k_is

  sync_behind : behind.held.left.sync ≡ sync
  unfolding after
  sync_behind = ap (λ (o : Option MajorSync). in_force o u.outer.major) (sync_by s.held.left.sync s.held u.outer refl)

  has_retimed : HasRetimed (us ++ u ∷ []) behind
  has_retimed = record {
    units = omega (arith, h.units, units_by s.held.left.sync s.held u.outer, length-append us (u ∷ []));
    left = left_by s.held.left.sync s.held u told ∙ ap (λ (left : Left). top.after left u) h.left ∙ sym (left_on us u);
    refusal = refl;
    none_refused = refl;
    usable = subst FirstUsable (sym sync_behind) (unit_usable s.held.left.sync text u.outer h.usable found);
    some = λ none. record {
      synced = some_none behind.held.left.sync (ap is_some sync_behind ∙ unit_synced s.held.left.sync text u.outer h.usable found);
      k_is = k_by s.held.left.sync s.held u.outer told ∙ ap highest (sym sync_behind);
      fifo =
          ap (λ (f : LeftFifo). behind_placed f (placed f (length_of u))) buffer_is ∙ sym (fifo_more (fifo_for sync) (map length_of us) (length_of u))
          ∙ ap (fifo_behind (fifo_for sync)) (sym (map-append length_of us (u ∷ [])))
          ∙ ap (λ (o : Option MajorSync). fifo_behind (fifo_for o) (map length_of (us ++ u ∷ []))) (sym sync_behind);
    };
  }

  given_by : (size : ℕ) (x : Result (List ℕ) Refusal) → retimed_out sync s.held.units before u ≡ x
      → IsGiven retiming HasRetimed us (record { size = size; unit = u }) (with_state behind.held behind.fifo x)
  given_by size (Ok bytes) e = (sym out_is ∙ e, has_retimed)
  given_by size (Err r) e = sym out_is ∙ e

given : (us : List Unit_of) (s : RetimeState) (bytes : List ℕ) (t : Taken AccessUnit (List Segment)) → HasRetimed us s → next_behind retiming HasRetimed us bytes ≡ Ok t → IsGiven retiming HasRetimed us t (retime_given s t)
given us s bytes t h e =
    let from = from_unit top top_is top_bytes None (length us) (left_after top (start 0) us) bytes t e in
    given_by us s t.unit h (bits_of bytes) from.next t.size _ refl

reads_on : ReadsOn retiming HasRetimed retime_reader
reads_on = record {
  left = λ us s h. h.left;
  count = λ us s h. h.units;
  refusal = λ us s h. h.refusal;
  given = λ us s bytes t h next. given us s bytes t h next;
}

-- ---- the end

none_there : (top.outer (start 0)).read (bits_of []) 0 ≡ Err (broken rule.UnitHeader 0)
unfolding tested
none_there = none_read None

none_next : next_behind retiming HasRetimed [] [] ≡ Err no_unit
none_next = next_broken top None 0 (start 0) [] (broken rule.UnitHeader 0) none_there

last_by : ℕ → Option Declined → Result (List ℕ) Refusal
last_by units refusal = on_end (last_of units refusal)

said_is : (us : List Unit_of) (s : RetimeState) → HasRetimed us s → retime_last s ≡ last_by (length us) None
unfolding last_by
said_is us s h =
    ap (λ (r : Option Refusal). last_said r s.held) h.refusal ∙ ap (λ (n : ℕ). last_by n s.held.refusal) h.units ∙ ap (last_by (length us)) h.none_refused

last_is : (us : List Unit_of) (s : RetimeState) → HasRetimed us s → IsLast retiming HasRetimed us (retime_last s)
unfolding last_by
last_is [] s h = (no_unit, none_next, said_is [] s h)
last_is (u ∷ us) s h =
    let some : (length (u ∷ us) == 0) ≡ false = grind (arith, nat_tests) in
    said_is (u ∷ us) s h ∙ ap (λ (b : Bool). on_end (if b then Err no_unit else Ok tt)) some

-- ---- a run

follows : Follows retiming HasRetimed retime_step retime_last
follows = read_follows retiming HasRetimed retime_reader reads_on retime_last last_is

-- what a run of a retimer says
pub retime_works : (t : RetimeState) (input output : Side) (end : Result Unit Stop) → Pumped retime_step retime_last 0 retime_opened t input output end → Works retiming input output end
retime_works t input output end p =
    works retiming retiming_is HasRetimed retime_step retime_last follows retime_opened t input output end
    (record { units = refl; left = refl; refusal = refl; none_refused = refl; usable = tt; some = λ none. absurd (none refl) }) p
