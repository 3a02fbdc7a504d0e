-- What a retimer does with the next bytes.
use Rattle.std.proofs.Common.{◌≡◌, ◌↔◌, ℕ, ◌+◌, ◌*◌, ◌%◌, ◌<◌, ◌==◌, ◌&&◌, Bool, true, false, IsTrue, List, take, Result, Ok, Err, Option, Some, None, is_none, inl, inr, refl, sym, ap, subst, ◌∙◌, arith, Bor}
use Rattle.std.specs.Prelude.{is_some, if◌then◌else◌}
use Rattle.std.specs.Option.{option_copied}
use Rattle.std.proofs.lemmas.Bool.{cases_lt}
use Rattle.std.proofs.lemmas.Bool.Decides.{nat_tests}
use Rattle.mlp_syntax.specs.declared.major.MajorSync.{MajorSync}
use Rattle.mlp_syntax.specs.declared.refusal.NoRoom.{NoRoom}
use Rattle.mlp_unit.specs.AccessUnit.{AccessUnit, in_force, stream_kind, stream_rate}
use Rattle.mlp_cut.specs.Cut.{unit_bytes}
use Rattle.mlp_walk.specs.declared.refusal.Refusal.{Refusal as Declined}
use Rattle.mlp_walk.specs.Next.{next_of}
use Rattle.mlp_stream.specs.declared.refusal.Refusal.{Refusal}
use Rattle.mlp_stream.specs.declared.refusal.Refusal.TheVariants as refused
use Rattle.mlp_stream.specs.Moves.{Move, Waits, Takes, Refuses}
use Rattle.mlp_answers.specs.Reading.{refusal_of, on_given}
use Rattle.mlp_answers.proofs.ReadingLaws.{stepped, step_is}
use Rattle.mlp_fifo.specs.Pace.{pace_of}
use Rattle.mlp_fifo.specs.Schedule.{out_of}
use Rattle.mlp_fifo.specs.LeftFifo.{LeftFifo}
use Rattle.mlp_fifo.specs.Placed.{placed, with_unit}
use Rattle.mlp_present.specs.Parts.{Next}
use Rattle.mlp_present.specs.Decoding.{Held, is_open_behind}
use Rattle.mlp_retime.specs.Top.{highest, top}
use Rattle.mlp_retime.specs.Retimed.{length_of}
use Rattle.mlp_retime.specs.Retiming.{fifo_for, behind_placed, on_placed}
use Rattle.mlp_retime.specs.Stamping.{rewritten}
use Rattle.mlp_retime.specs.Retimer.{RetimeState, after_top, buffer_for, buffer_at, TakesTop, PutsUnit, with_state, retime_reader, retime_step, IsTop, IsBuffer}
use Rattle.mlp_retime.proofs.Decoders.{in_force_kept}
use Rattle.mlp_retime.proofs.Taking.{sync_taken, units_taken}
use Rattle.mlp_retime.proofs.Rewriting.{unit_is}

-- ---- by what comes of the next unit, or came

abbrev stepped_at : Option Refusal → Bool → RetimeState → Next → Move RetimeState
stepped_at refusal waits s next = stepped top None is_open_behind retime_reader refusal waits s next

abbrev next_at : RetimeState → List ℕ → Next
next_at s bytes = next_of top None s.held.units s.held.left bytes

-- at the end of the bytes nothing is waited for
at_end : (s : RetimeState) (bytes : List ℕ) → retime_step s true bytes ≡ stepped_at s.refusal false s (next_at s bytes)
at_end s bytes = step_is top None is_open_behind retime_reader s true bytes

abbrev parts : Held → LeftFifo → Option Refusal → RetimeState
parts held fifo refusal = record { held = held; fifo = fifo; refusal = refusal }

pub retime_kept : (held : Held) (fifo : LeftFifo) (refusal : Option Refusal) (r : Refusal) (bytes : List ℕ) → refusal ≡ Some r → (s : RetimeState) → parts held fifo refusal ≡ s → retime_step s true bytes ≡ Refuses r
retime_kept held fifo refusal r bytes e s is =
    subst (λ (t : RetimeState). retime_step t true bytes ≡ Refuses r) is
    (at_end (parts held fifo refusal) bytes ∙ ap (λ (q : Option Refusal). stepped_at q false (parts held fifo refusal) (next_at (parts held fifo refusal) bytes)) e)

pub retime_declined : (held : Held) (fifo : LeftFifo) (refusal : Option Refusal) (d : Declined) (r : Refusal) (bytes : List ℕ) → refusal ≡ None → next_of top None held.units held.left bytes ≡ Err d → r ≡ refusal_of d
    → (s : RetimeState) → parts held fifo refusal ≡ s → retime_step s true bytes ≡ Refuses r
retime_declined held fifo refusal d r bytes none e q s is =
    let here = parts held fifo refusal in
    subst (λ (t : RetimeState). retime_step t true bytes ≡ Refuses r) is
    (at_end here bytes ∙ ap (λ (o : Option Refusal). stepped_at o false here (next_at here bytes)) none ∙ ap (stepped_at None false here) e ∙ ap (λ (x : Refusal). Refuses x) (sym q))

-- ---- a unit that was taken

ok_placed : ℕ × LeftFifo → Result (ℕ × LeftFifo) NoRoom
ok_placed x = Ok x

placed_is : (x y : ℕ × LeftFifo) → ok_placed x ≡ ok_placed y → x ≡ y
unfolding ok_placed
placed_is x y e = cc

placed_by : (late : Bool) (left : LeftFifo) (bytes time finish begin : ℕ) (behind : LeftFifo) → (if late then Err (record { unit = left.count; bytes = bytes }) else Ok (begin, with_unit left bytes finish)) ≡ ok_placed (time, behind)
    → (behind.kind ≡ left.kind) × (behind.rate ≡ left.rate) × (behind.count ≡ left.count + 1)
unfolding ok_placed
placed_by true left bytes time finish begin behind e = absurd cc
placed_by false left bytes time finish begin behind e =
    let same = sym (placed_is (begin, with_unit left bytes finish) (time, behind) e) in
    (ap (λ (x : ℕ × LeftFifo). x.1.kind) same, ap (λ (x : ℕ × LeftFifo). x.1.rate) same, ap (λ (x : ℕ × LeftFifo). x.1.count) same)

placed_keeps : (left : LeftFifo) (bytes time : ℕ) (behind : LeftFifo) → placed left bytes ≡ Ok (time, behind) → (behind.kind ≡ left.kind) × (behind.rate ≡ left.rate) × (behind.count ≡ left.count + 1)
unfolding placed ok_placed
placed_keeps left bytes time behind e = placed_by _ left bytes time _ _ behind e

pub first_is : (o : Option (Bor MajorSync)) (b : Bor MajorSync) (sync : Option MajorSync) → o ≡ Some b → option_copied o ≡ sync → Some b.now ≡ sync
first_is o b sync e copied = ap (λ (x : Option (Bor MajorSync)). option_copied x) (sym e) ∙ copied

module _ (held : Held) (fifo : LeftFifo) (refusal : Option Refusal) (none : refusal ≡ None) (t : IsTop held) (buffer : 0 < held.units → IsBuffer held fifo)
    (bytes : List ℕ) (new : Held) (size : ℕ) (g : TakesTop held bytes size new) (first : MajorSync) (is_first : Some first ≡ new.left.sync) (number : ℕ) (counted : number ≡ held.units) where
  abbrev sync : Option MajorSync
  sync = in_force held.left.sync g.unit.outer.major

  abbrev before : LeftFifo
  before = buffer_for held.left.sync g.unit.outer.major fifo

  sync_is : Some first ≡ sync
  sync_is = is_first ∙ sync_taken held t bytes new size g

  first_units : is_none held.left.sync ≡ true → held.units ≡ 0
  first_units none = elim (cases_lt 0 held.units) [
    | inl some ↦ (let there = (t.told some).synced in absurd cc)
    | inr above ↦ omega (arith, above)
  ]

  later_units : is_none held.left.sync ≡ false → 0 < held.units
  later_units there = elim (cases_lt 0 held.units) [
    | inl some ↦ some
    | inr above ↦ (let begun : is_none held.left.sync ≡ true = ap (λ (h : Held). is_none h.left.sync) (t.begins (omega (arith, above))) in absurd cc)
  ]

  -- what holds of the buffer before it
  record Ready (b : LeftFifo) : Type 0 where
    at_unit : buffer_at number first fifo ≡ b
    kind : b.kind ≡ stream_kind sync
    rate : b.rate ≡ stream_rate sync
    count : b.count ≡ held.units

  ready_by : (none : Bool) → is_none held.left.sync ≡ none → Ready (if none then fifo_for sync else fifo)
  ready_by true e =
      let none_yet = first_units e in
      let zero : (number == 0) ≡ true = grind (arith, nat_tests) in
      record {
        at_unit = ap (λ (b : Bool). if b then fifo_for (Some first) else fifo) zero ∙ ap fifo_for sync_is;
        kind = refl;
        rate = refl;
        count = sym none_yet;
      }
  ready_by false e =
      let some = later_units e in
      let later : (number == 0) ≡ false = grind (arith, nat_tests) in
      let b = buffer some in
      let kept = sym (in_force_kept held.left.sync g.unit.outer.major e) in
      record {
        at_unit = ap (λ (b : Bool). if b then fifo_for (Some first) else fifo) later;
        kind = b.kind ∙ ap stream_kind kept;
        rate = b.rate ∙ ap stream_rate kept;
        count = b.count;
      }

  ready : Ready before
  ready = ready_by (is_none held.left.sync) refl

  -- the buffer behind it
  pub buffer_behind : (words time : ℕ) (behind : LeftFifo) → placed (buffer_at number first fifo) words ≡ Ok (time, behind) → IsBuffer new behind
  buffer_behind words time behind e =
      let kept = placed_keeps (buffer_at number first fifo) words time behind e in
      let sync_new : sync ≡ new.left.sync = sym sync_is ∙ is_first in
      let at = ready.at_unit in
      record {
        kind = kept.0 ∙ ap (λ (b : LeftFifo). b.kind) at ∙ ready.kind ∙ ap stream_kind sync_new;
        rate = kept.1 ∙ ap (λ (b : LeftFifo). b.rate) at ∙ ready.rate ∙ ap stream_rate sync_new;
        count = omega (arith, kept.2, ap (λ (b : LeftFifo). b.count) at, ready.count, units_taken held t bytes new size g);
      }

  words_are : length_of g.unit ≡ 2 * g.outer.head.words
  words_are = ap (λ (o : AccessUnit). 2 * o.head.words) g.outer_is

  -- by what comes of placing it
  out_by : (x : Result (ℕ × LeftFifo) NoRoom) → placed (buffer_at number first fifo) (2 * g.outer.head.words) ≡ x
      → retime_step (parts held fifo refusal) true bytes ≡ on_given top None is_open_behind retime_reader size
      (with_state new (behind_placed before x) (on_placed sync (out_of (pace_of (stream_kind sync) (stream_rate sync)) held.units) g.unit x))
  out_by x e =
      let here = parts held fifo refusal in
      let placing : placed before (length_of g.unit) ≡ x = (λ i. placed (sym ready.at_unit i) (words_are i)) ∙ e in
      at_end here bytes ∙ ap (λ (o : Option Refusal). stepped_at o false here (next_at here bytes)) none ∙ ap (stepped_at None false here) g.next_is
      ∙ ap (λ (y : Result (ℕ × LeftFifo) NoRoom). on_given top None is_open_behind retime_reader size
      (with_state (after_top held g.unit) (behind_placed before y) (on_placed sync (out_of (pace_of (stream_kind sync) (stream_rate sync)) held.units) g.unit y))) placing
      ∙ ap (λ (h : Held). on_given top None is_open_behind retime_reader size (with_state h (behind_placed before x) (on_placed sync (out_of (pace_of (stream_kind sync) (stream_rate sync)) held.units) g.unit x))) (sym g.held_is)

  pub retime_full : (e : NoRoom) → placed (buffer_at number first fifo) (2 * g.outer.head.words) ≡ Err e → (s : RetimeState) → parts held fifo refusal ≡ s → retime_step s true bytes ≡ Refuses (refused.NoRoom e)
  retime_full e late s is = subst (λ (q : RetimeState). retime_step q true bytes ≡ Refuses (refused.NoRoom e)) is (out_by (Err e) late)

  pub retime_taken : (behind : LeftFifo) (out : List ℕ) → PutsUnit first (buffer_at number first fifo) (take size bytes) g.outer behind out → (s : RetimeState) → parts held fifo refusal ≡ s
      → retime_step s true bytes ≡ Takes size out (parts new behind None)
  retime_taken behind out p s is =
      let time = p.time in
      let b = buffer_at number first fifo in
      let out_here : out_of (pace_of b.kind b.rate) b.count ≡ out_of (pace_of (stream_kind sync) (stream_rate sync)) held.units =
      (λ i. out_of (pace_of (ready.at_unit i).kind (ready.at_unit i).rate) (ready.at_unit i).count) ∙ (λ i. out_of (pace_of (ready.kind i) (ready.rate i)) (ready.count i)) in
      let bytes_are : unit_bytes (rewritten first (highest (Some first) + 1) (time % 65536) (out_of (pace_of b.kind b.rate) b.count % 65536) (take size bytes) g.outer) ≡ out = sym p.out_is in
      subst (λ (q : RetimeState). retime_step q true bytes ≡ Takes size out (parts new behind None)) is
      (out_by (Ok (time, behind)) p.placed_is
      ∙ ap (λ (o : AccessUnit). Takes size (unit_bytes o) (parts new behind None)) (sym (unit_is held t bytes new size g first (time % 65536) (out_of (pace_of (stream_kind sync) (stream_rate sync)) held.units % 65536) is_first))
      ∙ ap (λ (n : ℕ). Takes size (unit_bytes (rewritten first (highest (Some first) + 1) (time % 65536) (n % 65536) (take size bytes) g.outer)) (parts new behind None)) (sym out_here)
      ∙ ap (λ (xs : List ℕ). Takes size xs (parts new behind None)) bytes_are)

-- ---- it waits exactly where its decoder does

waiting : (s : RetimeState) (next : Next) (refusal : Option Refusal) (b : Bool) → IsTrue (is_none refusal && b) ↔ (stepped_at refusal b s next ≡ Waits)
waiting s next None true = (λ _. refl, λ _. refl)
waiting s (Ok t) None false = (λ e. absurd cc, λ e. absurd (given_moves t.size _ e))
  where
    given_moves : (n : ℕ) (x : Result (List ℕ × RetimeState) Refusal) → on_given top None is_open_behind retime_reader n x ≡ Waits → ⊥
    given_moves n (Ok x) e = cc
    given_moves n (Err r) e = cc
waiting s (Err r) None false = (λ e. absurd cc, λ e. absurd cc)
waiting s next (Some e) b = (λ e. absurd cc, λ e. absurd cc)

pub retime_waits : (s : RetimeState) (bytes : List ℕ) → IsTrue (is_none s.refusal && is_open_behind s.held.left bytes) ↔ (retime_step s false bytes ≡ Waits)
retime_waits s bytes =
    subst (λ (m : Move RetimeState). IsTrue (is_none s.refusal && is_open_behind s.held.left bytes) ↔ (m ≡ Waits)) (sym (step_is top None is_open_behind retime_reader s false bytes))
    (waiting s (next_at s bytes) s.refusal (is_open_behind s.held.left bytes))

-- of a session of these parts
pub waits_by : (held : Held) (fifo : LeftFifo) (refusal : Option Refusal) (bytes : List ℕ) (b : Bool) → b ≡ (is_none refusal && is_open_behind held.left bytes)
    → (s : RetimeState) → parts held fifo refusal ≡ s → IsTrue b ↔ (retime_step s false bytes ≡ Waits)
waits_by held fifo refusal bytes b e s is =
    subst (λ (t : RetimeState). IsTrue b ↔ (retime_step t false bytes ≡ Waits)) is
    (subst (λ (c : Bool). IsTrue c ↔ (retime_step (parts held fifo refusal) false bytes ≡ Waits)) (sym e) (retime_waits (parts held fifo refusal) bytes))

pub open_then : (refusal : Option Refusal) (declined : Option Declined) (opens : Bool) → is_some refusal ≡ false → declined ≡ None → (is_none declined && opens) ≡ (is_none refusal && opens)
open_then None declined opens e none = ap (λ (d : Option Declined). is_none d && opens) none
open_then (Some r) declined opens e none = absurd cc

pub open_else : (refusal : Option Refusal) (opens : Bool) → is_some refusal ≡ true → false ≡ (is_none refusal && opens)
open_else None opens e = absurd cc
open_else (Some r) opens e = refl

pub none_there : (refusal : Option Refusal) → is_some refusal ≡ false → refusal ≡ None
none_there None e = refl
none_there (Some r) e = absurd cc
