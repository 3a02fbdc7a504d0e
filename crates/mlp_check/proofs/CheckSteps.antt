-- What the session of `check` does with the next bytes.
use Rattle.std.proofs.Common.{◌≡◌, ℕ, ◌+◌, ◌*◌, ◌<◌, ◌≤◌, ◌↔◌, not, Bool, true, false, IsTrue, List, [], length, take, Ok, Err, Option, Some, sym, ap, subst, ◌∙◌, ℤ, Bor, arith}
use Rattle.std.specs.Prelude.{is_some}
use Rattle.std.specs.Option.{option_copied}
use Rattle.mlp_syntax.specs.declared.fault.Field.TheVariants as rule
use Rattle.mlp_syntax.specs.declared.major.MajorSync.{MajorSync}
use Rattle.mlp_syntax.specs.declared.unit.Outer.{Outer}
use Rattle.mlp_bits.specs.Bits.{bits_of}
use Rattle.mlp_layout.specs.Layout.{Found, tested}
use Rattle.mlp_layout.proofs.LayoutLaws.{tested_is, is_found}
use Rattle.mlp_unit.specs.AccessUnit.{AccessUnit, access_unit}
use Rattle.mlp_unit.specs.Shape.{unit_with}
use Rattle.mlp_unit.specs.Written.{FirstUsable}
use Rattle.mlp_unit.proofs.Reread.{parts_of}
use Rattle.mlp_unit.proofs.UnitLaws.{access_unit_is}
use Rattle.mlp_walk.specs.declared.refusal.Refusal.{Refusal as Declined}
use Rattle.mlp_walk.specs.Next.{next_of}
use Rattle.mlp_stream.specs.declared.refusal.Refusal.{Refusal}
use Rattle.mlp_stream.specs.Moves.{Move, Waits, Takes, Refuses}
use Rattle.mlp_answers.specs.Reading.{refusal_of}
use Rattle.mlp_answers.proofs.ReadingLaws.{step_is}
use Rattle.mlp_contents.specs.Units.{Unit_of, whole, frames_out}
use Rattle.mlp_fifo.specs.Timed.{LeftChecker}
use Rattle.mlp_present.specs.Parts.{Next}
use Rattle.mlp_present.specs.Decoding.{Held, next_unit, after_unit, is_open_behind, waits, GivesUnit}
use Rattle.mlp_sessions.proofs.DecoderSteps.{stepped_at, refuses_by, takes_by, waiting}
use Rattle.mlp_check.specs.Check.{CheckState, timed_after, one_if, after_checked, check_reader, check_step}

-- ---- by what comes of the next unit, or came

-- at the end of the bytes nothing is waited for
at_end : (s : CheckState) (bytes : List ℕ) → check_step s true bytes ≡ stepped_at s.held.k check_reader s s.held.refusal false (next_of (whole s.held.k) (Some s.held.k) s.held.units s.held.left bytes)
at_end s bytes = step_is (whole s.held.k) (Some s.held.k) is_open_behind check_reader s true bytes

pub check_refuses : (s : CheckState) (bytes : List ℕ) (e : Declined) → next_unit s.held bytes ≡ Err e → check_step s true bytes ≡ Refuses (refusal_of e)
check_refuses s bytes e h = at_end s bytes ∙ refuses_by s.held.k check_reader s s.held.refusal _ e h

pub check_takes : (s : CheckState) (bytes : List ℕ) (size : ℕ) (u : Unit_of) → next_unit s.held bytes ≡ Ok (record { size = size; unit = u }) → check_step s true bytes ≡ Takes size [] (after_checked s u)
check_takes s bytes size u h = at_end s bytes ∙ takes_by s.held.k check_reader s s.held.refusal _ (record { size = size; unit = u }) h

-- ---- of a session of these parts

some_outer : Outer → Option Outer
some_outer o = Some o

some_is : (a b : Outer) → some_outer a ≡ some_outer b → a ≡ b
unfolding some_outer
some_is a b e = cc

-- the outer part that a decoder tells
pub told_outer : (o : Option (Bor Outer)) (b : Bor Outer) (latest : Option Outer) (outer : Outer) → o ≡ Some b → option_copied o ≡ latest → latest ≡ Some outer → b.now ≡ outer
unfolding some_outer
told_outer o b latest outer e copied is = some_is b.now outer (ap (λ (x : Option (Bor Outer)). option_copied x) (sym e) ∙ copied ∙ is)

abbrev pub parts : Held → LeftChecker → ℕ → ℕ → CheckState
parts held checker frames restarts = record { held = held; checker = checker; frames = frames; restarts = restarts }

pub check_declined : (held : Held) (checker : LeftChecker) (frames restarts : ℕ) (bytes : List ℕ) (d : Declined) (r : Refusal) → next_unit held bytes ≡ Err d → r ≡ refusal_of d
    → (s : CheckState) → parts held checker frames restarts ≡ s → check_step s true bytes ≡ Refuses r
check_declined held checker frames restarts bytes d r h q s e =
    subst (λ (t : CheckState). check_step t true bytes ≡ Refuses r) e
    (check_refuses (parts held checker frames restarts) bytes d h ∙ ap (λ (k : Refusal). Refuses k) (sym q))

module _ (held : Held) (bytes : List ℕ) (size : ℕ) (rows : List (List ℤ)) (new : Held) (g : GivesUnit held bytes size rows new) where
  head_is : g.unit.outer.head ≡ g.outer.head
  head_is = ap (λ (o : AccessUnit). o.head) g.outer_is

  major_is : g.unit.outer.major ≡ g.outer.major
  major_is = ap (λ (o : AccessUnit). o.major) g.outer_is

  -- the unit's outer part is there
  outer_found : Found (access_unit held.left.sync) (bits_of bytes) 0 (unit_with (take size bytes) g.outer)
  unfolding tested
  outer_found =
      let f = is_found (tested_is rule.AfterEnd (not held.left.ended) (access_unit_is held.left.sync)) (bits_of bytes) 0 (omega arith) (unit_with (take size bytes) g.outer, 8 * size) g.has_outer.read in
      record { fits = f.0.fits; meets = f.0.meets.1; stands = f.0.stands }

  -- its length in words has 12 bits
  pub words_short : FirstUsable held.left.sync → g.outer.head.words < 4096
  words_short usable = (parts_of held.left.sync (unit_with (take size bytes) g.outer) (λ none. usable) outer_found.fits outer_found.meets).head_fits.1

  module _ (checker later : LeftChecker) (frames restarts all syncs : ℕ) (outer : Outer) (output : Option ℕ) (same : outer ≡ g.outer) (told : output ≡ new.timing)
      (timed : later ≡ timed_after held.units outer.head outer.major output checker) (given : all ≡ frames + length rows) (counted : syncs ≡ restarts + one_if (is_some outer.major)) where
    checker_is : timed_after held.units g.unit.outer.head g.unit.outer.major (after_unit held g.unit).timing checker ≡ later
    checker_is =
        (λ i. timed_after held.units ((head_is ∙ ap (λ (o : Outer). o.head) (sym same)) i) ((major_is ∙ ap (λ (o : Outer). o.major) (sym same)) i) ((ap (λ (h : Held). h.timing) (sym g.held_is) ∙ sym told) i) checker)
        ∙ sym timed

    state_is : after_checked (parts held checker frames restarts) g.unit ≡ parts new later all syncs
    state_is =
        let syncs_are : restarts + one_if (is_some g.unit.outer.major) ≡ syncs =
        ap (λ (o : Option MajorSync). restarts + one_if (is_some o)) (major_is ∙ ap (λ (o : Outer). o.major) (sym same)) ∙ sym counted in
        let frames_are : frames + length (frames_out held.k held.left g.unit) ≡ all = ap (λ (xs : List (List ℤ)). frames + length xs) (sym g.frames_are) ∙ sym given in
        let held_are : after_unit held g.unit ≡ new = sym g.held_is in
        λ i. parts (held_are i) (checker_is i) (frames_are i) (syncs_are i)

    pub check_taken : (out : List ℕ) → out ≡ [] → (s : CheckState) → parts held checker frames restarts ≡ s → check_step s true bytes ≡ Takes size out (parts new later all syncs)
    check_taken out none s e =
        subst (λ (t : CheckState). check_step t true bytes ≡ Takes size out (parts new later all syncs)) e
        (check_takes (parts held checker frames restarts) bytes size g.unit g.next_is
        ∙ ap (λ (t : CheckState). Takes size [] t) state_is ∙ ap (λ (xs : List ℕ). Takes size xs (parts new later all syncs)) (sym none))

-- ---- it waits exactly where its decoder does

pub check_waits : (s : CheckState) (bytes : List ℕ) → IsTrue (waits s.held bytes) ↔ (check_step s false bytes ≡ Waits)
check_waits s bytes =
    let next : Next = next_of (whole s.held.k) (Some s.held.k) s.held.units s.held.left bytes in
    subst (λ (m : Move CheckState). IsTrue (waits s.held bytes) ↔ (m ≡ Waits)) (sym (step_is (whole s.held.k) (Some s.held.k) is_open_behind check_reader s false bytes))
    (waiting s.held.k check_reader s s.held.refusal (is_open_behind s.held.left bytes) next)

pub one_most : (b : Bool) → one_if b ≤ 1
one_most true = omega arith
one_most false = omega arith
