-- What is taken of the next unit, and what is known behind it.
use Rattle.std.proofs.Common.{◌≡◌, ℕ, ◌+◌, ◌*◌, ◌<◌, not, Bool, true, false, List, take, Result, Ok, Err, Option, Some, None, is_none, inl, inr, refl, sym, ap, subst, subst₂, ◌∙◌, arith, ℤ}
use Rattle.std.specs.Prelude.{is_some, IfErr, OnOk, MatchResult}
use Rattle.std.proofs.lemmas.Bool.{cases_lt}
use Rattle.std.proofs.lemmas.List.{length-take}
use Rattle.mlp_syntax.specs.declared.fault.Field.TheVariants as rule
use Rattle.mlp_syntax.specs.declared.major.MajorSync.{MajorSync}
use Rattle.mlp_bits.specs.Bits.{bits_of}
use Rattle.mlp_layout.specs.Reading.{Read}
use Rattle.mlp_layout.specs.Layout.{Found, tested}
use Rattle.mlp_layout.proofs.LayoutLaws.{tested_is, is_found}
use Rattle.mlp_unit.specs.AccessUnit.{AccessUnit, access_unit, in_force, substreams_of}
use Rattle.mlp_unit.specs.Shape.{unit_with}
use Rattle.mlp_unit.specs.Written.{FirstUsable}
use Rattle.mlp_unit.proofs.Reread.{parts_of, writable, small_size}
use Rattle.mlp_unit.proofs.UnitLaws.{access_unit_is}
use Rattle.mlp_walk.specs.declared.refusal.Refusal.{Refusal as Declined}
use Rattle.mlp_walk.specs.Next.{next_of}
use Rattle.mlp_outline.proofs.NextParts.{next_broken}
use Rattle.mlp_contents.specs.Units.{start, whole, after}
use Rattle.mlp_samples.proofs.SyncLaws.{unit_synced}
use Rattle.mlp_present.specs.Parts.{Next, HasOuter, BreaksOuter, outer_read}
use Rattle.mlp_present.specs.Decoding.{Held, opened, after_unit, unless_refused, next_unit, GivesUnit, KeepsRefusal}
use Rattle.mlp_sessions.proofs.Rates.{usable_behind}
use Rattle.mlp_retime.specs.Top.{highest, top}
use Rattle.mlp_retime.specs.Stamping.{HoldsUnit}
use Rattle.mlp_retime.specs.Retimer.{decoder_for, TellsHighest, Begins, TakesTop, IsTop}
use Rattle.mlp_retime.proofs.Decoders.{units_by, sync_by, k_by, stays_by, some_none}
use Rattle.mlp_retime.proofs.TopLaws.{same_later, same_first}

-- ---- the decoder before the next unit

pub begins_later : (held : Held) (next : List ℕ) → IsTop held → 0 < held.units → Begins held next held
begins_later held next t some =
    let told = t.told some in
    record {
      same = same_later held.units held.left next held.k some told.synced told.k_is;
      for_unit = λ o end e. stays_by held.left.sync held o told.synced;
      units = refl;
      sync = refl;
      ended = refl;
      none_refused = told.none_refused;
    }

read_ok : AccessUnit × ℕ → Read AccessUnit
read_ok x = Ok x

one_read : (x y : AccessUnit × ℕ) → read_ok x ≡ read_ok y → x ≡ y
unfolding read_ok
one_read x y e = cc

begins_at : (next : List ℕ) (k : ℕ) → TellsHighest next k → Begins (opened 0) next (opened k)
unfolding read_ok
begins_at next k t = record {
  same = same_first next t.outer t.end t.read t.some ∙ ap (λ (j : ℕ). next_of (whole j) (Some j) 0 (start j) next) (sym t.k_is);
  for_unit = λ o end e.
      let same : t.outer ≡ o = ap (λ (x : AccessUnit × ℕ). x.0) (one_read (t.outer, t.end) (o, end) (sym t.read ∙ e)) in
      ap opened t.k_is ∙ ap (λ (p : AccessUnit). opened (highest p.major)) same;
  units = refl;
  sync = refl;
  ended = refl;
  none_refused = refl;
}

pub begins_first : (held new : Held) (next : List ℕ) (k : ℕ) → IsTop held → held.units ≡ 0 → TellsHighest next k → new ≡ opened k → Begins held next new
begins_first held new next k t none tells is =
    subst (λ (h : Held). Begins h next new) (sym (t.begins none)) (subst (Begins (opened 0) next) (sym is) (begins_at next k tells))

pub begins_broken : (held : Held) (next : List ℕ) (r : Declined) → IsTop held → held.units ≡ 0 → BreaksOuter false 0 None next r → next_of top None held.units held.left next ≡ Err r
begins_broken held next r t none (b, read, is) =
    subst (λ (h : Held). next_of top None h.units h.left next ≡ Err r) (sym (t.begins none))
    (next_broken top None 0 (start 0) next b read ∙ ap (λ (d : Declined). err_next d) (sym is))
  where
    err_next : Declined → Next
    err_next d = Err d

-- ---- a unit that was taken

not_refused : (refusal : Option Declined) (next : Next) → refusal ≡ None → unless_refused refusal next ≡ next
not_refused None next e = refl
not_refused (Some r) next e = absurd cc

module _ (old begun : Held) (next : List ℕ) (b : Begins old next begun) where
  same_next : next_of top None old.units old.left next ≡ next_unit begun next
  same_next = b.same ∙ sym (not_refused begun.refusal _ b.none_refused)

  pub next_declined : (r : Declined) → next_unit begun next ≡ Err r → next_of top None old.units old.left next ≡ Err r
  next_declined r e = same_next ∙ e

  module _ (t : IsTop old) (new : Held) (size : ℕ) (rows : List (List ℤ)) (g : GivesUnit begun next size rows new) where
    abbrev unit_read : AccessUnit
    unit_read = unit_with (take size next) g.outer

    has : HasOuter old.left.ended old.left.sync next size g.outer
    has = subst₂ (λ (ended : Bool) (sync : Option MajorSync). HasOuter ended sync next size g.outer) b.ended b.sync g.has_outer

    begun_is : begun ≡ decoder_for old g.unit.outer
    begun_is = b.for_unit unit_read (8 * size) has.read ∙ ap (decoder_for old) (sym g.outer_is)

    pub taken_top : TakesTop old next size new
    taken_top = record {
      unit = g.unit;
      next_is = same_next ∙ g.next_is;
      held_is = g.held_is ∙ ap (λ (h : Held). after_unit h g.unit) begun_is;
      outer = g.outer;
      outer_is = g.outer_is;
      latest_is = g.latest_is;
      has_outer = has;
    }

    pub usable_taken : FirstUsable new.left.sync
    usable_taken = usable_behind begun new next size rows g (subst FirstUsable (sym b.sync) t.usable)

pub taken_by : (old begun : Held) (next : List ℕ) (b : Begins old next begun) (t : IsTop old) (new : Held) (rows : List (List ℤ)) (r : Result ℕ Declined)
    → MatchResult r (λ size. GivesUnit begun next size rows new) (λ e. next_unit begun next ≡ Err e)
    → MatchResult r (λ size. TakesTop old next size new) (λ e. next_of top None old.units old.left next ≡ Err e)
taken_by old begun next b t new rows (Ok size) g = taken_top old begun next b t new size rows g
taken_by old begun next b t new rows (Err r) e = next_declined old begun next b r e

pub usable_by : (old begun : Held) (next : List ℕ) (b : Begins old next begun) (t : IsTop old) (new : Held) (rows : List (List ℤ)) (r : Result ℕ Declined)
    → MatchResult r (λ size. GivesUnit begun next size rows new) (λ e. next_unit begun next ≡ Err e) → IfErr r (KeepsRefusal begun new) → FirstUsable new.left.sync
usable_by old begun next b t new rows (Ok size) g kept = usable_taken old begun next b t new size rows g
usable_by old begun next b t new rows (Err r) e kept = subst FirstUsable (sym (kept.sync ∙ b.sync)) t.usable

pub top_unrefused : (held : Held) → IsTop held → held.refusal ≡ None
top_unrefused held t = elim (cases_lt 0 held.units) [
  | inl some ↦ (t.told some).none_refused
  | inr none ↦ ap (λ (h : Held). h.refusal) (t.begins (omega (arith, none)))
]

-- the first unit tells presentations
pub some_told : (next : List ℕ) (u : AccessUnit) (end : ℕ) → outer_read false None next ≡ Ok (u, end) → 0 < substreams_of u.major
unfolding tested
some_told next u end e =
    let f = (is_found (tested_is rule.AfterEnd true (access_unit_is None)) (bits_of next) 0 (omega arith) (u, end) e).0 in
    let p = parts_of None u (λ none. tt) f.fits f.meets.1 in
    omega (arith, p.asked.count, p.count.some)

-- ---- what is known behind it

told_if : (held : Held) → IsTop held → is_none held.left.sync ≡ false → held.k ≡ highest held.left.sync
told_if held t synced = elim (cases_lt 0 held.units) [
  | inl some ↦ (t.told some).k_is
  | inr none ↦ (let sync : held.left.sync ≡ None = ap (λ (h : Held). h.left.sync) (t.begins (omega (arith, none))) in
      let not_none : is_none held.left.sync ≡ true = ap (λ (s : Option MajorSync). is_none s) sync in absurd cc)
]

module _ (old : Held) (t : IsTop old) (next : List ℕ) (new : Held) (size : ℕ) (g : TakesTop old next size new) where
  abbrev outer_part : AccessUnit
  outer_part = unit_with (take size next) g.outer

  pub taken_found : Found (access_unit old.left.sync) (bits_of next) 0 outer_part
  unfolding tested
  taken_found =
      let f = is_found (tested_is rule.AfterEnd (not old.left.ended) (access_unit_is old.left.sync)) (bits_of next) 0 (omega arith) (outer_part, 8 * size) g.has_outer.read in
      record { fits = f.0.fits; meets = f.0.meets.1; stands = f.0.stands }

  pub sync_taken : new.left.sync ≡ in_force old.left.sync g.unit.outer.major
  unfolding after
  sync_taken =
      ap (λ (h : Held). h.left.sync) g.held_is ∙ ap (λ (s : Option MajorSync). in_force s g.unit.outer.major) (sync_by old.left.sync old g.unit.outer refl)

  major_is : g.unit.outer.major ≡ g.outer.major
  major_is = ap (λ (o : AccessUnit). o.major) g.outer_is

  pub synced_taken : is_none new.left.sync ≡ false
  synced_taken =
      let there = unit_synced old.left.sync (bits_of next) outer_part t.usable taken_found in
      some_none new.left.sync (ap is_some (sync_taken ∙ ap (in_force old.left.sync) major_is) ∙ there)

  k_taken : new.k ≡ highest new.left.sync
  k_taken =
      ap (λ (h : Held). h.k) g.held_is ∙ k_by old.left.sync old g.unit.outer (told_if old t) ∙ ap highest (sym sync_taken)

  pub units_taken : new.units ≡ old.units + 1
  units_taken = ap (λ (h : Held). h.units) g.held_is ∙ ap (λ (n : ℕ). n + 1) (units_by old.left.sync old g.unit.outer)

  pub top_taken : FirstUsable new.left.sync → IsTop new
  top_taken usable = record {
    usable = usable;
    begins = λ none. absurd (omega (arith, none, units_taken));
    told = λ some. record { k_is = k_taken; synced = synced_taken; none_refused = ap (λ (h : Held). h.refusal) g.held_is };
  }

  -- ---- it can be written again

  pub words_short : g.outer.head.words < 4096
  words_short = (parts_of old.left.sync outer_part (λ none. t.usable) taken_found.fits taken_found.meets).head_fits.1

  pub holds_unit : HoldsUnit (highest new.left.sync + 1) (take size next) g.outer
  holds_unit =
      let p = parts_of old.left.sync outer_part (λ none. t.usable) taken_found.fits taken_found.meets in
      let many : highest new.left.sync ≡ highest (in_force old.left.sync g.outer.major) = ap highest (sync_taken ∙ ap (in_force old.left.sync) major_is) in
      record {
        some = omega arith;
        there = omega (arith, many, p.asked.count, p.count.some);
        small = omega (arith, length-take size next, g.has_outer.small);
        inside = g.has_outer.inside;
        writable = writable old.left.sync outer_part (λ none. t.usable) taken_found.fits taken_found.meets;
        counted = record { first = old.left.sync; count = sym g.has_outer.count };
        size = small_size old.left.sync outer_part (λ none. t.usable) taken_found.fits taken_found.meets;
      }

pub top_by : (old begun : Held) (next : List ℕ) (b : Begins old next begun) (t : IsTop old) (new : Held) (rows : List (List ℤ)) (r : Result ℕ Declined)
    → MatchResult r (λ size. GivesUnit begun next size rows new) (λ e. next_unit begun next ≡ Err e) → OnOk r (IsTop new)
top_by old begun next b t new rows (Ok size) g =
    top_taken old t next new size (taken_top old begun next b t new size rows g) (usable_taken old begun next b t new size rows g)
top_by old begun next b t new rows (Err r) e = tt
