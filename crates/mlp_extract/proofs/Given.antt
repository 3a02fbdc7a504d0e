-- A unit that a decoder gave has the segments of its presentation.
use Rattle.std.proofs.Common.{◌≡◌, ℕ, zero, suc, ◌*◌, ◌<◌, not, Bool, List, take, Ok, Err, Option, Some, None, inl, inr, refl, sym, ap, subst, ◌∙◌, arith, ℤ}
use Rattle.std.specs.Prelude.{min}
use Rattle.std.proofs.lemmas.Bool.{cases_lt}
use Rattle.std.proofs.lemmas.List.{length-take}
use Rattle.mlp_syntax.specs.declared.fault.Field.TheVariants as rule
use Rattle.mlp_syntax.specs.declared.major.MajorSync.{MajorSync}
use Rattle.mlp_syntax.specs.declared.segment.Segment.{Segment}
use Rattle.mlp_bits.specs.Bits.{bits_of}
use Rattle.mlp_layout.specs.Allowed.{Allowed}
use Rattle.mlp_layout.specs.Layout.{tested}
use Rattle.mlp_layout.proofs.LayoutLaws.{tested_is, is_found}
use Rattle.mlp_unit.specs.AccessUnit.{AccessUnit, access_unit, in_force, substreams_of}
use Rattle.mlp_unit.specs.Shape.{unit_with}
use Rattle.mlp_unit.specs.Written.{FirstUsable}
use Rattle.mlp_unit.proofs.UnitLaws.{access_unit_is}
use Rattle.mlp_walk.specs.declared.refusal.Refusal.{Refusal as Declined}
use Rattle.mlp_walk.specs.Next.{Taken, next_of}
use Rattle.mlp_outline.proofs.NextParts.{next_shut}
use Rattle.mlp_contents.specs.Units.{Left, whole, after}
use Rattle.mlp_present.specs.Parts.{Next, outer_read}
use Rattle.mlp_present.specs.Decoding.{Held, after_unit, unless_refused, GivesUnit, KeepsRefusal}
use Rattle.mlp_sessions.proofs.Rates.{in_force_usable}
use Rattle.mlp_extract.specs.Extractor.{HoldsPresentation, IsExtracting}

-- ---- the first major sync

told_on : (k : ℕ) (first major : Option MajorSync) → k < substreams_of first → k < substreams_of (in_force first major)
told_on k None major lt = absurd (omega (arith, lt))
told_on k (Some f) major lt = lt

-- ---- the outer part

outer_allowed : (ended : Bool) (first : Option MajorSync) (bytes : List ℕ) (u : AccessUnit) (end : ℕ) → outer_read ended first bytes ≡ Ok (u, end) → Allowed (access_unit first) u
unfolding tested
outer_allowed ended first bytes u end e =
    let f = (is_found (tested_is rule.AfterEnd (not ended) (access_unit_is first)) (bits_of bytes) 0 (omega arith) (u, end) e).0 in
    record { fits = f.fits; meets = f.meets.1 }

not_both : (t : Taken AccessUnit (List Segment)) (r : Declined) (x : Next) → x ≡ Ok t → x ≡ Err r → ⊥
not_both t r x a b = cc

-- the first unit tells the presentation
told_first : (k : ℕ) (left : Left) (bytes : List ℕ) (u : AccessUnit) (end : ℕ) (t : Taken AccessUnit (List Segment)) → outer_read left.ended left.sync bytes ≡ Ok (u, end)
    → next_of (whole k) (Some k) 0 left bytes ≡ Ok t → k < substreams_of u.major
told_first k left bytes u end t read e = elim (cases_lt k (min 3 (substreams_of u.major))) [
  | inl lt ↦ omega (arith, lt)
  | inr ge ↦ absurd (not_both t _ (next_of (whole k) (Some k) 0 left bytes) e (next_shut (whole k) (Some k) 0 left bytes k u end read refl ge))
]

taken_next : (refusal : Option Declined) (next : Next) (t : Taken AccessUnit (List Segment)) → unless_refused refusal next ≡ Ok t → next ≡ Ok t
taken_next None next t e = e
taken_next (Some r) next t e = absurd cc

-- ---- one unit

module _ (k : ℕ) (held new : Held) (bytes : List ℕ) (size : ℕ) (frames : List (List ℤ)) (x : IsExtracting k held) (g : GivesUnit held bytes size frames new) where
  abbrev first : Option MajorSync
  first = held.left.sync

  abbrev major : Option MajorSync
  major = g.outer.major

  abbrev given : Taken AccessUnit (List Segment)
  given = record { size = size; unit = g.unit }

  next_is : next_of (whole held.k) (Some held.k) held.units held.left bytes ≡ Ok given
  next_is = taken_next held.refusal _ given g.next_is

  told_by : (n : ℕ) → held.units ≡ n → k < substreams_of (in_force first major)
  told_by zero e =
      let next : next_of (whole k) (Some k) 0 held.left bytes ≡ Ok given =
      subst (λ (n : ℕ). next_of (whole k) (Some k) n held.left bytes ≡ Ok given) e
      (subst (λ (j : ℕ). next_of (whole j) (Some j) held.units held.left bytes ≡ Ok given) x.k_is next_is) in
      let own = told_first k held.left bytes (unit_with (take size bytes) g.outer) (8 * size) given g.has_outer.read next in
      subst (λ (s : Option MajorSync). k < substreams_of (in_force s major)) (sym (x.begins e)) own
  told_by (suc n) e = told_on k first major (x.told (omega (arith, e)))

  told : k < substreams_of (in_force first major)
  told = told_by held.units refl

  pub holds_presentation : HoldsPresentation k (take size bytes) g.outer
  holds_presentation = record {
    most = x.most;
    small = omega (arith, length-take size bytes, g.has_outer.small);
    inside = g.has_outer.inside;
    has = record {
      first = first;
      usable = x.usable;
      allowed = outer_allowed held.left.ended first bytes (unit_with (take size bytes) g.outer) (8 * size) g.has_outer.read;
      there = omega (arith, told, g.has_outer.count);
    };
  }

  major_is : g.unit.outer.major ≡ major
  major_is = ap (λ (u : AccessUnit). u.major) g.outer_is

  sync_is : (after_unit held g.unit).left.sync ≡ in_force first major
  unfolding after
  sync_is = ap (in_force first) major_is

  pub unit_taken : IsExtracting k new
  unit_taken =
      let behind : IsExtracting k (after_unit held g.unit) = record {
        k_is = x.k_is;
        most = x.most;
        usable = subst FirstUsable (sym sync_is) (in_force_usable first major x.usable g.has_outer.usable);
        begins = λ e. absurd (omega (arith, e));
        told = λ some. subst (λ (s : Option MajorSync). k < substreams_of s) (sym sync_is) told;
      } in
      subst (IsExtracting k) (sym g.held_is) behind

pub unit_refused : (k : ℕ) (held new : Held) (r : Declined) → IsExtracting k held → KeepsRefusal held new r → IsExtracting k new
unit_refused k held new r x kept = record {
  k_is = kept.k ∙ x.k_is;
  most = x.most;
  usable = subst FirstUsable (sym kept.sync) x.usable;
  begins = λ e. kept.sync ∙ x.begins (sym kept.units ∙ e);
  told = λ some. subst (λ (s : Option MajorSync). k < substreams_of s) (sym kept.sync) (x.told (omega (arith, kept.units, some)));
}
