-- What comes of the next unit, from what its parts say.
use Rattle.std.proofs.Common.{◌≡◌, ℕ, ◌*◌, ◌/◌, ◌<◌, ◌≤◌, eqb, leb, cond, Bool, true, false, not, List, length, take, Ok, Err, Option, Some, None, inl, inr, refl, sym, ap, subst, ◌∙◌, arith}
use Rattle.std.specs.Prelude.{◌&&◌, IfSome, ℤ}
use Rattle.std.proofs.lemmas.Bool.{leb-true, le-leb, cases_lt}
use Rattle.mlp_syntax.specs.declared.fault.Broken.{Broken}
use Rattle.mlp_syntax.specs.declared.fault.Field.TheVariants as rule
use Rattle.mlp_syntax.specs.declared.major.MajorSync.{MajorSync}
use Rattle.mlp_syntax.specs.declared.segment.Segment.{Segment}
use Rattle.mlp_syntax.specs.declared.unit.Outer.{Outer}
use Rattle.mlp_bits.specs.Bits.{bits_of}
use Rattle.mlp_layout.specs.Reading.{broken}
use Rattle.mlp_layout.specs.Layout.{tested}
use Rattle.mlp_layout.specs.Streams.{outer_fault}
use Rattle.mlp_layout.proofs.LayoutLaws.{tested_is, is_found}
use Rattle.mlp_major.specs.MajorSync.{IsUsable}
use Rattle.mlp_major.proofs.SyncReading.{bits_of-take}
use Rattle.mlp_unit.specs.AccessUnit.{AccessUnit, access_unit}
use Rattle.mlp_unit.specs.Shape.{unit_with, unit_read, body_place, HasCount, HoldsSegments}
use Rattle.mlp_unit.specs.Frame.{frame_of}
use Rattle.mlp_unit.proofs.FrameLaws.{is_frame}
use Rattle.mlp_unit.proofs.UnitLaws.{access_unit_is}
use Rattle.mlp_walk.specs.declared.refusal.Refusal.{Refusal}
use Rattle.mlp_walk.specs.declared.refusal.Refusal.TheVariants as refused
use Rattle.mlp_walk.specs.Next.{fault_of, asked}
use Rattle.mlp_outline.proofs.NextParts.{IsTold, next_broken, next_shut, next_fails, next_taken}
use Rattle.mlp_contents.specs.Units.{whole}
use Rattle.mlp_contents.specs.Inner.{Inner, left_of, unit_with_contents}
use Rattle.mlp_present.specs.Parts.{Next, next_behind, outer_read, HasOuter, BreaksOuter, is_missing, presentations_of, BreaksInside, TakesInside, TakesUnit}

-- ---- the outer part

-- behind a terminator no unit follows
pub ended_read : (first : Option MajorSync) (next : List ℕ) → outer_read true first next ≡ Err (record { field = rule.AfterEnd; bit = 0 })
unfolding tested
ended_read first next = refl

pub going_read : (first : Option MajorSync) (next : List ℕ) → outer_read false first next ≡ unit_read first next
unfolding tested
going_read first next = refl

pub ended_breaks : (ended : Bool) (number : ℕ) (first : Option MajorSync) (next : List ℕ) (refusal : Refusal) → ended ≡ true → refusal ≡ refused.Fault (fault_of number (outer_fault (broken rule.AfterEnd 0)))
    → BreaksOuter ended number first next refusal
ended_breaks true number first next refusal e r = (broken rule.AfterEnd 0, ended_read first next, r)
ended_breaks false number first next refusal e r = absurd cc

pub going_breaks : (ended : Bool) (number : ℕ) (first : Option MajorSync) (next : List ℕ) (b : Broken) (refusal : Refusal) → ended ≡ false → unit_read first next ≡ Err b
    → refusal ≡ refused.Fault (fault_of number (outer_fault b)) → BreaksOuter ended number first next refusal
going_breaks true number first next b refusal e read r = absurd cc
going_breaks false number first next b refusal e read r = (b, going_read first next ∙ read, r)

-- what `next_outer` gives of a unit
pub record Outered (first : Option MajorSync) (next : List ℕ) (size : ℕ) (o : Outer) : Type 0 where
  pub read : unit_read first next ≡ Ok (unit_with (take size next) o, 8 * size)
  pub frame : frame_of next ≡ Ok size
  pub body : o.body ≡ body_place (unit_with (take size next) o)
  pub count : HasCount first o
  pub ends : HoldsSegments (take size next) o
  pub usable : IfSome o.major IsUsable

pub going_outer : (ended : Bool) (first : Option MajorSync) (next : List ℕ) (size : ℕ) (o : Outer) → ended ≡ false → Outered first next size o → HasOuter ended first next size o
going_outer true first next size o e h = absurd cc
going_outer false first next size o e h =
    let f = is_frame next size h.frame in
    record { read = going_read first next ∙ h.read; some = f.some; small = f.small; there = f.there; body = h.body; count = h.count; inside = h.ends; usable = h.usable }

-- the bits of the outer part are those of the unit
pub spelled : (ended : Bool) (first : Option MajorSync) (next : List ℕ) (size : ℕ) (u : AccessUnit) → outer_read ended first next ≡ Ok (u, 8 * size) → size ≤ length next
    → (tested rule.AfterEnd (not ended) (access_unit first)).spelling u ≡ bits_of (take size next)
spelled ended first next size u e le =
    let f = is_found (tested_is rule.AfterEnd (not ended) (access_unit_is first)) (bits_of next) 0 (omega arith) (u, 8 * size) e in
    let text = (tested rule.AfterEnd (not ended) (access_unit first)).spelling u in
    let long : length text ≡ 8 * size = omega (arith, f.1) in
    sym f.0.stands.text_is ∙ ap (λ (n : ℕ). take n (bits_of next)) long ∙ bits_of-take size next le

-- ---- the gate

both : (a b : Bool) → (a && b) ≡ true → (a ≡ true) × (b ≡ true)
both true true e = (refl, refl)
both true false e = absurd cc
both false b e = absurd cc

some_is : (j k : ℕ) → Some j ≡ Some k → j ≡ k
some_is j k e = cc

none_some : (k : ℕ) → None ≡ Some k → ⊥
none_some k e = cc

-- the presentation is asked for in the first unit, and is there
pub told_open : (number k : ℕ) (o : AccessUnit) → is_missing number (presentations_of o.major) k ≡ false → IsTold (whole k) (asked (Some k) number) o
told_open number k o e = by_number (eqb number 0) e
  where
    by_number : (b : Bool) → (b && leb (presentations_of o.major) k) ≡ false → IsTold (whole k) (cond b (Some k) None) o
    by_number true h = record { told = λ j is. subst (λ (m : ℕ). m < presentations_of o.major) (some_is k j is) (above h) }
      where
        above : leb (presentations_of o.major) k ≡ false → k < presentations_of o.major
        above h = elim (cases_lt k (presentations_of o.major)) [ inl lt ↦ lt | inr ge ↦ (let t = le-leb _ _ ge in absurd cc) ]
    by_number false h = record { told = λ j is. absurd (none_some j is) }

missing_asked : (number have k : ℕ) → is_missing number have k ≡ true → (asked (Some k) number ≡ Some k) × (have ≤ k)
missing_asked number have k e =
    let b = both (eqb number 0) (leb have k) e in
    (ap (λ (c : Bool). cond {A = Option ℕ} c (Some k) None) b.0, leb-true have k b.1)

-- ---- joined

module _ (number : ℕ) (first : Option MajorSync) (x : Inner) (next : List ℕ) where
  abbrev next_here : Next
  next_here = next_behind number first x next

  pub outer_breaks : (refusal : Refusal) → BreaksOuter x.ended number first next refusal → next_here ≡ Err refusal
  outer_breaks refusal b = rw b.2 (next_broken (whole x.last) (Some x.last) number (left_of first x) next b.0 b.1)

  module _ (size : ℕ) (outer : Outer) (h : HasOuter x.ended first next size outer) where
    abbrev o : AccessUnit
    o = unit_with (take size next) outer

    text_is : ((whole x.last).outer (left_of first x)).spelling o ≡ bits_of (take size next)
    text_is = spelled x.ended first next size o h.read h.there

    pub inside_breaks : (refusal : Refusal) → BreaksInside number first x o (bits_of (take size next)) refusal → next_here ≡ Err refusal
    inside_breaks refusal (inl m) =
        let a = missing_asked number (presentations_of o.major) x.last m.0 in
        rw m.1 (next_shut (whole x.last) (Some x.last) number (left_of first x) next x.last o (8 * size) h.read a.0 a.1)
    inside_breaks refusal (inr m) =
        rw m.1.2 (next_fails (whole x.last) (Some x.last) number (left_of first x) next o (8 * size) m.1.0 h.read (told_open number x.last o m.0)
        (ap ((whole x.last).contents (left_of first x) o).read text_is ∙ m.1.1))

    pub unit_taken : (new : Inner) (frames : List (List ℤ)) → TakesInside number first o (bits_of (take size next)) x new frames → TakesUnit number first next size o x new frames
    unit_taken new frames t = record {
      unit = unit_with_contents o t.taken.contents;
      outer_is = refl;
      next_is =
          next_taken (whole x.last) (Some x.last) number (left_of first x) next o (8 * size) t.taken.contents h.read (told_open number x.last o t.there)
          (ap ((whole x.last).contents (left_of first x) o).read text_is ∙ t.taken.read)
          ∙ ap (λ (n : ℕ). taken_with n t.taken.contents) same;
      frames_are = t.taken.rows_are;
      left_is = t.taken.left;
      exists = t.exists;
      kept = t.kept;
    }
      where
        same : 8 * size / 8 ≡ size
        same = omega arith

        taken_with : ℕ → List Segment → Next
        taken_with n ss = Ok (record { size = n; unit = unit_with_contents o ss })
