-- Where the segments of a unit lie.
use Rattle.std.proofs.Common.{◌≡◌, ℕ, zero, suc, ◌+◌, ◌-◌, ◌*◌, ◌/◌, ◌≤◌, ◌<◌, leb, cond, Bool, true, false, List, [], ◌∷◌, length, take, drop, Option, Some, None, Ok, refl, sym, ap, subst, ◌∙◌, arith}
use Rattle.std.proofs.lemmas.Bool.{leb-true}
use Rattle.std.proofs.lemmas.List.{length-drop}
use Rattle.std.specs.Prelude.{◌&&◌}
use Rattle.mlp_syntax.specs.declared.major.MajorSync.{MajorSync}
use Rattle.mlp_syntax.specs.declared.unit.DirEntry.{DirEntry}
use Rattle.mlp_syntax.specs.declared.unit.Outer.{Outer}
use Rattle.mlp_bits.specs.Bits.{bits_of}
use Rattle.mlp_layout.specs.Layout.{tested, part, marked, sized}
use Rattle.mlp_layout.proofs.LayoutLaws.{is_found}
use Rattle.mlp_layout.proofs.CombinedLaws.{times_count}
use Rattle.mlp_major.proofs.SyncReading.{bits_of-middle}
use Rattle.mlp_major.proofs.SyncWriting.{under_fits}
use Rattle.mlp_major.proofs.RuleLaws.{met, both}
use Rattle.mlp_unit.specs.Directory.{entry_size, directory}
use Rattle.mlp_unit.specs.AccessUnit.{access_unit, in_force, substreams_of, behind_sync, parts, further, first_bad_end, directory_place, rules}
use Rattle.mlp_unit.specs.Shape.{unit_with, body_place, end_at, end_before, HoldsSegments, segment_bits}
use Rattle.mlp_unit.proofs.UnitLaws.{access_unit_is, access_unit_size}
use Rattle.mlp_unit.proofs.RoundTrip.{ends_any}

-- ---- one segment

-- the end before an entry, where this one is before the first
abbrev before_in : ℕ → List DirEntry → ℕ → ℕ
before_in before es zero = before
before_in before es (suc j) = end_at es j

one_more : (e : DirEntry) (es : List DirEntry) (j : ℕ) → before_in e.end es j ≡ end_at (e ∷ es) j
one_more e es zero = refl
one_more e es (suc j) = refl

-- what a directory whose ends don't fall says of its first entry, and of the others
pub ends_split : (before last place : ℕ) (e : DirEntry) (es : List DirEntry) → first_bad_end before last place (e ∷ es) ≡ None
    → ((leb before e.end ≡ true) × (leb e.end last ≡ true)) × (first_bad_end e.end last (place + 8 * entry_size e) es ≡ None)
ends_split before last place e es none = by_case (leb before e.end && leb e.end last) refl none
  where
    by_case : (b : Bool) → (leb before e.end && leb e.end last) ≡ b → cond {A = Option ℕ} b (first_bad_end e.end last (place + 8 * entry_size e) es) (Some place) ≡ None
        → ((leb before e.end ≡ true) × (leb e.end last ≡ true)) × (first_bad_end e.end last (place + 8 * entry_size e) es ≡ None)
    by_case true is later = (both (leb before e.end) (leb e.end last) is, later)
    by_case false is later = absurd cc

pub ends_rise : (before last place : ℕ) (es : List DirEntry) (j : ℕ) → first_bad_end before last place es ≡ None → j < length es → (before_in before es j ≤ end_at es j) × (end_at es j ≤ last)
ends_rise before last place [] j none lt = absurd (omega arith)
ends_rise before last place (e ∷ es) zero none lt = let s = ends_split before last place e es none in (leb-true _ _ s.0.0, leb-true _ _ s.0.1)
ends_rise before last place (e ∷ es) (suc j) none lt =
    let r = ends_rise e.end last (place + 8 * entry_size e) es j (ends_split before last place e es none).1 (omega arith) in
    (omega (arith, r.0, one_more e es j), r.1)

from_zero : (es : List DirEntry) (j : ℕ) → before_in 0 es j ≡ end_before es j
from_zero es zero = refl
from_zero es (suc j) = refl

pub segment_place : (bytes : List ℕ) (o : Outer) (j : ℕ) → HoldsSegments bytes o → j < length o.entries.items
    → (end_before o.entries.items j ≤ end_at o.entries.items j) × (o.body + 2 * end_at o.entries.items j ≤ length bytes)
segment_place bytes o j h lt =
    let r = ends_rise 0 ((length bytes - o.body) / 2) 0 o.entries.items j h.ends lt in
    (omega (arith, r.0, from_zero o.entries.items j), omega (arith, r.1, h.body))

pub segment_text : (bytes part : List ℕ) (o : Outer) (j start end : ℕ) → HoldsSegments bytes o → j < length o.entries.items → start ≡ o.body + 2 * end_before o.entries.items j → end ≡ o.body + 2 * end_at o.entries.items j
    → part ≡ take (end - start) (drop start bytes) → bits_of part ≡ segment_bits bytes o j
segment_text bytes part o j start end h lt start-is end-is e =
    let p = segment_place bytes o j h lt in
    let from = o.body + 2 * end_before o.entries.items j in
    let n = 2 * (end_at o.entries.items j - end_before o.entries.items j) in
    let size : end - start ≡ n = omega (arith, start-is, end-is, p.0) in
    let here : part ≡ take n (drop from bytes) = e ∙ rw (size, start-is) refl in
    let bits : 8 * n ≡ 16 * (end_at o.entries.items j - end_before o.entries.items j) = omega arith in
    ap bits_of here ∙ sym (bits_of-middle from n bytes (omega (arith, p))) ∙ ap (λ (k : ℕ). take k (drop (8 * from) (bits_of bytes))) bits

-- ---- a unit that was read

module _ (first : Option MajorSync) (bytes : List ℕ) (o : Outer) (e : (access_unit first).read (bits_of bytes) 0 ≡ Ok (unit_with bytes o, 8 * length bytes)) where
  pub entry_count : length o.entries.items ≡ substreams_of (in_force first o.major)
  unfolding access_unit parts part sized marked behind_sync tested directory
  entry_count =
      let u = unit_with bytes o in
      let f = (is_found (access_unit_is first) (bits_of bytes) 0 (omega arith) (u, 8 * length bytes) e).0 in
      let fits = under_fits (rules first) (parts first) u f.fits in
      times_count (substreams_of (in_force first o.major)) _ o.entries.items fits.1.0.0.1.0

  pub holds_segments : o.body ≡ body_place (unit_with bytes o) → HoldsSegments bytes o
  unfolding access_unit
  holds_segments body =
      let u = unit_with bytes o in
      let found = is_found (access_unit_is first) (bits_of bytes) 0 (omega arith) (u, 8 * length bytes) e in
      let each = (met (rules first) (parts first) u found.0.meets).1 in
      let size = access_unit_size first u found.0.fits in
      record {
        body = omega (arith, body, size, found.1);
        ends = subst (λ (n : ℕ). first_bad_end 0 (n / 2) 0 o.entries.items ≡ None) (length-drop o.body bytes) (ends_any 0 (length (drop o.body bytes) / 2) (directory_place u) 0 o.entries.items (no_further 4 _ each.1.1.1.0));
      }
    where
      no_further : (bits : ℕ) (x : Option ℕ) → further bits x ≡ None → x ≡ None
      no_further bits None k = refl
      no_further bits (Some at) k = absurd cc
