-- What is written meets the rules.
use Rattle.std.proofs.Common.{◌≡◌, ℕ, zero, suc, ◌-◌, ◌*◌, ◌<◌, ◌≤◌, leb, true, List, [], ◌∷◌, length, Option, Some, None, refl, sym, ◌∙◌, arith}
use Rattle.std.proofs.lemmas.Bool.{le-leb}
use Rattle.std.proofs.lemmas.List.{append-nil}
use Rattle.std.specs.Prelude.{is_some, IfSome}
use Rattle.mlp_syntax.specs.declared.major.MajorSync.{MajorSync}
use Rattle.mlp_syntax.specs.declared.unit.DirEntry.{DirEntry}
use Rattle.mlp_syntax.specs.declared.unit.UnitHead.{UnitHead}
use Rattle.mlp_bits.specs.Bits.{bits_of}
use Rattle.mlp_layout.specs.Layout.{number_of, seen, ruled, tested, whole, part, made, item, marked, sized}
use Rattle.mlp_layout.specs.Combined.{flag, chosen, present, times}
use Rattle.mlp_layout.proofs.CombinedLaws.{times_count}
use Rattle.mlp_major.specs.MajorSync.{major_sync, KeepsRules}
use Rattle.mlp_major.proofs.SyncWriting.{under_fits, under_text}
use Rattle.mlp_major.proofs.RuleLaws.{meets_under, none_first}
use Rattle.mlp_major.proofs.SyncRules.{sync_meets}
use Rattle.mlp_unit.specs.Directory.{entry, directory, directory_size}
use Rattle.mlp_unit.specs.AccessUnit.{AccessUnit, access_unit, head, head_fields, in_force, substreams_of, major_size, behind_sync, parts, rules}
use Rattle.mlp_unit.specs.Written.{MajorFits, MayFollow, Writable, unit_size, written_unit, unit_text}
use Rattle.mlp_unit.proofs.WrittenLaws.{major_spelled, bytes_text, twice}
use Rattle.mlp_unit.proofs.RoundTrip.{written_rules}

-- ---- the text of a unit that fits

pub fits_text : (first : Option MajorSync) (u : AccessUnit) → (access_unit first).Fits u → (access_unit first).spelling u ≡ unit_text u
unfolding access_unit parts part sized marked behind_sync tested made directory
fits_text first u fits =
    let behind = (under_fits (rules first) (parts first) u fits).1.0.0.1 in
    let n = substreams_of (in_force first u.major) in
    let count : length u.entries ≡ n = times_count n _ u.entries behind.0 in
    let size = times_count (2 * u.head.words - 4 - major_size u.major - directory_size u.entries) (number_of 8) u.body behind.1.0 in
    under_text (rules first) (parts first) u ∙ rw (major_spelled first u.major, ← count, bytes_text _ u.body size, append-nil (bits_of u.body)) refl

-- ---- what meets the rules by itself

extra_meets : (o : Option ℕ) → (present (is_some o) (number_of 16)).Meets o
unfolding present chosen seen made number_of
extra_meets None = tt
extra_meets (Some x) = tt

entry_meets : (e : DirEntry) → entry.Meets e
unfolding entry part flag seen number_of made
entry_meets e = (tt, (tt, (tt, (tt, (tt, (extra_meets e.extra, tt))))))

directory_meets : (n : ℕ) (es : List DirEntry) → length es ≡ n → (directory n).Meets es
unfolding directory times made item whole
directory_meets zero es e = tt
directory_meets (suc n) [] e = absurd (omega arith)
directory_meets (suc n) (x ∷ es) e = (entry_meets x, directory_meets n es (omega arith))

bytes_meet : (n : ℕ) (bytes : List ℕ) → length bytes ≡ n → (times n (number_of 8)).Meets bytes
unfolding times made item number_of
bytes_meet zero bytes e = tt
bytes_meet (suc n) [] e = absurd (omega arith)
bytes_meet (suc n) (b ∷ bs) e = (tt, bytes_meet n bs (omega arith))

head_meets : (h : UnitHead) → 2 ≤ h.words → head.Meets h
unfolding head head_fields ruled whole part number_of made
head_meets h two = let t : leb 2 h.words ≡ true = le-leb _ _ two in ((tt, (tt, (tt, tt))), rw t refl)

major_meets : (first o : Option MajorSync) → MajorFits o → IfSome o (KeepsRules first) → (present (is_some o) (major_sync first)).Meets o
unfolding present chosen seen made
major_meets first None fits keeps = tt
major_meets first (Some m) fits keeps = sync_meets first m fits keeps

pub sync_there : (o : Option MajorSync) → 0 < substreams_of o → is_some o ≡ true
sync_there None some = absurd (omega arith)
sync_there (Some m) some = refl

-- ---- what may be written and may follow is a unit that meets the rules

module _ (first : Option MajorSync) (timing : ℕ) (major : Option MajorSync) (entries : List DirEntry) (body : List ℕ)
    (w : Writable major entries body) (f : MayFollow first major entries) (size : unit_size major entries body ≤ 8190) where
  parts_meet : (parts first).Meets (written_unit timing major entries body)
  unfolding parts part sized marked behind_sync tested made
  parts_meet =
      let u = written_unit timing major entries body in
      let n = 2 * u.head.words - 4 - major_size major - directory_size entries in
      let some : is_some (in_force first major) ≡ true = sync_there (in_force first major) (omega (arith, w.some, f.count)) in
      let bytes = bytes_meet n body (omega (arith, twice major entries body w)) in
      (head_meets u.head (omega (arith, twice major entries body w)), (major_meets first major w.major_fits f.sync, (some, (directory_meets _ entries (sym f.count), (bytes, tt)))))

  pub unit_meets : (access_unit first).Meets (written_unit timing major entries body)
  unfolding access_unit
  unit_meets = meets_under (rules first) (parts first) (written_unit timing major entries body) parts_meet (none_first (rules first) _ (written_rules first timing major entries body w size f.extra f.flags))
