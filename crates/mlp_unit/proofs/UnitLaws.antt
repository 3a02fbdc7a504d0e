-- A unit is a layout.
use Rattle.std.proofs.Common.{◌≡◌, ℕ, ◌+◌, ◌-◌, ◌*◌, ◌≤◌, leb, Bool, true, cond, List, [], ◌∷◌, length, Option, Some, None, refl, arith}
use Rattle.std.proofs.lemmas.Bool.{leb-true}
use Rattle.std.specs.Prelude.{is_some}
use Rattle.mlp_syntax.specs.declared.unit.DirEntry.{DirEntry}
use Rattle.mlp_syntax.specs.declared.unit.UnitHead.{UnitHead}
use Rattle.mlp_syntax.specs.declared.major.MajorSync.{MajorSync}
use Rattle.mlp_syntax.specs.declared.fault.Field.TheVariants as rule
use Rattle.mlp_layout.specs.Layout.{Layout, IsLayout, number_of, tested, part, marked, sized}
use Rattle.mlp_layout.specs.Combined.{present}
use Rattle.mlp_layout.proofs.LayoutLaws.{part_is, marked_is, sized_is}
use Rattle.mlp_layout.proofs.CombinedLaws.{layouts, present_is, under_is, present_sets, times_count}
use Rattle.mlp_layout.proofs.Sizes.{Takes, number_takes, flag_takes, ruled_takes, under_takes, whole_takes, tested_takes, made_takes, part_takes, present_takes, times_takes, total, takes_is, option_size, bytes_take}
use Rattle.mlp_major.specs.MajorSync.{major_sync, sync}
use Rattle.mlp_unit.specs.Directory.{entry, directory, entry_size, directory_size}
use Rattle.mlp_unit.specs.AccessUnit.{AccessUnit, head, head_fields, major_size, behind_sync, parts, rules, access_unit}
use Rattle.mlp_major.proofs.MajorLaws.{major_is, major_takes}

-- ---- the parts

pub head_is : IsLayout head
unfolding head head_fields
head_is = search layouts depth 20

pub entry_is : IsLayout entry
unfolding entry
entry_is = search layouts depth 40

pub directory_is : (n : ℕ) → IsLayout (directory n)
unfolding directory
directory_is n = search (layouts, entry_is) depth 20

pub behind_sync_is : (first : Option MajorSync) (h : UnitHead) (m : Option MajorSync) → IsLayout (behind_sync first h m)
unfolding behind_sync
behind_sync_is first h m = search (layouts, directory_is) depth 20

-- ---- sizes

pub head_takes : Takes head (λ h. 32)
unfolding head head_fields
head_takes =
    takes_is _ _ _ (ruled_takes _ _ _ (whole_takes _ _ _ (part_takes _ _ _ _ _ (number_takes 4) (λ a. part_takes _ _ _ _ _ (number_takes 12) (λ a. part_takes _ _ _ _ _ (number_takes 16) (λ a. made_takes _)))))) (λ h. omega arith)

extra_size : (there : Bool) → Takes (present there (number_of 16)) (option_size (λ x. 16))
extra_size there = present_takes there _ (λ x. 16) (number_takes 16)

sum_is : (e : DirEntry) → 1 + (1 + (1 + (1 + (12 + (option_size (λ (x : ℕ). 16) e.extra + 0))))) ≡ 8 * entry_size e
sum_is e = by_extra e.extra
  where
    by_extra : (o : Option ℕ) → 1 + (1 + (1 + (1 + (12 + (option_size (λ (x : ℕ). 16) o + 0))))) ≡ 8 * (cond (is_some o) 4 2)
    by_extra None = refl
    by_extra (Some x) = refl

pub entry_takes : Takes entry (λ e. 8 * entry_size e)
unfolding entry
entry_takes = takes_is _ _ _
    (part_takes _ _ _ _ _ flag_takes (λ there. part_takes _ _ _ _ _ flag_takes
    (λ a. part_takes _ _ _ _ _ flag_takes (λ a. part_takes _ _ _ _ _ flag_takes (λ a. part_takes _ _ _ _ _ (number_takes 12) (λ a. part_takes _ _ _ _ _ (extra_size there) (λ a. made_takes _)))))))
    sum_is

total_entries : (es : List DirEntry) → total (λ e. 8 * entry_size e) es ≡ 8 * directory_size es
total_entries [] = refl
total_entries (e ∷ es) = let later = total_entries es in omega (arith, later)

pub directory_takes : (n : ℕ) → Takes (directory n) (λ es. 8 * directory_size es)
unfolding directory
directory_takes n = takes_is _ (total (λ e. 8 * entry_size e)) _ (times_takes n _ (λ e. 8 * entry_size e) (whole_takes _ _ _ entry_takes)) total_entries

pub sync_takes : (there : Bool) (first : Option MajorSync) → Takes (present there (major_sync first)) (λ o. 8 * major_size o)
sync_takes there first = takes_is _ _ _ (present_takes there _ _ (major_takes first)) same
  where
    same : (o : Option MajorSync) → option_size (λ (m : MajorSync). 8 * (28 + length m.extension.items)) o ≡ 8 * major_size o
    same None = refl
    same (Some m) = refl

-- what follows the sync fills the unit
pub behind_takes : (first : Option MajorSync) (h : UnitHead) (m : Option MajorSync) → Takes (behind_sync first h m) (λ u. 8 * directory_size u.entries + (8 * length u.body + 0))
unfolding behind_sync
behind_takes first h m = tested_takes _ _ _ _ (part_takes _ _ _ _ _ (directory_takes _) (λ es. part_takes _ _ _ _ _ (bytes_take _) (λ b. made_takes _)))

body_count : (first : Option MajorSync) (h : UnitHead) (m : Option MajorSync) (u : AccessUnit) → (behind_sync first h m).Fits u → length u.body ≡ 2 * h.words - 4 - major_size m - directory_size u.entries
unfolding behind_sync tested part
body_count first h m u fits = times_count (2 * h.words - 4 - major_size m - directory_size u.entries) (number_of 8) u.body fits.1.0

head_sets : (first : Option MajorSync) (h : UnitHead) (m : Option MajorSync) (u : AccessUnit) → (behind_sync first h m).Fits u → u.head ≡ h
unfolding behind_sync
head_sets first h m = search layouts depth 20

-- the major sync, if any, and what follows it
synced : Option MajorSync → UnitHead → Bool → Layout AccessUnit
synced first h there = part (present there (major_sync first)) (λ u. u.major) (λ major. behind_sync first h major)

major_sets : (first : Option MajorSync) (h : UnitHead) (m : Option MajorSync) (u : AccessUnit) → (behind_sync first h m).Fits u → u.major ≡ m
unfolding behind_sync
major_sets first h m = search layouts depth 20

synced_is : (first : Option MajorSync) (h : UnitHead) (there : Bool) → IsLayout (synced first h there)
unfolding synced
synced_is first h there = part_is _ (present_is there (λ is. major_is first)) (λ m. behind_sync_is first h m) (λ m fits meets. major_sets first h m)

rest_fits : {A R : Type 0} (l : Layout A) (of_record : R → A) (rest : A → Layout R) (r : R) → (part l of_record rest).Fits r → (rest (of_record r)).Fits r
unfolding part
rest_fits l of_record rest r fits = fits.1

synced_fills : (first : Option MajorSync) (h : UnitHead) (there : Bool) (u : AccessUnit) → (synced first h there).Fits u → 16 * h.words - 32 ≤ length ((synced first h there).spelling u)
unfolding synced
synced_fills first h there u fits =
    let t = part_takes _ (λ (u : AccessUnit). u.major) (λ major. behind_sync first h major) _ _ (sync_takes there first) (λ m. behind_takes first h m) in
    omega (arith, t.takes u fits, body_count first h u.major u (rest_fits _ _ _ u fits))

there_is : (first : Option MajorSync) (h : UnitHead) (there : Bool) (u : AccessUnit) → (synced first h there).Fits u → is_some u.major ≡ there
unfolding synced
there_is first h there u fits = present_sets _ there (major_sync first) _ u fits

head_is_set : (first : Option MajorSync) (h : UnitHead) (there : Bool) (u : AccessUnit) → (synced first h there).Fits u → u.head ≡ h
unfolding synced
head_is_set first h there u fits = head_sets first h u.major u (rest_fits _ _ _ u fits)

enough : (first : Option MajorSync) (h : UnitHead) → leb 4 h.words ≡ true → (there : Bool) (u : AccessUnit) → (synced first h there).Fits u → 31 ≤ length ((synced first h there).spelling u)
enough first h room there u fits = omega (arith, leb-true 4 h.words room, synced_fills first h there u fits)

sized_head : (first : Option MajorSync) (h : UnitHead) (u : AccessUnit) → (sized (16 * h.words - 32) rule.UnitLength 28 (marked (leb 4 h.words) 31 sync (λ u. is_some u.major) (synced first h))).Fits u → u.head ≡ h
unfolding sized marked
sized_head first h u fits = head_is_set first h (is_some u.major) u fits.0.0

marked_fills : (first : Option MajorSync) (h : UnitHead) (u : AccessUnit) → (marked (leb 4 h.words) 31 sync (λ u. is_some u.major) (synced first h)).Fits u
    → 16 * h.words - 32 ≤ length ((marked (leb 4 h.words) 31 sync (λ u. is_some u.major) (synced first h)).spelling u)
unfolding marked
marked_fills first h u fits = synced_fills first h (is_some u.major) u fits.0

pub parts_is : (first : Option MajorSync) → IsLayout (parts first)
unfolding parts synced
parts_is first = part_is _ head_is
    (λ h. sized_is _ _ _ (marked_is _ _ _ _ (λ there. synced_is first h there) (there_is first h) (enough first h)) (marked_fills first h))
    (λ h fits meets. sized_head first h)

-- a unit as its outer part shows it is what reading gives, or what fails is
pub access_unit_is : (first : Option MajorSync) → IsLayout (access_unit first)
unfolding access_unit
access_unit_is first = under_is (rules first) (parts_is first)

-- ---- the size of a unit

sized_size : (first : Option MajorSync) (h : UnitHead) (u : AccessUnit) → (sized (16 * h.words - 32) rule.UnitLength 28 (marked (leb 4 h.words) 31 sync (λ u. is_some u.major) (synced first h))).Fits u
    → length ((sized (16 * h.words - 32) rule.UnitLength 28 (marked (leb 4 h.words) 31 sync (λ u. is_some u.major) (synced first h))).spelling u) ≡ 8 * major_size u.major + (8 * directory_size u.entries + (8 * length u.body + 0))
unfolding sized marked synced
sized_size first h u fits =
    let t = part_takes _ (λ (u : AccessUnit). u.major) (λ major. behind_sync first h major) _ _ (sync_takes (is_some u.major) first) (λ m. behind_takes first h m) in
    t.takes u fits.0.0

pub parts_take : (first : Option MajorSync) → Takes (parts first) (λ u. 32 + (8 * major_size u.major + (8 * directory_size u.entries + (8 * length u.body + 0))))
unfolding parts synced
parts_take first = part_takes _ _ _ _ _ head_takes (λ h. record { takes = sized_size first h })

pub access_unit_size : (first : Option MajorSync) (u : AccessUnit) → (access_unit first).Fits u → length ((access_unit first).spelling u) ≡ 32 + (8 * major_size u.major + (8 * directory_size u.entries + (8 * length u.body + 0)))
unfolding access_unit
access_unit_size first u fits = (under_takes (rules first) _ _ (parts_take first)).takes u fits
