-- What the outer part of a unit says of the stream's first major sync, and of the place of its segments.
use Rattle.std.proofs.Common.{◌≡◌, Bool, true, List, Option, Some, None, refl, arith}
use Rattle.std.specs.Prelude.{IfSome, is_some}
use Rattle.mlp_syntax.specs.declared.major.MajorSync.{MajorSync}
use Rattle.mlp_layout.specs.Layout.{Found}
use Rattle.mlp_major.specs.MajorSync.{IsUsable, KeepsRules}
use Rattle.mlp_major.proofs.SyncRules.{usable_of}
use Rattle.mlp_unit.specs.AccessUnit.{AccessUnit, access_unit, in_force}
use Rattle.mlp_unit.specs.Written.{FirstUsable}
use Rattle.mlp_unit.proofs.Reread.{parts_of}
use Rattle.mlp_unit.proofs.UnitRules.{sync_there}
use Rattle.mlp_substream.specs.Blocks.{IsPlace}
use Rattle.mlp_contents.proofs.Places.{place_is}
use Rattle.mlp_samples.specs.Samples.{place_in}

usable_now : (first o : Option MajorSync) → FirstUsable first → IfSome o (KeepsRules first) → FirstUsable (in_force first o)
usable_now (Some f) o usable keeps = usable
usable_now None None usable keeps = tt
usable_now None (Some m) usable keeps = usable_of None m keeps

pub unit_usable : (first : Option MajorSync) (all : List Bool) (u : AccessUnit) → FirstUsable first → Found (access_unit first) all 0 u → FirstUsable (in_force first u.major)
unit_usable first all u usable found = usable_now first u.major usable (parts_of first u (λ none. usable) found.fits found.meets).asked.sync

-- ---- frames in a unit

if_usable : (sync : Option MajorSync) → FirstUsable sync → IfSome sync IsUsable
if_usable None usable = tt
if_usable (Some m) usable = usable

pub unit_place : (sync : Option MajorSync) → FirstUsable sync → IsPlace (place_in sync)
unit_place sync usable = place_is (place_in sync) sync (if_usable sync usable) refl

-- ---- there is a first major sync, behind each unit

pub unit_synced : (first : Option MajorSync) (all : List Bool) (u : AccessUnit) → FirstUsable first → Found (access_unit first) all 0 u → is_some (in_force first u.major) ≡ true
unit_synced first all u usable found =
    let p = parts_of first u (λ none. usable) found.fits found.meets in
    sync_there (in_force first u.major) (omega (arith, p.asked.count, p.count.some))
