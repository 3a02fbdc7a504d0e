use Rattle.std.proofs.Common.{◌≡◌, ◌+◌, ◌*◌, ◌/◌, ◌≤◌, ℕ, List, length, Option, None, Ok, Err, ap, ◌∙◌, refl, sym, subst, arith}
use Rattle.std.specs.Option.{option_copied}
use Rattle.std.proofs.lemmas.Result.{err_from_is_err_and}
use Rattle.mlp_bits.specs.Bits.{bits_of}
use Rattle.mlp_bits.specs.Cursor.{Cursor, left}
use Rattle.mlp_bits.proofs.BitLists.{length-bits_of}
use Rattle.mlp_syntax.specs.declared.fault.Broken.{Broken}
use Rattle.mlp_syntax.specs.declared.major.MajorSync.{MajorSync}
use Rattle.arrayvec.specs.ArrayVec.{ArrayVec}
use Rattle.mlp_syntax.specs.declared.unit.DirEntry.{DirEntry}
use Rattle.mlp_syntax.specs.declared.unit.Outer.{Outer}
use Rattle.mlp_syntax.specs.declared.unit.UnitHead.{UnitHead}
use Rattle.mlp_layout.specs.Reading.{Read, broken}
use Rattle.mlp_layout.specs.Combined.{first_fault}
use Rattle.mlp_layout.proofs.RuleReading.{under_err, under_ok, under_fails}
use Rattle.mlp_unit.specs.AccessUnit.{AccessUnit, access_unit, head, parts, rules}
use Rattle.mlp_unit.specs.Shape.{unit_of}
use Rattle.mlp_unit.proofs.SegmentPlaces.{entry_count, holds_segments}
use Rattle.mlp_unit.proofs.UnitReading.{framed_small, framed_head, skipped, sync_err, sync_room, sync_place, sync_ok}
use Rattle.mlp_unit.proofs.outer.read_framed.Goals as goal

pub has_sync-requires : goal.has_sync-requires
has_sync-requires c = framed_small c.args.unit.now _ c.requires.framed

pub new-r-requires : goal.new-r-requires
new-r-requires c = framed_small c.args.unit.now _ c.requires.framed

pub skip-requires : goal.skip-requires
skip-requires c = subst (λ (r : Cursor). 32 ≤ length (left r)) (sym c.new-r.ensures) (omega (arith, length-bits_of c.args.unit.now, framed_head c.args.unit.now c.args.head 32 c.requires.framed c.requires.head))

pub read_present-requires-clause-whole : goal.read_present-requires-clause-whole
read_present-requires-clause-whole c =
    let skip = skipped c.args.unit.now c.args.head c.new-r.result c.skip.new.self c.new-r.ensures c.skip.ensures c.requires.head in
    rw (framed_head c.args.unit.now c.args.head c.skip.new.self.place c.requires.framed skip.1).0 refl

pub read_present-requires-clause-room : goal.read_present-requires-clause-room
read_present-requires-clause-room c =
    let skip = skipped c.args.unit.now c.args.head c.new-r.result c.skip.new.self c.new-r.ensures c.skip.ensures c.requires.head in
    λ is. sync_room (option_copied c.args.first) c.args.unit.now c.args.head c.requires.framed c.skip.new.self skip.0 skip.1 c.has_sync.result c.has_sync.ensures is

pub returns-in_err-read_present-clause-read : goal.returns-in_err-read_present-clause-read
unfolding access_unit
returns-in_err-read_present-clause-read c =
    let first = option_copied c.args.first in
    let p = err_from_is_err_and c.from_residual.result c.from_residual.ensures.1 in
    let skip = skipped c.args.unit.now c.args.head c.new-r.result c.skip.new.self c.new-r.ensures c.skip.ensures c.requires.head in
    let e = c.in_err-read_present.field-0.0 in
    let fails = sync_err first c.args.unit.now c.args.head c.requires.framed c.skip.new.self skip.0 skip.1 c.has_sync.result c.has_sync.ensures e c.in_err-read_present.ensures.read in
    rw (p.1, p.2) (under_err (bits_of c.args.unit.now) 0 (rules first) (parts first) e fails)

pub read_behind_sync-requires-clause-place : goal.read_behind_sync-requires-clause-place
read_behind_sync-requires-clause-place c =
    let skip = skipped c.args.unit.now c.args.head c.new-r.result c.skip.new.self c.new-r.ensures c.skip.ensures c.requires.head in
    let read = c.in_ok-read_present.ensures.read in
    sync_place (option_copied c.args.first) c.args.unit.now c.args.head c.requires.framed c.skip.new.self skip.0 skip.1 c.has_sync.result c.has_sync.ensures c.read_present.new.major c.read_present.new.r read.1 read.0

pub returns-in_err-read_behind_sync-clause-read : goal.returns-in_err-read_behind_sync-clause-read
unfolding access_unit
returns-in_err-read_behind_sync-clause-read c =
    let first = option_copied c.args.first in
    let p = err_from_is_err_and c.from_residual-in_err-read_behind_sync.result c.from_residual-in_err-read_behind_sync.ensures.1 in
    let skip = skipped c.args.unit.now c.args.head c.new-r.result c.skip.new.self c.new-r.ensures c.skip.ensures c.requires.head in
    let read = c.in_ok-read_present.ensures.read in
    let same = sync_ok first c.args.unit.now c.args.head c.requires.framed c.skip.new.self skip.0 skip.1 c.has_sync.result c.has_sync.ensures c.read_present.new.major c.read_present.new.r read.1 read.0 in
    let e = c.in_err-read_behind_sync.field-0.0 in
    rw (p.1, p.2) (under_err (bits_of c.args.unit.now) 0 (rules first) (parts first) e (sym same ∙ c.in_err-read_behind_sync.ensures.read))

pub check_directory-requires-clause-read : goal.check_directory-requires-clause-read
check_directory-requires-clause-read c =
    let first = option_copied c.args.first in
    let skip = skipped c.args.unit.now c.args.head c.new-r.result c.skip.new.self c.new-r.ensures c.skip.ensures c.requires.head in
    let read = c.in_ok-read_present.ensures.read in
    let same = sync_ok first c.args.unit.now c.args.head c.requires.framed c.skip.new.self skip.0 skip.1 c.has_sync.result c.has_sync.ensures c.read_present.new.major c.read_present.new.r read.1 read.0 in
    rw (c.deref.ensures.0, c.place-body.ensures.value) (sym same ∙ c.in_ok-read_behind_sync.ensures.read)

pub check_directory-requires-clause-body : goal.check_directory-requires-clause-body
check_directory-requires-clause-body c = rw (c.deref.ensures.0, c.place-body.ensures.value) c.in_ok-read_behind_sync.ensures.body

abbrev outer_of : UnitHead → Option MajorSync → ArrayVec DirEntry → ℕ → Outer
outer_of head major entries body = record { head = head; major = major; entries = entries; body = body }

abbrev PartsAre : Option MajorSync → List ℕ → AccessUnit → Type 0
PartsAre first bytes u = (parts first).read (bits_of bytes) 0 ≡ Ok (u, 8 * length bytes)

abbrev failed_at : Broken → ℕ → Read AccessUnit
failed_at b at = Err (broken b.field at)

pub returns-in_err-check_directory-clause-read : goal.returns-in_err-check_directory-clause-read
unfolding access_unit
returns-in_err-check_directory-clause-read c =
    let first = option_copied c.args.first in
    let bytes = c.args.unit.now in
    let p = err_from_is_err_and c.from_residual-in_err-check_directory.result c.from_residual-in_err-check_directory.ensures.1 in
    let skip = skipped c.args.unit.now c.args.head c.new-r.result c.skip.new.self c.new-r.ensures c.skip.ensures c.requires.head in
    let read = c.in_ok-read_present.ensures.read in
    let same = sync_ok first bytes c.args.head c.requires.framed c.skip.new.self skip.0 skip.1 c.has_sync.result c.has_sync.ensures c.read_present.new.major c.read_present.new.r read.1 read.0 in
    let u = unit_of bytes c.args.head c.read_present.new.major c.deref.result.now (c.place-body.result / 8) in
    let whole : PartsAre first bytes u = rw (c.deref.ensures.0, c.place-body.ensures.value) (sym same ∙ c.in_ok-read_behind_sync.ensures.read) in
    let e = c.in_err-check_directory.field-0.0 in
    let z : 0 + e.bit ≡ e.bit = omega arith in
    rw (p.1, p.2) (under_fails (bits_of bytes) 0 (rules first) (parts first) u (8 * length bytes) e.field e.bit whole c.in_err-check_directory.ensures ∙ ap (failed_at e) z)

pub returns-clause-read : goal.returns-clause-read
unfolding access_unit
returns-clause-read c =
    let first = option_copied c.args.first in
    let bytes = c.args.unit.now in
    let skip = skipped c.args.unit.now c.args.head c.new-r.result c.skip.new.self c.new-r.ensures c.skip.ensures c.requires.head in
    let read = c.in_ok-read_present.ensures.read in
    let same = sync_ok first bytes c.args.head c.requires.framed c.skip.new.self skip.0 skip.1 c.has_sync.result c.has_sync.ensures c.read_present.new.major c.read_present.new.r read.1 read.0 in
    let unit = λ (es : List DirEntry). unit_of bytes c.args.head c.read_present.new.major es (c.place-body.result / 8) in
    let u = unit c.read_behind_sync.new.entries.items in
    let whole : PartsAre first bytes u = rw c.place-body.ensures.value (sym same ∙ c.in_ok-read_behind_sync.ensures.read) in
    let met : first_fault (rules first) u ≡ None = subst (λ (es : List DirEntry). first_fault (rules first) (unit es) ≡ None) c.deref.ensures.0 c.in_ok-check_directory.ensures in
    under_ok (bits_of bytes) 0 (rules first) (parts first) u (8 * length bytes) whole met

pub returns-clause-count : goal.returns-clause-count
returns-clause-count c = entry_count (option_copied c.args.first) c.args.unit.now (outer_of c.args.head c.read_present.new.major c.read_behind_sync.new.entries (c.place-body.result / 8)) (returns-clause-read c)

pub returns-clause-ends : goal.returns-clause-ends
returns-clause-ends c =
    let at : c.place-body.result / 8 ≡ c.read_behind_sync.new.r.place / 8 = ap (λ (n : ℕ). n / 8) c.place-body.ensures.value in
    holds_segments (option_copied c.args.first) c.args.unit.now (outer_of c.args.head c.read_present.new.major c.read_behind_sync.new.entries (c.place-body.result / 8)) (returns-clause-read c) (at ∙ c.in_ok-read_behind_sync.ensures.body)
