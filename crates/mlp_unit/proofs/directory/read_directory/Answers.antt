use Rattle.std.proofs.Common.{◌≡◌, ◌+◌, ◌*◌, ◌/◌, ◌∷◌, [], ℕ, List, Some, None, Ok, Err, ap, sym, subst, ◌∙◌, arith, refl}
use Rattle.std.proofs.lemmas.Result.{err_from_is_err_and}
use Rattle.mlp_syntax.specs.declared.fault.Field.TheVariants as rule
use Rattle.mlp_syntax.specs.declared.unit.DirEntry.{DirEntry}
use Rattle.mlp_bits.specs.Bits.{bits_of}
use Rattle.mlp_bits.specs.Cursor.{Cursor}
use Rattle.mlp_layout.specs.Reading.{Read, broken}
use Rattle.mlp_layout.specs.Combined.{first_fault}
use Rattle.mlp_layout.proofs.RuleReading.{under_err, under_ok, under_fails}
use Rattle.mlp_unit.specs.Directory.{directory, lone_directory, no_extra_word, first_failing, may_stand}
use Rattle.mlp_unit.proofs.UnitReading.{directory_ends}
use Rattle.mlp_unit.proofs.directory.read_directory.Goals as goal

abbrev ok_at : List DirEntry → ℕ → Read (List DirEntry)
ok_at es q = Ok (es, q)

abbrev extra_at : ℕ → Read (List DirEntry)
extra_at at = Err (broken rule.ExtraWord at)

pub returns-in_err-read_entries : goal.returns-in_err-read_entries
unfolding lone_directory
returns-in_err-read_entries c =
    let p = err_from_is_err_and c.from_residual.result c.from_residual.ensures.1 in
    let bits = bits_of c.args.bytes.now in
    let read : (directory c.args.substreams).read bits 0 ≡ Err c.in_err-read_entries.field-0.0 =
    subst (λ (r : Cursor). (directory c.args.substreams).read r.all r.place ≡ Err c.in_err-read_entries.field-0.0) c.new-r.ensures c.in_err-read_entries.ensures in
    rw (p.1, p.2) (under_err bits 0 (no_extra_word c.args.kind ∷ []) (directory c.args.substreams) c.in_err-read_entries.field-0.0 read)

pub returns-in-Some : goal.returns-in-Some
unfolding lone_directory
returns-in-Some c =
    let bits = bits_of c.args.bytes.now in
    let es = c.read_entries.new.entries.items in
    let read : (directory c.args.substreams).read bits 0 ≡ Ok (es, c.read_entries.new.r.place) =
    subst (λ (r : Cursor). (directory c.args.substreams).read r.all r.place ≡ Ok (es, c.read_entries.new.r.place)) c.new-r.ensures c.in_ok-read_entries.ensures.0 in
    let found : first_failing (may_stand c.args.kind) 0 es ≡ Some c.in-Some.place = sym (c.in-Some.ensures.first ∙ ap (first_failing (may_stand c.args.kind) 0) c.deref.ensures.0) in
    let bad : first_fault (no_extra_word c.args.kind ∷ []) es ≡ Some (rule.ExtraWord, c.in-Some.place) = rw found refl in
    rw c.broken.ensures (under_fails bits 0 (no_extra_word c.args.kind ∷ []) (directory c.args.substreams) es c.read_entries.new.r.place rule.ExtraWord c.in-Some.place read bad
    ∙ ap extra_at (let z : 0 + c.in-Some.place ≡ c.in-Some.place = omega arith in z))

pub returns : goal.returns
unfolding lone_directory
returns c =
    let bits = bits_of c.args.bytes.now in
    let es = c.read_entries.new.entries.items in
    let read : (directory c.args.substreams).read bits 0 ≡ Ok (es, c.read_entries.new.r.place) =
    subst (λ (r : Cursor). (directory c.args.substreams).read r.all r.place ≡ Ok (es, c.read_entries.new.r.place)) c.new-r.ensures c.in_ok-read_entries.ensures.0 in
    let found : first_failing (may_stand c.args.kind) 0 es ≡ None = sym (c.in_default.ensures.first ∙ ap (first_failing (may_stand c.args.kind) 0) c.deref.ensures.0) in
    let ok : first_fault (no_extra_word c.args.kind ∷ []) es ≡ None = rw found refl in
    let ends = directory_ends c.args.substreams bits 0 es c.read_entries.new.r.place (omega arith) read in
    let end : c.read_entries.new.r.place ≡ 8 * (c.place.result / 8) = omega (arith, ends.0, c.place.ensures.value) in
    under_ok bits 0 (no_extra_word c.args.kind ∷ []) (directory c.args.substreams) es c.read_entries.new.r.place read ok ∙ ap (ok_at es) end
