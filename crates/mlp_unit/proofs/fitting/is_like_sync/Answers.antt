use Rattle.std.proofs.Common.{◌+◌, ◌*◌, ◌/◌, eqb, ℕ, length, get_or, ap, ◌∙◌, arith}
use Rattle.mlp_major.specs.MajorSync.{sync}
use Rattle.mlp_unit.proofs.WordTexts.{no_entry, end_small, text_some}
use Rattle.mlp_unit.proofs.UnitFitting.{extra_of, not_empty, first_fits, like_empty, like_plain, like_extra}
use Rattle.mlp_unit.proofs.fitting.is_like_sync.Goals as goal

pub returns-then-is_empty : goal.returns-then-is_empty
returns-then-is_empty c = like_empty c.is_empty.result c.args.entries.now c.if-is_empty.true c.is_empty.ensures

pub entry_word-requires : goal.entry_word-requires
entry_word-requires c =
    let es = c.args.entries.now in
    end_small _ (first_fits es no_entry (not_empty c.is_empty.result (length es) c.if-is_empty.false c.is_empty.ensures) c.requires)

pub overflow_add-result : goal.overflow_add-result
overflow_add-result c =
    let es = c.args.entries.now in
    let fits = first_fits es no_entry (not_empty c.is_empty.result (length es) c.if-is_empty.false c.is_empty.ensures) c.requires in
    omega (arith, extra_of (get_or es 0 no_entry) c.in-Some.extra fits c.in-Some.is, c.from.ensures, c.from-in-Some.ensures, c.entry_word.type_inv)

pub returns-in-None : goal.returns-in-None
returns-in-None c =
    let es = c.args.entries.now in
    like_plain es no_entry (not_empty c.is_empty.result (length es) c.if-is_empty.false c.is_empty.ensures) c.in-None.is

pub returns-in-Some : goal.returns-in-Some
returns-in-Some c =
    let es = c.args.entries.now in
    let some = not_empty c.is_empty.result (length es) c.if-is_empty.false c.is_empty.ensures in
    let e = get_or es 0 no_entry in
    let extra = extra_of e c.in-Some.extra (first_fits es no_entry some c.requires) c.in-Some.is in
    let word = c.entry_word.result in
    ap (λ (n : ℕ). eqb ((n * 65536 + c.from-in-Some.result) / 2) sync) c.from.ensures ∙ ap (λ (n : ℕ). eqb ((word * 65536 + n) / 2) sync) c.from-in-Some.ensures
    ∙ like_extra es no_entry word c.in-Some.extra some c.entry_word.type_inv extra (text_some e word c.entry_word.ensures c.in-Some.extra c.in-Some.is)
