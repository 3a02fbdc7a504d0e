use Rattle.std.proofs.Common.{sym, ◌∙◌, arith}
use Rattle.mlp_major.proofs.SyncReading.{check_is, fields_short, code_fields, code_short, code_bad, code_good}
use Rattle.mlp_major.proofs.reading.read_checked.Goals as goal

pub returns-in_default : goal.returns-in_default
returns-in_default c = rw (c.broken.ensures, c.place-at.ensures.value) (fields_short c.args.r.now.all c.args.r.now.place c.in_default.field-0 c.in_default.ensures)

pub returns-in_default-word : goal.returns-in_default-word
returns-in_default-word c =
    let f = c.in-Ok.ensures in
    rw (c.broken-in_default-word.ensures, c.place-at.ensures.value)
    (code_short c.args.bytes.now c.args.r.now c.requires.same c.requires.whole c.place-at.ensures.within c.in-Ok.signed c.read_fields.new.r f.0 f.1 c.in_default-word.field-0 c.in_default-word.ensures.read)

pub slice_bounds-check16-end : goal.slice_bounds-check16-end
slice_bounds-check16-end c =
    let f = c.in-Ok.ensures in
    let g = code_fields c.args.bytes.now c.args.r.now c.requires.same c.requires.whole c.place-at.ensures.within c.in-Ok.signed c.read_fields.new.r f.0 f.1 in
    omega (arith, g.within, g.after)

pub returns-then-check-check16 : goal.returns-then-check-check16
returns-then-check-check16 c =
    let f = c.in-Ok.ensures in
    rw (c.broken-then-check-check16.ensures, c.place-at.ensures.value)
    (code_bad c.args.bytes.now c.args.r.now c.requires.same c.requires.whole c.place-at.ensures.within c.in-Ok.signed c.read_fields.new.r f.0 f.1 c.in-Ok-word.check c.word.new.r.place c.in-Ok-word.ensures.read.0
    (λ e. c.if-check-check16.true (e ∙ sym (check_is c.args.bytes.now _ _ _ _ c.check16.ensures c.place-at.ensures.value c.place-end.ensures.value))))

pub returns : goal.returns
returns c =
    let f = c.in-Ok.ensures in
    let g = c.in-Ok-word.ensures.read in
    let read = code_good c.args.bytes.now c.args.r.now c.requires.same c.requires.whole c.place-at.ensures.within c.in-Ok.signed c.read_fields.new.r f.0 f.1 c.in-Ok-word.check c.word.new.r.place g.0
    (c.if-check-check16.false ∙ check_is c.args.bytes.now _ _ _ _ c.check16.ensures c.place-at.ensures.value c.place-end.ensures.value) in
    (read, g.1 ∙ f.1, omega (arith, f.2, g.2))
