use Rattle.std.proofs.Common.{arith}
use Rattle.mlp_unit.proofs.WordReading.{head_good, head_bad, head_short}
use Rattle.mlp_unit.proofs.head.read_head.Goals as goal

pub returns-in_default : goal.returns-in_default
returns-in_default c = rw (c.broken.ensures, c.place-at.ensures.value) (head_short c.args.r.now.all c.args.r.now.place c.place-at.ensures.within c.in_default.field-0 c.in_default.ensures.read)

pub returns-then-words-lt2 : goal.returns-then-words-lt2
returns-then-words-lt2 c = rw (c.broken-then-words-lt2.ensures, c.place-at.ensures.value)
    (head_bad c.args.r.now.all c.args.r.now.place c.place-at.ensures.within c.in-Ok.first c.number.new.r.place c.in-Ok.ensures.read.0 (omega (arith, c.if-words-lt2.true)))

pub returns : goal.returns
returns c =
    let read = c.in-Ok.ensures.read in
    (head_good c.args.r.now.all c.args.r.now.place c.place-at.ensures.within c.in-Ok.first c.number.new.r.place read.0 (omega (arith, c.if-words-lt2.false)), read.1, read.2)
