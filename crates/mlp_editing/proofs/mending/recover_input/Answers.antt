use Rattle.std.proofs.Common.{refl}
use Rattle.mlp_editing.proofs.Telling.{mended_stops, mended_long, mended_tells}
use Rattle.mlp_editing.proofs.mending.recover_input.Goals as goal

pub returns-then-bytes-gt-LIMIT-clause-mended : goal.returns-then-bytes-gt-LIMIT-clause-mended
returns-then-bytes-gt-LIMIT-clause-mended g c =
    mended_long c.args.k c.pump.new.session _ _ c.pump.new.output.kept c.bytes-bytes.result.now (rw (c.open-session.ensures, c.new-copy.ensures) at c.in-Ok.ensures.pumped)
    c.bytes-bytes.ensures c.if-bytes-gt-LIMIT.true refl

pub returns-in-Ok-clause-mended : goal.returns-in-Ok-clause-mended
returns-in-Ok-clause-mended g c =
    mended_tells c.args.k c.pump.new.session _ _ c.pump.new.output.kept c.bytes-bytes.result.now (rw (c.open-session.ensures, c.new-copy.ensures) at c.in-Ok.ensures.pumped)
    c.bytes-bytes.ensures c.put_recovered.result c.put_recovered.ensures.tells

pub returns-clause-mended : goal.returns-clause-mended
returns-clause-mended g c =
    rw c.failure_by.ensures
    (mended_stops c.args.k c.pump.new.session _ _ _ c.in-Err.stop (rw (c.open-session.ensures, c.new-copy.ensures) at c.in-Err.ensures.pumped) refl)
