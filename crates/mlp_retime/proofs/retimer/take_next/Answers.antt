use Rattle.mlp_retime.proofs.Taking.{taken_by, usable_by, top_by}
use Rattle.mlp_retime.proofs.retimer.take_next.Goals as goal

pub returns-clause-taken : goal.returns-clause-taken
returns-clause-taken c =
    taken_by c.args.decoder.now c.begin_decoder.new.decoder c.args.next.now c.in_ok-begin_decoder.ensures.begins c.requires.is_top c.unit.new.self _ c.unit.result c.unit.ensures.unit

pub returns-clause-usable : goal.returns-clause-usable
returns-clause-usable c =
    usable_by c.args.decoder.now c.begin_decoder.new.decoder c.args.next.now c.in_ok-begin_decoder.ensures.begins c.requires.is_top c.unit.new.self _ c.unit.result c.unit.ensures.unit c.unit.ensures.kept

pub returns-clause-is_top : goal.returns-clause-is_top
returns-clause-is_top c =
    top_by c.args.decoder.now c.begin_decoder.new.decoder c.args.next.now c.in_ok-begin_decoder.ensures.begins c.requires.is_top c.unit.new.self _ c.unit.result c.unit.ensures.unit
