use Rattle.std.proofs.Common.{None, take, ◌*◌, ◌∙◌}
use Rattle.mlp_unit.specs.Shape.{unit_with}
use Rattle.mlp_present.proofs.Joined.{going_read}
use Rattle.mlp_retime.proofs.Taking.{some_told}
use Rattle.mlp_retime.proofs.retimer.highest_of.Goals as goal

pub returns-in-Ok-clause-told : goal.returns-in-Ok-clause-told
returns-in-Ok-clause-told c =
    let outer = unit_with (take c.in-Ok.field-0-0 c.args.next.now) c.in-Ok.outer in
    let read = going_read None c.args.next.now ∙ c.in-Ok.ensures.read in
    record {
      outer = outer;
      end = 8 * c.in-Ok.field-0-0;
      read = read;
      k_is = c.highest_by.ensures;
      some = some_told c.args.next.now outer (8 * c.in-Ok.field-0-0) read;
    }

pub returns-in-Err-clause-told : goal.returns-in-Err-clause-told
returns-in-Err-clause-told c = (c.in-Err.broken, going_read None c.args.next.now ∙ c.in-Err.ensures.read, c.outer_refusal.ensures)
