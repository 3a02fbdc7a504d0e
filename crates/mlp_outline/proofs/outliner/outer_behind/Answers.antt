use Rattle.std.specs.Option.{option_copied}
use Rattle.mlp_unit.proofs.FrameLaws.{is_frame}
use Rattle.mlp_outline.proofs.Outlines.{outline_broken, outline_taken}
use Rattle.mlp_outline.proofs.outliner.outer_behind.Goals as goal

pub returns-in-Ok-clause-next : goal.returns-in-Ok-clause-next
returns-in-Ok-clause-next c = outline_taken c.args.number (option_copied c.args.first) c.args.next.now c.in-Ok.taken.0 c.in-Ok.taken.1 c.in-Ok.ensures.read

pub returns-in-Ok-clause-within : goal.returns-in-Ok-clause-within
returns-in-Ok-clause-within c = let f = is_frame c.args.next.now c.in-Ok.taken.0 c.in-Ok.ensures.frame in (f.some, f.small, f.there)

pub returns-in-Err-clause-next : goal.returns-in-Err-clause-next
returns-in-Err-clause-next c = rw c.outer_refusal.ensures (outline_broken c.args.number (option_copied c.args.first) c.args.next.now c.in-Err.broken c.in-Err.ensures.read)
