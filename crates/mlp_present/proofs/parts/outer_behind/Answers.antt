use Rattle.std.proofs.Common.{ap, ◌∙◌}
use Rattle.std.specs.Option.{option_copied}
use Rattle.mlp_syntax.specs.declared.fault.Broken.{Broken}
use Rattle.mlp_layout.specs.Streams.{outer_fault}
use Rattle.mlp_walk.specs.declared.refusal.Refusal.TheVariants as refused
use Rattle.mlp_walk.specs.Next.{fault_of}
use Rattle.mlp_present.proofs.Joined.{ended_breaks, going_breaks, going_outer}
use Rattle.mlp_present.proofs.parts.outer_behind.Goals as goal

pub returns-then-ended : goal.returns-then-ended
returns-then-ended c =
    ended_breaks c.args.ended c.args.number (option_copied c.args.first) c.args.next.now c.outer_refusal.result c.if-ended.true
    (c.outer_refusal.ensures ∙ ap (λ (b : Broken). refused.Fault (fault_of c.args.number (outer_fault b))) c.broken.ensures)

pub returns-in-Ok : goal.returns-in-Ok
returns-in-Ok c =
    let e = c.in-Ok.ensures in
    going_outer c.args.ended (option_copied c.args.first) c.args.next.now c.in-Ok.taken.0 c.in-Ok.taken.1 c.if-ended.false
    (record { read = e.read; frame = e.frame; body = e.body; count = e.count; ends = e.ends; usable = e.usable })

pub returns-in-Err : goal.returns-in-Err
returns-in-Err c =
    going_breaks c.args.ended c.args.number (option_copied c.args.first) c.args.next.now c.in-Err.broken c.outer_refusal-in-Err.result c.if-ended.false c.in-Err.ensures.read c.outer_refusal-in-Err.ensures
