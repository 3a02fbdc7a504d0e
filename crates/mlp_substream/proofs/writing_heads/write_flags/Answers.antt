use Rattle.std.proofs.Common.{Bool, false, subst, sym}
use Rattle.mlp_layout.specs.Layout.{made}
use Rattle.mlp_layout.specs.Combined.{flag, chosen}
use Rattle.mlp_layout.specs.Writing.{Writes}
use Rattle.mlp_layout.proofs.WritingLaws.{then_writes, stops_writing, writes_as}
use Rattle.mlp_substream.proofs.WritingParts.{flags_text}
use Rattle.mlp_substream.proofs.writing_heads.write_flags.Goals as goal

pub returns-in_err-put_flag : goal.returns-in_err-put_flag
returns-in_err-put_flag c = λ due.
    writes_as (flags_text due c.args.given c.args.restarts) (stops_writing _ ((chosen c.args.given flag (made false)).spelling c.args.restarts) c.from_residual.result c.from_residual.ensures.1 c.in_err-put_flag.ensures)

pub returns-then-given : goal.returns-then-given
unfolding chosen made
returns-then-given c = λ due.
    let text = λ (b : Bool). (chosen b flag (made false)).spelling c.args.restarts in
    let second = subst (λ (b : Bool). Writes c.put_flag.new.w c.put_flag-then-given.new.w c.put_flag-then-given.result (text b)) (sym c.if-given.true) c.put_flag-then-given.ensures in
    writes_as (flags_text due c.args.given c.args.restarts) (then_writes c.in_ok-put_flag.ensures second)

pub returns-else-given : goal.returns-else-given
unfolding chosen made
returns-else-given c = λ due.
    let text = λ (b : Bool). (chosen b flag (made false)).spelling c.args.restarts in
    let second = subst (λ (b : Bool). Writes c.put_flag.new.w c.put_all.new.w c.put_all.result (text b)) (sym c.if-given.false) c.put_all.ensures in
    writes_as (flags_text due c.args.given c.args.restarts) (then_writes c.in_ok-put_flag.ensures second)
