use Rattle.std.proofs.Common.{◌++◌}
use Rattle.std.specs.Prelude.{is_some}
use Rattle.mlp_layout.specs.Combined.{present}
use Rattle.mlp_layout.proofs.WritingLaws.{then_writes, stops_writing, stops_last, writes_as}
use Rattle.mlp_params.specs.Parameters.{params}
use Rattle.mlp_substream.specs.Restarts.{judged_restart}
use Rattle.mlp_substream.specs.Blocks.{against, restarted}
use Rattle.mlp_substream.specs.Segment.{unknown}
use Rattle.mlp_substream.proofs.WritingParts.{head_parts, head_text, restart_allowed, params_allowed}
use Rattle.mlp_substream.proofs.writing_heads.write_head.Goals as goal

pub returns-in_err-write_flags-clause-text : goal.returns-in_err-write_flags-clause-text
returns-in_err-write_flags-clause-text c = λ due.
    let p = c.args.place.now in
    let h = c.args.head.now in
    let a = rw (c.is_some.ensures, c.is_some-2.ensures) at (c.in_err-write_flags.ensures due) in
    let later = (present (is_some h.restart) (judged_restart unknown p.format)).spelling h.restart ++ (present (is_some h.params) (against (restarted p c.args.state.now h.restart) params)).spelling h.params in
    writes_as (head_text p unknown due c.args.state.now h) (stops_writing _ later c.from_residual.result c.from_residual.ensures.1 a)

pub write_restart_if-requires : goal.write_restart_if-requires
write_restart_if-requires c = (c.args.place.now.format, (head_parts c.args.place.now unknown c.requires.head.0 c.args.state.now c.args.head.now c.requires.head.1).restart.fits)

pub returns-in_err-write_restart_if-clause-text : goal.returns-in_err-write_restart_if-clause-text
returns-in_err-write_restart_if-clause-text c = λ due.
    let p = c.args.place.now in
    let h = c.args.head.now in
    let a = rw (c.is_some.ensures, c.is_some-2.ensures) at (c.in_ok-write_flags.ensures due) in
    let later = (present (is_some h.params) (against (restarted p c.args.state.now h.restart) params)).spelling h.params in
    writes_as (head_text p unknown due c.args.state.now h) (then_writes a (stops_writing _ later c.from_residual-in_err-write_restart_if.result c.from_residual-in_err-write_restart_if.ensures.1 (c.in_err-write_restart_if.ensures p.format)))

pub restart_at-requires-clause-header : goal.restart_at-requires-clause-header
restart_at-requires-clause-header c = restart_allowed unknown c.args.place.now.format c.args.head.now.restart (head_parts c.args.place.now unknown c.requires.head.0 c.args.state.now c.args.head.now c.requires.head.1).restart

pub write_params_if-requires-clause-given : goal.write_params_if-requires-clause-given
write_params_if-requires-clause-given c = rw c.restart_at.ensures.value (head_parts c.args.place.now unknown c.requires.head.0 c.args.state.now c.args.head.now c.requires.head.1).params

pub returns-in_err-write_params_if-clause-text : goal.returns-in_err-write_params_if-clause-text
returns-in_err-write_params_if-clause-text c = λ due.
    let p = c.args.place.now in
    let h = c.args.head.now in
    let a = rw (c.is_some.ensures, c.is_some-2.ensures) at (c.in_ok-write_flags.ensures due) in
    let b = c.in_ok-write_restart_if.ensures p.format in
    let d = rw c.restart_at.ensures.value at c.in_err-write_params_if.ensures in
    writes_as (head_text p unknown due c.args.state.now h) (then_writes a (then_writes b (stops_last _ c.from_residual-in_err-write_params_if.result c.from_residual-in_err-write_params_if.ensures.1 d)))

pub apply_if-requires-clause-written : goal.apply_if-requires-clause-written
apply_if-requires-clause-written c = rw c.restart_at.ensures.value (params_allowed (restarted c.args.place.now c.args.state.now c.args.head.now.restart) c.args.head.now.params
    (head_parts c.args.place.now unknown c.requires.head.0 c.args.state.now c.args.head.now c.requires.head.1).params)

pub returns-clause-text : goal.returns-clause-text
returns-clause-text c = λ due.
    let p = c.args.place.now in
    let h = c.args.head.now in
    let a = rw (c.is_some.ensures, c.is_some-2.ensures) at (c.in_ok-write_flags.ensures due) in
    let b = c.in_ok-write_restart_if.ensures p.format in
    let d = rw c.restart_at.ensures.value at c.in_ok-write_params_if.ensures in
    writes_as (head_text p unknown due c.args.state.now h) (then_writes a (then_writes b d))
