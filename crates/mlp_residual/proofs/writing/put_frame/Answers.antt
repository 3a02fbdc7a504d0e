use Rattle.std.proofs.Common.{[], length}
use Rattle.std.proofs.lemmas.Result.{err_from_is_err_and}
use Rattle.mlp_layout.specs.Combined.{series}
use Rattle.mlp_layout.proofs.WritingLaws.{then_writes, writes_as, filled_as, filled_first}
use Rattle.mlp_residual.specs.Frames.{bypass_bits, code_at, frame}
use Rattle.mlp_residual.proofs.FrameLaws.{series-length}
use Rattle.mlp_residual.proofs.FrameWriting.{frame_text, frame_fits}
use Rattle.mlp_residual.proofs.writing.put_frame.Goals as goal

pub put_codes-requires-clause-same : goal.put_codes-requires-clause-same
put_codes-requires-clause-same c =
    let k = c.args.coding.now in
    rw (c.deref-2.ensures.0, c.deref-3.ensures.0) (series-length (code_at k.channels.items) (length k.channels.items) [] c.args.value.now.codes.items (frame_fits k c.args.value.now c.requires.fits))

pub put_codes-requires-clause-fits : goal.put_codes-requires-clause-fits
put_codes-requires-clause-fits c = rw (c.deref-2.ensures.0, c.deref-3.ensures.0) (frame_fits c.args.coding.now c.args.value.now c.requires.fits)

pub returns-in_err-put_bypass : goal.returns-in_err-put_bypass
returns-in_err-put_bypass c =
    let p = err_from_is_err_and c.from_residual.result c.from_residual.ensures.1 in
    let k = c.args.coding.now in
    let f = c.args.value.now in
    let text = (bypass_bits k.bypass.items).spelling f.bypass in
    let codes = (series (code_at k.channels.items) (length k.channels.items) []).spelling f.codes.items in
    let e = rw c.deref.ensures.0 at c.in_err-put_bypass.ensures in
    rw p.1 (record { ok = tt; err = filled_as c.args.w.now c.put_bypass.new.w _ ((frame k).spelling f) (frame_text k f) (filled_first c.args.w.now c.put_bypass.new.w text codes e.err) })

pub returns : goal.returns
returns c =
    let first = rw c.deref.ensures.0 at c.in_ok-put_bypass.ensures in
    let later = rw (c.deref-2.ensures.0, c.deref-3.ensures.0) at c.put_codes.ensures in
    writes_as (frame_text c.args.coding.now c.args.value.now) (then_writes first later)
