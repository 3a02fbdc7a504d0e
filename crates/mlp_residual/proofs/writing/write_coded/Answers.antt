use Rattle.std.proofs.Common.{length, refl}
use Rattle.std.proofs.lemmas.Result.{err_from_is_err_and}
use Rattle.mlp_layout.proofs.WritingLaws.{left_fits}
use Rattle.mlp_residual.specs.Frames.{frame, coded_frames}
use Rattle.mlp_residual.proofs.FrameWriting.{series_text, series_begins, fits_begin, series_wrote, series_filled, series_written}
use Rattle.mlp_residual.proofs.writing.write_coded.Goals as goal

pub loop-i-init : goal.loop-i-init
unfolding coded_frames
loop-i-init c =
    let k = c.args.coding.now in
    let fs = c.args.frames.now in
    record {
      so_far = series_begins (λ _. frame k) (length fs) fs c.args.w.now refl c.place-place.ensures.small;
      fits = fits_begin (λ _. frame k) (length fs) fs refl c.requires.fits;
    }

pub put_frame-requires-clause-fits : goal.put_frame-requires-clause-fits
put_frame-requires-clause-fits c =
    let k = c.args.coding.now in
    (left_fits (λ _. frame k) c.args.frames.now c.loop-i.i c.index-frames-i.result c.loop-i-test.true c.index-frames-i.is c.loop-i.invariant.fits).0

pub returns-in_err-put_frame : goal.returns-in_err-put_frame
unfolding coded_frames
returns-in_err-put_frame c =
    let p = err_from_is_err_and c.from_residual.result c.from_residual.ensures.1 in
    let k = c.args.coding.now in
    let fs = c.args.frames.now in
    rw p.1 (record {
      ok = tt;
      err = series_filled (λ _. frame k) fs c.loop-i.i c.index-frames-i.result c.loop-i-test.true c.index-frames-i.is c.args.w.now c.loop-i.w c.put_frame.new.w
          (series_text (λ _. frame k) (length fs) fs) c.loop-i.invariant.so_far c.in_err-put_frame.ensures.err;
    })

pub loop-i-preserved : goal.loop-i-preserved
loop-i-preserved c =
    let k = c.args.coding.now in
    let fs = c.args.frames.now in
    record {
      so_far = series_wrote (λ _. frame k) fs c.loop-i.i c.index-frames-i.result c.loop-i-test.true c.index-frames-i.is c.args.w.now c.loop-i.w c.put_frame.new.w (series_text (λ _. frame k) (length fs) fs)
          c.loop-i.invariant.so_far c.in_ok-put_frame.ensures.ok;
      fits = (left_fits (λ _. frame k) fs c.loop-i.i c.index-frames-i.result c.loop-i-test.true c.index-frames-i.is c.loop-i.invariant.fits).1;
    }

pub returns : goal.returns
unfolding coded_frames
returns c =
    let k = c.args.coding.now in
    let fs = c.args.frames.now in
    record { ok = series_written (λ _. frame k) fs c.loop-i.i c.args.w.now c.loop-i.w (series_text (λ _. frame k) (length fs) fs) c.loop-i-test.false c.loop-i.invariant.so_far; err = tt }
