use Rattle.std.proofs.Common.{◌≡◌, ◌<◌, ℕ, List, length, take, get_or, ap, arith}
use Rattle.std.proofs.lemmas.Result.{err_from_is_err_and}
use Rattle.std.proofs.lemmas.List.{length-take}
use Rattle.mlp_syntax.specs.declared.segment.Code.{Code}
use Rattle.mlp_layout.proofs.WritingLaws.{left_fits}
use Rattle.mlp_residual.specs.declared.frames.ChannelCode.{ChannelCode}
use Rattle.mlp_residual.specs.Frames.{code, code_at, no_code}
use Rattle.mlp_residual.proofs.FrameWriting.{series_text, series_begins, fits_begin, series_wrote, series_filled, series_written, get_or-same}
use Rattle.mlp_residual.proofs.writing.put_codes.Goals as goal

-- the code of the next channel
next_is : (channels : List ChannelCode) (codes : List Code) (i : ℕ) → i < length codes → code_at channels (take i codes) ≡ code (get_or channels i no_code)
next_is channels codes i lt = ap (λ (k : ℕ). code (get_or channels k no_code)) (omega (arith, length-take i codes))

none : Code
none = record { symbol = 0; low = 0 }

pub loop-i-init : goal.loop-i-init
loop-i-init c =
    let cs = c.args.channels.now in
    record {
      so_far = series_begins (code_at cs) (length cs) c.args.codes.now c.args.w.now c.requires.same c.place-place.ensures.small;
      fits = fits_begin (code_at cs) (length cs) c.args.codes.now c.requires.same c.requires.fits;
    }

pub put_code-requires-clause-fits : goal.put_code-requires-clause-fits
unfolding none
put_code-requires-clause-fits c =
    let cs = c.args.channels.now in
    let ks = c.args.codes.now in
    let i = c.loop-i.i in
    let lt : i < length ks = omega (arith, c.requires.same, c.loop-i-test.true) in
    rw (← next_is cs ks i lt) ((left_fits (code_at cs) ks i (get_or ks i none) lt (get_or-same ks i none lt) c.loop-i.invariant.fits).0)

pub returns-in_err-put_code : goal.returns-in_err-put_code
unfolding none
returns-in_err-put_code c =
    let p = err_from_is_err_and c.from_residual.result c.from_residual.ensures.1 in
    let cs = c.args.channels.now in
    let ks = c.args.codes.now in
    let i = c.loop-i.i in
    let lt : i < length ks = omega (arith, c.requires.same, c.loop-i-test.true) in
    let e = rw (← next_is cs ks i lt) at c.in_err-put_code.ensures.err in
    rw p.1 (record { ok = tt; err = series_filled (code_at cs) ks i (get_or ks i none) lt (get_or-same ks i none lt) c.args.w.now c.loop-i.w c.put_code.new.w (series_text (code_at cs) (length cs) ks) c.loop-i.invariant.so_far e })

pub loop-i-preserved : goal.loop-i-preserved
unfolding none
loop-i-preserved c =
    let cs = c.args.channels.now in
    let ks = c.args.codes.now in
    let i = c.loop-i.i in
    let lt : i < length ks = omega (arith, c.requires.same, c.loop-i-test.true) in
    let e = rw (← next_is cs ks i lt) at c.in_ok-put_code.ensures.ok in
    record {
      so_far = series_wrote (code_at cs) ks i (get_or ks i none) lt (get_or-same ks i none lt) c.args.w.now c.loop-i.w c.put_code.new.w (series_text (code_at cs) (length cs) ks) c.loop-i.invariant.so_far e;
      fits = (left_fits (code_at cs) ks i (get_or ks i none) lt (get_or-same ks i none lt) c.loop-i.invariant.fits).1;
    }

pub returns : goal.returns
returns c =
    let cs = c.args.channels.now in
    record { ok = series_written (code_at cs) c.args.codes.now c.loop-i.i c.args.w.now c.loop-i.w (series_text (code_at cs) (length cs) c.args.codes.now) (omega (arith, c.requires.same)) c.loop-i.invariant.so_far; err = tt }
