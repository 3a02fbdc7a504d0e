use Rattle.std.proofs.Common.{◌<◌, length, ap, arith}
use Rattle.std.proofs.lemmas.List.{length-drop, take_more_set}
use Rattle.std.proofs.lemmas.Result.{err_from_is_err_and}
use Rattle.mlp_bits.proofs.BitLists.{length-bits_of}
use Rattle.mlp_residual.specs.Frames.{frame, coded_frames}
use Rattle.mlp_residual.proofs.FrameLaws.{first_fails, one_is_read}
use Rattle.mlp_residual.proofs.frames.read_some.Goals as goal

pub frames_ahead-requires-clause-within : goal.frames_ahead-requires-clause-within
frames_ahead-requires-clause-within c =
    let bytes = c.bytes.result.now in
    omega (arith, length-bits_of bytes, ap (λ t. length t) c.bytes.ensures.value, c.place-place.ensures.value, c.place-place.ensures.within)

pub skip-requires : goal.skip-requires
skip-requires c =
    let bytes = c.bytes.result.now in
    omega (arith, length-bits_of bytes, ap (λ t. length t) c.bytes.ensures.value, length-drop c.args.r.now.place c.args.r.now.all, c.in_ok-count.ensures.behind.1, c.place-place.ensures.value)

pub returns-in_err-read_frame-clause-read : goal.returns-in_err-read_frame-clause-read
unfolding coded_frames
returns-in_err-read_frame-clause-read c =
    let p = err_from_is_err_and c.from_residual-in_err-read_frame.result c.from_residual-in_err-read_frame.ensures.1 in
    rw (p.1, p.2) (first_fails (frame c.args.coding.now) (length c.args.out.now) c.args.r.now.all c.args.r.now.place c.in_err-read_frame.field-0.0 c.requires.some c.in_err-read_frame.ensures)

pub returns-clause-read : goal.returns-clause-read
unfolding coded_frames
returns-clause-read c =
    let lt : 0 < length c.frames_ahead.new.out = omega arith in
    let one = one_is_read (frame c.args.coding.now) c.read_frame.new.out c.args.r.now.all c.args.r.now.place c.read_frame.new.r.place c.in_ok-read_frame.ensures.0 in
    rw (take_more_set c.frames_ahead.new.out 0 c.read_frame.new.out lt) one
