use Rattle.std.proofs.Common.{arith}
use Rattle.mlp_pcm.specs.Samples.{is_packable}
use Rattle.mlp_pcm.proofs.FirstFailing.{first_failing_is}
use Rattle.mlp_sessions.proofs.decode.put_frames.Goals as goal

pub overflow_add-result-in-Err : goal.overflow_add-result-in-Err
overflow_add-result-in-Err c =
    let first = (first_failing_is (is_packable c.args.bits c.places.result) c.args.frames.now).some c.in-Err.frame in
    let is = first.0 c.in-Err.ensures.0 in
    omega (arith, is.within)
