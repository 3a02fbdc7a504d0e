use Rattle.std.proofs.Common.{true, None, get_or, arith}
use Rattle.std.proofs.lemmas.List.{get_or_default}
use Rattle.std.proofs.lemmas.Result.{err_from_is_err_and}
use Rattle.mlp_layout.specs.Combined.{signed_of, group}
use Rattle.mlp_layout.proofs.WritingLoops.{all_fit, all_written, begins, fits_here, goes_on, stops, is_done}
use Rattle.mlp_params.proofs.write_matrices.write_coefficients.Goals as goal

pub loop-coefficient-init : goal.loop-coefficient-init
loop-coefficient-init c = begins (group true (signed_of c.args.width)) c.args.coeffs.now c.args.w.now c.place-place.ensures.small (all_fit (group true (signed_of c.args.width)) c.args.coeffs.now c.requires.coeffs)

pub write_coefficient-requires-clause-fits : goal.write_coefficient-requires-clause-fits
write_coefficient-requires-clause-fits c = fits_here (group true (signed_of c.args.width)) c.args.coeffs.now c.loop-coefficient.coefficient-index (get_or c.args.coeffs.now c.loop-coefficient.coefficient-index None)
    c.loop-coefficient-test.true (get_or_default c.args.coeffs.now c.loop-coefficient.coefficient-index None _ c.loop-coefficient-test.true) c.args.w.now c.loop-coefficient.w c.loop-coefficient.invariant

pub returns-in_err-write_coefficient : goal.returns-in_err-write_coefficient
returns-in_err-write_coefficient c =
    let p = err_from_is_err_and c.from_residual.result c.from_residual.ensures.1 in
    rw p.1 (all_written (group true (signed_of c.args.width)) c.args.coeffs.now (record {
      ok = tt;
      err = stops (group true (signed_of c.args.width)) c.args.coeffs.now c.loop-coefficient.coefficient-index
          (get_or c.args.coeffs.now c.loop-coefficient.coefficient-index None) c.loop-coefficient-test.true (get_or_default c.args.coeffs.now c.loop-coefficient.coefficient-index None _ c.loop-coefficient-test.true)
          c.args.w.now c.loop-coefficient.w c.loop-coefficient.invariant c.write_coefficient.new.w c.in_err-write_coefficient.ensures.err;
    }))

pub loop-coefficient-preserved : goal.loop-coefficient-preserved
loop-coefficient-preserved c = goes_on (group true (signed_of c.args.width)) c.args.coeffs.now c.loop-coefficient.coefficient-index (get_or c.args.coeffs.now c.loop-coefficient.coefficient-index None)
    c.loop-coefficient-test.true (get_or_default c.args.coeffs.now c.loop-coefficient.coefficient-index None _ c.loop-coefficient-test.true) c.args.w.now c.loop-coefficient.w c.loop-coefficient.invariant
    c.write_coefficient.new.w c.in_ok-write_coefficient.ensures.ok

pub returns : goal.returns
returns c = all_written (group true (signed_of c.args.width)) c.args.coeffs.now (record {
  ok = is_done (group true (signed_of c.args.width)) c.args.coeffs.now c.loop-coefficient.coefficient-index c.args.w.now
      c.loop-coefficient.w (omega arith) c.loop-coefficient.invariant;
  err = tt;
})
