use Rattle.std.proofs.Common.{get_or, pos, arith}
use Rattle.std.proofs.lemmas.List.{get_or_default}
use Rattle.std.proofs.lemmas.Result.{err_from_is_err_and}
use Rattle.mlp_layout.specs.Combined.{signed_of}
use Rattle.mlp_layout.proofs.SignedLaws.{kept}
use Rattle.mlp_layout.proofs.WritingLoops.{all_fit, all_written, begins, fits_here, goes_on, stops, is_done}
use Rattle.mlp_params.proofs.write_filters.write_values.Goals as goal

pub loop-value-init : goal.loop-value-init
loop-value-init c = begins (signed_of c.args.width) c.args.values.now c.args.w.now c.place-place.ensures.small (all_fit (signed_of c.args.width) c.args.values.now c.requires.values)

pub write_signed-requires-clause-value : goal.write_signed-requires-clause-value
write_signed-requires-clause-value c =
    let x = get_or c.args.values.now c.loop-value.value-index (pos 0) in
    let at = get_or_default c.args.values.now c.loop-value.value-index (pos 0) x c.loop-value-test.true in
    let fits = fits_here (signed_of c.args.width) c.args.values.now c.loop-value.value-index x c.loop-value-test.true at c.args.w.now c.loop-value.w c.loop-value.invariant in
    rw (kept c.args.width x (omega arith) fits) fits

pub returns-in_err-write_signed : goal.returns-in_err-write_signed
returns-in_err-write_signed c =
    let p = err_from_is_err_and c.from_residual.result c.from_residual.ensures.1 in
    let x = get_or c.args.values.now c.loop-value.value-index (pos 0) in
    let at = get_or_default c.args.values.now c.loop-value.value-index (pos 0) x c.loop-value-test.true in
    let fits = fits_here (signed_of c.args.width) c.args.values.now c.loop-value.value-index x c.loop-value-test.true at c.args.w.now c.loop-value.w c.loop-value.invariant in
    let filled = rw (kept c.args.width x (omega arith) fits) at c.in_err-write_signed.ensures.err in
    rw p.1 (all_written (signed_of c.args.width) c.args.values.now (record {
      ok = tt;
      err = stops (signed_of c.args.width) c.args.values.now c.loop-value.value-index x c.loop-value-test.true at c.args.w.now c.loop-value.w
          c.loop-value.invariant c.write_signed.new.w filled;
    }))

pub loop-value-preserved : goal.loop-value-preserved
loop-value-preserved c =
    let x = get_or c.args.values.now c.loop-value.value-index (pos 0) in
    let at = get_or_default c.args.values.now c.loop-value.value-index (pos 0) x c.loop-value-test.true in
    let fits = fits_here (signed_of c.args.width) c.args.values.now c.loop-value.value-index x c.loop-value-test.true at c.args.w.now c.loop-value.w c.loop-value.invariant in
    let wrote = rw (kept c.args.width x (omega arith) fits) at c.in_ok-write_signed.ensures.ok in
    goes_on (signed_of c.args.width) c.args.values.now c.loop-value.value-index x c.loop-value-test.true at c.args.w.now c.loop-value.w c.loop-value.invariant c.write_signed.new.w wrote

pub returns : goal.returns
returns c = all_written (signed_of c.args.width) c.args.values.now (record { ok = is_done (signed_of c.args.width) c.args.values.now c.loop-value.value-index c.args.w.now c.loop-value.w (omega arith) c.loop-value.invariant; err = tt })
