use Rattle.std.proofs.Common.{get_or, arith}
use Rattle.std.proofs.lemmas.List.{get_or_default}
use Rattle.std.proofs.lemmas.Result.{err_from_is_err_and}
use Rattle.mlp_layout.specs.Layout.{number_of}
use Rattle.mlp_layout.proofs.WritingLoops.{all_fit, all_written, begins, fits_here, goes_on, stops, is_done}
use Rattle.mlp_params.proofs.write_filters.write_numbers.Goals as goal

pub loop-value-init : goal.loop-value-init
loop-value-init c = begins (number_of c.args.width) c.args.values.now c.args.w.now c.place-place.ensures.small (all_fit (number_of c.args.width) c.args.values.now c.requires.values)

pub put_number-requires-clause-value : goal.put_number-requires-clause-value
unfolding number_of
put_number-requires-clause-value c =
    rw c.from.ensures (fits_here (number_of c.args.width) c.args.values.now c.loop-value.value-index (get_or c.args.values.now c.loop-value.value-index 0) c.loop-value-test.true
    (get_or_default c.args.values.now c.loop-value.value-index 0 _ c.loop-value-test.true) c.args.w.now c.loop-value.w c.loop-value.invariant)

pub returns-in_err-put_number : goal.returns-in_err-put_number
returns-in_err-put_number c =
    let p = err_from_is_err_and c.from_residual.result c.from_residual.ensures.1 in
    rw p.1 (all_written (number_of c.args.width) c.args.values.now (record {
      ok = tt;
      err = stops (number_of c.args.width) c.args.values.now c.loop-value.value-index (get_or c.args.values.now c.loop-value.value-index 0)
          c.loop-value-test.true (get_or_default c.args.values.now c.loop-value.value-index 0 _ c.loop-value-test.true) c.args.w.now c.loop-value.w c.loop-value.invariant c.put_number.new.w
          (rw (← c.from.ensures) c.in_err-put_number.ensures.err);
    }))

pub loop-value-preserved : goal.loop-value-preserved
loop-value-preserved c = goes_on (number_of c.args.width) c.args.values.now c.loop-value.value-index (get_or c.args.values.now c.loop-value.value-index 0) c.loop-value-test.true
    (get_or_default c.args.values.now c.loop-value.value-index 0 _ c.loop-value-test.true) c.args.w.now c.loop-value.w c.loop-value.invariant c.put_number.new.w (rw (← c.from.ensures) c.in_ok-put_number.ensures.ok)

pub returns : goal.returns
returns c = all_written (number_of c.args.width) c.args.values.now (record { ok = is_done (number_of c.args.width) c.args.values.now c.loop-value.value-index c.args.w.now c.loop-value.w (omega arith) c.loop-value.invariant; err = tt })
