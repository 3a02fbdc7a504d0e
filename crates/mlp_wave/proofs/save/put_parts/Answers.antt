use Rattle.std.proofs.Common.{Err, ap, ◌∙◌}
use Rattle.std.proofs.lemmas.Result.{err_from_is_err_and}
use Rattle.mlp_stream.specs.declared.stop.Stop.{Stop}
use Rattle.mlp_wave.proofs.Parts.{fails_in_first, fails_in_second, fails_in_third}
use Rattle.mlp_wave.proofs.save.put_parts.Goals as goal

pub returns-in_err-put-clause-err : goal.returns-in_err-put-clause-err
returns-in_err-put-clause-err g c =
    let p = err_from_is_err_and c.from_residual.result c.from_residual.ensures.1 in
    fails_in_first c.args.header.now c.args.samples.now c.args.padding.now _ c.from_residual.result c.in_err-put.field-0.0 (p.1 ∙ ap (λ (s : Stop). Err s) p.2) c.in_err-put.ensures.err

pub returns-in_err-put-2-clause-err : goal.returns-in_err-put-2-clause-err
returns-in_err-put-2-clause-err g c =
    let p = err_from_is_err_and c.from_residual-in_err-put-2.result c.from_residual-in_err-put-2.ensures.1 in
    fails_in_second c.args.header.now c.args.samples.now c.args.padding.now _ _ _ c.from_residual-in_err-put-2.result c.in_err-put-2.field-0.0 (p.1 ∙ ap (λ (s : Stop). Err s) p.2)
    c.in_ok-put.ensures.ok c.in_err-put-2.ensures.err

pub returns-clause-err : goal.returns-clause-err
returns-clause-err g c = fails_in_third c.args.header.now c.args.samples.now c.args.padding.now _ _ _ _ c.put-3.result c.in_ok-put.ensures.ok c.in_ok-put-2.ensures.ok c.put-3.ensures.err
