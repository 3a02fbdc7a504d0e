use Rattle.std.proofs.Common.{◌≡◌, ◌<◌, Err, None, sym, ap, subst, ◌∙◌, arith}
use Rattle.std.specs.Prelude.{MatchResult}
use Rattle.std.proofs.lemmas.Result.{err_from_is_err_and}
use Rattle.mlp_walk.specs.declared.refusal.Refusal.{Refusal as Declined}
use Rattle.mlp_walk.specs.Next.{next_of}
use Rattle.mlp_retime.specs.Top.{top}
use Rattle.mlp_retime.specs.Retimer.{Begins}
use Rattle.mlp_retime.proofs.Taking.{begins_later, begins_first, begins_broken}
use Rattle.mlp_retime.proofs.retimer.begin_decoder.Goals as goal

pub returns-then-units-gt0-clause-begins : goal.returns-then-units-gt0-clause-begins
returns-then-units-gt0-clause-begins c =
    let some : 0 < c.args.decoder.now.units = omega arith in
    begins_later c.args.decoder.now c.args.next.now c.requires some

pub returns-in_err-k-clause-begins : goal.returns-in_err-k-clause-begins
returns-in_err-k-clause-begins c =
    let p = err_from_is_err_and c.from_residual.result c.from_residual.ensures.1 in
    let none : c.args.decoder.now.units ≡ 0 = omega arith in
    let is : c.from_residual.result ≡ Err c.in_err-k.field-0.0 = p.1 ∙ ap (λ (r : Declined). Err r) p.2 in
    subst (λ (r : _). MatchResult r (λ x. Begins c.args.decoder.now c.args.next.now c.args.decoder.now) (λ refusal. next_of top None c.args.decoder.now.units c.args.decoder.now.left c.args.next.now ≡ Err refusal))
    (sym is) (begins_broken c.args.decoder.now c.args.next.now c.in_err-k.field-0.0 c.requires none c.in_err-k.ensures.told)

pub returns-clause-begins : goal.returns-clause-begins
returns-clause-begins c =
    let none : c.args.decoder.now.units ≡ 0 = omega arith in
    begins_first c.args.decoder.now c.reset.new.self c.args.next.now c.in_ok-k.k c.requires none c.in_ok-k.ensures.told c.reset.ensures
