use Rattle.std.proofs.Common.{Option, Some, None, sym, subst}
use Rattle.std.specs.Prelude.{IfSome}
use Rattle.mlp_predict.specs.Filters.{AreFilters}
use Rattle.mlp_search.specs.declared.pair.Pair.{Pair}
use Rattle.mlp_search.specs.Candidates.{pair_of}
use Rattle.mlp_search.specs.Given.{IsPair}
use Rattle.mlp_search.proofs.PairLaws.{pair_is}
use Rattle.mlp_search.proofs.UsableFilters.{pair_usable}
use Rattle.mlp_search.proofs.pair.pair_of.Goals as goal

all_usable : (o : Option Pair) → IfSome o IsPair → IfSome o (λ pair. AreFilters pair.fir pair.iir)
all_usable o h = elim o as (λ o. IfSome o IsPair → IfSome o (λ pair. AreFilters pair.fir pair.iir)) [ None ↦ λ h. tt | Some pair ↦ λ h. pair_usable pair h ] h

pub returns-clause-written : goal.returns-clause-written
returns-clause-written c = subst (λ (o : Option Pair). IfSome o IsPair) (sym c.by_number.ensures) (pair_is c.args.state.now c.args.step c.args.samples.now c.args.number c.requires.state)

pub returns-clause-usable : goal.returns-clause-usable
returns-clause-usable c =
    subst (λ (o : Option Pair). IfSome o (λ pair. AreFilters pair.fir pair.iir)) (sym c.by_number.ensures)
    (all_usable (pair_of c.args.state.now c.args.step c.args.samples.now c.args.number) (pair_is c.args.state.now c.args.step c.args.samples.now c.args.number c.requires.state))
