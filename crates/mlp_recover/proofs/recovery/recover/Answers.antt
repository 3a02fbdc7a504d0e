use Rattle.std.proofs.Common.{subst, sym}
use Rattle.std.specs.Prelude.{All}
use Rattle.mlp_recover.specs.Spans.{HasFewFrames, AreSpans}
use Rattle.mlp_recover.proofs.Finding.{found_lost, found_kept, found_all, IsFound}
use Rattle.mlp_recover.proofs.recovery.recover.Goals as goal

pub syncs-preserved-in-Some-interval : goal.syncs-preserved-in-Some-interval
syncs-preserved-in-Some-interval c =
    let span = c.in-Some-interval.span in
    subst (IsFound c.args.k c.args.bytes.now span.past span.past) (sym c.in_ok-push_kept-in-Some-interval.ensures)
    (found_kept c.args.k c.args.bytes.now c.syncs.told c.syncs.at c.in-Some.first c.syncs.spans.items span c.syncs.invariant c.in-Some.ensures.within.0 c.in-Some.ensures.none c.in-Some-interval.ensures)

pub syncs-preserved : goal.syncs-preserved
syncs-preserved c =
    found_lost c.args.k c.args.bytes.now c.syncs.told c.syncs.at c.in-Some.first c.syncs.spans.items c.syncs.invariant c.in-Some.ensures.within.0 c.in-Some.ensures.within.1 c.in-Some.ensures.none c.in-None.ensures

pub returns-clause-spans : goal.returns-clause-spans
returns-clause-spans c =
    subst (AreSpans c.args.k c.args.bytes.now) (sym c.in_ok-push_lost.ensures)
    (found_all c.args.k c.args.bytes.now c.syncs.told c.syncs.at c.syncs.spans.items c.syncs.invariant c.in_default.ensures.none).0

pub returns-clause-few : goal.returns-clause-few
returns-clause-few c =
    subst (All HasFewFrames) (sym c.in_ok-push_lost.ensures)
    (found_all c.args.k c.args.bytes.now c.syncs.told c.syncs.at c.syncs.spans.items c.syncs.invariant c.in_default.ensures.none).1
