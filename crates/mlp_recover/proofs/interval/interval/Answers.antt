use Rattle.std.proofs.Common.{List, ℕ, [], subst}
use Rattle.mlp_recover.specs.Reading.{NoFirst, IsRateOf}
use Rattle.mlp_recover.proofs.Syncs.{none_without_first}
use Rattle.mlp_recover.proofs.Steps.{from_place, growing_none, kept_from}
use Rattle.mlp_recover.proofs.interval.interval.Goals as goal

pub returns-in_default : goal.returns-in_default
returns-in_default c =
    none_without_first c.args.k c.args.bytes.now c.args.first (subst NoFirst (from_place c.args.bytes.now c.args.first) c.in_default.ensures)

pub units-init : goal.units-init
units-init c = ([], growing_none c.args.k c.args.bytes.now c.args.first c.reset.new.self c.reset.ensures c.requires.within)

pub returns : goal.returns
returns c =
    let inv = c.units.invariant in
    let reached = c.in-Whole.ensures.reads c.args.k c.args.first inv.0 inv.1 in
    let rate = subst (λ (xs : List ℕ). IsRateOf xs c.in-Some.rate) (from_place c.args.bytes.now c.args.first) c.in-Some.ensures in
    kept_from c.args.k c.args.bytes.now c.args.first c.read_on.new.reach c.in-Some.rate reached.0 reached.1 rate c.requires.few
