use Rattle.std.proofs.Common.{w16, refl}
use Rattle.std.proofs.lemmas.Int.{to_z-of_z}
use Rattle.mlp_search.proofs.SumLaws.{made_of_sums}
use Rattle.mlp_search.proofs.tally.tally_of.Goals as goal

pub returns-clause-sums : goal.returns-clause-sums
returns-clause-sums c =
    let sums = rw (to_z-of_z w16 c.args.offset c.ranges.offset) at c.sums_of-sums.ensures.sums in
    made_of_sums c.args.offset c.args.values.now c.sums_of-sums.result _ _ refl c.requires.within sums c.sums_of-sums.ensures.few refl refl refl refl refl refl refl refl
