use Rattle.mlp_present.proofs.WaitLaws.{waits_bits, waits_empty, waits_enough, waits_none, waits_stays, waits_settled}
use Rattle.mlp_present.proofs.laws.law_waits.Goals as goal

pub returns : goal.returns
returns c = record { bits = waits_bits; empty = waits_empty; enough = waits_enough; none = waits_none; stays = waits_stays; settled = waits_settled }
