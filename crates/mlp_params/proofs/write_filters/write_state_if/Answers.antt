use Rattle.std.proofs.Common.{true}
use Rattle.mlp_params.specs.Filters.{filter_state}
use Rattle.mlp_layout.proofs.WritingGroups.{some_fits, writes_none, writes_some, flag_stops}
use Rattle.mlp_params.proofs.write_filters.write_state_if.Goals as goal

pub returns-in_err-put_flag-in-Some : goal.returns-in_err-put_flag-in-Some
returns-in_err-put_flag-in-Some c = rw c.in-Some.is (λ n fits. flag_stops _ true (filter_state n) c.in-Some.given c.from_residual.result fits c.from_residual.ensures.1 c.in_err-put_flag-in-Some.ensures)

pub write_state-requires : goal.write_state-requires
write_state-requires c = let h = rw c.in-Some.is at c.requires in (h.0, some_fits true (filter_state h.0) c.in-Some.given h.1)

pub returns-in-None : goal.returns-in-None
returns-in-None c = rw c.in-None.is (λ n fits. writes_none true (filter_state n) c.write_absent.ensures)

pub returns-in_ok-put_flag-in-Some : goal.returns-in_ok-put_flag-in-Some
returns-in_ok-put_flag-in-Some c = rw c.in-Some.is (λ n fits. writes_some true (filter_state n) c.in-Some.given c.put_flag.new.w fits c.in_ok-put_flag-in-Some.ensures
    (c.write_state.ensures n (some_fits true (filter_state n) c.in-Some.given fits)))
