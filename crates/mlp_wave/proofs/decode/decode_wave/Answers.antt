use Rattle.std.proofs.Common.{Ok, Err, refl}
use Rattle.mlp_wave.proofs.SavedLaws.{saved_file, saved_nothing}
use Rattle.mlp_wave.proofs.decode.decode_wave.Goals as goal

pub returns-in-Ok-save-clause-saved : goal.returns-in-Ok-save-clause-saved
returns-in-Ok-save-clause-saved g c =
    saved_file c.args.presentation c.args.bits c.pump.new.session _ _ c.pump.new.output.kept c.bytes.result.now c.channels-channels.result c.rate-rate.result (Ok tt)
    (rw (c.open-session.ensures, c.new-samples.ensures) at c.in-Ok.ensures.pumped) c.channels-channels.ensures c.rate-rate.ensures.rate c.bytes.ensures c.in-Ok-save.ensures.file

pub returns-in-Ok-clause-saved : goal.returns-in-Ok-clause-saved
returns-in-Ok-clause-saved g c =
    saved_file c.args.presentation c.args.bits c.pump.new.session _ _ c.pump.new.output.kept c.bytes.result.now c.channels-channels.result c.rate-rate.result (Err c.in-Err-save.stop)
    (rw (c.open-session.ensures, c.new-samples.ensures) at c.in-Ok.ensures.pumped) c.channels-channels.ensures c.rate-rate.ensures.rate c.bytes.ensures c.in-Err-save.ensures.file

pub returns-clause-saved : goal.returns-clause-saved
returns-clause-saved g c =
    rw c.failure_by.ensures
    (saved_nothing c.args.presentation c.args.bits c.pump.new.session _ _ _ c.in-Err.stop
    (rw (c.open-session.ensures, c.new-samples.ensures) at c.in-Err.ensures.pumped) refl)
