use Rattle.mlp_editing.proofs.Texts.{puts_samples}
use Rattle.mlp_editing.proofs.pieces.put_samples.Goals as goal

pub returns-clause-puts : goal.returns-clause-puts
returns-clause-puts g c = λ us stream.
    puts_samples c.args.k c.args.bytes.now us c.requires.few stream c.pump.new.session c.new-input.result _ _ c.pump.result c.new-input.ensures c.pump.ensures.read
    (rw c.reset.ensures at c.pump.ensures.pumped)
