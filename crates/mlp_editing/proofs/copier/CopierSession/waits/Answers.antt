use Rattle.mlp_editing.specs.CopyLaws.{copy_waits}
use Rattle.mlp_editing.proofs.copier.CopierSession.waits.Goals as goal

pub returns : goal.returns
returns c = copy_waits c.args.self.now c.args.next.now
