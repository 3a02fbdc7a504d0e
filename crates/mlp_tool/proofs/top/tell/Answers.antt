use Rattle.mlp_tool.proofs.RunLaws.{told}
use Rattle.mlp_tool.proofs.top.tell.Goals as goal

pub returns : goal.returns
returns g c = told c.args.line.now _ _ _ _ c.put_all.result c.put_all.ensures.ok c.put_all.ensures.failed c.put_all.ensures.cause
