use Rattle.std.proofs.Common.{true, arith}
use Rattle.mlp_editing.specs.CopyLaws.{step_takes}
use Rattle.mlp_editing.proofs.copier.CopierSession.unit.Goals as goal

pub returns : goal.returns
returns c =
    let takes = step_takes c.args.self.now true c.args.next.now (omega (arith, c.requires.some)) in
    let size = c.put_piece-size.ensures.size in
    let piece = c.put_piece-size.ensures.piece in
    let pieces = c.self.view_is in
    cc
