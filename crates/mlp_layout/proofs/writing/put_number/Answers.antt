use Rattle.mlp_layout.specs.Layout.{number_of}
use Rattle.mlp_layout.proofs.WritingLaws.{put_writes}
use Rattle.mlp_layout.proofs.writing.put_number.Goals as goal

pub returns : goal.returns
unfolding number_of
returns c = put_writes c.args.w.now c.put.new.self c.put.result c.args.width c.args.value c.put.ensures.full c.put.ensures.err c.put.ensures.ok
