use Rattle.mlp_layout.specs.Layout.{number_of}
use Rattle.mlp_layout.proofs.WritingLaws.{writes_as}
use Rattle.mlp_residual.proofs.FrameWriting.{code_text, code_fits}
use Rattle.mlp_residual.proofs.writing.put_code.Goals as goal

pub put_code_in-requires-clause-symbol : goal.put_code_in-requires-clause-symbol
put_code_in-requires-clause-symbol c = (code_fits c.args.channel c.args.value c.requires.fits).0

pub put_code_in-requires-clause-low : goal.put_code_in-requires-clause-low
unfolding number_of
put_code_in-requires-clause-low c = rw c.from.ensures ((code_fits c.args.channel c.args.value c.requires.fits).1)

pub returns : goal.returns
unfolding number_of
returns c = writes_as (code_text c.args.channel c.args.value) (rw c.from.ensures at c.put_code_in.ensures)
