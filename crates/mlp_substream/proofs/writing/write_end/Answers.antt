use Rattle.mlp_layout.specs.Layout.{number_of, spelling_as}
use Rattle.mlp_layout.proofs.WritingLaws.{then_writes, stops_writing}
use Rattle.mlp_substream.specs.Segment.{terminator}
use Rattle.mlp_substream.proofs.writing.write_end.Goals as goal

pub returns-in_err-put_number : goal.returns-in_err-put_number
unfolding number_of
returns-in_err-put_number c = λ format.
    let a = rw (c.place.ensures.value, c.from.ensures) at c.in_err-put_number.ensures in
    stops_writing _ (spelling_as (terminator format).spelling c.args.second) c.from_residual.result c.from_residual.ensures.1 a

pub returns : goal.returns
unfolding number_of
returns c = λ format.
    let a = rw (c.place.ensures.value, c.from.ensures) at c.in_ok-put_number.ensures in
    then_writes a (c.write_terminator.ensures format)
