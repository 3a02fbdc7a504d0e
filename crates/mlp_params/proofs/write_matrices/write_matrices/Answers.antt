use Rattle.std.proofs.Common.{[], ◌++◌, length, arith}
use Rattle.mlp_layout.specs.Layout.{part, ruled, number_of, made}
use Rattle.mlp_layout.specs.Combined.{times}
use Rattle.mlp_layout.proofs.WritingLaws.{then_writes, stops_writing}
use Rattle.mlp_params.specs.Matrices.{row, rows}
use Rattle.mlp_params.proofs.WritingMatrices.{rows_all, rows_count}
use Rattle.mlp_layout.proofs.WritingGroups.{ends_with}
use Rattle.mlp_params.proofs.write_matrices.write_matrices.Goals as goal

pub put_number-requires-clause-value : goal.put_number-requires-clause-value
put_number-requires-clause-value c = let few = rows_count c.requires.0 c.args.restart.now c.args.given.now c.requires.1 in omega (arith, few, c.len.ensures.value)

pub write_rows-requires : goal.write_rows-requires
write_rows-requires c = rw c.deref.ensures.0 (rows_all c.requires.0 c.args.restart.now c.args.given.now c.requires.1)

pub returns-in_err-put_number : goal.returns-in_err-put_number
unfolding rows part ruled number_of made
returns-in_err-put_number c = λ format.
    let r = c.args.restart.now in
    let items = c.args.given.now.items in
    let a = rw c.len.ensures.value at c.in_err-put_number.ensures in
    stops_writing _ ((times (length items) (row r)).spelling items ++ []) c.from_residual.result c.from_residual.ensures.1 a

pub returns : goal.returns
unfolding rows part ruled number_of made
returns c = λ format.
    let a = rw c.len.ensures.value at c.in_ok-put_number.ensures in
    let b = rw c.deref.ensures.0 at c.write_rows.ensures in
    then_writes a (ends_with b)
