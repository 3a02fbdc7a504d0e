use Rattle.mlp_bits.proofs.Tables.{by-table8, table_restart}
use Rattle.mlp_bits.proofs.checks.with_restart_byte.Goals as goal
use Rattle.std.proofs.Common.{arith}

pub returns : goal.returns
returns c = by-table8 29 c.args.rest c.args.byte _ (omega arith) table_restart (omega arith) (omega arith)
