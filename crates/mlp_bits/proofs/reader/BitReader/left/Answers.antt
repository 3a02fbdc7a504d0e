use Rattle.std.proofs.Common.{length, arith, ap}
use Rattle.mlp_bits.specs.Cursor.{Cursor}
use Rattle.mlp_bits.proofs.BitLists.{length-bits_of}
use Rattle.mlp_bits.proofs.Fields.{view-length}
use Rattle.mlp_bits.proofs.reader.BitReader.left.Goals as goal

pub returns-clause-value : goal.returns-clause-value
returns-clause-value c = omega (arith, view-length c.self.inside.bytes.now c.self.inside.place c.args.self.now c.self.view_is)

pub returns-clause-rest : goal.returns-clause-rest
returns-clause-rest c = omega (arith, c.self.invariant.0, length-bits_of c.self.inside.bytes.now, ap (λ (d : Cursor). length d.all) c.self.view_is, ap (λ (d : Cursor). d.place) c.self.view_is)
