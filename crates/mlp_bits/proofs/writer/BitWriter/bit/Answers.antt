use Rattle.std.proofs.Common.{arith}
use Rattle.mlp_bits.proofs.Writing.{written-length}
use Rattle.mlp_bits.proofs.Placing.{bit-whole, bit-behind}
use Rattle.mlp_bits.proofs.writer.BitWriter.bit.Goals as goal

pub overflow_sub-result-else-place-self : goal.overflow_sub-result-else-place-self
overflow_sub-result-else-place-self c = omega (arith, written-length c.self.inside.bytes c.self.inside.pending c.self.inside.place c.args.self.now (omega arith) c.self.view_is)

pub overflow_sub-result-else-place-self-2 : goal.overflow_sub-result-else-place-self-2
overflow_sub-result-else-place-self-2 c = omega (arith, written-length c.self.inside.bytes c.self.inside.pending c.self.inside.place c.args.self.now (omega arith) c.self.view_is)

pub returns-then-place-self : goal.returns-then-place-self
returns-then-place-self c = bit-whole c.self.inside.bytes c.self.inside.pending c.self.inside.place c.args.self.now c.args.place (omega arith) c.self.view_is (omega arith)

pub returns-else-place-self : goal.returns-else-place-self
returns-else-place-self c =
    let len = written-length c.self.inside.bytes c.self.inside.pending c.self.inside.place c.args.self.now (omega arith) c.self.view_is in
    bit-behind c.self.inside.bytes c.self.inside.pending c.self.inside.place c.args.self.now c.args.place (omega arith) c.self.view_is (omega arith) (omega (arith, len))
