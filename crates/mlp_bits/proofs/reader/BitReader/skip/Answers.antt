use Rattle.std.proofs.Common.{arith}
use Rattle.mlp_bits.proofs.Fields.{view-length}
use Rattle.mlp_bits.proofs.reader.BitReader.skip.Goals as goal

pub overflow_add-self : goal.overflow_add-self
overflow_add-self c =
    let v = view-length c.self.inside.bytes.now c.self.inside.place c.args.self.now c.self.view_is in
    record { fits = omega (arith, v, c.requires, c.self.invariant.0, c.self.invariant.1) }

pub invariant_of-self : goal.invariant_of-self
invariant_of-self c =
    let v = view-length c.self.inside.bytes.now c.self.inside.place c.args.self.now c.self.view_is in
    (omega (arith, v, c.requires, c.self.invariant.0), c.self.invariant.1)
