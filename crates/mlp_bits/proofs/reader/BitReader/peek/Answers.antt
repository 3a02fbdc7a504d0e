use Rattle.std.proofs.Common.{List, Bool, take, sym, ap, ◌∙◌, arith}
use Rattle.mlp_bits.specs.Bits.{number}
use Rattle.mlp_bits.specs.Cursor.{left}
use Rattle.mlp_bits.proofs.Fields.{view-length}
use Rattle.mlp_bits.proofs.Peeking.{peeked-fits, peeked-whole, peeked-shifted}
use Rattle.mlp_bits.proofs.reader.BitReader.peek.Goals as goal

pub number_at-requires-clause-within : goal.number_at-requires-clause-within
number_at-requires-clause-within c =
    let v = view-length c.self.inside.bytes.now c.self.inside.place c.args.self.now c.self.view_is in
    omega (arith, v, c.left-left.ensures.value, c.self.invariant.0)

pub number_at-requires-else-width-left-clause-within : goal.number_at-requires-else-width-left-clause-within
number_at-requires-else-width-left-clause-within c =
    let v = view-length c.self.inside.bytes.now c.self.inside.place c.args.self.now c.self.view_is in
    omega (arith, v, c.left-left.ensures.value, c.self.invariant.0)

pub returns-then-width-left-clause-value : goal.returns-then-width-left-clause-value
returns-then-width-left-clause-value c =
    c.number_at.ensures ∙ ap (λ (t : List Bool). number (take c.args.width t)) (ap left c.self.view_is) ∙ sym (peeked-whole c.args.width c.args.self.now (omega (arith, c.left-left.ensures.value)))

pub returns-then-width-left-clause-fits : goal.returns-then-width-left-clause-fits
returns-then-width-left-clause-fits c = rw (returns-then-width-left-clause-value c) (peeked-fits c.args.width c.args.self.now)

pub returns-else-width-left-clause-value : goal.returns-else-width-left-clause-value
returns-else-width-left-clause-value c =
    peeked-shifted c.args.width c.left-left.result c.number_at-else-width-left.result c.args.self.now c.left-left.ensures.value (omega arith) c.requires
    (c.number_at-else-width-left.ensures ∙ ap (λ (t : List Bool). number (take c.left-left.result t)) (ap left c.self.view_is))

pub returns-else-width-left-clause-fits : goal.returns-else-width-left-clause-fits
returns-else-width-left-clause-fits c = rw (returns-else-width-left-clause-value c) (peeked-fits c.args.width c.args.self.now)
