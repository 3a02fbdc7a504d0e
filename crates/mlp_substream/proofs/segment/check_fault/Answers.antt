use Rattle.std.proofs.Common.{◌-◌, length, sym, ◌∙◌, arith}
use Rattle.mlp_substream.proofs.CheckLaws.{AreBytes, short_fault, parity_fault, check_fault, no_fault}
use Rattle.mlp_substream.proofs.segment.check_fault.Goals as goal

pub returns-then-bytes-lt4 : goal.returns-then-bytes-lt4
returns-then-bytes-lt4 c = rw c.broken.ensures (sym (short_fault c.args.bytes.now c.if-bytes-lt4.true))

pub returns-then-bytes-end : goal.returns-then-bytes-end
returns-then-bytes-end c =
    let bytes = c.args.bytes.now in
    let small : AreBytes bytes = λ i. omega (arith, c.type_inv.bytes i) in
    let read = parity_fault bytes (length bytes - 2) small (omega arith) (omega arith) (λ e. c.if-bytes-end.true (e ∙ sym c.segment_parity.ensures)) in
    rw c.broken-then-bytes-end.ensures (sym read)

pub returns-then-bytes-end-2 : goal.returns-then-bytes-end-2
returns-then-bytes-end-2 c =
    let bytes = c.args.bytes.now in
    let small : AreBytes bytes = λ i. omega (arith, c.type_inv.bytes i) in
    let read = check_fault bytes (length bytes - 2) small (omega arith) (omega arith) (c.if-bytes-end.false ∙ c.segment_parity.ensures) (λ e. c.if-bytes-end-2.true (e ∙ sym c.check8.ensures)) in
    rw c.broken-then-bytes-end-2.ensures (sym read)

pub returns : goal.returns
returns c =
    let bytes = c.args.bytes.now in
    let small : AreBytes bytes = λ i. omega (arith, c.type_inv.bytes i) in
    sym (no_fault bytes (length bytes - 2) small (omega arith) (omega arith) (c.if-bytes-end.false ∙ c.segment_parity.ensures) (c.if-bytes-end-2.false ∙ c.check8.ensures))
