use Rattle.std.proofs.Common.{◌≡◌, ◌+◌, ℕ, [], ◌∷◌, ◌++◌, length, arith, subst, sym, ap, ◌∙◌}
use Rattle.std.proofs.lemmas.List.{length-append}
use Rattle.circular_buffer.specs.Buffer.{keep_last, Buffer}
use Rattle.mlp_fifo.specs.Arrivals.{IsHeld}
use Rattle.mlp_fifo.proofs.Keeps.{kept_length, held_pushed}
use Rattle.mlp_fifo.proofs.arrivals.Arrivals.keep.Goals as goal

-- the buffer holds as many as it is to keep
items_are : (new : Buffer ℕ) (old : Buffer ℕ) (bytes : ℕ) → old.capacity ≡ 91
    → new ≡ record { items = keep_last old.capacity (old.items ++ bytes ∷ []); capacity = old.capacity } → new.items ≡ keep_last 91 (old.items ++ bytes ∷ [])
items_are new old bytes e f = ap (λ b. b.items) f ∙ ap (λ n. keep_last n (old.items ++ bytes ∷ [])) e

pub invariant_of-self-clause-kept : goal.invariant_of-self-clause-kept
invariant_of-self-clause-kept c =
    let old = c.args.self.now in
    let e = items_are c.push_back.new.self old.latest c.args.bytes old.capacity c.push_back.ensures.items in
    let k = ap length e ∙ kept_length (old.latest.items ++ c.args.bytes ∷ []) in
    let l = length-append old.latest.items (c.args.bytes ∷ []) in
    (omega (arith, k, l), omega (arith, k, l, old.kept.1))

pub invariant_of-self-clause-held_is : goal.invariant_of-self-clause-held_is
invariant_of-self-clause-held_is c =
    let old = c.args.self.now in
    let e = items_are c.push_back.new.self old.latest c.args.bytes old.capacity c.push_back.ensures.items in
    subst (λ xs. IsHeld xs (record { units = c.recent-held.result.units + 1; bytes = c.recent-held.result.bytes + c.args.bytes })) (sym e)
    (held_pushed old.latest.items c.recent-held.result c.args.bytes c.recent-held.ensures.held (omega (arith, c.recent-held.ensures.units)) old.kept.0)
