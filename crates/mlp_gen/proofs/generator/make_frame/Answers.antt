use Rattle.std.proofs.Common.{◌≡◌, ◌∙◌, ◌+◌, ◌-◌, ◌++◌, ◌<◌, ℕ, List, length, drop, set, map, ℤ, pos, w32, to_z, of_z, refl, sym, ap, arith}
use Rattle.std.specs.List.{range_with_len}
use Rattle.std.proofs.lemmas.Int.{to_z-of_z}
use Rattle.std.proofs.lemmas.List.{drop-replicate, length-set}
use Rattle.mlp_encode.proofs.Lists.{range_put}
use Rattle.mlp_gen.specs.Generator.{next_state, state_after, sample}
use Rattle.mlp_gen.proofs.Samples.{state_next}
use Rattle.mlp_gen.proofs.generator.make_frame.Goals as goal

pub loop-c-init : goal.loop-c-init
unfolding state_after
loop-c-init c = record { row = refl; eight = ap (λ (xs : List ℤ). length xs) c.requires.zeros; last = refl }

pub loop-c-preserved : goal.loop-c-preserved
loop-c-preserved c =
    let k = c.loop-c.c in
    let old = c.args.row.now in
    let now = c.loop-c.row in
    let f : ℕ → ℤ = λ n. sample c.args.low (state_after c.args.state (n + 1)) c.args.frame n in
    let last = c.next_state-last.ensures ∙ ap next_state c.loop-c.invariant.last ∙ state_next c.args.state k in
    let v = to_z-of_z w32 c.sample.result (record { sfits = c.sample.type_inv }) ∙ c.sample.ensures ∙ ap (λ s. sample c.args.low s c.args.frame k) last in
    let none : k - 0 ≡ k = omega arith in
    let more : k + 1 - 0 ≡ k + 1 = omega arith in
    let below : k < length old = omega (arith, c.told-row, c.loop-c-test.true, c.requires.channels) in
    record {
      row = ap (λ i. set now i (to_z w32 (of_z w32 c.sample.result))) c.from.ensures ∙ ap (λ z. set now k z) v
          ∙ range_put old now f 0 k (pos 0) (omega arith) below (c.loop-c.invariant.row ∙ ap (λ n. map f (range_with_len 0 n) ++ drop k old) (sym none))
          ∙ ap (λ n. map f (range_with_len 0 n) ++ drop (k + 1) old) more;
      eight = length-set now c.from.result (to_z w32 (of_z w32 c.sample.result)) ∙ c.loop-c.invariant.eight;
      last = last;
    }

pub returns-clause-frame : goal.returns-clause-frame
returns-clause-frame c =
    let n = c.args.channels in
    let f : ℕ → ℤ = λ n. sample c.args.low (state_after c.args.state (n + 1)) c.args.frame n in
    let end : c.loop-c.c ≡ n = omega (arith, c.loop-c-test.false, c.loop-c.auto.c-end) in
    c.loop-c.invariant.row ∙ ap (λ m. map f (range_with_len 0 m) ++ drop m c.args.row.now) end
    ∙ ap (λ xs. map f (range_with_len 0 n) ++ xs) (ap (drop n) c.requires.zeros ∙ drop-replicate n 8 (pos 0))

pub returns-clause-state : goal.returns-clause-state
returns-clause-state c =
    let end : c.loop-c.c ≡ c.args.channels = omega (arith, c.loop-c-test.false, c.loop-c.auto.c-end) in
    c.loop-c.invariant.last ∙ ap (state_after c.args.state) end
