use Rattle.std.proofs.Common.{rules, ◌≡◌, ◌-ℤ◌, ℤ, pos, get_or, to_z, of_z, w32, arith, ap, ◌∙◌}
use Rattle.std.specs.Prelude.{FitsSigned}
use Rattle.std.proofs.lemmas.Int.{to_z-of_z}
use Rattle.mlp_arith.specs.Words.{floor_by}
use Rattle.mlp_search.specs.Folded.{stepped}
use Rattle.mlp_search.specs.Lines.{excesses}
use Rattle.mlp_search.proofs.RecursiveLaws.{excesses_more, excesses_all, rise_there, rises_more}
use Rattle.mlp_search.proofs.recursive.halve.Goals as goal

pub next_excess-excess-requires-clause-rise : goal.next_excess-excess-requires-clause-rise
next_excess-excess-requires-clause-rise c =
    let x : ℤ = get_or c.loop-i.values c.loop-i.i (pos 0) in
    let f : FitsSigned w32 x = search rules in
    rw (to_z-of_z w32 x f) (rise_there c.args.step c.loop-i.values c.loop-i.i (omega arith) c.loop-i.invariant.rises)

pub loop-i-preserved : goal.loop-i-preserved
loop-i-preserved c =
    let g : ℤ = to_z w32 c.loop-i.excess-bits in
    let x : ℤ = get_or c.loop-i.values c.loop-i.i (pos 0) in
    let f : FitsSigned w32 x = search rules in
    let next : c.next_excess-excess.result ≡ floor_by 1 (to_z w32 c.loop-i.excess-bits) -ℤ stepped c.args.step x =
    c.next_excess-excess.ensures.value ∙ ap (λ (v : ℤ). floor_by 1 (to_z w32 c.loop-i.excess-bits) -ℤ stepped c.args.step v) (to_z-of_z w32 x f)
    in
    let again : to_z w32 (of_z w32 c.next_excess-excess.result) ≡ c.next_excess-excess.result = to_z-of_z w32 c.next_excess-excess.result (record { sfits = c.next_excess-excess.type_inv }) in
    record {
      done = rw again (excesses_more c.args.step g c.loop-i.values _ c.loop-i.i c.next_excess-excess.result (omega arith) next c.loop-i.invariant.done);
      few = rw again c.next_excess-excess.ensures.few;
      rises = rises_more c.args.step c.loop-i.values c.loop-i.i (to_z w32 (of_z w32 c.next_excess-excess.result)) (omega arith) c.loop-i.invariant.rises;
    }

pub returns : goal.returns
returns c =
    excesses_all c.args.step (to_z w32 c.loop-i.excess-bits) c.loop-i.values _ c.loop-i.i (omega arith) c.loop-i.invariant.done
    ∙ ap (λ (g : ℤ). excesses c.args.step g c.args.values.now) (to_z-of_z w32 c.args.first c.ranges.first)
