use Rattle.std.proofs.Common.{◌≡◌, ◌∙◌, ◌+◌, ◌-◌, ◌*◌, ◌++◌, ◌∷◌, [], ℕ, List, map, ℤ, refl, sym, ap, arith}
use Rattle.std.specs.List.{range_with_len}
use Rattle.std.proofs.lemmas.List.FromFn.{map-range_with_len_more}
use Rattle.mlp_gen.specs.Generator.{state_after, frame_from, frame_at}
use Rattle.mlp_gen.proofs.Samples.{state_more, more_times}
use Rattle.mlp_gen.proofs.generator.make_unit.Goals as goal

pub loop-i-preserved : goal.loop-i-preserved
loop-i-preserved c =
    let p = c.args.profile.now in
    let n = p.channels in
    let first = c.args.first in
    let i = c.loop-i.i in
    record {
      rows = λ seed e.
          let s = c.loop-i.invariant.last seed e in
          let row = c.make_frame-last.ensures.frame ∙ ap (λ (s : ℕ). frame_from (24 - p.depth) n s (first + i)) s in
          c.push.ensures.items ∙ ap (λ (xs : List (List ℤ)). xs ++ c.make_frame-last.new.row ∷ []) (c.loop-i.invariant.rows seed e)
          ∙ ap (λ (r : List ℤ). map (frame_at p seed) (range_with_len first i) ++ r ∷ []) row ∙ sym (map-range_with_len_more (frame_at p seed) first i (first + i) refl);
      last = λ seed e.
          c.make_frame-last.ensures.state ∙ ap (λ (s : ℕ). state_after s n) (c.loop-i.invariant.last seed e) ∙ state_more seed ((first + i) * n) n ∙ ap (state_after seed) (more_times first i n);
      count = c.push.ensures.len ∙ ap (λ (m : ℕ). m + 1) c.loop-i.invariant.count;
    }

pub returns-clause-frames : goal.returns-clause-frames
returns-clause-frames c = λ seed e.
    let end : c.loop-i.i ≡ c.args.count = omega (arith, c.loop-i-test.false, c.loop-i.auto.i-end) in
    c.loop-i.invariant.rows seed e ∙ ap (λ (m : ℕ). map (frame_at c.args.profile.now seed) (range_with_len c.args.first m)) end

pub returns-clause-state : goal.returns-clause-state
returns-clause-state c = λ seed e.
    let end : c.loop-i.i ≡ c.args.count = omega (arith, c.loop-i-test.false, c.loop-i.auto.i-end) in
    c.loop-i.invariant.last seed e ∙ ap (λ (m : ℕ). state_after seed ((c.args.first + m) * c.args.profile.now.channels)) end
