use Rattle.std.proofs.Common.{◌≡◌, ◌≤◌, ℕ, ℤ, List, length, map, neg_ℤ, reverse, to_z, of_z, w32, arith, sym, ap, subst, ◌∙◌}
use Rattle.std.specs.Prelude.{All, FitsSigned, unsigned_abs}
use Rattle.std.proofs.lemmas.Int.{ints, to_z-of_z}
use Rattle.std.proofs.lemmas.List.{length-reverse}
use Rattle.mlp_arith.specs.Ranges.{Is26}
use Rattle.mlp_arith.specs.Words.{floor_by}
use Rattle.mlp_search.specs.Folded.{stepped}
use Rattle.mlp_search.specs.Lines.{IsLight, alone_by, left_in, excesses}
use Rattle.mlp_search.proofs.LineFits.{rises_small}
use Rattle.mlp_search.proofs.LineLaws.{all_reverse, short_light}
use Rattle.mlp_search.proofs.RecursiveLaws.{halved, halved_by, halved_block, halved_fits, excesses_few}
use Rattle.mlp_search.proofs.recursive.put_halved.Goals as goal

rises : (taps whole : List ℤ) (q : ℕ) → length taps ≤ 2 → All (λ (c : ℤ). unsigned_abs c ≤ 2) taps → All Is26 (map (stepped q) whole)
    → All (λ (d : ℤ). unsigned_abs d ≤ 268435456) (map (stepped q) (left_in (alone_by (reverse taps) 0) whole))
rises taps whole q few light small = rises_small (reverse taps) q whole (omega (arith, few, length-reverse taps)) (all_reverse (λ (c : ℤ). unsigned_abs c ≤ 2) taps light) small

left : (q : ℕ) (g : ℤ) (values above ds es : List ℤ) → FitsSigned w32 g → above ≡ excesses q (to_z w32 (of_z w32 g)) ds → ds ≡ es → values ≡ map (λ (e : ℤ). neg_ℤ (floor_by q e)) above → values ≡ halved q g es
left q g values above ds es f e same is =
    is
    ∙ ap (map (λ (x : ℤ). neg_ℤ (floor_by q x))) (e ∙ ap (λ (h : ℤ). excesses q h ds) (to_z-of_z w32 g f) ∙ ap (excesses q g) same)
    ∙ halved_by q g es

-- first and second differences have light coefficients
light : (taps : List ℤ) → All (λ (c : ℤ). unsigned_abs c ≤ 2) taps → All IsLight (reverse taps)
light taps few = all_reverse IsLight taps (λ k d l. let h = few k d l in record { low = omega (arith, ints, h); high = omega (arith, ints, h) })

pub reduce_short-requires : goal.reduce_short-requires
reduce_short-requires g c = (
  omega arith,
  (
    omega arith,
    (
      short_light (reverse c.args.taps.now) c.args.line.now.whole.now (light c.args.taps.now c.requires.light) c.requires.words (omega (arith, length-reverse c.args.taps.now)),
      (omega arith, (c.requires.words, c.requires.room)),
    ),
  ),
)

pub halve-requires-clause-rises : goal.halve-requires-clause-rises
halve-requires-clause-rises g c =
    subst (λ (ds : List ℤ). All (λ (d : ℤ). unsigned_abs d ≤ 268435456) (map (stepped c.args.step) ds)) (sym c.reduce_short.ensures)
    (rises c.args.taps.now c.args.line.now.whole.now c.args.step (omega arith) c.requires.light c.requires.small)

pub put_left-requires-clause-few : goal.put_left-requires-clause-few
put_left-requires-clause-few g c =
    subst (λ (es : List ℤ). All (λ (e : ℤ). unsigned_abs e ≤ 536870912) es)
    (sym (c.halve.ensures ∙ ap (λ (h : ℤ). excesses c.args.step h c.reduce_short.new.values) (to_z-of_z w32 c.args.excess c.ranges.excess) ∙ ap (excesses c.args.step c.args.excess) c.reduce_short.ensures))
    (excesses_few c.args.step c.args.excess (left_in (alone_by (reverse c.args.taps.now) 0) c.args.line.now.whole.now) c.requires.excess
    (rises c.args.taps.now c.args.line.now.whole.now c.args.step (omega arith) c.requires.light c.requires.small))

pub returns-clause-value : goal.returns-clause-value
returns-clause-value g c =
    λ past samples es is e.
    let whole : List ℤ = c.args.line.now.whole.now in
    ap (map (stepped c.args.step)) (left c.args.step c.args.excess c.put_left.new.values c.halve.new.values c.reduce_short.new.values _ c.ranges.excess c.halve.ensures c.reduce_short.ensures c.put_left.ensures)
    ∙ halved_block (reverse c.args.taps.now) c.args.step past samples es whole c.args.line.now.high.now c.args.line.now.low.now c.args.excess is.parts e c.requires.excess
    (rises c.args.taps.now whole c.args.step (omega arith) c.requires.light c.requires.small)

pub returns-clause-fits : goal.returns-clause-fits
returns-clause-fits g c =
    subst (λ (vs : List ℤ). All (FitsSigned w32) (map (stepped c.args.step) vs))
    (sym (left c.args.step c.args.excess c.put_left.new.values c.halve.new.values c.reduce_short.new.values _ c.ranges.excess c.halve.ensures c.reduce_short.ensures c.put_left.ensures))
    (halved_fits c.args.step c.args.excess (left_in (alone_by (reverse c.args.taps.now) 0) c.args.line.now.whole.now) c.requires.step c.requires.excess
    (rises c.args.taps.now c.args.line.now.whole.now c.args.step (omega arith) c.requires.light c.requires.small))
