-- A segment that is sent can be written.
use Rattle.std.proofs.Common.{◌≡◌, ℕ, suc, ◌<◌, ◌^◌, Bool, true, false, List, [], ◌∷◌, length, Option, Some, None, refl, sym, ap, ◌∙◌, subst, arith}
use Rattle.std.specs.Prelude.{IfSome, ◌==◌, ◌||◌, is_some}
use Rattle.std.proofs.lemmas.Bool.{eq-eqb}
use Rattle.std.proofs.Math.Pow.{pow_pos}
use Rattle.mlp_syntax.specs.declared.major.Kind.{Kind}
use Rattle.mlp_syntax.specs.declared.fault.Field.{Field}
use Rattle.mlp_syntax.specs.declared.segment.Segment.{Segment}
use Rattle.mlp_layout.specs.Layout.{Layout, number_of, part, made, item, MeetsAs}
use Rattle.mlp_layout.specs.Combined.{chosen, up_to_last}
use Rattle.mlp_layout.specs.Tails.{part_tail, placed, ending, whole_text, judged_at_end, checked_first, chosen_whole}
use Rattle.mlp_layout.specs.Allowed.{Allowed}
use Rattle.mlp_layout.proofs.Fitting.{flag_fits}
use Rattle.mlp_params.specs.declared.state.State.{State}
use Rattle.mlp_substream.specs.declared.known.Place.{Place}
use Rattle.mlp_substream.specs.Blocks.{Block, first_context}
use Rattle.mlp_substream.specs.Segment.{nested, heads_of, codes_of, terminator, end_fault, end_rules, most_blocks, blocks_from, segment_tail, segment_text, segment, unknown, IsAllowed}
use Rattle.mlp_encode.proofs.FramesMeet.{flag_meets}

-- ---- one block, and two

module _ {S A : Type 0} (value : S → Layout A) (after : S → A → S) (field : Field) where
  pub last_one : (n : ℕ) (s : S) (x : A) → Allowed (value s) x → Allowed (up_to_last value after field (suc n) s) (x ∷ [])
  unfolding up_to_last item part chosen made
  last_one n s x a = record { fits = (a.fits, (flag_fits true, refl)); meets = (a.meets, (flag_meets true, tt)) }

  pub first_one : (n : ℕ) (s : S) (x y : A) → Allowed (value s) x → Allowed (up_to_last value after field n (after s x)) (y ∷ []) → Allowed (up_to_last value after field (suc n) s) (x ∷ y ∷ [])
  unfolding up_to_last item part chosen
  first_one n s x y a r = record { fits = (a.fits, (flag_fits false, r.fits)); meets = (a.meets, (flag_meets false, r.meets)) }

-- ---- the end

terminator_there : (format : Kind) (o : Option ℕ) → IfSome o (λ word. (terminator format).Fits word) → MeetsAs (terminator format).Fits o
terminator_there format None h = tt
terminator_there format (Some word) h = h

terminator_meets : (format : Kind) (o : Option ℕ) → IfSome o (λ word. (terminator format).Meets word) → MeetsAs (terminator format).Meets o
terminator_meets format None h = tt
terminator_meets format (Some word) h = h

end_none : (b o : Bool) (k : ℕ) → b ≡ true → end_fault true (b || o) k ≡ None
end_none true o k e = refl
end_none false o k e = absurd (let t : false ≡ true = e in cc)

module _ (place : Place) (force : Option State) (s : Segment) (bs : List Block) where
  -- what makes a segment of blocks
  pub record SegmentParts : Type 0 where
    pub nested_are : nested s.blocks.items s.codes.items ≡ bs
    pub heads_are : heads_of bs ≡ s.blocks.items
    pub codes_are : codes_of bs ≡ s.codes.items
    pub blocks_are : Allowed (blocks_from place unknown most_blocks (first_context place force)) bs
    pub no_padding : s.padding ≡ 0
    pub checks : s.checked ≡ true
    pub end_fits : IfSome s.terminator (λ word. (terminator place.format).Fits word)
    pub end_meets : IfSome s.terminator (λ word. (terminator place.format).Meets word)
    pub count : length s.codes.items ≡ place.unit_frames

  module _ (p : SegmentParts) where
    blocks_there : Allowed (blocks_from place unknown most_blocks (first_context place force)) (nested s.blocks.items s.codes.items)
    blocks_there = subst (λ (xs : List Block). Allowed (blocks_from place unknown most_blocks (first_context place force)) xs) (sym p.nested_are) p.blocks_are

    padding_there : (n : ℕ) → s.padding < 2 ^ n
    padding_there n = let some = pow_pos n in omega (arith, p.no_padding, some)

    made_there : record {
      blocks = record { items = heads_of (nested s.blocks.items s.codes.items) };
      codes = record { items = codes_of (nested s.blocks.items s.codes.items) };
      padding =
          s.padding;
      terminator = s.terminator;
      checked = true;
    } ≡ s
    made_there =
        ap (λ (xs : List Block). let x : Segment = record { blocks = record { items = heads_of xs }; codes = record { items = codes_of xs }; padding = s.padding; terminator = s.terminator; checked = true } in x) p.nested_are
        ∙ ap (λ xs. let x : Segment = record { blocks = record { items = xs }; codes = record { items = codes_of bs }; padding = s.padding; terminator = s.terminator; checked = true } in x) p.heads_are
        ∙ ap (λ xs. let x : Segment = record { blocks = s.blocks; codes = record { items = xs }; padding = s.padding; terminator = s.terminator; checked = true } in x) p.codes_are
        ∙ ap (λ (b : Bool). let x : Segment = record s { checked = b } in x) (sym p.checks)

    pub segment_there : IsAllowed (segment place unknown force true) s
    unfolding segment segment_text segment_tail part_tail placed ending whole_text judged_at_end checked_first chosen_whole end_rules number_of
    segment_there =
        let whole : (length s.codes.items == place.unit_frames) ≡ true = eq-eqb (length s.codes.items) place.unit_frames p.count in
        record {
          fits = (blocks_there.fits, (padding_there _, (terminator_there place.format s.terminator p.end_fits, made_there)));
          meets = ((blocks_there.meets, (tt, terminator_meets place.format s.terminator p.end_meets)), end_none (length s.codes.items == place.unit_frames) (is_some s.terminator) _ whole);
        }
