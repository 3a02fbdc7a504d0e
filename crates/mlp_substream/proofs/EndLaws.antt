-- How a segment is read, once its parts were.
use Rattle.std.proofs.Common.{◌≡◌, ℕ, ◌+◌, ◌-◌, ◌≤◌, Bool, true, false, cond, eqb, leb, List, length, Result, Ok, Err, Option, Some, None, refl, ap, ◌∙◌}
use Rattle.std.proofs.lemmas.Bool.{leb-true}
use Rattle.mlp_syntax.specs.declared.segment.Segment.{Segment}
use Rattle.mlp_syntax.specs.declared.fault.Field.{Field}
use Rattle.mlp_syntax.specs.declared.fault.Field.TheVariants as rule
use Rattle.mlp_syntax.specs.declared.fault.Broken.{Broken}
use Rattle.mlp_layout.specs.Reading.{Read, broken, short}
use Rattle.mlp_layout.specs.Layout.{Layout, number_of}
use Rattle.mlp_layout.specs.Tails.{then_tail, ending_read, part_tail, placed, ending, whole_text, Whole, EndJudge, judged_at_end, checked_part, parity_is, check_is, checked_first, chosen_whole}
use Rattle.mlp_params.specs.declared.state.State.{State}
use Rattle.mlp_substream.specs.declared.known.Place.{Place}
use Rattle.mlp_substream.specs.declared.known.Known.{Known}
use Rattle.mlp_substream.specs.Checks.{parity_of, check_of, checks_fault}
use Rattle.mlp_substream.specs.Blocks.{BlockContext, Block}
use Rattle.mlp_substream.specs.Segment.{heads_of, codes_of, terminator, padding_width, most_blocks, segment_tail, segment_text, segment, blocks_from}

abbrev none_of : Option Broken
none_of = None

abbrev done : {R : Type 0} → R → Result R Broken
done r = Ok r

abbrev made_of : {T R : Type 0} → (Option T → R) → Result (Option T) Broken → Result R Broken
made_of made (Ok o) = Ok (made o)
made_of made (Err e) = Err e

pub ending_made : {T R : Type 0} (field : Field) (width : ℕ) (last : Layout T) (made : Option T → R) (all : List Bool) (p : ℕ) → ending_read field width last made all p ≡ made_of made (ending_read field width last (λ t. t) all p)
ending_made field width last made all p = go (eqb (length all) p) (eqb (length all) (p + width)) (last.read all p)
  where
    go : (a b : Bool) (r : Read _) → cond a (done (made None)) (cond b (then_tail r (λ t. done (made (Some t.0)))) (Err (broken field p)))
        ≡ made_of made (cond a (done None) (cond b (then_tail r (λ t. done (Some t.0))) (Err (broken field p))))
    go true b r = refl
    go false true (Ok x) = refl
    go false true (Err e) = refl
    go false false r = refl

abbrev record_of : List Block → Bool → ℕ → Option ℕ → Segment
record_of bs checked padding t = record { blocks = record { items = heads_of bs }; codes = record { items = codes_of bs }; padding = padding; terminator = t; checked = checked }

module _ (place : Place) (known : Known) (at : BlockContext) (checked : Bool) (all : List Bool) where
  pub tail_blocks_fail : (e : Broken) → (blocks_from place known most_blocks at).read all 0 ≡ Err e → (whole_text (segment_tail place known at checked)).read all ≡ Err e
  unfolding whole_text segment_tail part_tail
  tail_blocks_fail e h = rw h refl

  module _ (bs : List Block) (q : ℕ) (h : (blocks_from place known most_blocks at).read all 0 ≡ Ok (bs, q)) where
    pub tail_padding_fails : (e : Broken) → (number_of (padding_width q)).read all q ≡ Err e → (whole_text (segment_tail place known at checked)).read all ≡ Err e
    unfolding whole_text segment_tail part_tail placed
    tail_padding_fails e k = rw (h, k) refl

    module _ (padding r : ℕ) (k : (number_of (padding_width q)).read all q ≡ Ok (padding, r)) where
      pub tail_end_fails : (e : Broken) → ending_read rule.SegmentEnd 32 (terminator place.format) (λ t. t) all r ≡ Err e → (whole_text (segment_tail place known at checked)).read all ≡ Err e
      unfolding whole_text segment_tail part_tail placed ending
      tail_end_fails e l = rw (h, k) (ending_made rule.SegmentEnd 32 (terminator place.format) (record_of bs checked padding) all r ∙ ap (made_of (record_of bs checked padding)) l)

      pub tail_reads : (t : Option ℕ) → ending_read rule.SegmentEnd 32 (terminator place.format) (λ t. t) all r ≡ Ok t
          → (whole_text (segment_tail place known at checked)).read all ≡ Ok (record { blocks = record { items = heads_of bs }; codes = record { items = codes_of bs }; padding = padding; terminator = t; checked = checked })
      unfolding whole_text segment_tail part_tail placed ending
      tail_reads t l = rw (h, k) (ending_made rule.SegmentEnd 32 (terminator place.format) (record_of bs checked padding) all r ∙ ap (made_of (record_of bs checked padding)) l)

-- ---- the rules at the end

pub end_fails : {R : Type 0} (judge : EndJudge R) (v : Whole R) (all : List Bool) (e : Broken) → v.read all ≡ Err e → (judged_at_end judge v).read all ≡ Err e
unfolding judged_at_end
end_fails judge v all e h = rw h refl

pub end_meets : {R : Type 0} (judge : EndJudge R) (v : Whole R) (all : List Bool) (r : R) → v.read all ≡ Ok r → judge (length all) r ≡ None → (judged_at_end judge v).read all ≡ Ok r
unfolding judged_at_end
end_meets judge v all r h k = rw (h, k) refl

pub end_breaks : {R : Type 0} (judge : EndJudge R) (v : Whole R) (all : List Bool) (r : R) (b : Field × ℕ) → v.read all ≡ Ok r → judge (length all) r ≡ Some b → (judged_at_end judge v).read all ≡ Err (broken b.0 b.1)
unfolding judged_at_end
end_breaks judge v all r b h k = rw (h, k) refl

-- ---- checks

fault_or : {R : Type 0} → Option Broken → Result R Broken → Result R Broken
fault_or None r = r
fault_or (Some e) r = Err e

module _ {R : Type 0} (v : Whole R) (all : List Bool) where
  checked_by : (checked_first parity_of check_of v).read all ≡ fault_or (checks_fault all) (v.read (checked_part all))
  unfolding checked_first fault_or
  checked_by = go (leb 32 (length all)) (parity_is parity_of all) (check_is check_of all)
    where
      go : (l p c : Bool) → cond l (cond p (cond c (v.read (checked_part all)) (Err (broken rule.SegmentCheck (length all - 8)))) (Err (broken rule.SegmentParity (length all - 16)))) (Err (short 0))
          ≡ fault_or (cond l (cond p (cond c None (Some (broken rule.SegmentCheck (length all - 8)))) (Some (broken rule.SegmentParity (length all - 16)))) (Some (short 0))) (v.read (checked_part all))
      go false p c = refl
      go true false c = refl
      go true true false = refl
      go true true true = refl

  pub checked_fails : (e : Broken) → checks_fault all ≡ Some e → (checked_first parity_of check_of v).read all ≡ Err e
  unfolding fault_or
  checked_fails e h = checked_by ∙ rw h refl

  pub checked_text : checks_fault all ≡ None → (checked_first parity_of check_of v).read all ≡ v.read (checked_part all)
  unfolding fault_or
  checked_text h = checked_by ∙ rw h refl

pub checked_long : (all : List Bool) → checks_fault all ≡ None → 32 ≤ length all
checked_long all h = go (leb 32 (length all)) (parity_is parity_of all) (check_is check_of all) refl h
  where
    go : (l p c : Bool) → leb 32 (length all) ≡ l
        → cond l (cond p (cond c none_of (Some (broken rule.SegmentCheck (length all - 8)))) (Some (broken rule.SegmentParity (length all - 16)))) (Some (short 0)) ≡ None → 32 ≤ length all
    go true p c e h = leb-true _ _ e
    go false p c e h = absurd cc

-- ---- the segment with its checks, and without

module _ (place : Place) (known : Known) (force : Option State) where
  pub segment_checked : (checked : Bool) (all : List Bool) → checked ≡ true → (segment place known force checked).read all ≡ (checked_first parity_of check_of (segment_text place known force true)).read all
  unfolding segment chosen_whole
  segment_checked true all h = refl
  segment_checked false all h = absurd cc

  pub segment_plain : (checked : Bool) (all : List Bool) → checked ≡ false → (segment place known force checked).read all ≡ (segment_text place known force false).read all
  unfolding segment chosen_whole
  segment_plain true all h = absurd cc
  segment_plain false all h = refl
