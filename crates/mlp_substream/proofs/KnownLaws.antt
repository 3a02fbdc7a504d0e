-- What is known from elsewhere changes no spelling, and asks no more than that it is so.
use Rattle.std.proofs.Common.{◌≡◌, ℕ, zero, suc, ◌+◌, ◌-◌, Bool, true, false, eqb, List, [], ◌∷◌, length, take, drop, Option, Some, None, refl, sym, ap, subst}
use Rattle.std.specs.Prelude.{is_some, IfSome, ◌||◌, ◌↔◌}
use Rattle.std.specs.List.{All}
use Rattle.std.proofs.lemmas.Bool.{and_parts}
use Rattle.std.proofs.lemmas.List.Elements.{All-nil, All-cons}
use Rattle.mlp_syntax.specs.declared.fault.Field.{Field}
use Rattle.mlp_syntax.specs.declared.major.Kind.{Kind}
use Rattle.mlp_syntax.specs.declared.restart.Restart.{Restart}
use Rattle.mlp_syntax.specs.declared.segment.BlockHead.{BlockHead}
use Rattle.mlp_syntax.specs.declared.segment.FrameCode.{FrameCode}
use Rattle.mlp_syntax.specs.declared.segment.Segment.{Segment}
use Rattle.mlp_layout.specs.Layout.{seen, ruled, part, made, tested, never, item}
use Rattle.mlp_layout.specs.Combined.{under, fault_or, chosen, present, up_to_last}
use Rattle.mlp_layout.specs.Tails.{whole_text, judged_at_end, checked_first, chosen_whole}
use Rattle.mlp_params.specs.declared.state.State.{State}
use Rattle.mlp_layout.specs.Allowed.{Allowed}
use Rattle.mlp_substream.specs.declared.known.Place.{Place}
use Rattle.mlp_substream.specs.declared.known.Ending.{Ending}
use Rattle.mlp_substream.specs.declared.known.Known.{Known}
use Rattle.mlp_substream.specs.Restarts.{RestartHolds, judged_restart}
use Rattle.mlp_substream.specs.Blocks.{context_of, first_context, behind_flags, head, Block, block, after_head}
use Rattle.mlp_substream.specs.Segment.{nested, same_end, frames_fit, end_fault, end_rules, terminator_bits, blocks_from, segment_text, segment, unknown, IsAllowed, IsAsKnown}
use Rattle.mlp_substream.proofs.SegmentChanges.{Weaker, weaker_leads, blocks_weaker, blocks_in, segment_same, segment_fits, segment_allowed}
use Rattle.mlp_substream.proofs.WritingParts.{head_parts, block_parts}
use Rattle.mlp_substream.proofs.WritingEnds.{has_tail, meets_tail, tail_blocks}

-- ---- a restart

no_fault : (field : Field) (o : Option ℕ) (later : Option (Field × ℕ)) → fault_or field o later ≡ None → (o ≡ None) × (later ≡ None)
no_fault field None later e = (refl, e)
no_fault field (Some at) later e = absurd cc

no_faults : (d e f : Field) (a b c : Option ℕ) → a ≡ None → b ≡ None → c ≡ None → fault_or d a (fault_or e b (fault_or f c None)) ≡ None
no_faults d e f a b c h i j = rw (h, i, j) refl

-- the rules on a restart hold where it is allowed
restart_holds : (known : Known) (format : Kind) (o : Option Restart) → Allowed (present (is_some o) (judged_restart known format)) o → IfSome o (λ r. RestartHolds known r)
unfolding present chosen seen judged_restart under ruled
restart_holds known format None a = tt
restart_holds known format (Some r) a = no_faults _ _ _ _ _ _ a.meets.0.0.1 a.meets.0.1 a.meets.1

restart_known : (k m : Known) (format : Kind) (o : Option Restart) → IfSome o (λ r. RestartHolds m r) → Weaker (present (is_some o) (judged_restart k format)) (present (is_some o) (judged_restart m format)) o
unfolding present chosen seen made judged_restart under ruled
restart_known k m format None h = record { text = refl; fits = λ f. f; allowed = λ a. a }
restart_known k m format (Some r) h =
    let first = no_fault _ _ _ h in
    let second = no_fault _ _ _ first.1 in
    let third = no_fault _ _ _ second.1 in
    record { text = refl; fits = λ f. f; allowed = λ a. record { fits = a.fits; meets = (((a.meets.0.0.0, first.0), second.0), third.0) } }

-- ---- a block

head_known : (place : Place) (k m : Known) (due : Bool) (force : Option State) (h : BlockHead) → IfSome h.restart (λ r. RestartHolds m r) → Weaker (head place k due force) (head place m due force) h
unfolding head behind_flags part made
head_known place k m due force h holds =
    let w = restart_known k m place.format h.restart holds in
    record {
      text = rw w.text refl;
      fits = λ f. (f.0, (w.fits f.1.0, f.1.1));
      allowed = λ a. let r = w.allowed (record { fits = a.fits.1.0; meets = a.meets.1.0 }) in record { fits = (a.fits.0, (r.fits, a.fits.1.1)); meets = (a.meets.0, (r.meets, a.meets.1.1)) };
    }

block_known : (place : Place) (k m : Known) (force : Option State) (so_far : ℕ) (due : Bool) (b : Block) → IfSome b.head.restart (λ r. RestartHolds m r)
    → Weaker (block place k (context_of force so_far due)) (block place m (context_of force so_far due)) b
unfolding block part tested made
block_known place k m force so_far due b holds =
    let w = head_known place k m due force b.head holds in
    record {
      text = rw w.text refl;
      fits = λ f. (w.fits f.0, f.1);
      allowed = λ a. let h = w.allowed (record { fits = a.fits.0; meets = a.meets.0 }) in record { fits = (h.fits, a.fits.1); meets = (h.meets, a.meets.1) };
    }

-- ---- all blocks

abbrev HoldsIn : Known → BlockHead → Type 0
HoldsIn known h = IfSome h.restart (λ r. RestartHolds known r)

module _ (place : Place) (k m : Known) where
  blocks_known : (force : Option State) (hs : List BlockHead) (cs : List FrameCode) → All (HoldsIn m) hs → Weaker (blocks_in place k force) (blocks_in place m force) (nested hs cs)
  blocks_known force hs cs all =
      blocks_weaker place k m (λ f g. f ≡ g) (HoldsIn m)
      (λ f g e so_far due b h. subst (λ (x : Option State). Weaker (block place k (context_of f so_far due)) (block place m (context_of x so_far due)) b) e (block_known place k m f so_far due b h))
      (λ f g h e. ap (λ (x : Option State). after_head place x h) e)
      21 force force 0 place.major hs cs refl all

head_holds : (place : Place) (known : Known) (force : Option State) (so_far : ℕ) (due : Bool) (h : BlockHead) (cs : List FrameCode)
    → (let b : Block = record { head = h; frames = take h.frames cs } in Allowed (block place known (context_of force so_far due)) b) → HoldsIn known h
head_holds place known force so_far due h cs a =
    let b : Block = record { head = h; frames = take h.frames cs } in
    let parts = block_parts place known (context_of force so_far due) b a in
    restart_holds known place.format h.restart (head_parts place known due force h parts.head).restart

blocks_hold : (place : Place) (known : Known) (n : ℕ) (force : Option State) (so_far : ℕ) (due : Bool) (hs : List BlockHead) (cs : List FrameCode)
    → Allowed (blocks_from place known n (context_of force so_far due)) (nested hs cs) → All (HoldsIn known) hs
unfolding up_to_last never item part chosen nested
blocks_hold place known zero force so_far due hs cs a = absurd a.fits
blocks_hold place known (suc n) force so_far due [] cs a = absurd a.fits
blocks_hold place known (suc n) force so_far due (h ∷ []) cs a = All-cons (HoldsIn known) h [] (head_holds place known force so_far due h cs (record { fits = a.fits.0; meets = a.meets.0 })) (All-nil (HoldsIn known))
blocks_hold place known (suc n) force so_far due (h ∷ i ∷ hs) cs a =
    All-cons (HoldsIn known) h (i ∷ hs) (head_holds place known force so_far due h cs (record { fits = a.fits.0; meets = a.meets.0 }))
    (blocks_hold place known n (after_head place force h) (so_far + h.frames) false (i ∷ hs) (drop h.frames cs) (record { fits = a.fits.1.1; meets = a.meets.1.1 }))

-- where nothing is known nothing is asked
none_asked : (h : BlockHead) → HoldsIn unknown h
none_asked h = go h.restart
  where
    go : (o : Option Restart) → IfSome o (λ r. RestartHolds unknown r)
    go None = tt
    go (Some r) = refl

all_unknown : (hs : List BlockHead) → All (HoldsIn unknown) hs
all_unknown [] = All-nil (HoldsIn unknown)
all_unknown (h ∷ hs) = All-cons (HoldsIn unknown) h hs (none_asked h) (all_unknown hs)

-- ---- the rules at the end

no_end_fault : (a b : Bool) (place : ℕ) → end_fault a b place ≡ None → (a ≡ true) × (b ≡ true)
no_end_fault true true place e = (refl, refl)
no_end_fault true false place e = absurd cc
no_end_fault false b place e = absurd cc

end_weaker : (known : Known) (unit all : ℕ) (s : Segment) → end_rules known unit all s ≡ None → end_rules unknown unit all s ≡ None
unfolding end_rules
end_weaker known unit all s e = go known.first (no_end_fault (same_end known.first s) (frames_fit known.first unit s) (all - terminator_bits s) e).1
  where
    go : (first : Option Ending) → frames_fit first unit s ≡ true → end_fault true ((eqb (length s.codes.items) unit) || is_some s.terminator) (all - terminator_bits s) ≡ None
    go None h = rw h refl
    go (Some k) h = let whole = (and_parts ((eqb (length s.codes.items) unit) || is_some s.terminator) (eqb (length s.codes.items) k.frames) h).0 in rw whole refl

end_known : (known : Known) (unit all : ℕ) (s : Segment) → same_end known.first s ≡ true → frames_fit known.first unit s ≡ true → end_rules known unit all s ≡ None
unfolding end_rules
end_known known unit all s same fit = rw (same, fit) refl

-- ---- the segment

module _ (place : Place) (known : Known) (force : Option State) (checked : Bool) (s : Segment) where
  weaker : Weaker (blocks_in place known force) (blocks_in place unknown force) (nested s.blocks.items s.codes.items)
  weaker = blocks_known place known unknown force s.blocks.items s.codes.items (all_unknown s.blocks.items)

  pub known_text : (segment place known force checked).spelling s ≡ (segment place unknown force checked).spelling s
  known_text = sym (segment_same place known unknown force force s weaker checked)

  pub known_fits : (segment place known force checked).Fits s → (segment place unknown force checked).Fits s
  known_fits fits = segment_fits place known unknown force force s weaker checked fits

  known_weaker : IsAllowed (segment place known force checked) s → IsAllowed (segment place unknown force checked) s
  known_weaker a =
      segment_allowed place known unknown force force s s.blocks.items refl (weaker_leads (blocks_in place known force) (blocks_in place unknown force) (nested s.blocks.items s.codes.items) weaker)
      (λ n e. end_weaker known place.unit_frames n s e) checked a

  known_ends : (checked : Bool) → (segment place known force checked).Meets s → (n : ℕ) × (end_rules known place.unit_frames n s ≡ None)
  unfolding segment chosen_whole checked_first segment_text judged_at_end whole_text
  known_ends true meets = (_, meets.1)
  known_ends false meets = (_, meets.1)

  as_known : IsAllowed (segment place known force checked) s → IsAsKnown place known s
  unfolding end_rules
  as_known a =
      let blocks = tail_blocks place known (first_context place force) checked s (has_tail place known force s checked a.fits) (meets_tail place known force s checked a.meets) in
      let end = known_ends checked a.meets in
      let ends = no_end_fault (same_end known.first s) (frames_fit known.first place.unit_frames s) (end.0 - terminator_bits s) end.1 in
      record { restarts = blocks_hold place known 21 force 0 place.major s.blocks.items s.codes.items blocks; end = ends.0; frames = ends.1 }

  known_stronger : IsAllowed (segment place unknown force checked) s → IsAsKnown place known s → IsAllowed (segment place known force checked) s
  known_stronger a is =
      let w = blocks_known place unknown known force s.blocks.items s.codes.items is.restarts in
      segment_allowed place unknown known force force s s.blocks.items refl (weaker_leads (blocks_in place unknown force) (blocks_in place known force) (nested s.blocks.items s.codes.items) w)
      (λ n e. end_known known place.unit_frames n s is.end is.frames) checked a

  pub known_allowed : IsAllowed (segment place known force checked) s ↔ (IsAllowed (segment place unknown force checked) s × IsAsKnown place known s)
  known_allowed = (λ a. (known_weaker a, as_known a), λ p. known_stronger p.0 p.1)
