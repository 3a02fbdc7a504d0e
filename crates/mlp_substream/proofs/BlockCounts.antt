-- How many blocks a unit has frames for.
use Rattle.std.proofs.Common.{◌≡◌, ℕ, zero, suc, ◌+◌, ◌*◌, ◌<◌, ◌≤◌, Bool, true, false, List, [], ◌∷◌, length, Ok, Err, Option, Some, None, refl, sym, ap, subst, arith}
use Rattle.std.specs.Prelude.{IfSome, option_map}
use Rattle.std.proofs.lemmas.Bool.{leb-true}
use Rattle.mlp_syntax.specs.declared.restart.Restart.{Restart}
use Rattle.mlp_syntax.specs.declared.params.Params.{Params}
use Rattle.mlp_syntax.specs.declared.segment.BlockHead.{BlockHead}
use Rattle.mlp_syntax.specs.declared.segment.FrameCode.{FrameCode}
use Rattle.mlp_syntax.specs.declared.segment.Segment.{Segment}
use Rattle.mlp_layout.specs.Reading.{Read, ◌>>=◌}
use Rattle.mlp_layout.specs.Layout.{Layout, never, item, part, made}
use Rattle.mlp_layout.specs.Combined.{flag, chosen, up_to_last}
use Rattle.mlp_layout.proofs.LayoutLaws.{is_found, is_within}
use Rattle.mlp_layout.proofs.CombinedLaws.{flag_is}
use Rattle.mlp_params.specs.declared.state.State.{State}
use Rattle.mlp_layout.specs.Allowed.{Allowed}
use Rattle.mlp_params.specs.Parameters.{params}
use Rattle.mlp_params.specs.RestartHeader.{restart}
use Rattle.mlp_params.proofs.LawfulStates.{restart_is_state}
use Rattle.mlp_params.proofs.LawfulSteps.{applied_is}
use Rattle.mlp_substream.specs.declared.known.Place.{Place}
use Rattle.mlp_substream.specs.declared.known.Known.{Known}
use Rattle.mlp_substream.specs.Blocks.{against, restarted, given, after_head, block_size_in, BlockContext, Block, block, after_block, IsPlace, first_context, ForceFits}
use Rattle.mlp_substream.specs.Segment.{nested, segment, blocks_from}
use Rattle.mlp_substream.proofs.BlockLaws.{block_is}
use Rattle.mlp_substream.proofs.ReadingLaws.{least_size}
use Rattle.mlp_substream.proofs.WritingParts.{restart_allowed, params_allowed, head_parts, block_parts}
use Rattle.mlp_substream.proofs.WritingEnds.{has_tail, meets_tail, tail_blocks}

-- ---- what is in force stays lawful

pub restarted_lawful : (place : Place) → IsPlace place → (force : Option State) (o : Option Restart) → ForceFits place force → IfSome o (λ r. Allowed (restart place.format) r) → ForceFits place (restarted place force o)
restarted_lawful place ok force None lawful a = lawful
restarted_lawful place ok force (Some r) lawful a = record { lawful = restart_is_state place.format place.unit_frames r a ok.least ok.most; format_is = refl; frames_are = refl }

given_lawful : (place : Place) (force : Option State) (o : Option Params) → ForceFits place force → IfSome o (λ p. IfSome force (λ s. Allowed (params s) p)) → ForceFits place (option_map (given o) force)
given_lawful place None o lawful a = tt
given_lawful place (Some s) None lawful a = lawful
given_lawful place (Some s) (Some p) lawful a = record { lawful = applied_is s p lawful.lawful a; format_is = lawful.format_is; frames_are = lawful.frames_are }

-- without anything in force no frames are spelled
some_frames : (place : Place) (force : Option State) (l : State → Layout (List FrameCode)) (fs : List FrameCode) → ForceFits place force → (against force l).Fits fs → 8 ≤ block_size_in force
unfolding against never
some_frames place None l fs lawful fits = absurd fits
some_frames place (Some s) l fs lawful fits = least_size s lawful.lawful

-- ---- a block has 8 frames at least, and there is room for them

pub record Counted (place : Place) (at : BlockContext) (b : Block) : Type 0 where
  pub least : 8 ≤ b.head.frames
  pub room : at.so_far + b.head.frames ≤ place.unit_frames
  pub lawful : ForceFits place (after_head place at.force b.head)

pub counted : (place : Place) (known : Known) → IsPlace place → (at : BlockContext) (b : Block) → ForceFits place at.force → Allowed (block place known at) b → Counted place at b
counted place known ok at b lawful a =
    let parts = block_parts place known at b a in
    let h = head_parts place known at.due at.force b.head parts.head in
    let first = restarted_lawful place ok at.force b.head.restart lawful (restart_allowed known place.format b.head.restart h.restart) in
    let after = given_lawful place (restarted place at.force b.head.restart) b.head.params first (params_allowed (restarted place at.force b.head.restart) b.head.params h.params) in
    record {
      least = subst (λ (n : ℕ). 8 ≤ n) (sym h.frames) (some_frames place (after_head place at.force b.head) _ b.frames after parts.frames);
      room = leb-true _ _ parts.few;
      lawful = after;
    }

-- ---- so there are few blocks

module _ (place : Place) (known : Known) (ok : IsPlace place) where
  pub count_blocks : (n : ℕ) (at : BlockContext) (bs : List Block) → ForceFits place at.force → Allowed (blocks_from place known n at) bs → at.so_far + 8 * length bs ≤ place.unit_frames
  unfolding up_to_last never item part chosen
  count_blocks zero at bs lawful a = absurd a.fits
  count_blocks (suc n) at [] lawful a = absurd a.fits
  count_blocks (suc n) at (b ∷ []) lawful a = let c = counted place known ok at b lawful (record { fits = a.fits.0; meets = a.meets.0 }) in omega (arith, c.least, c.room)
  count_blocks (suc n) at (b ∷ d ∷ bs) lawful a =
      let c = counted place known ok at b lawful (record { fits = a.fits.0; meets = a.meets.0 }) in
      let later = count_blocks n (after_block place at b) (d ∷ bs) c.lawful (record { fits = a.fits.1.1; meets = a.meets.1.1 }) in
      omega (arith, c.least, later)

nested_count : (hs : List BlockHead) (cs : List FrameCode) → length (nested hs cs) ≡ length hs
unfolding nested
nested_count [] cs = refl
nested_count (h ∷ hs) cs = ap suc (nested_count hs _)

pub segment_blocks : (place : Place) (known : Known) (force : Option State) (checked : Bool) (s : Segment) → IsPlace place → ForceFits place force
    → (segment place known force checked).Fits s → (segment place known force checked).Meets s → 8 * length s.blocks.items ≤ place.unit_frames
segment_blocks place known force checked s ok lawful fits meets =
    let at = first_context place force in
    let blocks = tail_blocks place known at checked s (has_tail place known force s checked fits) (meets_tail place known force s checked meets) in
    omega (arith, count_blocks place known ok 21 at (nested s.blocks.items s.codes.items) lawful blocks, nested_count s.blocks.items s.codes.items)

-- ---- where more are allowed, the same is read

then_same : {A B : Type 0} (r : Read A) (f g : A × ℕ → Read B) → ((x : A × ℕ) → r ≡ Ok x → f x ≡ g x) → (r >>= f) ≡ (r >>= g)
then_same (Ok x) f g h = h x refl
then_same (Err e) f g h = refl

module _ (place : Place) (known : Known) (ok : IsPlace place) (all : List Bool) where
  -- what is read behind a block
  abbrev behind_block : ℕ → BlockContext → Bool × ℕ → Read (List Block)
  behind_block n at last = (chosen last.0 (made []) (blocks_from place known n at)).read all last.1

  abbrev with_block : Block → Read (List Block) → Read (List Block)
  with_block b r = r >>= λ bs. Ok (b ∷ bs.0, bs.1)

  behind_same : (n m : ℕ) (at : BlockContext) (last : Bool × ℕ) → (blocks_from place known n at).read all last.1 ≡ (blocks_from place known m at).read all last.1 → behind_block n at last ≡ behind_block m at last
  unfolding chosen
  behind_same n m at (true, p) h = refl
  behind_same n m at (false, p) h = h

  -- the bounds are above what is left of the unit's frames
  pub record Ample (at : BlockContext) (n m : ℕ) : Type 0 where
    pub room : at.so_far ≤ place.unit_frames
    pub one : place.unit_frames < at.so_far + 8 * n
    pub other : place.unit_frames < at.so_far + 8 * m

  module _ (n m : ℕ) (later : (at : BlockContext) (p : ℕ) → p ≤ length all → ForceFits place at.force → Ample at n m → (blocks_from place known n at).read all p ≡ (blocks_from place known m at).read all p) where
    block_same : (at : BlockContext) (p : ℕ) → p ≤ length all → ForceFits place at.force → Ample at (suc n) (suc m) → (b : Block × ℕ) → (block place known at).read all p ≡ Ok b
        → with_block b.0 (flag.read all b.1 >>= behind_block n (after_block place at b.0)) ≡ with_block b.0 (flag.read all b.1 >>= behind_block m (after_block place at b.0))
    block_same at p le lawful h b read =
        let found = is_found (block_is place known at) all p le b read in
        let c = counted place known ok at b.0 lawful (record { fits = found.0.fits; meets = found.0.meets }) in
        let within = is_within (block place known at) all p b.0 b.1 found.0 found.1 in
        let ample : Ample (after_block place at b.0) n m = record { room = c.room; one = omega (arith, c.least, h.one); other = omega (arith, c.least, h.other) } in
        ap (with_block b.0) (then_same (flag.read all b.1) (behind_block n (after_block place at b.0)) (behind_block m (after_block place at b.0)) (λ last read-flag.
        let found-flag = is_found flag_is all b.1 within last read-flag in
        let within-flag = is_within flag all b.1 last.0 last.1 found-flag.0 found-flag.1 in
        behind_same n m (after_block place at b.0) last (later (after_block place at b.0) last.1 within-flag c.lawful ample)))

  pub same_blocks : (n m : ℕ) (at : BlockContext) (p : ℕ) → p ≤ length all → ForceFits place at.force → Ample at n m → (blocks_from place known n at).read all p ≡ (blocks_from place known m at).read all p
  unfolding up_to_last item part
  same_blocks zero m at p le lawful h = absurd (omega arith)
  same_blocks (suc n) zero at p le lawful h = absurd (omega arith)
  same_blocks (suc n) (suc m) at p le lawful h = then_same ((block place known at).read all p) _ _ (block_same n m (λ at q within lawful h. same_blocks n m at q within lawful h) at p le lawful h)
