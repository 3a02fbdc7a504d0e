-- What holds of a segment that was read.
use Rattle.std.proofs.Common.{◌≡◌, ℕ, Bool, true, false, cond, eqb, not, List, [], ◌∷◌, length, drop, Ok, Option, Some, None, refl, sym, ap, subst, ◌∙◌, eqb-true}
use Rattle.std.specs.Prelude.{is_some, ◌&&◌, ◌||◌, option_map}
use Rattle.mlp_syntax.specs.declared.restart.Restart.{Restart}
use Rattle.mlp_syntax.specs.declared.params.Params.{Params}
use Rattle.mlp_syntax.specs.declared.segment.BlockHead.{BlockHead}
use Rattle.mlp_syntax.specs.declared.segment.FrameCode.{FrameCode}
use Rattle.mlp_syntax.specs.declared.segment.Segment.{Segment}
use Rattle.mlp_layout.specs.Layout.{item}
use Rattle.mlp_layout.specs.Combined.{up_to_last}
use Rattle.mlp_params.specs.declared.state.State.{State}
use Rattle.mlp_substream.specs.declared.known.Place.{Place}
use Rattle.mlp_substream.specs.declared.known.Known.{Known}
use Rattle.mlp_substream.specs.declared.known.Ending.{Ending}
use Rattle.mlp_substream.specs.Blocks.{BlockContext, given, restarted, after_head, force_after, first_context, ForceFits, IsPlace}
use Rattle.mlp_substream.specs.Segment.{nested, most_blocks, blocks_from, segment, IsAllowed, IsAsKnown}
use Rattle.mlp_substream.specs.Playable.{ArePlayable}
use Rattle.mlp_substream.proofs.RoundTrip.{found_there}
use Rattle.mlp_substream.proofs.WritingEnds.{has_tail, meets_tail, tail_blocks}
use Rattle.mlp_substream.proofs.KnownLaws.{known_allowed}
use Rattle.mlp_substream.proofs.PlayableLaws.{read_plays}
use Rattle.mlp_channels.specs.Channels.{codes_channel}
use Rattle.mlp_contents.specs.Known.{has_channel}

-- ---- the restart in force

abbrev pub restart_in : Option State → Option Restart
restart_in force = option_map (λ s. s.restart) force

-- it alone says which channels are coded
pub coded_by_restart : (force : Option State) (c : ℕ) → codes_channel force c ≡ has_channel c (restart_in force)
coded_by_restart None c = refl
coded_by_restart (Some s) c = refl

given_restart : (force : Option State) (p : Option Params) → restart_in (option_map (given p) force) ≡ restart_in force
given_restart None p = refl
given_restart (Some s) None = refl
given_restart (Some s) (Some p) = refl

none_there : {A : Type 0} (o : Option A) → is_some o ≡ false → o ≡ None
none_there None e = refl
none_there (Some x) e = absurd cc

head_keeps : (place : Place) (force : Option State) (h : BlockHead) → h.restart ≡ None → restart_in (after_head place force h) ≡ restart_in force
head_keeps place force h none = ap (λ (r : Option Restart). restart_in (option_map (given h.params) (restarted place force r))) none ∙ given_restart force h.params

restarted_by : (place : Place) (force : Option State) (h : BlockHead) (r : Restart) → h.restart ≡ Some r → restart_in (after_head place force h) ≡ Some r
restarted_by place force h r some = ap (λ (o : Option Restart). restart_in (option_map (given h.params) (restarted place force o))) some ∙ given_restart (restarted place force (Some r)) h.params

-- blocks without a restart keep the one in force
pub blocks_keep : (place : Place) (force : Option State) (hs : List BlockHead) (cs : List FrameCode) → ArePlayable place false force hs cs → restart_in (force_after place force hs) ≡ restart_in force
unfolding ArePlayable
blocks_keep place force [] cs p = refl
blocks_keep place force (h ∷ hs) cs p = blocks_keep place (after_head place force h) hs (drop h.frames cs) p.1 ∙ head_keeps place force h (none_there h.restart p.0.restarts)

-- blocks of which the first has one put it in force
pub blocks_restart : (place : Place) (force : Option State) (h : BlockHead) (hs : List BlockHead) (cs : List FrameCode) → ArePlayable place true force (h ∷ hs) cs
    → (r : Restart) × (h.restart ≡ Some r) × (restart_in (force_after place force (h ∷ hs)) ≡ Some r)
unfolding ArePlayable
blocks_restart place force h hs cs p = by_case h.restart refl p.0.restarts
  where
    by_case : (o : Option Restart) → h.restart ≡ o → is_some o ≡ true → (r : Restart) × (h.restart ≡ Some r) × (restart_in (force_after place force (h ∷ hs)) ≡ Some r)
    by_case None e some = absurd cc
    by_case (Some r) e some = (r, e, blocks_keep place (after_head place force h) hs (drop h.frames cs) p.1 ∙ restarted_by place force h r e)

-- ---- a segment that was read

no_fit : (place : Place) (known : Known) (at : BlockContext) (cs : List FrameCode) → (blocks_from place known most_blocks at).Fits (nested [] cs) → ⊥
unfolding up_to_last item nested
no_fit place known at cs fits = fits

no_block : (place : Place) (known : Known) (force : Option State) (checked : Bool) (s : Segment) → IsAllowed (segment place known force checked) s → s.blocks.items ≡ [] → ⊥
no_block place known force checked s a none =
    let at = first_context place force in
    let blocks = tail_blocks place known at checked s (has_tail place known force s checked a.fits) (meets_tail place known force s checked a.meets) in
    no_fit place known at s.codes.items (subst (λ (hs : List BlockHead). (blocks_from place known most_blocks at).Fits (nested hs s.codes.items)) none blocks.fits)

pub record IsRead (place : Place) (known : Known) (force : Option State) (s : Segment) : Type 0 where
  pub as_known : IsAsKnown place known s
  pub plays : ArePlayable place place.major force s.blocks.items s.codes.items
  pub some : s.blocks.items ≡ [] → ⊥

pub is_read : (place : Place) (known : Known) (force : Option State) (checked : Bool) → IsPlace place → ForceFits place force → (text : List Bool) (s : Segment) → (segment place known force checked).read text ≡ Ok s
    → IsRead place known force s
is_read place known force checked ok fits text s e =
    let found = found_there place known force checked text s e in
    let a : IsAllowed (segment place known force checked) s = record { fits = found.fits; meets = found.meets } in
    record {
      as_known = ((known_allowed place known force checked s).0 a).1;
      plays = read_plays place known force checked ok fits text s e;
      some = λ none. no_block place known force checked s a none;
    }

-- ---- its end

both_true : (a b : Bool) → (a && b) ≡ true → b ≡ true
both_true true b e = e
both_true false b e = absurd cc

-- as many frames as substream 0 has
pub frames_same : (place : Place) (known : Known) (force : Option State) (s : Segment) (e : Ending) → IsRead place known force s → known.first ≡ Some e → length s.codes.items ≡ e.frames
frames_same place known force s e r is =
    let fits = rw is at r.as_known.frames in
    eqb-true _ _ (both_true ((eqb (length s.codes.items) place.unit_frames) || is_some s.terminator) (eqb (length s.codes.items) e.frames) fits)

-- and a terminator where it has one
pub end_same : (place : Place) (known : Known) (force : Option State) (s : Segment) (e : Ending) → IsRead place known force s → known.first ≡ Some e → is_some s.terminator ≡ e.terminator
end_same place known force s e r is = by_case (is_some s.terminator) e.terminator (rw is at r.as_known.end)
  where
    by_case : (a b : Bool) → cond {A = Bool} a b (not b) ≡ true → a ≡ b
    by_case true b h = sym h
    by_case false true h = absurd cc
    by_case false false h = refl
