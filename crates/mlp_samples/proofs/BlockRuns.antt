-- The frames of a channel over blocks one after the other.
use Rattle.std.proofs.Common.{◌≡◌, ℕ, ◌≤◌, Bool, true, false, List, [], ◌∷◌, ◌++◌, length, take, drop, Option, Some, None, refl, sym, ap, subst, ◌∙◌, arith}
use Rattle.std.specs.Prelude.{IfSome, is_some}
use Rattle.std.specs.Option.{IsSomeAnd}
use Rattle.std.proofs.lemmas.List.{length-take, take-append-le, drop-append-le}
use Rattle.mlp_syntax.specs.declared.major.Kind.{Kind}
use Rattle.mlp_syntax.specs.declared.restart.Restart.{Restart}
use Rattle.mlp_syntax.specs.declared.segment.BlockHead.{BlockHead}
use Rattle.mlp_syntax.specs.declared.segment.FrameCode.{FrameCode}
use Rattle.mlp_layout.specs.Allowed.{Allowed}
use Rattle.mlp_params.specs.declared.state.State.{State}
use Rattle.mlp_params.specs.RestartHeader.{restart}
use Rattle.mlp_params.specs.Parameters.{params}
use Rattle.mlp_params.specs.InForce.{in_force}
use Rattle.mlp_predict.specs.Outputs.{Frame}
use Rattle.mlp_substream.specs.declared.known.Place.{Place}
use Rattle.mlp_substream.specs.Blocks.{against, restarted, after_head, force_after, IsPlace, ForceFits}
use Rattle.mlp_substream.specs.Playable.{HeadFits, AreCoded, IsPlayable, ArePlayable}
use Rattle.mlp_channels.specs.Channels.{codes_channel, channel_frames}
use Rattle.mlp_channels.proofs.HeadLaws.{head_lawful, channels_kept, after_head_same, after_head_fresh}
use Rattle.mlp_channels.proofs.CodedLaws.{uncoded_frames}

-- ---- places that differ in whether a unit has a major sync

pub record SamePlace (p q : Place) : Type 0 where
  pub format : p.format ≡ q.format
  pub frames : p.unit_frames ≡ q.unit_frames

module _ (p q : Place) (same : SamePlace p q) where
  restarted_there : (force : Option State) (o : Option Restart) → restarted p force o ≡ restarted q force o
  restarted_there force None = refl
  restarted_there force (Some r) =
      ap (λ (k : Kind). Some (in_force k p.unit_frames r [])) same.format
      ∙ ap (λ (n : ℕ). Some (in_force q.format n r [])) same.frames

  after_there : (force : Option State) (h : BlockHead) → after_head p force h ≡ after_head q force h
  after_there force h = after_head_same p q force h same.format same.frames

  pub force_there : (force : Option State) (hs : List BlockHead) → force_after p force hs ≡ force_after q force hs
  force_there force [] = refl
  force_there force (h ∷ hs) = force_there (after_head p force h) hs ∙ ap (λ (f : Option State). force_after q f hs) (after_there force h)

  head_there : (force : Option State) (h : BlockHead) → HeadFits p force h → HeadFits q force h
  head_there force h fits = record {
    restart = subst (λ (k : Kind). IfSome h.restart (λ r. Allowed (restart k) r)) same.format fits.restart;
    params = subst (λ (f : Option State). IfSome h.params (λ p. Allowed (against f params) p)) (restarted_there force h.restart) fits.params;
  }

  block_there : (due : Bool) (force : Option State) (h : BlockHead) (codes : List FrameCode) → IsPlayable p due force h codes → IsPlayable q due force h codes
  block_there due force h codes b = record {
    restarts = b.restarts;
    head = head_there force h b.head;
    least = b.least;
    count = b.count;
    codes = subst (λ (f : Option State). IsSomeAnd f (λ s. AreCoded s codes)) (after_there force h) b.codes;
  }

  pub playable_there : (due : Bool) (force : Option State) (hs : List BlockHead) (codes : List FrameCode) → ArePlayable p due force hs codes → ArePlayable q due force hs codes
  unfolding ArePlayable
  playable_there due force [] codes h = h
  playable_there due force (b ∷ hs) codes h = (
    block_there due force b (take b.frames codes) h.0,
    subst (λ (f : Option State). ArePlayable q false f hs (drop b.frames codes)) (after_there force b) (playable_there false (after_head p force b) hs (drop b.frames codes) h.1),
  )

-- ---- behind a restart it doesn't count what was in force before

module _ (place : Place) (f g : Option State) where
  restarted_anew : (o : Option Restart) → is_some o ≡ true → restarted place f o ≡ restarted place g o
  restarted_anew None e = absurd cc
  restarted_anew (Some r) e = refl

  pub playable_anew : (hs : List BlockHead) (codes : List FrameCode) → ArePlayable place true f hs codes → ArePlayable place true g hs codes
  unfolding ArePlayable
  playable_anew [] codes h = h
  playable_anew (b ∷ hs) codes h =
      let same = after_head_fresh place f g b h.0.restarts in (
        record {
          restarts = h.0.restarts;
          head = record {
            restart = h.0.head.restart;
            params = subst (λ (s : Option State). IfSome b.params (λ p. Allowed (against s params) p)) (restarted_anew b.restart h.0.restarts) h.0.head.params;
          };
          least = h.0.least;
          count = h.0.count;
          codes = subst (λ (s : Option State). IsSomeAnd s (λ t. AreCoded t (take b.frames codes))) same h.0.codes;
        },
        subst (λ (s : Option State). ArePlayable place false s hs (drop b.frames codes)) same h.1,
      )

-- ---- blocks, and others behind them

module _ (place : Place) where
  pub force_join : (force : Option State) (hs gs : List BlockHead) → force_after place force (hs ++ gs) ≡ force_after place (force_after place force hs) gs
  force_join force [] gs = refl
  force_join force (h ∷ hs) gs = force_join (after_head place force h) hs gs

  -- a block's frames are all there
  has_frames : (due : Bool) (force : Option State) (h : BlockHead) (codes : List FrameCode) → IsPlayable place due force h (take h.frames codes) → h.frames ≤ length codes
  has_frames due force h codes b = let count : length (take h.frames codes) ≡ h.frames = b.count in omega (arith, length-take h.frames codes)

  playable_behind : (force : Option State) (hs : List BlockHead) (codes : List FrameCode) (gs : List BlockHead) (more : List FrameCode) → ArePlayable place false force hs codes
      → ArePlayable place false (force_after place force hs) gs more → ArePlayable place false force (hs ++ gs) (codes ++ more)
  unfolding ArePlayable
  playable_behind force [] codes gs more h k = subst (λ (cs : List FrameCode). ArePlayable place false force gs (cs ++ more)) (sym h) k
  playable_behind force (b ∷ hs) codes gs more h k =
      let after : Option State = after_head place force b in
      let le = has_frames false force b codes h.0 in (
        subst (λ (cs : List FrameCode). IsPlayable place false force b cs) (sym (take-append-le b.frames codes more le)) h.0,
        subst (λ (cs : List FrameCode). ArePlayable place false after (hs ++ gs) cs) (sym (drop-append-le b.frames codes more le)) (playable_behind after hs (drop b.frames codes) gs more h.1 k),
      )

  -- they can be played, a restart being due in the first or not
  abbrev pub CanPlay : Option State → List BlockHead → List FrameCode → Type 0
  CanPlay force hs codes = (due : Bool) × ArePlayable place due force hs codes

  pub playable_join : (force : Option State) (hs : List BlockHead) (codes : List FrameCode) (gs : List BlockHead) (more : List FrameCode) → CanPlay force hs codes
      → ArePlayable place false (force_after place force hs) gs more → CanPlay force (hs ++ gs) (codes ++ more)
  unfolding ArePlayable
  playable_join force [] codes gs more h k = (false, subst (λ (cs : List FrameCode). ArePlayable place false force gs (cs ++ more)) (sym h.1) k)
  playable_join force (b ∷ hs) codes gs more h k =
      let after : Option State = after_head place force b in
      let le = has_frames h.0 force b codes h.1.0 in (
        h.0,
        (
          subst (λ (cs : List FrameCode). IsPlayable place h.0 force b cs) (sym (take-append-le b.frames codes more le)) h.1.0,
          subst (λ (cs : List FrameCode). ArePlayable place false after (hs ++ gs) cs) (sym (drop-append-le b.frames codes more le)) (playable_behind after hs (drop b.frames codes) gs more h.1.1 k),
        ),
      )

  -- ---- a channel that isn't coded has no frames

  pub frames_none : (due : Bool) (force : Option State) (c : ℕ) (hs : List BlockHead) (codes : List FrameCode) → ArePlayable place due force hs codes
      → codes_channel (force_after place force hs) c ≡ false → channel_frames place force c hs codes ≡ []
  unfolding ArePlayable channel_frames
  frames_none due force c [] codes h e = refl
  frames_none due force c (b ∷ hs) codes h e =
      let after : Option State = after_head place force b in
      let here : codes_channel after c ≡ false = sym (channels_kept place after hs (drop b.frames codes) c h.1) ∙ e in
      ap (λ (fs : List Frame). fs ++ channel_frames place after c hs (drop b.frames codes)) (uncoded_frames after b c (take b.frames codes) here)
      ∙ frames_none false after c hs (drop b.frames codes) h.1 e

  -- ---- what is in force stays lawful

  pub force_stays_lawful : IsPlace place → (due : Bool) (force : Option State) (hs : List BlockHead) (codes : List FrameCode) → ForceFits place force
      → ArePlayable place due force hs codes → ForceFits place (force_after place force hs)
  unfolding ArePlayable
  force_stays_lawful ok due force [] codes lawful h = lawful
  force_stays_lawful ok due force (b ∷ hs) codes lawful h = force_stays_lawful ok false (after_head place force b) hs (drop b.frames codes) (head_lawful place force b ok lawful h.0.head) h.1
