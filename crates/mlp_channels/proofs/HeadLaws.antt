-- What is in force behind a head that fits: it stays lawful, and the states that the head gives fit the channels.
use Rattle.std.proofs.Common.{◌≡◌, ℕ, Bool, true, false, leb, List, [], ◌∷◌, drop, Option, Some, None, refl, ap, ◌∙◌}
use Rattle.std.specs.Prelude.{IfSome, option_map, is_some, ◌&&◌}
use Rattle.mlp_syntax.specs.declared.major.Kind.{Kind}
use Rattle.mlp_syntax.specs.declared.restart.Restart.{Restart}
use Rattle.mlp_syntax.specs.declared.params.Params.{Params}
use Rattle.mlp_syntax.specs.declared.segment.BlockHead.{BlockHead}
use Rattle.mlp_syntax.specs.declared.segment.FrameCode.{FrameCode}
use Rattle.mlp_layout.specs.Layout.{never}
use Rattle.mlp_layout.specs.Allowed.{Allowed}
use Rattle.mlp_params.specs.declared.state.State.{State}
use Rattle.mlp_params.specs.Parameters.{params}
use Rattle.mlp_params.specs.InForce.{restarted_channel, in_force}
use Rattle.mlp_params.specs.States.{IsState}
use Rattle.mlp_params.proofs.LawfulSteps.{applied_is}
use Rattle.mlp_substream.specs.declared.known.Place.{Place}
use Rattle.mlp_substream.specs.Blocks.{against, restarted, given, after_head, force_after, IsPlace, ForceFits}
use Rattle.mlp_substream.specs.Playable.{HeadFits, ArePlayable}
use Rattle.mlp_substream.proofs.BlockCounts.{restarted_lawful}
use Rattle.mlp_channels.specs.Channels.{codes_channel}
use Rattle.mlp_channels.specs.Given.{GivesChannels}
use Rattle.mlp_channels.proofs.GivenRanges.{gives_channel}

-- behind the parameters that the block gives, if there are some
given_lawful : (place : Place) (force : Option State) (o : Option Params) → ForceFits place force → IfSome o (λ p. Allowed (against force params) p) → ForceFits place (option_map (given o) force)
unfolding against never
given_lawful place None o lawful a = tt
given_lawful place (Some s) None lawful a = lawful
given_lawful place (Some s) (Some p) lawful a = record { lawful = applied_is s p lawful.lawful a; format_is = lawful.format_is; frames_are = lawful.frames_are }

pub head_lawful : (place : Place) (force : Option State) (h : BlockHead) → IsPlace place → ForceFits place force → HeadFits place force h → ForceFits place (after_head place force h)
head_lawful place force h ok lawful fits = given_lawful place (restarted place force h.restart) h.params (restarted_lawful place ok force h.restart lawful fits.restart) fits.params

pub force_lawful : (place : Place) (force : Option State) → ForceFits place force → IfSome force (λ s. IsState s)
force_lawful place None fits = tt
force_lawful place (Some s) fits = fits.lawful

-- ---- the states that it gives

given_channels : (place : Place) (force : Option State) (o : Option Params) → ForceFits place force → IfSome o (λ p. Allowed (against force params) p) → IfSome (option_map (given o) force) (λ s. GivesChannels s o)
unfolding against never
given_channels place None o lawful a = tt
given_channels place (Some s) None lawful a = λ i l. tt
given_channels place (Some s) (Some p) lawful a = λ i l. gives_channel s p i restarted_channel lawful.lawful a l

pub head_gives : (place : Place) (force : Option State) (h : BlockHead) → IsPlace place → ForceFits place force → HeadFits place force h → IfSome (after_head place force h) (λ s. GivesChannels s h.params)
head_gives place force h ok lawful fits = given_channels place (restarted place force h.restart) h.params (restarted_lawful place ok force h.restart lawful fits.restart) fits.params

-- ---- which channels are coded changes at a restart alone

kept_behind : (place : Place) (force : Option State) (o : Option Restart) (p : Option Params) (c : ℕ) → is_some o ≡ false → codes_channel (option_map (given p) (restarted place force o)) c ≡ codes_channel force c
kept_behind place None None p c e = refl
kept_behind place (Some s) None None c e = refl
kept_behind place (Some s) None (Some p) c e = refl
kept_behind place force (Some r) p c e = absurd cc

pub channels_kept : (place : Place) (force : Option State) (hs : List BlockHead) (codes : List FrameCode) (c : ℕ) → ArePlayable place false force hs codes → codes_channel (force_after place force hs) c ≡ codes_channel force c
unfolding ArePlayable
channels_kept place force [] codes c h = refl
channels_kept place force (b ∷ hs) codes c h = channels_kept place (after_head place force b) hs (drop b.frames codes) c h.1 ∙ kept_behind place force b.restart b.params c h.0.restarts

-- .. to those of its header

at_restart : (place : Place) (force : Option State) (r : Restart) (p : Option Params) (c : ℕ) → codes_channel (option_map (given p) (restarted place force (Some r))) c ≡ (leb r.min c && leb c r.max)
at_restart place force r None c = refl
at_restart place force r (Some p) c = refl

pub channels_restarted : (place : Place) (due : Bool) (force : Option State) (h : BlockHead) (hs : List BlockHead) (codes : List FrameCode) (c : ℕ) (r : Restart) → ArePlayable place due force (h ∷ hs) codes → h.restart ≡ Some r
    → codes_channel (force_after place force (h ∷ hs)) c ≡ (leb r.min c && leb c r.max)
unfolding ArePlayable
channels_restarted place due force h hs codes c r a e =
    channels_kept place (after_head place force h) hs (drop h.frames codes) c a.1
    ∙ ap (λ (o : Option Restart). codes_channel (option_map (given h.params) (restarted place force o)) c) e
    ∙ at_restart place force r h.params c

-- ---- what decides nothing of what is in force

-- that the unit has a major sync
restarted_same : (place other : Place) (force : Option State) (o : Option Restart) → place.format ≡ other.format → place.unit_frames ≡ other.unit_frames → restarted place force o ≡ restarted other force o
restarted_same place other force None a b = refl
restarted_same place other force (Some r) a b = ap (λ (k : Kind). restart_in k place.unit_frames) a ∙ ap (λ (n : ℕ). restart_in other.format n) b
  where
    restart_in : Kind → ℕ → Option State
    restart_in k n = Some (in_force k n r [])

pub after_head_same : (place other : Place) (force : Option State) (h : BlockHead) → place.format ≡ other.format → place.unit_frames ≡ other.unit_frames → after_head place force h ≡ after_head other force h
after_head_same place other force h a b = ap (λ (f : Option State). option_map (given h.params) f) (restarted_same place other force h.restart a b)

-- .. and what was in force before a restart
restarted_fresh : (place : Place) (f g : Option State) (o : Option Restart) → is_some o ≡ true → restarted place f o ≡ restarted place g o
restarted_fresh place f g None e = absurd cc
restarted_fresh place f g (Some r) e = refl

pub after_head_fresh : (place : Place) (f g : Option State) (h : BlockHead) → is_some h.restart ≡ true → after_head place f h ≡ after_head place g h
after_head_fresh place f g h e = ap (λ (k : Option State). option_map (given h.params) k) (restarted_fresh place f g h.restart e)
