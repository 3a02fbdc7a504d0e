-- How heads and blocks are spelled and allowed, part by part.
use Rattle.std.proofs.Common.{◌≡◌, ◌+◌, Bool, false, List, ◌++◌, Option, Some, None, sym, ap}
use Rattle.std.specs.Prelude.{is_some, IfSome, IsTrue, nat_le}
use Rattle.std.proofs.lemmas.List.{append-nil}
use Rattle.mlp_syntax.specs.declared.major.Kind.{Kind}
use Rattle.mlp_syntax.specs.declared.restart.Restart.{Restart}
use Rattle.mlp_syntax.specs.declared.params.Params.{Params}
use Rattle.mlp_syntax.specs.declared.segment.BlockHead.{BlockHead}
use Rattle.mlp_layout.specs.Layout.{Layout, ruled, part, made, tested}
use Rattle.mlp_layout.specs.Combined.{under, flag, chosen, present}
use Rattle.mlp_layout.proofs.Fitting.{some_allowed}
use Rattle.mlp_params.specs.declared.state.State.{State}
use Rattle.mlp_layout.specs.Allowed.{Allowed}
use Rattle.mlp_params.specs.RestartHeader.{restart}
use Rattle.mlp_params.specs.Parameters.{params}
use Rattle.mlp_residual.specs.Frames.{frames_of}
use Rattle.mlp_substream.specs.declared.known.Place.{Place}
use Rattle.mlp_substream.specs.declared.known.Known.{Known}
use Rattle.mlp_substream.specs.Restarts.{flags, judged_restart}
use Rattle.mlp_substream.specs.Blocks.{against, restarted, after_head, steps_fit_in, block_size_in, behind_flags, head, BlockContext, Block, block}

-- ---- flags and restarts

pub flags_text : (due given restarts : Bool) → flag.spelling given ++ (chosen given flag (made false)).spelling restarts ≡ (let f : Bool × Bool = (given, restarts) in (flags due).spelling f)
unfolding flags under ruled part made
flags_text due given restarts = ap (λ (t : List Bool). flag.spelling given ++ t) (sym (append-nil ((chosen given flag (made false)).spelling restarts)))

judged_allowed : (known : Known) (format : Kind) (r : Restart) → Allowed (judged_restart known format) r → Allowed (restart format) r
unfolding judged_restart under ruled
judged_allowed known format r a = record { fits = a.fits; meets = a.meets.0.0.0 }

-- ---- what is there or not

pub restart_allowed : (known : Known) (format : Kind) (o : Option Restart) → Allowed (present (is_some o) (judged_restart known format)) o → IfSome o (λ r. Allowed (restart format) r)
restart_allowed known format None a = tt
restart_allowed known format (Some r) a = judged_allowed known format r (some_allowed (judged_restart known format) r a)

pub against_allowed : {A : Type 0} (force : Option State) (l : State → Layout A) (x : A) → Allowed (against force l) x → IfSome force (λ s. Allowed (l s) x)
unfolding against
against_allowed None l x a = tt
against_allowed (Some s) l x a = a

pub params_allowed : (force : Option State) (o : Option Params) → Allowed (present (is_some o) (against force params)) o → IfSome o (λ p. IfSome force (λ s. Allowed (params s) p))
params_allowed force None a = tt
params_allowed force (Some p) a = against_allowed force params p (some_allowed (against force params) p a)

-- ---- a head

pub record HeadParts (place : Place) (known : Known) (force : Option State) (h : BlockHead) : Type 0 where
  pub restart : Allowed (present (is_some h.restart) (judged_restart known place.format)) h.restart
  pub params : Allowed (present (is_some h.params) (against (restarted place force h.restart) params)) h.params
  pub frames : h.frames ≡ block_size_in (after_head place force h)

pub head_parts : (place : Place) (known : Known) (due : Bool) (force : Option State) (h : BlockHead) → Allowed (head place known due force) h → HeadParts place known force h
unfolding head behind_flags part made
head_parts place known due force h a = record {
  restart = record { fits = a.fits.1.0; meets = a.meets.1.0 };
  params = record { fits = a.fits.1.1.0; meets = a.meets.1.1.0 };
  frames = ap (λ (x : BlockHead). x.frames) a.fits.1.1.1;
}

pub head_text : (place : Place) (known : Known) (due : Bool) (force : Option State) (h : BlockHead)
    → (let f : Bool × Bool = (is_some h.params, is_some h.restart) in (flags due).spelling f)
    ++ ((present (is_some h.restart) (judged_restart known place.format)).spelling h.restart ++ (present (is_some h.params) (against (restarted place force h.restart) params)).spelling h.params)
    ≡ (head place known due force).spelling h
unfolding head behind_flags part made
head_text place known due force h =
    let f : Bool × Bool = (is_some h.params, is_some h.restart) in
    ap (λ (t : List Bool). (flags due).spelling f ++ ((present (is_some h.restart) (judged_restart known place.format)).spelling h.restart ++ t))
    (sym (append-nil ((present (is_some h.params) (against (restarted place force h.restart) params)).spelling h.params)))

-- ---- a block

pub record BlockParts (place : Place) (known : Known) (at : BlockContext) (b : Block) : Type 0 where
  pub head : Allowed (head place known at.due at.force) b.head
  pub steps : IsTrue (steps_fit_in (after_head place at.force b.head))
  pub few : IsTrue (nat_le (at.so_far + b.head.frames) place.unit_frames)
  pub frames : (against (after_head place at.force b.head) (λ s. frames_of s b.head.frames)).Fits b.frames

pub block_parts : (place : Place) (known : Known) (at : BlockContext) (b : Block) → Allowed (block place known at) b → BlockParts place known at b
unfolding block part tested made
block_parts place known at b a = record {
  head = record { fits = a.fits.0; meets = a.meets.0 };
  steps = a.meets.1.0;
  few = a.meets.1.1.0;
  frames = a.fits.1.0;
}

pub block_text : (place : Place) (known : Known) (at : BlockContext) (b : Block) → (head place known at.due at.force).spelling b.head
    ++ (against (after_head place at.force b.head) (λ s. frames_of s b.head.frames)).spelling b.frames ≡ (block place known at).spelling b
unfolding block part tested made
block_text place known at b = ap (λ (t : List Bool). (head place known at.due at.force).spelling b.head ++ t) (sym (append-nil ((against (after_head place at.force b.head) (λ s. frames_of s b.head.frames)).spelling b.frames)))
