-- The blocks of a segment, each against what is in force behind those before it.
use Rattle.std.specs.Prelude.{◌≡◌, ◌≤◌, ℕ, ◌+◌, nat_le, Bool, true, false, List, [], ◌∷◌, Option, Some, None, is_some, option_map, IfSome}
use Rattle.mlp_syntax.specs.declared.fault.Field.TheVariants as rule
use Rattle.mlp_syntax.specs.declared.major.Kind.{Kind}
use Rattle.mlp_syntax.specs.declared.restart.Restart.{Restart}
use Rattle.mlp_syntax.specs.declared.params.Params.{Params}
use Rattle.mlp_syntax.specs.declared.segment.BlockHead.{BlockHead}
use Rattle.mlp_syntax.specs.declared.segment.FrameCode.{FrameCode}
use Rattle.mlp_layout.specs.Layout.{Layout, tested, never, part, made}
use Rattle.mlp_layout.specs.Combined.{present}
use Rattle.mlp_params.specs.declared.state.State.{State}
use Rattle.mlp_params.specs.Parameters.{params}
use Rattle.mlp_params.specs.InForce.{in_force}
use Rattle.mlp_params.specs.Applied.{applied}
use Rattle.mlp_params.specs.States.{IsState}
use Rattle.mlp_residual.specs.Frames.{steps_fit, frames_of}
use Rattle.mlp_substream.specs.declared.known.Place.{Place}
use Rattle.mlp_substream.specs.declared.known.Known.{Known}
use Rattle.mlp_substream.specs.Restarts.{flags, judged_restart}

-- ---- what is in force

-- behind a restart, if there is one
abbrev pub restarted : Place → Option State → Option Restart → Option State
restarted place force None = force
restarted place force (Some r) = Some (in_force place.format place.unit_frames r [])

abbrev pub given : Option Params → State → State
given None s = s
given (Some p) s = applied s p

-- behind the head of a block
abbrev pub after_head : Place → Option State → BlockHead → Option State
after_head place force h = option_map (given h.params) (restarted place force h.restart)

-- behind several
abbrev pub force_after : Place → Option State → List BlockHead → Option State
force_after place force [] = force
force_after place force (h ∷ hs) = force_after place (after_head place force h) hs

-- ---- layouts against what is in force; without anything in force no block stands

unfoldable pub against : {A : Type 0} → Option State → (State → Layout A) → Layout A
against None l = never rule.RestartMissing
against (Some s) l = l s

abbrev pub block_size_in : Option State → ℕ
block_size_in None = 0
block_size_in (Some s) = s.block_size

-- each channel that the substream codes has at least as many low bits as its step
abbrev pub steps_fit_in : Option State → Bool
steps_fit_in None = true
steps_fit_in (Some s) = steps_fit s

-- ---- a block

-- where a block stands: what is in force, the frames before it, and whether a restart is due
pub record BlockContext : Type 0 where
  pub force : Option State
  pub so_far : ℕ
  pub due : Bool

abbrev pub context_of : Option State → ℕ → Bool → BlockContext
context_of force so_far due = record { force = force; so_far = so_far; due = due }

-- where the first block of a segment stands
abbrev pub first_context : Place → Option State → BlockContext
first_context place force = context_of force 0 place.major

-- its head, and its frames
pub record Block : Type 0 where
  pub head : BlockHead
  pub frames : List FrameCode

-- the restart and the parameters that the flags announce; `frames` is the block size in force behind them
unfoldable pub behind_flags : Place → Known → Option State → Bool × Bool → Layout BlockHead
behind_flags place known force f =
    part (present f.1 (judged_restart known place.format)) (λ h. h.restart) (λ restart.
    part (present f.0 (against (restarted place force restart) params)) (λ h. h.params) (λ params.
    made (record {
      restart = restart;
      params = params;
      frames = block_size_in (option_map (given params) (restarted place force restart));
    })))

unfoldable pub head : Place → Known → Bool → Option State → Layout BlockHead
head place known due force =
    part (flags due) (λ h. (is_some h.params, is_some h.restart)) (behind_flags place known force)

unfoldable pub block : Place → Known → BlockContext → Layout Block
block place known at =
    part (head place known at.due at.force) (λ b. b.head) (λ h.
    tested rule.StepTooLarge (steps_fit_in (after_head place at.force h))
    (tested rule.BlockOverrun (nat_le (at.so_far + h.frames) place.unit_frames)
    (part (against (after_head place at.force h) (λ s. frames_of s h.frames)) (λ b. b.frames) (λ codes.
    made (record { head = h; frames = codes })))))

abbrev pub after_block : Place → BlockContext → Block → BlockContext
after_block place at b = context_of (after_head place at.force b.head) (at.so_far + b.head.frames) false

-- ---- what can be in force in a stream of this kind with so many frames in a unit

pub record FitsPlace (format : Kind) (unit_frames : ℕ) (s : State) : Type 0 where
  pub lawful : IsState s
  pub format_is : s.format ≡ format
  pub frames_are : s.unit_frames ≡ unit_frames

-- what is in force, if anything is, fits the place
abbrev pub ForceFits : Place → Option State → Type 0
ForceFits place force = IfSome force (λ s. FitsPlace place.format place.unit_frames s)

-- a unit has frames for a block, and at most 160
pub record IsPlace (place : Place) : Type 0 where
  pub least : 8 ≤ place.unit_frames
  pub most : place.unit_frames ≤ 160
