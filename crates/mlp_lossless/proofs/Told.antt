-- The output timings of the restart headers that are sent.
use Rattle.std.proofs.Common.{◌≡◌, ℕ, suc, Bool, true, false, List, [], ◌∷◌, ◌++◌, get_or, Option, Some, None, refl, sym, subst}
use Rattle.std.specs.Prelude.{All, if◌then◌else◌}
use Rattle.std.proofs.lemmas.List.Elements.{All-nil, All-cons, All-head, All-tail, All-append}
use Rattle.mlp_syntax.specs.declared.restart.Restart.{Restart}
use Rattle.mlp_syntax.specs.declared.segment.BlockHead.{BlockHead}
use Rattle.mlp_syntax.specs.declared.segment.Segment.{Segment}
use Rattle.mlp_channels.specs.Channels.{Coded}
use Rattle.mlp_fifo.specs.Pace.{unit_of}
use Rattle.mlp_fold.specs.declared.profile.Profile.{Profile}
use Rattle.mlp_encode.specs.Numbers.{has_sync}
use Rattle.mlp_encode.specs.Sync.{restart_of}
use Rattle.mlp_encode.specs.Unit.{output_timing, check_in, restart_in}
use Rattle.mlp_lossless.specs.Timings.{restart_timing, block_timings, output_timings}
use Rattle.mlp_lossless.proofs.AsKnown.{IsBegun}
use Rattle.mlp_lossless.proofs.Found.{AllStand}

no_timings : (hs : List BlockHead) → All (λ (h : BlockHead). h.restart ≡ None) hs → block_timings hs ≡ []
no_timings [] h = refl
no_timings (b ∷ hs) h =
    let P : BlockHead → Type 0 = λ h. h.restart ≡ None in
    let none : b.restart ≡ None = All-head P b hs h in
    subst (λ (o : Option Restart). restart_timing o ++ block_timings hs ≡ []) (sym none) (no_timings hs (All-tail P b hs h))

module _ (p : Profile) (n : ℕ) (checks : List ℕ) (terminator : Option ℕ) (last check : ℕ) where
  abbrev IsTold : ℕ → Type 0
  IsTold o = o ≡ output_timing p n

  restart_tells : (i : ℕ) → All (λ o. o ≡ output_timing p n) (restart_timing (restart_in p n checks i))
  restart_tells i = pick (has_sync n)
    where
      pick : (t : Bool) → All (λ o. o ≡ output_timing p n) (restart_timing (if t then Some (restart_of i (output_timing p n) (check_in n (get_or checks i 0))) else None))
      pick true = All-cons IsTold (output_timing p n) [] refl (All-nil IsTold)
      pick false = All-nil IsTold

  blocks_tell : (i : ℕ) (hs : List BlockHead) → IsBegun i (restart_in p n checks i) hs → All (λ o. o ≡ output_timing p n) (block_timings hs)
  blocks_tell i hs b =
      subst (λ (hs : List BlockHead). All (λ o. o ≡ output_timing p n) (block_timings hs)) (sym b.heads)
      (subst (λ (ts : List ℕ). All (λ o. o ≡ output_timing p n) (restart_timing b.first.restart ++ ts)) (sym (no_timings b.more b.others))
      (subst (λ (o : Option Restart). All (λ t. t ≡ output_timing p n) (restart_timing o ++ [])) (sym b.restart)
      (All-append IsTold (restart_timing (restart_in p n checks i)) [] (restart_tells i) (All-nil IsTold))))

  pub all_tell : (i : ℕ) (xs : List Coded) (ss : List Segment) → AllStand (record { format = p.kind; unit_frames = unit_of p.rate; major = has_sync n }) (restart_in p n checks) terminator last check i xs ss
      → All (λ o. o ≡ output_timing p n) (output_timings ss)
  unfolding AllStand
  all_tell i [] [] h = All-nil IsTold
  all_tell i [] (s ∷ ss) h = absurd h
  all_tell i (x ∷ xs) [] h = absurd h
  all_tell i (x ∷ xs) (s ∷ ss) h = All-append IsTold (block_timings s.blocks.items) (output_timings ss) (blocks_tell i s.blocks.items h.0.begun) (all_tell (suc i) xs ss h.1)
