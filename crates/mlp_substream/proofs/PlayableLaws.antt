-- The blocks of a segment that meets the rules can be played.
use Rattle.std.proofs.Common.{◌≡◌, ℕ, zero, suc, ◌+◌, ◌-◌, Bool, true, false, List, [], ◌∷◌, ◌++◌, length, take, drop, Result, Ok, Err, Option, Some, None, refl, sym, ap, ◌∙◌, arith}
use Rattle.std.specs.Prelude.{is_some, IfSome, OnOk, MatchResult, not, ◌||◌}
use Rattle.std.specs.List.{All}
use Rattle.std.specs.Option.{IsSomeAnd}
use Rattle.std.proofs.lemmas.List.{length-drop, drop_at}
use Rattle.std.proofs.lemmas.List.Elements.{All-nil, All-cons}
use Rattle.arrayvec.specs.ArrayVec.{array_vec_len}
use Rattle.mlp_syntax.specs.declared.fault.Broken.{Broken}
use Rattle.mlp_syntax.specs.declared.params.Params.{Params}
use Rattle.mlp_syntax.specs.declared.segment.BlockHead.{BlockHead}
use Rattle.mlp_syntax.specs.declared.segment.FrameCode.{FrameCode}
use Rattle.mlp_syntax.specs.declared.segment.Segment.{Segment}
use Rattle.mlp_layout.specs.Layout.{number_of, ruled, part, made, never, item}
use Rattle.mlp_layout.specs.Combined.{under, chosen, present, series, up_to_last}
use Rattle.mlp_layout.specs.Tails.{part_tail, placed, ending}
use Rattle.mlp_params.specs.declared.state.ChannelState.{ChannelState}
use Rattle.mlp_params.specs.declared.state.State.{State}
use Rattle.mlp_layout.specs.Allowed.{Allowed}
use Rattle.mlp_params.specs.Parameters.{params}
use Rattle.mlp_params.specs.States.{IsState}
use Rattle.mlp_layout.proofs.RuleReading.{rule_holds}
use Rattle.mlp_residual.specs.declared.frames.Coding.{Coding}
use Rattle.mlp_residual.specs.Frames.{channel_codes, coding_of, code_at, frame, coded_frames, frames_of}
use Rattle.mlp_residual.proofs.FrameLaws.{series-length, listed-length}
use Rattle.mlp_substream.specs.declared.known.Place.{Place}
use Rattle.mlp_substream.specs.declared.known.Known.{Known}
use Rattle.mlp_substream.specs.Restarts.{flags}
use Rattle.mlp_substream.specs.Blocks.{against, restarted, after_head, steps_fit_in, context_of, first_context, Block, block, head, IsPlace, ForceFits}
use Rattle.mlp_substream.specs.Segment.{nested, codes_of, blocks_from, segment_tail, segment, IsAllowed}
use Rattle.mlp_substream.specs.Playable.{HeadFits, AreCoded, IsPlayable, ArePlayable}
use Rattle.mlp_substream.proofs.BlockLaws.{against_count}
use Rattle.mlp_layout.proofs.Fitting.{some_allowed}
use Rattle.mlp_substream.proofs.WritingParts.{restart_allowed, against_allowed, head_parts, block_parts}
use Rattle.mlp_substream.proofs.WritingEnds.{has_tail, meets_tail, tail_blocks}
use Rattle.mlp_substream.proofs.BlockCounts.{counted}
use Rattle.mlp_substream.proofs.RoundTrip.{found_there}

-- ---- a restart stands exactly where it is due

same_flag : (due f : Bool) → (f || not due) ≡ true → (not f || due) ≡ true → f ≡ due
same_flag true true h k = refl
same_flag true false h k = absurd cc
same_flag false true h k = absurd cc
same_flag false false h k = refl

flags_due : (due : Bool) (f : Bool × Bool) → (flags due).Meets f → f.1 ≡ due
unfolding flags under ruled
flags_due due f meets = same_flag due f.1 (rule_holds _ 0 meets.0.1) (rule_holds _ 1 meets.1)

pub head_due : (place : Place) (known : Known) (due : Bool) (force : Option State) (h : BlockHead) → Allowed (head place known due force) h → is_some h.restart ≡ due
unfolding head part
head_due place known due force h a = flags_due due (is_some h.params, is_some h.restart) a.meets.0

-- ---- its head

params_against : (force : Option State) (o : Option Params) → Allowed (present (is_some o) (against force params)) o → IfSome o (λ p. Allowed (against force params) p)
params_against force None a = tt
params_against force (Some p) a = some_allowed (against force params) p a

head_fits : (place : Place) (known : Known) (due : Bool) (force : Option State) (h : BlockHead) → Allowed (head place known due force) h → HeadFits place force h
head_fits place known due force h a =
    let parts = head_parts place known due force h a in
    record { restart = restart_allowed known place.format h.restart parts.restart; params = params_against (restarted place force h.restart) h.params parts.params }

-- ---- its frames

codes_length : (cs : List ChannelState) (steps : List ℕ) → length cs ≡ length steps → length (channel_codes cs steps) ≡ length cs
codes_length [] steps e = refl
codes_length (c ∷ cs) [] e = absurd (omega arith)
codes_length (c ∷ cs) (step ∷ steps) e = ap suc (codes_length cs steps (omega arith))

channels_coded : (s : State) → IsState s → length (coding_of s).channels.items ≡ s.restart.max + 1 - s.restart.min
channels_coded s lawful =
    let steps = listed-length (number_of 4) (s.restart.max + 1) s.steps lawful.steps in
    let same : length (drop s.restart.min s.channels.items) ≡ length (drop s.restart.min s.steps.items) = omega (arith, length-drop s.restart.min s.channels.items, length-drop s.restart.min s.steps.items, lawful.channel_count, steps) in
    let long = codes_length (drop s.restart.min s.channels.items) (drop s.restart.min s.steps.items) same in
    omega (arith, long, length-drop s.restart.min s.channels.items, lawful.channel_count)

frame_coded : (k : Coding) (f : FrameCode) → (frame k).Fits f → array_vec_len f.codes ≡ length k.channels.items
unfolding frame part
frame_coded k f fits = series-length (code_at k.channels.items) (length k.channels.items) [] f.codes.items fits.1.0

frames_coded : (k : Coding) (m n : ℕ) (before fs : List FrameCode) → length k.channels.items ≡ m → (series (λ before. frame k) n before).Fits fs → All (λ f. array_vec_len f.codes ≡ m) fs
unfolding series item made
frames_coded k m zero before [] e fits = All-nil (λ f. array_vec_len f.codes ≡ m)
frames_coded k m zero before (f ∷ fs) e fits = absurd cc
frames_coded k m (suc n) before [] e fits = absurd fits
frames_coded k m (suc n) before (f ∷ fs) e fits = All-cons (λ f. array_vec_len f.codes ≡ m) f fs (frame_coded k f fits.0 ∙ e) (frames_coded k m n (before ++ f ∷ []) fs e fits.1)

are_coded : (place : Place) (force : Option State) (n : ℕ) (fs : List FrameCode) → ForceFits place force → steps_fit_in force ≡ true → (against force (λ s. frames_of s n)).Fits fs → IsSomeAnd force (λ s. AreCoded s fs)
unfolding against never frames_of coded_frames
are_coded place None n fs lawful steps fits = absurd fits
are_coded place (Some s) n fs lawful steps fits =
    record { steps = steps; channels = frames_coded (coding_of s) (s.restart.max + 1 - s.restart.min) n [] fs (channels_coded s lawful.lawful) fits }

-- ---- a block, and blocks

block_plays : (place : Place) (known : Known) → IsPlace place → (force : Option State) (so_far : ℕ) (due : Bool) (h : BlockHead) (fs : List FrameCode) → ForceFits place force
    → (let b : Block = record { head = h; frames = fs } in Allowed (block place known (context_of force so_far due)) b) → IsPlayable place due force h fs
block_plays place known ok force so_far due h fs lawful a =
    let b : Block = record { head = h; frames = fs } in
    let parts = block_parts place known (context_of force so_far due) b a in
    let c = counted place known ok (context_of force so_far due) b lawful a in
    record {
      restarts = head_due place known due force h parts.head;
      head = head_fits place known due force h parts.head;
      least = c.least;
      count = against_count (after_head place force h) h.frames fs parts.frames;
      codes = are_coded place (after_head place force h) h.frames fs c.lawful parts.steps parts.frames;
    }

-- the frames of the later blocks are those behind the first one's
codes_left : (n : ℕ) (hs : List BlockHead) (cs : List FrameCode) → length (take n cs) ≡ n → take n cs ++ codes_of (nested hs (drop n cs)) ≡ cs → codes_of (nested hs (drop n cs)) ≡ drop n cs
codes_left n hs cs count e = sym (drop_at (take n cs) (codes_of (nested hs (drop n cs))) n count) ∙ ap (λ (xs : List FrameCode). drop n xs) e

module _ (place : Place) (known : Known) (ok : IsPlace place) where
  blocks_play : (n : ℕ) (force : Option State) (so_far : ℕ) (due : Bool) (hs : List BlockHead) (cs : List FrameCode) → ForceFits place force
      → Allowed (blocks_from place known n (context_of force so_far due)) (nested hs cs) → codes_of (nested hs cs) ≡ cs → ArePlayable place due force hs cs
  unfolding up_to_last never item part chosen nested codes_of ArePlayable
  blocks_play zero force so_far due hs cs lawful a e = absurd a.fits
  blocks_play (suc n) force so_far due [] cs lawful a e = absurd a.fits
  blocks_play (suc n) force so_far due (h ∷ []) cs lawful a e =
      let first = block_plays place known ok force so_far due h (take h.frames cs) lawful (record { fits = a.fits.0; meets = a.meets.0 }) in
      (first, sym (codes_left h.frames [] cs first.count e))
  blocks_play (suc n) force so_far due (h ∷ g ∷ hs) cs lawful a e =
      let b : Block = record { head = h; frames = take h.frames cs } in
      let here : Allowed (block place known (context_of force so_far due)) b = record { fits = a.fits.0; meets = a.meets.0 } in
      let first = block_plays place known ok force so_far due h (take h.frames cs) lawful here in
      let c = counted place known ok (context_of force so_far due) b lawful here in
      let later : Allowed (blocks_from place known n (context_of (after_head place force h) (so_far + h.frames) false)) (nested (g ∷ hs) (drop h.frames cs)) =
      record { fits = a.fits.1.1; meets = a.meets.1.1 } in
      (first, blocks_play n (after_head place force h) (so_far + h.frames) false (g ∷ hs) (drop h.frames cs) c.lawful later (codes_left h.frames (g ∷ hs) cs first.count e))

tail_codes : (place : Place) (known : Known) (force : Option State) (checked : Bool) (s : Segment)
    → (segment_tail place known (first_context place force) checked).Fits 0 s → codes_of (nested s.blocks.items s.codes.items) ≡ s.codes.items
unfolding segment_tail part_tail placed ending
tail_codes place known force checked s fits = ap (λ (r : Segment). r.codes.items) fits.1.1.1

module _ (place : Place) (known : Known) (force : Option State) (checked : Bool) (ok : IsPlace place) (lawful : ForceFits place force) where
  pub segment_plays : (s : Segment) → IsAllowed (segment place known force checked) s → ArePlayable place place.major force s.blocks.items s.codes.items
  segment_plays s a =
      let fits = has_tail place known force s checked a.fits in
      let blocks = tail_blocks place known (first_context place force) checked s fits (meets_tail place known force s checked a.meets) in
      blocks_play place known ok 21 force 0 place.major s.blocks.items s.codes.items lawful blocks (tail_codes place known force checked s fits)

  pub read_plays : (text : List Bool) (s : Segment) → (segment place known force checked).read text ≡ Ok s → ArePlayable place place.major force s.blocks.items s.codes.items
  read_plays text s e = let found = found_there place known force checked text s e in segment_plays s (record { fits = found.fits; meets = found.meets })

  pub into_plays : (r : Result (Unit {0}) Broken) (text : List Bool) (s : Segment)
      → MatchResult r (λ _. (segment place known force checked).read text ≡ Ok s) (λ e. (segment place known force checked).read text ≡ Err e) → OnOk r (ArePlayable place place.major force s.blocks.items s.codes.items)
  into_plays (Ok x) text s e = read_plays text s e
  into_plays (Err b) text s e = tt

-- ---- putting a head in force

pub params_fit : (force : Option State) (o : Option Params) → IfSome o (λ p. Allowed (against force params) p) → IfSome o (λ p. IfSome force (λ s. Allowed (params s) p))
params_fit force None a = tt
params_fit force (Some p) a = against_allowed force params p a
