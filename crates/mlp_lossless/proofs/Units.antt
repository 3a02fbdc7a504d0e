-- The segments of a unit, one after the other, as the decoder of a presentation takes them.
use Rattle.std.proofs.Common.{◌≡◌, ℕ, zero, suc, ◌+◌, ◌*◌, ◌<◌, ◌≤◌, Bool, true, false, List, [], ◌∷◌, map, length, take, get_or, Option, Some, None, refl, sym, ap, ◌∙◌, subst, arith}
use Rattle.std.specs.Prelude.{IfSome, ◌==◌, if◌then◌else◌}
use Rattle.mlp_syntax.specs.declared.restart.Restart.{Restart}
use Rattle.mlp_syntax.specs.declared.segment.FrameCode.{FrameCode}
use Rattle.mlp_syntax.specs.declared.segment.Segment.{Segment}
use Rattle.mlp_params.specs.declared.state.State.{State}
use Rattle.mlp_predict.specs.Prediction.{Past}
use Rattle.mlp_substream.specs.declared.known.Place.{Place}
use Rattle.mlp_substream.specs.Segment.{segment, unknown, IsAllowed}
use Rattle.mlp_channels.specs.Channels.{Coded, nothing_coded, coded_after}
use Rattle.mlp_channels.specs.Playing.{past_of_channel}
use Rattle.mlp_output.specs.Output.{folded}
use Rattle.mlp_contents.specs.Units.{no_segment}
use Rattle.mlp_fifo.specs.Pace.{unit_of}
use Rattle.mlp_fold.specs.declared.profile.Profile.{Profile}
use Rattle.mlp_fold.specs.declared.coding.CodedFrame.{CodedFrame}
use Rattle.mlp_fold.specs.Rows.{rows_of}
use Rattle.mlp_fold.specs.Substreams.{first_channel, last_channel}
use Rattle.mlp_encode.specs.Numbers.{has_sync}
use Rattle.mlp_encode.specs.Lawful.{segment_most}
use Rattle.mlp_encode.specs.Sync.{restart_of}
use Rattle.mlp_encode.specs.Blocks.{SentSegment, bypass_in, segment_sent, restart_sent, later_sent}
use Rattle.mlp_encode.specs.Unit.{SentUnit, nothing_sent, before, output_timing, check_in, restart_in, segments_from}
use Rattle.mlp_lossless.specs.Chosen.{IsLeastSegment, block_heads, IsChosenSegment}
use Rattle.mlp_lossless.proofs.Segments.{CanBlock, CanRestart}
use Rattle.mlp_lossless.proofs.Sends.{IsSentWell, later_well, restart_well}
use Rattle.mlp_lossless.proofs.Plain.{IsPlain}
use Rattle.mlp_lossless.proofs.Heard.{IsTop}
use Rattle.mlp_lossless.proofs.Coverage.{IsBack, AreBack, first_next, first_rises}
use Rattle.mlp_lossless.proofs.Found.{Stands, AllStand}

module _ (p : Profile) (n : ℕ) (checks : List ℕ) (coded : List CodedFrame) (terminator : Option ℕ) where
  abbrev pub restarts : ℕ → Option Restart
  restarts i = restart_in p n checks i

  abbrev pub place : Place
  place = record { format = p.kind; unit_frames = unit_of p.rate; major = has_sync n }

  -- ---- that each segment can be sent

  abbrev pub CanSegment : ℕ → List Past → Option Restart → Option State → Type 0
  CanSegment i pasts (Some r) f = CanRestart i p r pasts coded
  CanSegment i pasts None None = ⊥
  CanSegment i pasts None (Some st) = CanBlock i p None (record { state = st; pasts = pasts }) coded

  -- the segment of substream i against what is in force, with pasts
  pub record CanSend (i : ℕ) (f : Option State) (pasts : List Past) (s : SentSegment) : Type 0 where
    pub sent : segment_sent i p (restart_in p n checks i) f pasts coded terminator ≡ Some s
    pub can : CanSegment i pasts (restart_in p n checks i) f
    pub allowed : IsAllowed (segment (record { format = p.kind; unit_frames = unit_of p.rate; major = has_sync n }) unknown f true) s.segment
    pub plain : IfSome f (λ t. IsPlain i t)
    pub later : IfSome f (λ t. (n == 0) ≡ false)
    pub short : length ((segment (record { format = p.kind; unit_frames = unit_of p.rate; major = has_sync n }) unknown f true).spelling s.segment) ≤ 8 * segment_most p i

  -- .. of each substream from one on
  unfoldable pub AllCan : ℕ → List (Option State) → List Past → Type 0
  AllCan i [] pasts = Unit {0}
  AllCan i (f ∷ fs) pasts = (s : SentSegment) × CanSend i f pasts s × AllCan (suc i) fs s.behind.pasts

  some_is : (a s : SentSegment) → Some a ≡ Some s → a ≡ s
  some_is a s e = cc

  well : (i : ℕ) (x : Coded) (f : Option State) (pasts : List Past) (s : SentSegment) → CanSend i f pasts s → x.force ≡ f → ((c : ℕ) → first_channel i ≤ c → c ≤ last_channel i → past_of_channel x.pasts c ≡ past_of_channel pasts c)
      → IsSentWell place x i p (restarts i) pasts coded terminator s
  well i x f pasts s h same agree = pick (has_sync n) refl f h.sent h.can h.plain same
    where
      pick : (t : Bool) → has_sync n ≡ t → (f : Option State) → segment_sent i p (if t then Some (restart_of i (output_timing p n) (check_in n (get_or checks i 0))) else None) f pasts coded terminator ≡ Some s
          → CanSegment i pasts (if t then Some (restart_of i (output_timing p n) (check_in n (get_or checks i 0))) else None) f → IfSome f (λ t. IsPlain i t) → x.force ≡ f
          → IsSentWell place x i p (if t then Some (restart_of i (output_timing p n) (check_in n (get_or checks i 0))) else None) pasts coded terminator s
      pick true e f sent can plain same =
          subst (λ (z : SentSegment). IsSentWell place x i p (Some (restart_of i (output_timing p n) (check_in n (get_or checks i 0)))) pasts coded terminator z)
          (some_is (restart_sent i p (restart_of i (output_timing p n) (check_in n (get_or checks i 0))) pasts coded terminator) s sent)
          (restart_well i p place x (output_timing p n) (check_in n (get_or checks i 0)) pasts coded terminator can refl refl e)
      pick false e None sent can plain same = absurd can
      pick false e (Some st) sent can plain same =
          subst (λ (z : SentSegment). IsSentWell place x i p None pasts coded terminator z)
          (some_is (later_sent i p (record { state = st; pasts = pasts }) coded terminator) s sent)
          (later_well i p place x st pasts coded terminator can same e agree plain)

  -- ---- what is owed of each substream that is decoded

  -- its segment stands, gives back its channels, and leaves this in force and these pasts
  pub record IsPlayed (last check : ℕ) (final : List Past) (i : ℕ) (x : Coded) (s : Segment) (f : Option State) : Type 0 where
    pub stand : Stands (record { format = p.kind; unit_frames = unit_of p.rate; major = has_sync n }) (restart_in p n checks) terminator last check i x s
    pub behind : State
    pub back : IsBack (record { format = p.kind; unit_frames = unit_of p.rate; major = has_sync n }) coded i x s behind
    pub force : f ≡ Some behind
    pub plain : IsPlain i behind
    pub top : IsTop p.mix p.depth p.channels i behind
    pub bits : map (λ (f : FrameCode). f.bypass) s.codes.items ≡ map (bypass_in (rows_of p.mix i p.channels)) coded
    pub least : (c : ℕ) → first_channel i ≤ c → c ≤ last_channel i → IsLeastSegment (record { format = p.kind; unit_frames = unit_of p.rate; major = has_sync n }) x c s
    pub pasts : (c : ℕ) → first_channel i ≤ c → c ≤ last_channel i
        → past_of_channel (coded_after (record { format = p.kind; unit_frames = unit_of p.rate; major = has_sync n }) x s).pasts c ≡ past_of_channel final c

  pub played_chosen : (last check : ℕ) (final : List Past) (i : ℕ) (x : Coded) (s : Segment) (f : Option State) → IsPlayed last check final i x s f
      → IsChosenSegment p i n (record { format = p.kind; unit_frames = unit_of p.rate; major = has_sync n }) x s
  played_chosen last check final i x s f h =
      record {
        padding = h.stand.padding;
        check = check_in n (get_or checks i 0);
        heads = h.stand.heads;
        behind = h.behind;
        force = h.back.force;
        rows = h.top.rows;
        steps = h.top.steps;
        least = h.least;
      }

  unfoldable pub AllPlayed : ℕ → ℕ → List Past → ℕ → List Coded → List Segment → List (Option State) → Type 0
  AllPlayed last check final i [] [] fs = Unit {0}
  AllPlayed last check final i [] (s ∷ ss) fs = ⊥
  AllPlayed last check final i (x ∷ xs) [] fs = ⊥
  AllPlayed last check final i (x ∷ xs) (s ∷ ss) [] = ⊥
  AllPlayed last check final i (x ∷ xs) (s ∷ ss) (f ∷ fs) = IsPlayed last check final i x s f × AllPlayed last check final (suc i) xs ss fs

  pub all_back : (last check : ℕ) (final : List Past) (i : ℕ) (xs : List Coded) (ss : List Segment) (fs : List (Option State)) → AllPlayed last check final i xs ss fs → AreBack place coded i xs ss
  unfolding AllPlayed AreBack
  all_back last check final i [] [] fs h = tt
  all_back last check final i [] (s ∷ ss) fs h = absurd h
  all_back last check final i (x ∷ xs) [] fs h = absurd h
  all_back last check final i (x ∷ xs) (s ∷ ss) [] h = absurd h
  all_back last check final i (x ∷ xs) (s ∷ ss) (f ∷ fs) h = ((h.0.behind, h.0.back), all_back last check final (suc i) xs ss fs h.1)

  pub all_stand : (last check : ℕ) (final : List Past) (i : ℕ) (xs : List Coded) (ss : List Segment) (fs : List (Option State)) → AllPlayed last check final i xs ss fs → AllStand place restarts terminator last check i xs ss
  unfolding AllPlayed AllStand
  all_stand last check final i [] [] fs h = tt
  all_stand last check final i [] (s ∷ ss) fs h = absurd h
  all_stand last check final i (x ∷ xs) [] fs h = absurd h
  all_stand last check final i (x ∷ xs) (s ∷ ss) [] h = absurd h
  all_stand last check final i (x ∷ xs) (s ∷ ss) (f ∷ fs) h = (h.0.stand, all_stand last check final (suc i) xs ss fs h.1)

  pub played_at : (last check : ℕ) (final : List Past) (i : ℕ) (xs : List Coded) (ss : List Segment) (fs : List (Option State)) (k : ℕ) → AllPlayed last check final i xs ss fs → k < length xs
      → IsPlayed last check final (i + k) (get_or xs k nothing_coded) (get_or ss k no_segment) (get_or fs k None)
  unfolding AllPlayed
  played_at last check final i [] ss fs k h lt = absurd (omega arith)
  played_at last check final i (x ∷ xs) [] fs k h lt = absurd h
  played_at last check final i (x ∷ xs) (s ∷ ss) [] k h lt = absurd h
  played_at last check final i (x ∷ xs) (s ∷ ss) (f ∷ fs) zero h lt = let e : i ≡ i + 0 = omega arith in subst (λ (m : ℕ). IsPlayed last check final m x s f) e h.0
  played_at last check final i (x ∷ xs) (s ∷ ss) (f ∷ fs) (suc k) h lt =
      let e : suc i + k ≡ i + suc k = omega arith in
      subst (λ (m : ℕ). IsPlayed last check final m (get_or xs k nothing_coded) (get_or ss k no_segment) (get_or fs k None)) e (played_at last check final (suc i) xs ss fs k h.1 (omega arith))

  -- ---- before the unit

  -- a decoder has in force what the encoder has, and the pasts of its channels
  unfoldable pub Alongside : ℕ → List Coded → List (Option State) → List Past → Type 0
  Alongside i [] fs pasts = Unit {0}
  Alongside i (x ∷ xs) [] pasts = ⊥
  Alongside i (x ∷ xs) (f ∷ fs) pasts = (x.force ≡ f) × ((c : ℕ) → first_channel i ≤ c → c ≤ last_channel i → past_of_channel x.pasts c ≡ past_of_channel pasts c) × Alongside (suc i) xs fs pasts

  along_others : (i : ℕ) (xs : List Coded) (fs : List (Option State)) (old new : List Past) → ((c : ℕ) → first_channel i ≤ c → past_of_channel new c ≡ past_of_channel old c) → Alongside i xs fs old → Alongside i xs fs new
  unfolding Alongside
  along_others i [] fs old new same h = tt
  along_others i (x ∷ xs) [] old new same h = absurd h
  along_others i (x ∷ xs) (f ∷ fs) old new same h = (
    h.0,
    λ c from to. h.1 c from to ∙ sym (same c from),
    along_others (suc i) xs fs old new (λ c from. same c (let r = first_rises i in omega (arith, r, from))) h.2,
  )

  -- ---- all segments

  pub record Plays (last check : ℕ) (i : ℕ) (xs : List Coded) (pasts : List Past) (unit : SentUnit) : Type 0 where
    pub played : AllPlayed last check unit.pasts i xs (take (length xs) unit.segments) unit.force
    pub below : (c : ℕ) → c < first_channel i → past_of_channel unit.pasts c ≡ past_of_channel pasts c

  pub unit_is : (i : ℕ) (f : Option State) (fs : List (Option State)) (pasts : List Past) (s : SentSegment) → segment_sent i p (restart_in p n checks i) f pasts coded terminator ≡ Some s
      → segments_from p (restart_in p n checks) coded terminator i (f ∷ fs) pasts ≡ before s (segments_from p (restart_in p n checks) coded terminator (suc i) fs s.behind.pasts)
  unit_is i f fs pasts s e =
      let next : i + 1 ≡ suc i = omega arith in
      ap (λ (o : Option SentSegment). elim o as (λ o. SentUnit) [ None ↦ nothing_sent pasts | Some s ↦ before s (segments_from p (restart_in p n checks) coded terminator (i + 1) fs s.behind.pasts) ]) e
      ∙ ap (λ (k : ℕ). before s (segments_from p (restart_in p n checks) coded terminator k fs s.behind.pasts)) next

  module _ (last check : ℕ) (full : length coded ≡ unit_of p.rate) (sums : (n == 0) ≡ false → folded (get_or checks last 0) ≡ check) where
    stands : (i : ℕ) (x : Coded) (f : Option State) (pasts : List Past) (s : SentSegment) → CanSend i f pasts s → x.force ≡ f → IsSentWell place x i p (restarts i) pasts coded terminator s
        → Stands place restarts terminator last check i x s.segment
    stands i x f pasts s h same w = record {
      allowed = subst (λ (g : Option State). IsAllowed (segment place unknown g true) s.segment) (sym same) h.allowed;
      begun = w.begun;
      count = w.back.count ∙ full;
      end = w.end;
      padding = w.padding;
      heads = w.heads ∙ ap (λ (k : ℕ). block_heads (restarts i) k) full;
      matrix = subst (λ (g : Option State). IfSome (restarts i) (λ r. IfSome g (λ t. r.max_matrix ≡ t.restart.max_matrix))) (sym same) (matrix_of (has_sync n) f h.plain);
      lossless = λ e. subst (λ (g : Option State). IfSome (restarts i) (λ r. IfSome g (λ t. r.lossless ≡ check))) (sym same) (check_of (has_sync n) f h.later e);
    }
      where
        matrix_of : (t : Bool) (f : Option State) → IfSome f (λ t. IsPlain i t)
            → IfSome (if t then Some (restart_of i (output_timing p n) (check_in n (get_or checks i 0))) else None) (λ r. IfSome f (λ t. r.max_matrix ≡ t.restart.max_matrix))
        matrix_of false f h = tt
        matrix_of true None h = tt
        matrix_of true (Some t) h = sym h.max_matrix

        check_of : (t : Bool) (f : Option State) → IfSome f (λ t. (n == 0) ≡ false) → i ≡ last → IfSome (if t then Some (restart_of i (output_timing p n) (check_in n (get_or checks i 0))) else None) (λ r. IfSome f (λ t. r.lossless ≡ check))
        check_of false f h e = tt
        check_of true None h e = tt
        check_of true (Some t) h e =
            ap (λ (b : Bool). if b then 0 else folded (get_or checks i 0)) h ∙ ap (λ (k : ℕ). folded (get_or checks k 0)) e ∙ sums h

    pub plays : (i : ℕ) (xs : List Coded) (fs : List (Option State)) (pasts : List Past) → length xs ≤ length fs → AllCan i fs pasts → Alongside i xs fs pasts
        → Plays last check i xs pasts (segments_from p (restart_in p n checks) coded terminator i fs pasts)
    unfolding AllCan Alongside AllPlayed
    plays i [] [] pasts le can along = record { played = tt; below = λ c lt. refl }
    plays i (x ∷ xs) [] pasts le can along = absurd (omega arith)
    plays i [] (f ∷ fs) pasts le can along =
        let s : SentSegment = can.0 in
        let x : Coded = record { force = f; pasts = pasts } in
        let w = well i x f pasts s can.1 refl (λ c from to. refl) in
        let rest = plays (suc i) [] fs s.behind.pasts (omega arith) can.2 tt in
        subst (λ (u : SentUnit). Plays last check i [] pasts u) (sym (unit_is i f fs pasts s can.1.sent))
        (record { played = tt; below = λ c lt. rest.below c (let r = first_rises i in omega (arith, r, lt)) ∙ w.below c lt })
    plays i (x ∷ xs) (f ∷ fs) pasts le can along =
        let s : SentSegment = can.0 in
        let w = well i x f pasts s can.1 along.0 along.1 in
        let others = along_others (suc i) xs fs pasts s.behind.pasts (λ c from. w.above c (let r = first_next i in omega (arith, r, from))) along.2 in
        let rest = plays (suc i) xs fs s.behind.pasts (omega arith) can.2 others in
        let here : IsPlayed last check (segments_from p (restart_in p n checks) coded terminator (suc i) fs s.behind.pasts).pasts i x s.segment (Some s.behind.state) = record {
          stand = stands i x f pasts s can.1 along.0 w;
          behind = s.behind.state;
          back = record { force = w.back.force; min = w.plain.min; max = w.plain.max; outputs = w.back.outputs };
          force = refl;
          plain = w.plain;
          top = w.top;
          bits = w.bits;
          least = w.back.least;
          pasts = λ c from to. w.back.pasts c from to ∙ sym (rest.below c (let r = first_next i in omega (arith, r, to)));
        } in
        subst (λ (u : SentUnit). Plays last check i (x ∷ xs) pasts u) (sym (unit_is i f fs pasts s can.1.sent))
        (record { played = (here, rest.played); below = λ c lt. rest.below c (let r = first_rises i in omega (arith, r, lt)) ∙ w.below c lt })
