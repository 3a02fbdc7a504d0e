-- What the units that were sent leave lets the next one be sent.
use Rattle.std.proofs.Common.{◌≡◌, ℕ, zero, suc, ◌+◌, ◌-◌, ◌*◌, ◌/◌, ◌%◌, ◌^◌, ◌<◌, ◌≤◌, ℤ, Bool, true, false, List, [], ◌∷◌, ◌++◌, map, length, take, drop, replicate, get_or, Option, Some, None, Ok, refl, sym, ap, ◌∙◌, subst, arith}
use Rattle.std.specs.Prelude.{IfSome, is_some, bit_xor, ◌==◌, if◌then◌else◌}
use Rattle.std.proofs.lemmas.Bool.{ne_eqb, leb-true}
use Rattle.std.proofs.lemmas.Nat.{xor_lt}
use Rattle.std.proofs.lemmas.List.{length-append, length-drop, length-replicate, length-take-le, get_or-replicate}
use Rattle.std.proofs.lemmas.List.FromFn.{length-map-range_with_len}
use Rattle.mlp_syntax.specs.declared.major.Kind.{Kind}
use Rattle.mlp_syntax.specs.declared.restart.Restart.{Restart}
use Rattle.mlp_output.specs.Output.{folded}
use Rattle.mlp_params.specs.declared.state.State.{State}
use Rattle.mlp_predict.specs.Prediction.{Past, zeros}
use Rattle.mlp_substream.specs.Segment.{segment, unknown, IsAllowed}
use Rattle.mlp_fifo.specs.LeftFifo.{LeftFifo}
use Rattle.mlp_fifo.specs.Pace.{unit_of}
use Rattle.mlp_fold.specs.declared.profile.Profile.{Profile}
use Rattle.mlp_fold.specs.declared.coding.CodedFrame.{CodedFrame}
use Rattle.mlp_fold.specs.Profile.{AreMixed, checked, has_channels}
use Rattle.mlp_fold.specs.Mix.{channels_of}
use Rattle.mlp_fold.specs.Rows.{steps_of}
use Rattle.mlp_fold.specs.Substreams.{substreams_of, first_channel, last_channel}
use Rattle.mlp_encode.specs.Numbers.{has_sync, low_zeros, coded_channels}
use Rattle.mlp_encode.specs.Sync.{restart_of}
use Rattle.mlp_encode.specs.Blocks.{Force, SentBlock, SentSegment, block_sent, restarted, restart_sent, later_sent, segment_sent}
use Rattle.mlp_encode.specs.Left.{Going, Left, going}
use Rattle.mlp_encode.specs.Lawful.{IsInForce, IsRestartOf, AreCodedBy, IsEnd, SendsSegment, segment_most}
use Rattle.mlp_encode.specs.Unit.{SentUnit, AreNext, filled, coded, terminator_of, output_timing, check_in, restart_in, segments_from, unit_sent, place_of, segments_bytes, behind, joined}
use Rattle.mlp_encode.proofs.SentChannels.{first_last, last_most}
use Rattle.mlp_encode.proofs.SentParams.{steps_count}
use Rattle.mlp_encode.proofs.SentSegments.{unit_least, part_all, part_first, part_later, later_sendable, fresh_sendable, behind_in_force}
use Rattle.mlp_encode.proofs.SyncAllowed.{passes}
use Rattle.mlp_encode.proofs.SentAllowed.{later_allowed, restart_allowed}
use Rattle.mlp_encode.proofs.SegmentLaws.{sent_most}
use Rattle.mlp_encode.proofs.FramesCoded.{coded_by}
use Rattle.mlp_encode.proofs.Ends.{end_is, restart_lawful}
use Rattle.mlp_encode.proofs.SentStarts.{mixed_there}
use Rattle.mlp_encode.proofs.FramesFilled.{filled_samples, filled_count}
use Rattle.mlp_lossless.specs.Streams.{AreUnits, all_frames}
use Rattle.mlp_lossless.specs.Lossless.{GivesBack, ArrivesEarliest, ArrivesInTime, EachSent}
use Rattle.mlp_lossless.specs.Chosen.{IsChosenStream}
use Rattle.mlp_lossless.proofs.Starts.{gives_back, arrives, in_time, is_chosen}
use Rattle.mlp_lossless.proofs.Segments.{CanBlock, CanRestart, block_eight}
use Rattle.mlp_lossless.proofs.Sends.{block_plain}
use Rattle.mlp_lossless.proofs.Plain.{IsPlain, restart_plain}
use Rattle.mlp_lossless.proofs.Units.{CanSegment, CanSend, AllCan, unit_is}
use Rattle.mlp_lossless.proofs.Steps.{CanSendUnit}
use Rattle.mlp_lossless.proofs.Shapes.{presentation}
use Rattle.mlp_lossless.proofs.Lengths.{IsShort, FitsUnit, is_short, fits_unit}
use Rattle.mlp_lossless.proofs.Syncs.{two_at_most}
use Rattle.mlp_lossless.proofs.Streams.{was_sent, AllCanSend}

-- ---- what is in force in a substream behind its segment

pub record IsLeft (p : Profile) (i : ℕ) (s : State) : Type 0 where
  pub in_force : IsInForce p i s
  pub plain : IsPlain i s

module _ (p : Profile) (n : ℕ) (checks : List ℕ) (cs : List CodedFrame) (t : Option ℕ) (shape : AreMixed p.mix p.depth p.channels) (a : AreCodedBy p cs) (end : IsEnd p t) where
  -- a segment that can be sent, and what it leaves
  pub record Sends (i : ℕ) (f : Option State) (pasts : List Past) : Type 0 where
    pub s : SentSegment
    pub can : CanSend p n checks cs t i f pasts s
    pub left : IsLeft p i s.behind.state
    pub eight : length s.behind.pasts ≡ 8

  module _ (i : ℕ) (pasts : List Past) (few : i ≤ 2) (top : channels_of i ≤ p.channels) (eight : length pasts ≡ 8) where
    count : length (steps_of p.mix (low_zeros p.depth) i) ≡ last_channel i + 1
    count = steps_count i p shape top

    order : first_channel i ≤ last_channel i + 1
    order = let le = first_last i few in omega (arith, le)

    begun_eight : length (restarted i p (restart_of i (output_timing p n) (check_in n (get_or checks i 0))) pasts).pasts ≡ 8
    begun_eight =
        let front : List Past = take (first_channel i) pasts in
        let mid : List Past = map (λ c. zeros 8 4) (coded_channels i) in
        let rest : List Past = drop (last_channel i + 1) pasts in
        let le = first_last i few in
        let l = last_most i in
        let x = length-take-le (first_channel i) pasts (omega (arith, eight, le, l)) in
        let y = length-map-range_with_len (λ (c : ℕ). zeros 8 4) (first_channel i) (last_channel i - first_channel i + 1) in
        let z = length-drop (last_channel i + 1) pasts in
        let u = length-append (take (first_channel i) pasts ++ map (λ c. zeros 8 4) (coded_channels i)) (drop (last_channel i + 1) pasts) in
        let v = length-append (take (first_channel i) pasts) (map (λ c. zeros 8 4) (coded_channels i)) in
        omega (arith, x, y, z, u, v, le, l, eight)

    record Fresh (f : Option State) : Type 0 where
      can : CanRestart i p (restart_of i (output_timing p n) (check_in n (get_or checks i 0))) pasts cs
      allowed : IsAllowed (segment (record { format = p.kind; unit_frames = unit_of p.rate; major = true }) unknown f true) (restart_sent i p (restart_of i (output_timing p n) (check_in n (get_or checks i 0))) pasts cs t).segment
      left : IsLeft p i (restart_sent i p (restart_of i (output_timing p n) (check_in n (get_or checks i 0))) pasts cs t).behind.state
      stays : length (restart_sent i p (restart_of i (output_timing p n) (check_in n (get_or checks i 0))) pasts cs t).behind.pasts ≡ 8
      short : length ((segment (record { format = p.kind; unit_frames = unit_of p.rate; major = true }) unknown f true).spelling
          (restart_sent i p (restart_of i (output_timing p n) (check_in n (get_or checks i 0))) pasts cs t).segment) ≤ 8 * segment_most p i

    short_fresh : (f : Option State) → IfSome f (IsInForce p i) → IsRestartOf p i (restart_of i (output_timing p n) (check_in n (get_or checks i 0)))
        → length ((segment (record { format = p.kind; unit_frames = unit_of p.rate; major = true }) unknown f true).spelling
        (restart_sent i p (restart_of i (output_timing p n) (check_in n (get_or checks i 0))) pasts cs t).segment) ≤ 8 * segment_most p i
    short_fresh f force r =
        let h : Restart = restart_of i (output_timing p n) (check_in n (get_or checks i 0)) in
        let sends : SendsSegment p i (Some h) f cs = record { which = few; shape = shape; top = top; frames = a; restarts = r; force = force; there = λ no. absurd (let z : true ≡ false = no in cc) } in
        sent_most i p pasts cs t (Some h) f sends end

    fresh : (f : Option State) → IfSome f (IsInForce p i) → IsRestartOf p i (restart_of i (output_timing p n) (check_in n (get_or checks i 0))) → Fresh f
    unfolding restart_sent
    fresh f force r =
        let h : Restart = restart_of i (output_timing p n) (check_in n (get_or checks i 0)) in
        let begun : Force = restarted i p h pasts in
        let s1 = fresh_sendable p i (take 8 cs) few shape top (part_first p cs a) h order r in
        let first : SentBlock = block_sent i p (Some h) begun (take 8 cs) in
        let can1 : CanBlock i p (Some h) begun (take 8 cs) = record { sendable = s1; steps = count; eight = begun_eight } in
        let mid = behind_in_force i p (Some h) begun (take 8 cs) s1 in
        let s2 = later_sendable p i (drop 8 cs) few shape top (part_later p cs a) first.behind.state mid in
        let can2 : CanBlock i p None first.behind (drop 8 cs) = record { sendable = s2; steps = count; eight = block_eight i p (Some h) begun (take 8 cs) can1 } in
        let plain = block_plain i p (Some h) begun (take 8 cs) can1 (restart_plain i p.kind (unit_of p.rate) (output_timing p n) (check_in n (get_or checks i 0))) in
        record {
          can = record { begins = can1; goes_on = can2; eight = eight };
          allowed = restart_allowed i p h pasts cs t f r.allowed (omega (arith, a.count, unit_least p.rate)) a.count end s1 s2;
          left = record { in_force = behind_in_force i p None first.behind (drop 8 cs) s2; plain = block_plain i p None first.behind (drop 8 cs) can2 plain };
          stays = block_eight i p None first.behind (drop 8 cs) can2;
          short = short_fresh f force r;
        }

    record Later (st : State) : Type 0 where
      can : CanBlock i p None (record { state = st; pasts = pasts }) cs
      allowed : IsAllowed (segment (record { format = p.kind; unit_frames = unit_of p.rate; major = false }) unknown (Some st) true) (later_sent i p (record { state = st; pasts = pasts }) cs t).segment
      left : IsLeft p i (later_sent i p (record { state = st; pasts = pasts }) cs t).behind.state
      stays : length (later_sent i p (record { state = st; pasts = pasts }) cs t).behind.pasts ≡ 8
      short : length ((segment (record { format = p.kind; unit_frames = unit_of p.rate; major = false }) unknown (Some st) true).spelling (later_sent i p (record { state = st; pasts = pasts }) cs t).segment) ≤ 8 * segment_most p i

    short_later : (st : State) → IsLeft p i st → length ((segment (record { format = p.kind; unit_frames = unit_of p.rate; major = false }) unknown (Some st) true).spelling
        (later_sent i p (record { state = st; pasts = pasts }) cs t).segment) ≤ 8 * segment_most p i
    short_later st h =
        let sends : SendsSegment p i None (Some st) cs = record { which = few; shape = shape; top = top; frames = a; restarts = tt; force = h.in_force; there = λ no. refl } in
        sent_most i p pasts cs t None (Some st) sends end

    later : (st : State) → IsLeft p i st → Later st
    unfolding later_sent
    later st h =
        let before : Force = record { state = st; pasts = pasts } in
        let s = later_sendable p i cs few shape top (part_all p cs a) st h.in_force in
        let can : CanBlock i p None before cs = record { sendable = s; steps = count; eight = eight } in
        record {
          can = can;
          allowed = later_allowed i p before cs t s a.count end;
          left = record { in_force = behind_in_force i p None before cs s; plain = block_plain i p None before cs can h.plain };
          stays = block_eight i p None before cs can;
          short = short_later st h;
        }

    pub sends : (f : Option State) → IfSome f (IsLeft p i) → IfSome f (λ s. (n == 0) ≡ false) → (has_sync n ≡ false → is_some f ≡ true) → IfSome (restart_in p n checks i) (IsRestartOf p i) → Sends i f pasts
    sends f left going there restarts = pick (has_sync n) refl f left going there restarts
      where
        plain_of : (f : Option State) → IfSome f (IsLeft p i) → IfSome f (λ s. IsPlain i s)
        plain_of None h = tt
        plain_of (Some s) h = h.plain

        force_of : (f : Option State) → IfSome f (IsLeft p i) → IfSome f (IsInForce p i)
        force_of None h = tt
        force_of (Some s) h = h.in_force

        pick : (b : Bool) → has_sync n ≡ b → (f : Option State) → IfSome f (IsLeft p i) → IfSome f (λ s. (n == 0) ≡ false) → (b ≡ false → is_some f ≡ true)
            → IfSome (if b then Some (restart_of i (output_timing p n) (check_in n (get_or checks i 0))) else None) (IsRestartOf p i) → Sends i f pasts
        pick true e f left going there restarts =
            let x = fresh f (force_of f left) restarts in
            let o : restart_in p n checks i ≡ Some (restart_of i (output_timing p n) (check_in n (get_or checks i 0))) =
            ap (λ (b : Bool). if b then Some (restart_of i (output_timing p n) (check_in n (get_or checks i 0))) else None) e in
            record {
              s = restart_sent i p (restart_of i (output_timing p n) (check_in n (get_or checks i 0))) pasts cs t;
              can = record {
                sent = ap (λ (o : Option Restart). segment_sent i p o f pasts cs t) o;
                can = subst (λ (o : Option Restart). CanSegment p n checks cs t i pasts o f) (sym o) x.can;
                allowed = subst (λ (b : Bool). IsAllowed (segment (record { format = p.kind; unit_frames = unit_of p.rate; major = b }) unknown f true)
                    (restart_sent i p (restart_of i (output_timing p n) (check_in n (get_or checks i 0))) pasts cs t).segment) (sym e) x.allowed;
                plain = plain_of f left;
                later = going;
                short = subst (λ (b : Bool). length ((segment (record { format = p.kind; unit_frames = unit_of p.rate; major = b }) unknown f true).spelling
                    (restart_sent i p (restart_of i (output_timing p n) (check_in n (get_or checks i 0))) pasts cs t).segment) ≤ 8 * segment_most p i) (sym e) x.short;
              };
              left = x.left;
              eight = x.stays;
            }
        pick false e None left going there restarts = absurd (let z : is_some {T = State} None ≡ true = there refl in cc)
        pick false e (Some st) left going there restarts =
            let x = later st left in
            let o : restart_in p n checks i ≡ None =
            ap (λ (b : Bool). if b then Some (restart_of i (output_timing p n) (check_in n (get_or checks i 0))) else None) e in
            record {
              s = later_sent i p (record { state = st; pasts = pasts }) cs t;
              can = record {
                sent = ap (λ (o : Option Restart). segment_sent i p o (Some st) pasts cs t) o;
                can = subst (λ (o : Option Restart). CanSegment p n checks cs t i pasts o (Some st)) (sym o) x.can;
                allowed = subst (λ (b : Bool). IsAllowed (segment (record { format = p.kind; unit_frames = unit_of p.rate; major = b }) unknown (Some st) true)
                    (later_sent i p (record { state = st; pasts = pasts }) cs t).segment) (sym e) x.allowed;
                plain = left.plain;
                later = going;
                short = subst (λ (b : Bool). length ((segment (record { format = p.kind; unit_frames = unit_of p.rate; major = b }) unknown (Some st) true).spelling
                    (later_sent i p (record { state = st; pasts = pasts }) cs t).segment) ≤ 8 * segment_most p i) (sym e) x.short;
              };
              left = x.left;
              eight = x.stays;
            }

  -- ---- all substreams

  left_at : (k n i : ℕ) (b : State) (more : List (Option State)) → IsLeft p i b → ((m : ℕ) → m < n → IfSome (get_or more m None) (IsLeft p (suc i + m))) → k < suc n → IfSome (get_or (Some b ∷ more) k None) (IsLeft p (i + k))
  left_at zero n i b more h rest lt = let z : i ≡ i + 0 = omega arith in subst (λ (m : ℕ). IsLeft p m b) z h
  left_at (suc k) n i b more h rest lt = let z : suc i + k ≡ i + suc k = omega arith in subst (λ (m : ℕ). IfSome (get_or more k None) (IsLeft p m)) z (rest k (omega arith))

  there_at : (k n : ℕ) (b : State) (more : List (Option State)) → ((m : ℕ) → m < n → is_some (get_or more m None) ≡ true) → k < suc n → is_some (get_or (Some b ∷ more) k None) ≡ true
  there_at zero n b more rest lt = refl
  there_at (suc k) n b more rest lt = rest k (omega arith)

  pub record SendsAll (i : ℕ) (fs : List (Option State)) (pasts : List Past) : Type 0 where
    pub can : AllCan p n checks cs t i fs pasts
    pub count : length (segments_from p (restart_in p n checks) cs t i fs pasts).force ≡ length fs
    pub left : (k : ℕ) → k < length fs → IfSome (get_or (segments_from p (restart_in p n checks) cs t i fs pasts).force k None) (IsLeft p (i + k))
    pub there : (k : ℕ) → k < length fs → is_some (get_or (segments_from p (restart_in p n checks) cs t i fs pasts).force k None) ≡ true
    pub eight : length (segments_from p (restart_in p n checks) cs t i fs pasts).pasts ≡ 8

  pub sends_all : (i : ℕ) (fs : List (Option State)) (pasts : List Past) → i + length fs ≤ 3 → ((k : ℕ) → k < length fs → channels_of (i + k) ≤ p.channels) → length pasts ≡ 8
      → ((k : ℕ) → k < length fs → IfSome (get_or fs k None) (IsLeft p (i + k))) → ((k : ℕ) → k < length fs → IfSome (get_or fs k None) (λ s. (n == 0) ≡ false))
      → ((k : ℕ) → k < length fs → has_sync n ≡ false → is_some (get_or fs k None) ≡ true) → ((k : ℕ) → k < length fs → IfSome (restart_in p n checks (i + k)) (IsRestartOf p (i + k))) → SendsAll i fs pasts
  unfolding AllCan
  sends_all i [] pasts few top eight left going there restarts = record { can = tt; count = refl; left = λ k lt. absurd (omega (arith, lt)); there = λ k lt. absurd (omega (arith, lt)); eight = eight }
  sends_all i (f ∷ fs) pasts few top eight left going there restarts =
      let z : i + 0 ≡ i = omega arith in
      let some : 0 < length (f ∷ fs) = omega arith in
      let x = sends i pasts (omega (arith, few)) (subst (λ (m : ℕ). channels_of m ≤ p.channels) z (top 0 some)) eight f
      (subst (λ (m : ℕ). IfSome f (IsLeft p m)) z (left 0 some)) (going 0 some) (there 0 some) (subst (λ (m : ℕ). IfSome (restart_in p n checks m) (IsRestartOf p m)) z (restarts 0 some)) in
      let at : (k : ℕ) → i + suc k ≡ suc i + k = λ k. omega arith in
      let rest = sends_all (suc i) fs x.s.behind.pasts (omega (arith, few)) (λ k lt. subst (λ (m : ℕ). channels_of m ≤ p.channels) (at k) (top (suc k) (omega (arith, lt)))) x.eight
      (λ k lt. subst (λ (m : ℕ). IfSome (get_or fs k None) (IsLeft p m)) (at k) (left (suc k) (omega (arith, lt)))) (λ k lt. going (suc k) (omega (arith, lt))) (λ k lt. there (suc k) (omega (arith, lt)))
      (λ k lt. subst (λ (m : ℕ). IfSome (restart_in p n checks m) (IsRestartOf p m)) (at k) (restarts (suc k) (omega (arith, lt)))) in
      let more : SentUnit = segments_from p (restart_in p n checks) cs t (suc i) fs x.s.behind.pasts in
      let whole = unit_is p n checks cs t i f fs pasts x.s x.can.sent in
      let forces : (segments_from p (restart_in p n checks) cs t i (f ∷ fs) pasts).force ≡ Some x.s.behind.state ∷ more.force = ap (λ (u : SentUnit). u.force) whole in
      record {
        can = (x.s, x.can, rest.can);
        count = ap (λ (fs : List (Option State)). length fs) forces ∙ ap suc rest.count;
        left = λ k lt. subst (λ (gs : List (Option State)). IfSome (get_or gs k None) (IsLeft p (i + k))) (sym forces) (left_at k (length fs) i x.s.behind.state more.force x.left rest.left lt);
        there = λ k lt. subst (λ (gs : List (Option State)). is_some (get_or gs k None) ≡ true) (sym forces) (there_at k (length fs) x.s.behind.state more.force rest.there lt);
        eight = ap (λ (u : SentUnit). length u.pasts) whole ∙ rest.eight;
      }

-- ---- what units leave

pub record IsKept (e : Going) : Type 0 where
  pub profile : checked e.profile ≡ Ok tt
  pub count : length e.force ≡ substreams_of e.profile.channels
  pub eight : length e.pasts ≡ 8
  pub left : (k : ℕ) → k < length e.force → IfSome (get_or e.force k None) (IsLeft e.profile k)
  pub going_on : (k : ℕ) → k < length e.force → IfSome (get_or e.force k None) (λ s. (e.units == 0) ≡ false)
  pub there : (k : ℕ) → k < length e.force → has_sync e.units ≡ false → is_some (get_or e.force k None) ≡ true

-- ---- the restarts

folded_small : (running : ℕ) → folded running < 2 ^ 8
folded_small running =
    xor_lt 8 (bit_xor (running % 2 ^ 8) (running / 2 ^ 8 % 2 ^ 8)) (bit_xor (running / 2 ^ 16 % 2 ^ 8) (running / 2 ^ 24 % 2 ^ 8))
    (xor_lt 8 (running % 2 ^ 8) (running / 2 ^ 8 % 2 ^ 8) (omega arith) (omega arith)) (xor_lt 8 (running / 2 ^ 16 % 2 ^ 8) (running / 2 ^ 24 % 2 ^ 8) (omega arith) (omega arith))

check_small : (n running : ℕ) → check_in n running < 2 ^ 8
check_small n running = pick (n == 0)
  where
    pick : (t : Bool) → (if t then 0 else folded running) < 2 ^ 8
    pick true = omega arith
    pick false = folded_small running

restarts_are : (p : Profile) (n : ℕ) (checks : List ℕ) → checked p ≡ Ok tt → (k : ℕ) → k < substreams_of p.channels → IfSome (restart_in p n checks k) (IsRestartOf p k)
restarts_are p n checks ok k lt = pick (has_sync n)
  where
    pick : (t : Bool) → IfSome (if t then Some (restart_of k (output_timing p n) (check_in n (get_or checks k 0))) else None) (IsRestartOf p k)
    pick false = tt
    pick true =
        restart_lawful p k (output_timing p n) (check_in n (get_or checks k 0)) (presentation p k (passes p ok) lt).few
        (λ e. let two = leb-true (substreams_of p.channels) 2 (two_at_most p.channels (ap (λ (kind : Kind). has_channels kind p.channels) (sym e) ∙ (passes p ok).channels)) in omega (arith, two, lt))
        (omega arith) (check_small n (get_or checks k 0))

-- ---- the next unit

frames_sent : (p : Profile) (frames : List (List ℤ)) (last : Bool) → checked p ≡ Ok tt → AreNext p frames last → AreCodedBy p (coded p (filled p frames))
frames_sent p frames last ok next =
    coded_by p (filled p frames) (mixed_there p (passes p ok)) (filled_samples p frames last next) (filled_count p frames last next)

module _ (e : Going) (frames : List (List ℤ)) (last : Bool) (h : IsKept e) (next : AreNext e.profile frames last) where
  all_sent : SendsAll e.profile e.units e.checks (coded e.profile (filled e.profile frames)) (terminator_of e.profile (length frames) last) (mixed_there e.profile (passes e.profile h.profile))
      (frames_sent e.profile frames last h.profile next) (end_is e.profile (length frames) last) 0 e.force e.pasts
  all_sent =
      let zero_is : (k : ℕ) → k ≡ 0 + k = λ k. omega arith in
      let shows = λ (k : ℕ) (lt : k < length e.force). presentation e.profile k (passes e.profile h.profile) (omega (arith, lt, h.count)) in
      sends_all e.profile e.units e.checks (coded e.profile (filled e.profile frames)) (terminator_of e.profile (length frames) last) (mixed_there e.profile (passes e.profile h.profile))
      (frames_sent e.profile frames last h.profile next) (end_is e.profile (length frames) last) 0 e.force e.pasts
      (three (substreams_of e.profile.channels) h.count (λ k lt. (presentation e.profile k (passes e.profile h.profile) lt).few))
      (λ k lt. subst (λ (m : ℕ). channels_of m ≤ e.profile.channels) (zero_is k) (shows k lt).fits)
      h.eight
      (λ k lt. subst (λ (m : ℕ). IfSome (get_or e.force k None) (IsLeft e.profile m)) (zero_is k) (h.left k lt))
      h.going_on h.there
      (λ k lt. subst (λ (m : ℕ). IfSome (restart_in e.profile e.units e.checks m) (IsRestartOf e.profile m)) (zero_is k) (restarts_are e.profile e.units e.checks h.profile k (omega (arith, lt, h.count))))
    where
      three : (n : ℕ) → length e.force ≡ n → ((k : ℕ) → k < n → k ≤ 2) → 0 + length e.force ≤ 3
      three zero is few = omega (arith, is)
      three (suc n) is few = omega (arith, is, few n (omega arith))

  written : FitsUnit e.profile (has_sync e.units) (segments_bytes (place_of e) e.force (unit_sent e frames last).segments)
  unfolding unit_sent
  written =
      let cs : List CodedFrame = coded e.profile (filled e.profile frames) in
      let t : Option ℕ = terminator_of e.profile (length frames) last in
      let short = is_short e.profile e.units e.checks cs t 0 e.force e.pasts all_sent.can in
      fits_unit e.profile (passes e.profile h.profile) e.units e.checks cs t (segments_bytes (place_of e) e.force (unit_sent e frames last).segments)
      (subst (λ (m : ℕ). IsShort e.profile e.units e.checks cs t 0 m (segments_bytes (place_of e) e.force (unit_sent e frames last).segments)) h.count short)

  pub can_send : CanSendUnit e frames last
  can_send = record { profile = h.profile; frames_are = next; count = h.count; segments = all_sent.can; writable = written.parts; small = written.small; even = written.even; single = written.single }

  pub kept_on : (fifo : LeftFifo) → IsKept (behind e frames (unit_sent e frames last) fifo)
  unfolding unit_sent
  kept_on fifo =
      let more : (e.units + 1 == 0) ≡ false = ne_eqb (e.units + 1) 0 (λ z. absurd (omega (arith, z))) in
      record {
        profile = h.profile;
        count = all_sent.count ∙ h.count;
        eight = all_sent.eight;
        left = λ k lt. let z : 0 + k ≡ k = omega arith in subst (λ (m : ℕ). IfSome (get_or (unit_sent e frames last).force k None) (IsLeft e.profile m)) z (all_sent.left k (omega (arith, lt, all_sent.count)));
        going_on = λ k lt. all_some (get_or (unit_sent e frames last).force k None) more;
        there = λ k lt no. all_sent.there k (omega (arith, lt, all_sent.count));
      }
    where
      all_some : (o : Option State) → (e.units + 1 == 0) ≡ false → IfSome o (λ s. (e.units + 1 == 0) ≡ false)
      all_some None m = tt
      all_some (Some s) m = m

pub kept_start : (p : Profile) → checked p ≡ Ok tt → IsKept (going p)
kept_start p h =
    let nothing : List (Option State) = replicate (substreams_of p.channels) None in
    let count : length nothing ≡ substreams_of p.channels = length-replicate (substreams_of p.channels) None in
    let none : (k : ℕ) → k < length nothing → get_or nothing k None ≡ None = λ k lt. get_or-replicate (substreams_of p.channels) k None None (omega (arith, lt, count)) in
    record {
      profile = h;
      count = count;
      eight = refl;
      left = λ k lt. subst (λ (o : Option State). IfSome o (IsLeft p k)) (sym (none k lt)) tt;
      going_on = λ k lt. subst (λ (o : Option State). IfSome o (λ s. (0 == 0) ≡ false)) (sym (none k lt)) tt;
      there = λ k lt no. absurd (let z : has_sync 0 ≡ false = no in cc);
    }

-- ---- all units

pub all_can_send : (pcm : List (List (List ℤ))) (p : Profile) (e : Going) → e.profile ≡ p → IsKept e → AreUnits p pcm → AllCanSend (Ok e) pcm
unfolding AllCanSend
all_can_send [] p e same h a = tt
all_can_send (frames ∷ more) p e same h a =
    let last : Bool = length more == 0 in
    let next = subst (λ (p : Profile). AreNext p frames (length more == 0)) (sym same) a.0 in (
      can_send e frames (length more == 0) h next,
      λ x sent. let w = was_sent e frames (length more == 0) x sent in
          subst (λ (l : Left). AllCanSend l more) (sym w.left_is)
          (all_can_send more p (behind e frames (unit_sent e frames (length more == 0)) w.fifo) same
          (kept_on e frames (length more == 0) h next w.fifo) a.1),
    )

-- ---- the laws

pub all_given_back : EachSent (λ p frames units j. GivesBack p j (all_frames frames) (joined units))
all_given_back p frames units left j h lt = gives_back p j frames units left h lt (all_can_send frames p (going p) refl (kept_start p h.profile) h.frames_are)

pub all_arrive : EachSent (λ p frames units j. ArrivesEarliest p j units)
all_arrive p frames units left j h lt = arrives p j frames units left h lt (all_can_send frames p (going p) refl (kept_start p h.profile) h.frames_are)

pub all_chosen : EachSent (λ p frames units j. IsChosenStream p j units)
all_chosen p frames units left j h lt = is_chosen p j frames units left h lt (all_can_send frames p (going p) refl (kept_start p h.profile) h.frames_are)

pub all_in_time : EachSent (λ p frames units j. ArrivesInTime p j units)
all_in_time p frames units left j h lt = in_time p j units (all_arrive p frames units left j h lt)
