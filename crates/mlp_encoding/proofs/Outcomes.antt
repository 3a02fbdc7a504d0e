-- A run of the session over PCM.
use Rattle.std.proofs.Common.{◌≡◌, ◌≢◌, ℕ, suc, ◌+◌, ◌*◌, ◌/◌, ◌%◌, ◌<◌, ◌≤◌, ◌++◌, Bool, true, false, not, leb, List, [], ◌∷◌, length, map, take, drop, Option, None, Some, Result}
use Rattle.std.proofs.Common.{Ok, Err, ℤ, ◌⊎◌, inl, inr, refl, sym, ap, subst, ◌∙◌, arith, append_assoc, length-append}
use Rattle.std.specs.Prelude.{◌==◌, ◌&&◌, nat_lt, if◌then◌else◌}
use Rattle.std.proofs.Math.Nat.{mul-mod_left, div-eq_of_eq-mul_left}
use Rattle.std.proofs.lemmas.Bool.{cases_lt, cases_order, lt-ltb, le-ltb, lt-leb, le-leb, ne_eqb, eq-eqb}
use Rattle.std.proofs.lemmas.List.{take_all, take_at, drop_at, drop_all, nil_from_length}
use Rattle.std.proofs.lemmas.List.Elements.{All-head, All-tail}
use Rattle.mlp_syntax.specs.declared.major.Kind.{Kind}
use Rattle.mlp_syntax.specs.declared.major.Kind.TheVariants.{Fbb, Fba}
use Rattle.mlp_syntax.specs.declared.refusal.PcmFault.{PcmFault}
use Rattle.mlp_syntax.specs.declared.refusal.PcmFault.TheVariants as fault
use Rattle.mlp_stream.specs.declared.refusal.Refusal.{Refusal}
use Rattle.mlp_stream.specs.declared.refusal.Refusal.TheVariants as refused
use Rattle.mlp_stream.specs.declared.stop.Stop.{Stop}
use Rattle.mlp_stream.specs.declared.stop.Stop.TheVariants.{TooLong}
use Rattle.mlp_stream.specs.Streams.{Outcome, stopped, finished}
use Rattle.mlp_stream.proofs.Runs.{outcome-waits, outcome-nil}
use Rattle.mlp_pcm.specs.Samples.{row_in, are_clear, first_failing}
use Rattle.mlp_fifo.specs.Pace.{unit_of}
use Rattle.mlp_fold.specs.declared.profile.Profile.{Profile}
use Rattle.mlp_fold.specs.Profile.{checked}
use Rattle.mlp_encode.specs.Left.{Left}
use Rattle.mlp_encode.specs.Unit.{joined, next_sent}
use Rattle.mlp_encode.specs.Sent.{sent}
use Rattle.mlp_encoding.specs.Pcm.{sample_size, frame_size, full_size, frames_in, first_padded, data_in, is_seen, IsFull, IsLastUnit, AreFull, refusing, complete, Ends, whole, empty, padded, cut_frame, cut_unit, unfinished}
use Rattle.mlp_encoding.specs.Encoding.{Encoding, less, part_of, is_last, is_open, is_fbb, cut_fault, fault_by, fault_in, encode_step, encode_last, encode_count, last_of}
use Rattle.mlp_encoding.specs.Sizes.{AreSizes, sizes}
use Rattle.mlp_encoding.specs.EncodeLaws.{encode_lawful, closed_long, closed_padded, open_short, open_clear}
use Rattle.mlp_pcm.proofs.Pieces.{pieces_none}
use Rattle.mlp_encoding.proofs.Parts.{cut_by, short_by}
use Rattle.mlp_encoding.proofs.EncodeSteps.{parts}
use Rattle.mlp_encoding.proofs.Sending.{Comes, runs, At, Comes_of, send_comes, refuse_comes, next_at, step_open, step_closed, step_sends, finished_by, data_less, seen_less, more_less, open_ended, bytes_there, no_bytes, seen_nil}

module _ (p : Profile) (ok : checked p ≡ Ok tt) where
  is : AreSizes p
  is = sizes p ok

  -- ---- no bytes are whole frames without a fault

  pub zero_mod : 0 % frame_size p ≡ 0
  zero_mod = let z : 0 * frame_size p ≡ 0 = grind arith in ap (λ (k : ℕ). k % frame_size p) (sym z) ∙ mul-mod_left 0 (frame_size p)

  zero_div : 0 / frame_size p ≡ 0
  zero_div = let z : 0 * frame_size p ≡ 0 = grind arith in div-eq_of_eq-mul_left {n = frame_size p} is.frame_some (sym z)

  pub nothing_padded : first_padded p [] ≡ None
  unfolding first_failing
  nothing_padded = ap (first_failing (are_clear p.depth)) (pieces_none (row_in (sample_size p.depth) p.channels) (frame_size p) (0 / frame_size p) [] zero_div)

  pub padded_some : (rest : List ℕ) (frame : ℕ) → first_padded p (take (full_size p) rest) ≡ Some frame → 0 < length rest
  padded_some rest frame e = elim (cases_lt 0 (length rest)) [
    | inl lt ↦ lt
    | inr none ↦ (
        let nil : rest ≡ [] = nil_from_length rest (omega (arith, none)) in
        let front : take (full_size p) rest ≡ [] = take_all (full_size p) rest (omega (arith, none)) ∙ nil in
        absurd (some_none (sym e ∙ ap (first_padded p) front ∙ nothing_padded)))
  ]
    where
      nowhere : Option ℕ
      nowhere = None

      some_none : Some frame ≡ nowhere → ⊥
      some_none h = cc

  -- ---- behind units something comes

  pub ends_some : (n m : ℕ) (ended seen : Bool) (rest : List ℕ) (more : List (List (List ℤ))) (last : Bool) (end : Result Unit Stop) → 0 < m → Ends p m ended seen rest more last end → 0 < length rest
  ends_some n m ended seen rest more last end some (whole s l) = l.some
  ends_some n m ended seen rest more last end some (empty s z r) = absurd (omega (arith, z, some))
  ends_some n m ended seen rest more last end some (padded frame d e) = padded_some rest frame e
  ends_some n m ended seen rest more last end some (cut_frame s lt e ne) = elim (cases_lt 0 (length rest)) [
    | inl lt ↦ lt
    | inr none ↦ absurd (ne (ap (λ (k : ℕ). k % frame_size p) (let z : length rest ≡ 0 = omega (arith, none) in z) ∙ zero_mod))
  ]
  ends_some n m ended seen rest more last end some (cut_unit s k there lt e w) = there
  ends_some n m ended seen rest more last end some (unfinished s (inl lt) le c) = lt
  ends_some n m ended seen rest more last end some (unfinished s (inr z) le c) = absurd (omega (arith, z, some))

  -- a unit with others behind it isn't the last one
  ends_flag : (m : ℕ) (ended seen : Bool) (rest : List ℕ) (more : List (List (List ℤ))) (last : Bool) (end : Result Unit Stop) (xs : List (List (List ℤ))) → Ends p m ended seen rest more last end
      → (last && (length (xs ++ more) == 0)) ≡ false
  ends_flag m ended seen rest more last end xs (whole s l) = ne_eqb (length (xs ++ frames_in p rest ∷ [])) 0 (λ z. omega (arith, z, length-append xs (frames_in p rest ∷ [])))
  ends_flag m ended seen rest more last end xs (empty s z r) = refl
  ends_flag m ended seen rest more last end xs (padded frame d e) = refl
  ends_flag m ended seen rest more last end xs (cut_frame s lt e ne) = refl
  ends_flag m ended seen rest more last end xs (cut_unit s k there lt e w) = refl
  ends_flag m ended seen rest more last end xs (unfinished s d le c) = refl

  -- ---- what cuts the last unit off

  pub cut_none : (rest : List ℕ) → IsLastUnit p rest → cut_fault p rest ≡ None
  cut_none rest l =
      ap (λ (b : Bool). cut_by p rest (not b)) (eq-eqb (length rest % frame_size p) 0 l.whole) ∙ ap short_by (kind_by p.kind refl)
    where
      kind_by : (k : Kind) → p.kind ≡ k → (is_fbb p.kind && nat_lt (length rest) (full_size p)) ≡ false
      kind_by Fba e = ap (λ (k : Kind). is_fbb k && nat_lt (length rest) (full_size p)) e
      kind_by Fbb e = ap (λ (k : Kind). is_fbb k && nat_lt (length rest) (full_size p)) e ∙ le-ltb (length rest) (full_size p) (omega (arith, l.full e))

  cut_a_frame : (rest : List ℕ) → length rest % frame_size p ≢ 0 → cut_fault p rest ≡ Some fault.PartialFrame
  cut_a_frame rest ne = ap (λ (b : Bool). cut_by p rest (not b)) (ne_eqb (length rest % frame_size p) 0 ne)

  cut_a_unit : (rest : List ℕ) → p.kind ≡ Fbb → length rest < full_size p → length rest % frame_size p ≡ 0 → cut_fault p rest ≡ Some fault.PartialUnit
  cut_a_unit rest k lt w =
      ap (λ (b : Bool). cut_by p rest (not b)) (eq-eqb (length rest % frame_size p) 0 w)
      ∙ ap short_by (ap (λ (k : Kind). is_fbb k && nat_lt (length rest) (full_size p)) k ∙ lt-ltb (length rest) (full_size p) lt)

  -- ---- what is behind the full units

  module _ (n : ℕ) (left : Left) (at : At p n left) (to_come : Option ℕ) (moves : ℕ) (more : to_come ≡ Some 0 → ⊥) (ended : Bool) (bytes rest : List ℕ) (pcm_is : data_in to_come bytes ≡ rest) where
    abbrev s : Encoding
    s = parts left to_come moves

    abbrev seen : Bool
    seen = is_seen to_come ended bytes

    there : 0 < length rest → 0 < length bytes
    there lt = bytes_there to_come bytes (omega (arith, ap length pcm_is, lt))

    part_all : length rest ≤ full_size p → part_of p (data_in to_come bytes) ≡ rest
    part_all le = ap (take (full_size p)) pcm_is ∙ take_all (full_size p) rest le

    last_all : length rest ≤ full_size p → is_last p (data_in to_come bytes) ≡ true
    last_all le = ap (λ (xs : List ℕ). leb (length xs) (full_size p)) pcm_is ∙ le-leb (length rest) (full_size p) le

    closed_at_end : seen ≡ true → is_open p seen (data_in to_come bytes) ≡ false
    closed_at_end e = ap (λ (b : Bool). is_open p b (data_in to_come bytes)) e

    ends_whole : seen ≡ true → IsLastUnit p rest → Comes_of (runs ended s bytes) (complete ended) (sent true left (frames_in p rest ∷ []))
    ends_whole e l =
        let some = there l.some in
        let step = step_sends p ok n left at to_come moves more ended bytes some rest true (closed_at_end e) (part_all l.most) (last_all l.most) (ap (fault_by p n rest true) l.clear ∙ cut_none rest l) in
        let within : length rest ≤ length (data_in to_come bytes) = omega (arith, ap length pcm_is) in
        send_comes ended left to_come moves (length rest) bytes true (frames_in p rest) [] (complete ended) (next_sent left (frames_in p rest) true) refl step some
        (λ x sent_is. finished_by p ok n x.1 (next_at p n left at (frames_in p rest) true x sent_is) ended (less (length rest) to_come) (moves + 1) (drop (length rest) bytes)
        (data_less to_come (length rest) bytes within ∙ drop_all (length rest) (data_in to_come bytes) (omega (arith, ap length pcm_is)))
        (seen_less to_come (length rest) ended bytes within ∙ e))

    refuses : (part : List ℕ) (last : Bool) (f : PcmFault) → 0 < length rest → is_open p seen (data_in to_come bytes) ≡ false → part_of p (data_in to_come bytes) ≡ part → is_last p (data_in to_come bytes) ≡ last
        → fault_in p n part last ≡ Some f → Comes (runs ended s bytes) (refusing f) []
    refuses part last f some closed part_is last_is fault_is =
        refuse_comes ended s bytes f (step_closed p ok n left at to_come moves more ended bytes (there some) part last (Some f) closed part_is last_is fault_is) (there some)

    ends_empty : seen ≡ true → n ≡ 0 → rest ≡ [] → Comes (runs ended s bytes) (refusing fault.Empty) []
    ends_empty e z nil =
        let none : bytes ≡ [] = no_bytes to_come bytes more (pcm_is ∙ nil) in
        let all : ended ≡ true = seen_nil to_come ended more (sym (ap (λ (xs : List ℕ). is_seen to_come ended xs) none) ∙ e) in
        let first : (at.g.units == 0) ≡ true = eq-eqb at.g.units 0 (at.units ∙ z) in
        let o : runs ended s bytes ≡ finished s (by_units true) =
        ap (λ (b : Bool). runs b s bytes) all ∙ ap (runs true s) none ∙ outcome-nil encode_step encode_last encode_count encode_lawful true s
        ∙ ap (λ (l : Left). finished s (last_of l)) at.left_is ∙ ap (λ (b : Bool). finished s (by_units b)) first in
        (ap (λ (q : Outcome Encoding). q.end) o, ap (λ (q : Outcome Encoding). q.output) o)
      where
        by_units : Bool → Result (List ℕ) Refusal
        by_units b = if b then Err (refused.Pcm fault.Empty) else Ok []

    padded_closed : (frame : ℕ) → (seen ≡ true) ⊎ (full_size p ≤ length rest) → first_padded p (take (full_size p) rest) ≡ Some frame → is_open p seen (data_in to_come bytes) ≡ false
    padded_closed frame (inl e) h = closed_at_end e
    padded_closed frame (inr ge) h = elim (cases_order (full_size p) (length rest)) [
      | inl same ↦ closed_padded p seen (data_in to_come bytes) frame (omega (arith, ge, ap length pcm_is)) (ap (first_padded p) (pcm_is ∙ sym (take_all (full_size p) rest (omega (arith, same)))) ∙ h)
      | inr (inl lt) ↦ closed_long p seen (data_in to_come bytes) (omega (arith, lt, ap length pcm_is))
      | inr (inr gt) ↦ absurd (omega (arith, gt, ge))
    ]

    ends_open : seen ≡ false → (0 < length rest) ⊎ (n ≡ 0) → length rest ≤ full_size p → (length rest ≡ full_size p → first_padded p rest ≡ None) → Comes (runs ended s bytes) (Err TooLong) []
    ends_open e d le c = elim (cases_lt 0 (length rest)) [
      | inl some ↦ (
          let opens : is_open p seen (data_in to_come bytes) ≡ true = ap (λ (b : Bool). is_open p b (data_in to_come bytes)) e ∙ ap (is_open p false) pcm_is ∙ still in
          let o = outcome-waits encode_step encode_last encode_count encode_lawful ended s bytes (step_open p ok n left at to_come moves more ended bytes (there some) opens) (there some) in
          (ap (λ (q : Outcome Encoding). q.end) o, ap (λ (q : Outcome Encoding). q.output) o))
      | inr none ↦ (
          let nil : bytes ≡ [] = no_bytes to_come bytes more (pcm_is ∙ nil_from_length rest (omega (arith, none))) in
          let o : runs ended s bytes ≡ stopped s TooLong = ap (λ (b : Bool). runs b s bytes) (open_ended to_come ended bytes e) ∙ ap (runs false s) nil ∙ outcome-nil encode_step encode_last encode_count encode_lawful false s in
          (ap (λ (q : Outcome Encoding). q.end) o, ap (λ (q : Outcome Encoding). q.output) o))
    ]
      where
        still : is_open p false rest ≡ true
        still = elim (cases_lt (length rest) (full_size p)) [
          | inl lt ↦ open_short p rest lt
          | inr ge ↦ open_clear p rest (omega (arith, ge, le)) (c (omega (arith, ge, le)))
        ]

    rest_comes : (last : Bool) (frames : List (List (List ℤ))) (end : Result Unit Stop) → Ends p n ended seen rest frames last end → Comes_of (runs ended s bytes) end (sent last left frames)
    rest_comes last frames end (whole e l) = ends_whole e l
    rest_comes last frames end (empty e z nil) = ends_empty e z nil
    rest_comes last frames end (padded frame d e) =
        refuses (take (full_size p) rest) (leb (length rest) (full_size p)) (fault.PadBits (n * unit_of p.rate + frame)) (padded_some rest frame e) (padded_closed frame d e)
        (ap (take (full_size p)) pcm_is) (ap (λ (xs : List ℕ). leb (length xs) (full_size p)) pcm_is) (ap (fault_by p n (take (full_size p) rest) (leb (length rest) (full_size p))) e)
    rest_comes last frames end (cut_frame e lt c ne) =
        let some = ends_some n (suc n) ended seen rest [] false (refusing fault.PartialFrame) (omega arith) (cut_frame e lt c ne) in
        refuses rest true fault.PartialFrame some (closed_at_end e) (part_all (omega (arith, lt))) (last_all (omega (arith, lt))) (ap (fault_by p n rest true) c ∙ cut_a_frame rest ne)
    rest_comes last frames end (cut_unit e k some lt c w) =
        refuses rest true fault.PartialUnit some (closed_at_end e) (part_all (omega (arith, lt))) (last_all (omega (arith, lt))) (ap (fault_by p n rest true) c ∙ cut_a_unit rest k lt w)
    rest_comes last frames end (unfinished e d le c) = ends_open e d le c

  -- ---- all units

  pub sound : (units : List (List ℕ)) (n : ℕ) (left : Left) → At p n left → (to_come : Option ℕ) (moves : ℕ) → (to_come ≡ Some 0 → ⊥) → (ended seen : Bool) (bytes pcm rest : List ℕ)
      → data_in to_come bytes ≡ pcm → is_seen to_come ended bytes ≡ seen → AreFull p pcm units rest
      → (last : Bool) (more : List (List (List ℤ))) (end : Result Unit Stop) → Ends p (n + length units) ended seen rest more last end
      → Comes_of (runs ended (parts left to_come moves) bytes) end (sent last left (map (frames_in p) units ++ more))
  sound [] n left at to_come moves go ended seen bytes pcm rest pcm_is seen_is full last more end e =
      let z : n + 0 ≡ n = omega arith in
      rest_comes n left at to_come moves go ended bytes rest (pcm_is ∙ full.are) last more end
      (subst (λ (b : Bool). Ends p n ended b rest more last end) (sym seen_is) (subst (λ (k : ℕ). Ends p k ended seen rest more last end) z e))
  sound (u ∷ units) n left at to_come moves go ended seen bytes pcm rest pcm_is seen_is full last more end e =
      let first = All-head (IsFull p) u units full.full in
      let behind = ends_some n (n + length (u ∷ units)) ended seen rest more last end (omega arith) e in
      let are : pcm ≡ u ++ (joined units ++ rest) = full.are ∙ append_assoc u (joined units) rest in
      let pcm_at : data_in to_come bytes ≡ u ++ (joined units ++ rest) = pcm_is ∙ are in
      let size : length (data_in to_come bytes) ≡ length u + (length (joined units) + length rest) = ap length pcm_at ∙ length-append u (joined units ++ rest) ∙ ap (λ (k : ℕ). length u + k) (length-append (joined units) rest) in
      let long : full_size p < length (data_in to_come bytes) = omega (arith, size, first.size, behind) in
      let some = bytes_there to_come bytes (omega (arith, long)) in
      let part : part_of p (data_in to_come bytes) ≡ u = ap (take (full_size p)) pcm_at ∙ take_at u (joined units ++ rest) (full_size p) first.size in
      let step = step_sends p ok n left at to_come moves go ended bytes some u false (closed_long p (is_seen to_come ended bytes) (data_in to_come bytes) long) part
      (lt-leb (length (data_in to_come bytes)) (full_size p) long) (ap (fault_by p n u false) first.clear) in
      let within : length u ≤ length (data_in to_come bytes) = omega (arith, size) in
      let flag = ends_flag (n + length (u ∷ units)) ended seen rest more last end (map (frames_in p) units) e in
      let sum : n + length (u ∷ units) ≡ (n + 1) + length units = omega arith in
      send_comes ended left to_come moves (length u) bytes last (frames_in p u) (map (frames_in p) units ++ more) end (next_sent left (frames_in p u) false) (ap (next_sent left (frames_in p u)) flag) step some
      (λ x sent_is. sound units (n + 1) x.1 (next_at p n left at (frames_in p u) false x sent_is) (less (length u) to_come) (moves + 1) (more_less to_come (length u) bytes go (omega (arith, long, first.size)))
      ended seen (drop (length u) bytes) (joined units ++ rest) rest
      (data_less to_come (length u) bytes within ∙ ap (drop (length u)) pcm_at ∙ drop_at u (joined units ++ rest) (length u) refl)
      (seen_less to_come (length u) ended bytes within ∙ seen_is)
      (record { are = refl; full = All-tail (IsFull p) u units full.full }) last more end (subst (λ (k : ℕ). Ends p k ended seen rest more last end) sum e))
