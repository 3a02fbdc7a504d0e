-- Each unit has a place where units take turns, and what it means that one has none.
use Rattle.std.proofs.Common.{◌≡◌, inl, inr, ℕ, suc, ◌+◌, ◌*◌, ◌%◌, ◌^◌, ◌<◌, ◌≤◌, ℤ, Bool, true, false, List, [], ◌∷◌, ◌++◌, map, length, take, get_or, Option, Some, Result, Ok, Err, refl, sym, ap, ◌∙◌, subst, arith, append_assoc}
use Rattle.std.specs.Prelude.{All, IsOk, ◌==◌, ◌&&◌}
use Rattle.std.proofs.Math.Decide.{dec_lt}
use Rattle.std.proofs.lemmas.Bool.{eqb-true, eq-eqb, ne_eqb}
use Rattle.std.proofs.lemmas.List.{length-map, length_push, get_or_append_left, get_or_push, take_all, append-nil}
use Rattle.std.proofs.lemmas.List.Elements.{All-head, All-tail}
use Rattle.mlp_syntax.specs.declared.major.MajorSync.{MajorSync}
use Rattle.mlp_syntax.specs.declared.refusal.NoRoom.{NoRoom}
use Rattle.mlp_unit.specs.AccessUnit.{AccessUnit, access_unit, major_size}
use Rattle.mlp_unit.specs.Directory.{directory_size}
use Rattle.mlp_unit.specs.Written.{written_unit, unit_text}
use Rattle.mlp_unit.proofs.UnitLaws.{access_unit_size}
use Rattle.mlp_unit.proofs.UnitRules.{fits_text}
use Rattle.mlp_layout.specs.Allowed.{Allowed}
use Rattle.mlp_fifo.specs.LeftFifo.{LeftFifo, Leaves, HasNone}
use Rattle.mlp_fifo.specs.Pace.{pace_of, unit_of, single_most}
use Rattle.mlp_fifo.specs.Placed.{placed, PlacedMeans}
use Rattle.mlp_fifo.specs.Schedule.{out_of, IsSchedule}
use Rattle.mlp_fifo.proofs.LawLemmas.{single_rates}
use Rattle.mlp_fifo.proofs.PlacedLaws.{finish_after, placed_late, placed_there, none_leaves, placed_means}
use Rattle.mlp_fifo.proofs.Schedules.{same_schedule}
use Rattle.mlp_fold.specs.declared.profile.Profile.{Profile}
use Rattle.mlp_fold.specs.Profile.{checked}
use Rattle.mlp_encode.specs.Numbers.{has_sync}
use Rattle.mlp_encode.specs.Sync.{sync_of}
use Rattle.mlp_encode.specs.Left.{Going, Left, going}
use Rattle.mlp_encode.specs.Unit.{AreNext, filled, coded, terminator_of, unit_sent, place_of, segments_bytes, major_of, body_of, body_size, unit_bytes, behind, sent_at, next_sent}
use Rattle.mlp_encode.specs.Sent.{Stream, with_unit, sent}
use Rattle.mlp_encode.proofs.SyncAllowed.{passes}
use Rattle.mlp_lossless.specs.Streams.{AreUnits}
use Rattle.mlp_lossless.specs.Rooms.{IsSingle, WholeHasRoom, BegunHasRoom, refused, Stops, WholeStops, BegunStops}
use Rattle.mlp_lossless.proofs.Parts.{bytes_count}
use Rattle.mlp_lossless.proofs.Bodies.{HasBytes, has_bytes}
use Rattle.mlp_lossless.proofs.Outer.{outer_allowed}
use Rattle.mlp_lossless.proofs.Steps.{CanSendUnit}
use Rattle.mlp_lossless.proofs.Streams.{was_sent}
use Rattle.mlp_lossless.proofs.Owed.{IsKept, kept_start, can_send, kept_on}

-- ---- the length of a unit that is sent is what it was placed by

module _ (e : Going) (frames : List (List ℤ)) (last : Bool) (can : CanSendUnit e frames last) (time : ℕ) where
  abbrev outer : AccessUnit
  outer = written_unit (time % 2 ^ 16) (major_of e) (body_of e (unit_sent e frames last)).entries (body_of e (unit_sent e frames last)).bytes

  abbrev first : Option MajorSync
  first = Some (sync_of e.profile)

  abbrev bs : List (List ℕ)
  bs = segments_bytes (place_of e) e.force (unit_sent e frames last).segments

  all_bytes : HasBytes e.profile e.units e.checks (coded e.profile (filled e.profile frames)) (terminator_of e.profile (length frames) last) e.force (unit_sent e frames last).segments bs
  unfolding unit_sent
  all_bytes = has_bytes e.profile e.units e.checks (coded e.profile (filled e.profile frames)) (terminator_of e.profile (length frames) last) 0 e.force e.pasts can.segments

  outer_lawful : Allowed (access_unit first) outer
  outer_lawful =
      outer_allowed e.profile (passes e.profile can.profile) first (has_sync e.units) bs refl (all_bytes.bytes_count ∙ can.count) (time % 2 ^ 16) (omega arith) can.writable all_bytes.small can.small

  pub unit_long : length (unit_bytes time (body_of e (unit_sent e frames last))) ≡ body_size (body_of e (unit_sent e frames last))
  unit_long =
      let same = fits_text first outer outer_lawful.fits in
      let size = access_unit_size first outer outer_lawful.fits in
      let size_of : ℕ = 4 + (major_size outer.major + (directory_size outer.entries + length outer.body)) in
      bytes_count size_of (unit_text outer) (ap length (sym same) ∙ size ∙ omega arith) ∙ omega arith

-- ---- behind units of these lengths

pub record IsBehind (p : Profile) (before : List ℕ) (e : Going) : Type 0 where
  pub kept : IsKept e
  pub same : e.profile ≡ p
  pub leaves : Leaves p.kind p.rate before e.fifo

behind_start : (p : Profile) → checked p ≡ Ok tt → IsBehind p [] (going p)
behind_start p h = record { kept = kept_start p h; same = refl; leaves = none_leaves p.kind p.rate }

abbrev size : Going → List (List ℤ) → Bool → ℕ
size e frames last = body_size (body_of e (unit_sent e frames last))

err_same : {T E : Type 0} (a b : E) (r : Result T E) → r ≡ Err a → r ≡ Err b → a ≡ b
err_same a b r e f = cc

refused_bytes : (left : LeftFifo) (bytes : ℕ) (d : NoRoom) → placed left bytes ≡ Err d → d.bytes ≡ bytes
refused_bytes left bytes d e = elim (dec_lt (out_of (pace_of left.kind left.rate) left.count) (finish_after left bytes)) [
  | yes l ↦ ap (λ (n : NoRoom). n.bytes) (err_same d (record { unit = left.count; bytes = bytes }) (placed left bytes) e (placed_late left bytes l))
  | no l ↦ absurd (let f = sym (placed_there left bytes (omega arith)) ∙ e in cc)
]

module _ (p : Profile) (before : List ℕ) (e : Going) (frames : List (List ℤ)) (last : Bool) (b : IsBehind p before e) (next : AreNext p frames last) where
  next_here : AreNext e.profile frames last
  next_here = subst (λ (q : Profile). AreNext q frames last) (sym b.same) next

  can : CanSendUnit e frames last
  can = can_send e frames last b.kept next_here

  means : PlacedMeans p.kind p.rate (before ++ size e frames last ∷ []) (placed e.fifo (size e frames last))
  means = placed_means p.kind p.rate before e.fifo (size e frames last) b.leaves

  -- one that has a place
  record GoesOn (x : List ℕ × Left) : Type 0 where
    left : Going
    left_is : x.1 ≡ Ok left
    behind_it : IsBehind p (before ++ length x.0 ∷ []) left
    long : length x.0 ≡ size e frames last

  goes_on : (x : List ℕ × Left) → next_sent (Ok e) frames last ≡ Ok x → GoesOn x
  goes_on x eq =
      let w = was_sent e frames last x eq in
      let long : length x.0 ≡ size e frames last = ap (λ (bs : List ℕ). length bs) w.bytes_are ∙ unit_long e frames last can w.time in
      let there = subst (λ (r : Result (ℕ × LeftFifo) NoRoom). PlacedMeans p.kind p.rate (before ++ size e frames last ∷ []) r) w.placed_is means in
      record {
        left = behind e frames (unit_sent e frames last) w.fifo;
        left_is = w.left_is;
        behind_it = record {
          kept = kept_on e frames last b.kept next_here w.fifo;
          same = b.same;
          leaves = subst (λ (n : ℕ). Leaves p.kind p.rate (before ++ n ∷ []) w.fifo) (sym long) there.1;
        };
        long = long;
      }

  -- one that has none
  record StopsHere (d : NoRoom) : Type 0 where
    none : HasNone p.kind p.rate (before ++ d.bytes ∷ [])
    unit_is : d.unit ≡ length before
    bytes_are : d.bytes ≡ size e frames last

  stops_here : (d : NoRoom) → next_sent (Ok e) frames last ≡ Err d → StopsHere d
  stops_here d eq = pick (placed e.fifo (size e frames last)) refl eq
    where
      pick : (r : Result (ℕ × LeftFifo) NoRoom) → placed e.fifo (size e frames last) ≡ r → sent_at e frames (unit_sent e frames last) (body_of e (unit_sent e frames last)) r ≡ Err d → StopsHere d
      pick (Ok y) is eq = absurd cc
      pick (Err c) is eq =
          let same : c ≡ d = cc in
          let is_d : placed e.fifo (size e frames last) ≡ Err d = is ∙ ap (λ (c : NoRoom). Err c) same in
          let m = subst (λ (r : Result (ℕ × LeftFifo) NoRoom). PlacedMeans p.kind p.rate (before ++ size e frames last ∷ []) r) is_d means in
          let bytes = refused_bytes e.fifo (size e frames last) d is_d in
          record {
            none = subst (λ (n : ℕ). HasNone p.kind p.rate (before ++ n ∷ [])) (sym bytes) m.0;
            unit_is = omega (arith, m.1, length_push before (size e frames last));
            bytes_are = bytes;
          }

-- ---- all units

abbrev pub AreUnitsBy : Bool → Profile → List (List (List ℤ)) → Type 0
AreUnitsBy ended p [] = Unit {0}
AreUnitsBy ended p (frames ∷ more) = AreNext p frames (ended && (length more == 0)) × AreUnitsBy ended p more

all_units : (p : Profile) (frames : List (List (List ℤ))) → AreUnits p frames → AreUnitsBy true p frames
all_units p [] h = tt
all_units p (unit ∷ more) h = (h.0, all_units p more h.1)

begun_units : (p : Profile) (frames : List (List (List ℤ))) → All (λ unit. AreNext p unit false) frames → AreUnitsBy false p frames
begun_units p [] h = tt
begun_units p (unit ∷ more) h = (All-head (λ unit. AreNext p unit false) unit more h, begun_units p more (All-tail (λ unit. AreNext p unit false) unit more h))

sent_more : (ended : Bool) (left : Left) (frames : List (List ℤ)) (more : List (List (List ℤ))) (x : List ℕ × Left) → next_sent left frames (ended && (length more == 0)) ≡ Ok x
    → sent ended left (frames ∷ more) ≡ with_unit x.0 (sent ended x.1 more)
sent_more ended left frames more x eq = ap (λ (r : Result (List ℕ × Left) NoRoom). elim r as (λ r. Stream) [ Ok x ↦ with_unit x.0 (sent ended x.1 more) | Err d ↦ record { units = []; end = Err d } ]) eq

sent_none : (ended : Bool) (left : Left) (frames : List (List ℤ)) (more : List (List (List ℤ))) (d : NoRoom) → next_sent left frames (ended && (length more == 0)) ≡ Err d
    → sent ended left (frames ∷ more) ≡ record { units = []; end = Err d }
sent_none ended left frames more d eq = ap (λ (r : Result (List ℕ × Left) NoRoom). elim r as (λ r. Stream) [ Ok x ↦ with_unit x.0 (sent ended x.1 more) | Err d ↦ record { units = []; end = Err d } ]) eq

-- ---- units that take turns

abbrev AreShort : Profile → List ℕ → Type 0
AreShort p before = (i : ℕ) → i < length before → get_or before i 0 ≤ single_most p.kind

short_more : (p : Profile) (before : List ℕ) (n : ℕ) → AreShort p before → n ≤ single_most p.kind → AreShort p (before ++ n ∷ [])
short_more p before n h le i lt = elim (dec_lt i (length before)) [
  | yes l ↦ subst (λ (m : ℕ). m ≤ single_most p.kind) (sym (get_or_append_left before (n ∷ []) 0 i l)) (h i l)
  | no l ↦ subst (λ (m : ℕ). m ≤ single_most p.kind) (sym (get_or_push before n 0 i (omega (arith, lt, length_push before n)))) le
]

single_unit : (rate : ℕ) → IsSingle rate → unit_of rate ≡ 40
unfolding unit_of
single_unit rate (inl e) = ap (λ (r : ℕ). unit_of r) e
single_unit rate (inr e) = ap (λ (r : ℕ). unit_of r) e

module _ (p : Profile) (ended : Bool) (single : IsSingle p.rate) where
  have_room : (pcm : List (List (List ℤ))) (before : List ℕ) (e : Going) → IsBehind p before e → AreShort p before → AreUnitsBy ended p pcm → IsOk (sent ended (Ok e) pcm).end
  have_room [] before e b short units = refl
  have_room (frames ∷ more) before e b short units = pick (next_sent (Ok e) frames (ended && (length more == 0))) refl (λ before e b short. have_room more before e b short units.1)
    where
      last : Bool
      last = ended && (length more == 0)

      next_short : size e frames last ≤ single_most p.kind
      next_short =
          subst (λ (q : Profile). size e frames last ≤ single_most q.kind) b.same
          ((can p before e frames last b units.0).single (subst (λ (q : Profile). unit_of q.rate ≡ 40) (sym b.same) (single_unit p.rate single)))

      pick : (r : Result (List ℕ × Left) NoRoom) → next_sent (Ok e) frames (ended && (length more == 0)) ≡ r → ((before : List ℕ) (e : Going) → IsBehind p before e → AreShort p before → IsOk (sent ended (Ok e) more).end)
          → IsOk (sent ended (Ok e) (frames ∷ more)).end
      pick (Ok x) eq others =
          let g = goes_on p before e frames last b units.0 x eq in
          let rest = others (before ++ length x.0 ∷ []) g.left g.behind_it (short_more p before (length x.0) short (omega (arith, g.long, next_short))) in
          subst (λ (s : Stream). IsOk s.end) (sym (sent_more ended (Ok e) frames more x eq)) (subst (λ (l : Left). IsOk (sent ended l more).end) (sym g.left_is) rest)
      pick (Err d) eq others =
          let s = stops_here p before e frames last b units.0 d eq in
          let turns = single_rates p.kind p.rate (λ i. get_or (before ++ d.bytes ∷ []) i 0) (length (before ++ d.bytes ∷ [])) single (short_more p before d.bytes short (omega (arith, s.bytes_are, next_short))) in
          absurd (s.none (λ i. i * 40) turns.is_schedule)

pub whole_has_room : WholeHasRoom
whole_has_room p frames h single units = have_room p true single frames [] (going p) (behind_start p h) (λ i lt. absurd (omega (arith, lt))) (all_units p frames units)

pub begun_has_room : BegunHasRoom
begun_has_room p frames h single units = have_room p false single frames [] (going p) (behind_start p h) (λ i lt. absurd (omega (arith, lt))) (begun_units p frames units)

-- ---- the first unit without a place

no_last : (ended : Bool) → (ended && false) ≡ false
no_last true = refl
no_last false = refl

same_test : (a b c d : ℕ) → (a ≡ b → c ≡ d) → (c ≡ d → a ≡ b) → (a == b) ≡ (c == d)
same_test a b c d f g = pick (a == b) refl
  where
    pick : (t : Bool) → (a == b) ≡ t → (a == b) ≡ (c == d)
    pick true e = e ∙ sym (eq-eqb c d (f (eqb-true a b e)))
    pick false e = e ∙ sym (ne_eqb c d (λ q. let z : true ≡ false = sym (eq-eqb a b (g q)) ∙ e in cc))

abbrev lengths : List (List ℕ) → List ℕ
lengths units = map (λ unit. length unit) units

module _ (p : Profile) (ended : Bool) where
  record StopsBehind (before : List ℕ) (e : Going) (pcm : List (List (List ℤ))) (units : List (List ℕ)) (d : NoRoom) : Type 0 where
    left : Going
    begun : sent false (Ok e) (take (length units) pcm) ≡ record { units = units; end = Ok (Ok left) }
    unit_is : d.unit ≡ length before + length units
    bytes_are : d.bytes ≡ size left (get_or pcm (length units) []) (ended && (length pcm == length units + 1))
    none : HasNone p.kind p.rate ((before ++ lengths units) ++ d.bytes ∷ [])
    times : ℕ → ℕ
    schedule : IsSchedule (pace_of p.kind p.rate) (λ i. get_or (before ++ lengths units) i 0) times (length (before ++ lengths units))

  stops_now : (before : List ℕ) (e : Going) (frames : List (List ℤ)) (more : List (List (List ℤ))) (b : IsBehind p before e) (next : AreNext p frames (ended && (length more == 0))) (d : NoRoom)
      → next_sent (Ok e) frames (ended && (length more == 0)) ≡ Err d → StopsBehind before e (frames ∷ more) [] d
  stops_now before e frames more b next d eq =
      let s = stops_here p before e frames (ended && (length more == 0)) b next d eq in
      let nil : before ++ [] ≡ before = append-nil before in
      record {
        left = e;
        begun = refl;
        unit_is = omega (arith, s.unit_is);
        bytes_are = s.bytes_are ∙ ap (λ (t : Bool). size e frames (ended && t)) (same_test (length more) 0 (length (frames ∷ more)) 1 (λ z. omega (arith, z)) (λ z. omega (arith, z)));
        none = subst (λ (xs : List ℕ). HasNone p.kind p.rate (xs ++ d.bytes ∷ [])) (sym nil) s.none;
        times = b.leaves.times;
        schedule = subst (λ (xs : List ℕ). IsSchedule (pace_of p.kind p.rate) (λ i. get_or xs i 0) b.leaves.times (length xs)) (sym nil) b.leaves.earliest.is_schedule;
      }

  stops_later : (before : List ℕ) (e : Going) (frames unit : List (List ℤ)) (more : List (List (List ℤ))) (x : List ℕ × Left) (next : Going) (units : List (List ℕ)) (d : NoRoom) → x.1 ≡ Ok next
      → next_sent (Ok e) frames (ended && (length (unit ∷ more) == 0)) ≡ Ok x → StopsBehind (before ++ length x.0 ∷ []) next (unit ∷ more) units d → StopsBehind before e (frames ∷ unit ∷ more) (x.0 ∷ units) d
  stops_later before e frames unit more x next units d left_is eq rest =
      let on : (before ++ length x.0 ∷ []) ++ lengths units ≡ before ++ length x.0 ∷ lengths units = append_assoc before (length x.0 ∷ []) (lengths units) in
      let going_on : next_sent (Ok e) frames (false && (length (take (length units) (unit ∷ more)) == 0)) ≡ Ok x =
      ap (λ (t : Bool). next_sent (Ok e) frames t) (sym (ap (λ (t : Bool). ended && t) (ne_eqb (length (unit ∷ more)) 0 (λ z. absurd (omega (arith, z)))) ∙ no_last ended)) ∙ eq in
      record {
        left = rest.left;
        begun = sent_more false (Ok e) frames (take (length units) (unit ∷ more)) x going_on
            ∙ ap (λ (l : Left). with_unit x.0 (sent false l (take (length units) (unit ∷ more)))) left_is
            ∙ ap (with_unit x.0) rest.begun;
        unit_is = omega (arith, rest.unit_is, length_push before (length x.0));
        bytes_are = rest.bytes_are
            ∙ ap (λ (t : Bool). size rest.left (get_or (unit ∷ more) (length units) []) (ended && t))
            (same_test (length (unit ∷ more)) (length units + 1) (length (frames ∷ unit ∷ more)) (length (x.0 ∷ units) + 1) (λ z. omega (arith, z)) (λ z. omega (arith, z)));
        none = subst (λ (xs : List ℕ). HasNone p.kind p.rate (xs ++ d.bytes ∷ [])) on rest.none;
        times = rest.times;
        schedule = subst (λ (xs : List ℕ). IsSchedule (pace_of p.kind p.rate) (λ i. get_or xs i 0) rest.times (length xs)) on rest.schedule;
      }

  stops_refused : (before : List ℕ) (e : Going) (frames : List (List ℤ)) (more : List (List (List ℤ))) (b : IsBehind p before e) (next : AreNext p frames (ended && (length more == 0))) (c d : NoRoom)
      → next_sent (Ok e) frames (ended && (length more == 0)) ≡ Err c → (sent ended (Ok e) (frames ∷ more)).end ≡ Err d → StopsBehind before e (frames ∷ more) (sent ended (Ok e) (frames ∷ more)).units d
  stops_refused before e frames more b next c d eq end =
      let all = sent_none ended (Ok e) frames more c eq in
      let same : c ≡ d = err_same c d (sent ended (Ok e) (frames ∷ more)).end (ap (λ (s : Stream). s.end) all) end in
      subst (λ (us : List (List ℕ)). StopsBehind before e (frames ∷ more) us d) (sym (ap (λ (s : Stream). s.units) all))
      (stops_now before e frames more b next d (eq ∙ ap (λ (n : NoRoom). Err n) same))

  stops_behind : (pcm : List (List (List ℤ))) (before : List ℕ) (e : Going) (d : NoRoom) → IsBehind p before e → AreUnitsBy ended p pcm → (sent ended (Ok e) pcm).end ≡ Err d → StopsBehind before e pcm (sent ended (Ok e) pcm).units d
  stops_behind [] before e d b units end = absurd (let z : Ok (Ok e) ≡ Err d = end in cc)
  stops_behind (frames ∷ []) before e d b units end = pick (next_sent (Ok e) frames (ended && true)) refl
    where
      pick : (r : Result (List ℕ × Left) NoRoom) → next_sent (Ok e) frames (ended && true) ≡ r → StopsBehind before e (frames ∷ []) (sent ended (Ok e) (frames ∷ [])).units d
      pick (Err c) eq = stops_refused before e frames [] b units.0 c d eq end
      pick (Ok x) eq = absurd (let z : Ok x.1 ≡ Err d = sym (ap (λ (s : Stream). s.end) (sent_more ended (Ok e) frames [] x eq)) ∙ end in cc)
  stops_behind (frames ∷ unit ∷ more) before e d b units end = pick (next_sent (Ok e) frames (ended && (length (unit ∷ more) == 0))) refl (λ before e b end. stops_behind (unit ∷ more) before e d b units.1 end)
    where
      pick : (r : Result (List ℕ × Left) NoRoom) → next_sent (Ok e) frames (ended && (length (unit ∷ more) == 0)) ≡ r
          → ((before : List ℕ) (e : Going) → IsBehind p before e → (sent ended (Ok e) (unit ∷ more)).end ≡ Err d → StopsBehind before e (unit ∷ more) (sent ended (Ok e) (unit ∷ more)).units d)
          → StopsBehind before e (frames ∷ unit ∷ more) (sent ended (Ok e) (frames ∷ unit ∷ more)).units d
      pick (Err c) eq others = stops_refused before e frames (unit ∷ more) b units.0 c d eq end
      pick (Ok x) eq others =
          let g = goes_on p before e frames (ended && (length (unit ∷ more) == 0)) b units.0 x eq in
          let all = sent_more ended (Ok e) frames (unit ∷ more) x eq ∙ ap (λ (l : Left). with_unit x.0 (sent ended l (unit ∷ more))) g.left_is in
          let rest = others (before ++ length x.0 ∷ []) g.left g.behind_it (sym (ap (λ (s : Stream). s.end) all) ∙ end) in
          subst (λ (us : List (List ℕ)). StopsBehind before e (frames ∷ unit ∷ more) us d) (sym (ap (λ (s : Stream). s.units) all))
          (stops_later before e frames unit more x g.left (sent ended (Ok g.left) (unit ∷ more)).units d g.left_is eq rest)

stops : (p : Profile) (ended : Bool) (frames : List (List (List ℤ))) (units : List (List ℕ)) (d : NoRoom) → checked p ≡ Ok tt → AreUnitsBy ended p frames → sent ended (Ok (going p)) frames ≡ refused units d → Stops p ended frames units d
stops p ended frames units d h are eq =
    let s0 = stops_behind p ended frames [] (going p) d (behind_start p h) are (ap (λ (s : Stream). s.end) eq) in
    let s = subst (λ (us : List (List ℕ)). StopsBehind p ended [] (going p) frames us d) (ap (λ (s : Stream). s.units) eq) s0 in
    let count : length (lengths units) ≡ length units = length-map units (λ (unit : List ℕ). length unit) in
    let at : d.unit ≡ length (lengths units) = omega (arith, s.unit_is, count) in
    record {
      left = s.left;
      before = s.begun;
      unit_is = omega (arith, s.unit_is);
      bytes_are = s.bytes_are;
      lacks = record {
        within = omega (arith, at, length_push (lengths units) d.bytes);
        bytes_are = sym (get_or_push (lengths units) d.bytes 0 d.unit (sym at));
        none = subst (HasNone p.kind p.rate) (sym (take_all (suc d.unit) (lengths units ++ d.bytes ∷ []) (omega (arith, at, length_push (lengths units) d.bytes)))) s.none;
        before = s.times;
        before_is = subst (IsSchedule (pace_of p.kind p.rate) (λ i. get_or (lengths units ++ d.bytes ∷ []) i 0) s.times) (sym at)
            (same_schedule (pace_of p.kind p.rate) (λ i. get_or (lengths units) i 0) (λ i. get_or (lengths units ++ d.bytes ∷ []) i 0) s.times s.times (length (lengths units))
            (λ i l. get_or_append_left (lengths units) (d.bytes ∷ []) 0 i l) (λ i l. refl) s.schedule);
      };
    }

pub whole_stops : WholeStops
whole_stops p frames units d h are = stops p true frames units d h (all_units p frames are)

pub begun_stops : BegunStops
begun_stops p frames units d h are = stops p false frames units d h (begun_units p frames are)
