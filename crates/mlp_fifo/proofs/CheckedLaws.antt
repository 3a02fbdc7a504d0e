-- What a unit with its timings means for the units so far.
use Rattle.std.proofs.Common.{◌≡◌, ◌↔◌, ℕ, suc, ◌+◌, ◌-◌, ◌*◌, ◌%◌, ◌<◌, ◌≤◌, List, [], ◌∷◌, ◌++◌, length, min, max, Option, Some, None, Bool, true, false, IfSome, arith, refl, sym, ◌∙◌, ap, subst}
use Rattle.std.specs.Prelude.{◌&&◌}
use Rattle.std.proofs.lemmas.Bool.{leb-true, le-leb, eqb-true, eq-eqb, and_parts, and_from, false_from_ne_true}
use Rattle.std.proofs.lemmas.List.{length_push, length-map}
use Rattle.circular_buffer.specs.Buffer.{keep_last}
use Rattle.mlp_syntax.specs.declared.major.Kind.{Kind}
use Rattle.mlp_fifo.specs.declared.pace.Pace.{Pace}
use Rattle.mlp_fifo.specs.declared.arrivals.Arrivals.{Arrivals}
use Rattle.mlp_fifo.specs.Pace.{pace_of}
use Rattle.mlp_fifo.specs.Schedule.{out_of, duration_of, finish_of}
use Rattle.mlp_fifo.specs.LeftFifo.{LeftFifo}
use Rattle.mlp_fifo.specs.Placed.{latest_load}
use Rattle.mlp_fifo.specs.Timed.{TimedUnit, unit_at, bytes_at, HasTimes, IsTimed, AreTimed, LeftChecker, checked_by, LeavesTimed}
use Rattle.mlp_fifo.specs.Checked.{empty_checker, time_with_low, time_of, is_output, admits, checked_after}
use Rattle.mlp_fifo.proofs.Shown.{index, Shows, load_latest}
use Rattle.mlp_fifo.proofs.FirstTimes.{IsFirst}
use Rattle.mlp_fifo.proofs.Begins.{load_from-falls}
use Rattle.mlp_fifo.proofs.Keeps.{kept_length}
use Rattle.mlp_fifo.proofs.Places.{shown, with_next, with_before, with_last, finish_same, kept_push}
use Rattle.mlp_fifo.proofs.PlacedLaws.{turn_out}
use Rattle.mlp_fifo.proofs.TimedLemmas.{Admits, times_same, times_more, timed_same, timed_fewer, timed_more, timed_admits, unit_before, unit_last, lengths_of, bytes_index, lengths_push}

-- ---- the time that an input timing tells

time_least : (start low : ℕ) → start ≤ time_with_low start low
unfolding time_with_low
time_least start low = omega arith

time_below : (start low : ℕ) → time_with_low start low < start + 65536
unfolding time_with_low
time_below start low = omega arith

time_low : (start low : ℕ) → low < 65536 → time_with_low start low % 65536 ≡ low
unfolding time_with_low
time_low start low h = omega arith

-- ---- the test of one unit

-- what it tests
pub record IsAdmitted (p : Pace) (left : LeftChecker) (time bytes : ℕ) (output : Option ℕ) : Type 0 where
  pub after : left.finish ≤ time
  pub fits : latest_load p left.latest left.count bytes time ≤ p.size
  pub in_time : time + duration_of p bytes ≤ out_of p left.count
  pub output_is : is_output output (out_of p left.count) ≡ true

pub admits_is : (p : Pace) (left : LeftChecker) (time bytes : ℕ) (output : Option ℕ) → (admits p left time bytes output ≡ true) ↔ IsAdmitted p left time bytes output
admits_is p left time bytes output = (
  λ t.
      let a = and_parts _ _ t in
      let b = and_parts _ _ a.1 in
      let c = and_parts _ _ b.1 in
      record { after = leb-true _ _ a.0; fits = leb-true _ _ b.0; in_time = leb-true _ _ c.0; output_is = c.1 },
  λ q. and_from _ _ (le-leb _ _ q.after) (and_from _ _ (le-leb _ _ q.fits) (and_from _ _ (le-leb _ _ q.in_time) q.output_is)),
)

-- at which times it holds, where units may begin from x on
module _ (p : Pace) (left : LeftChecker) (time bytes x : ℕ) (output : Option ℕ) (first : IsFirst (latest_load p left.latest left.count bytes) p.size (max (left.count * p.unit) left.finish) x) where
  pub not_before : left.count * p.unit ≤ time → time < x → admits p left time bytes output ≡ false
  not_before start h = false_from_ne_true _ (λ t. let q = (admits_is p left time bytes output).0 t in omega (arith, first.least time (omega (arith, q.after)) q.fits))

  pub not_late : out_of p left.count < time + duration_of p bytes → admits p left time bytes output ≡ false
  not_late h = false_from_ne_true _ (λ t. let q = (admits_is p left time bytes output).0 t in omega (arith, q.in_time))

  pub not_output : is_output output (out_of p left.count) ≡ false → admits p left time bytes output ≡ false
  not_output h = false_from_ne_true _ (λ t. let q = (admits_is p left time bytes output).0 t in let e : false ≡ true = sym h ∙ q.output_is in cc)

  pub admits_from : x ≤ time → time + duration_of p bytes ≤ out_of p left.count → is_output output (out_of p left.count) ≡ true → admits p left time bytes output ≡ true
  admits_from h ends o = (admits_is p left time bytes output).1 (record {
    after = omega (arith, first.start);
    fits = omega (arith, load_from-falls p (left.count - length left.latest) (left.latest ++ bytes ∷ []) x time h, first.fits);
    in_time = ends;
    output_is = o;
  })

output_means : (output : Option ℕ) (out : ℕ) → (is_output output out ≡ true) ↔ IfSome output (λ o. o ≡ out % 65536)
output_means None out = (λ t. tt, λ t. refl)
output_means (Some o) out = (λ t. eqb-true o (out % 65536) t, λ e. eq-eqb o (out % 65536) e)

-- .. says of the units by their number that they admit one more
admitted_means : (p : Pace) (b : ℕ → ℕ) (left : LeftChecker) (time bytes : ℕ) (output : Option ℕ) → Shows b left.latest left.count → b left.count ≡ bytes → length left.latest ≤ left.count
    → ((i : ℕ) → i < left.count - length left.latest → out_of p i ≤ time) → (admits p left time bytes output ≡ true) ↔ Admits p b left.count left.finish time output
admitted_means p b left time bytes output shows here l out =
    let load_is = load_latest p b left.latest left.count bytes time shows here l out in
    let d = ap (duration_of p) here in (
      λ t. let q = (admits_is p left time bytes output).0 t in
          record { after = q.after; fits = omega (arith, load_is, q.fits); in_time = omega (arith, d, q.in_time); output_is = (output_means output (out_of p left.count)).0 q.output_is },
      λ q. (admits_is p left time bytes output).1
          (record { after = q.after; fits = omega (arith, load_is, q.fits); in_time = omega (arith, d, q.in_time); output_is = (output_means output (out_of p left.count)).1 q.output_is }),
    )

-- ---- what a unit leaves

pub checker_is : (a b : LeftChecker) → a.kind ≡ b.kind → a.rate ≡ b.rate → a.count ≡ b.count → a.finish ≡ b.finish → a.latest ≡ b.latest → a.timed ≡ b.timed → a ≡ b
checker_is a b k r c f l t =
    let mk : Kind → ℕ → ℕ → ℕ → List ℕ → Bool → LeftChecker =
    λ kind rate count finish latest timed. record { kind = kind; rate = rate; count = count; finish = finish; latest = latest; timed = timed } in
    ap (λ x. mk x a.rate a.count a.finish a.latest a.timed) k
    ∙ ap (λ x. mk b.kind x a.count a.finish a.latest a.timed) r
    ∙ ap (λ x. mk b.kind b.rate x a.finish a.latest a.timed) c
    ∙ ap (λ x. mk b.kind b.rate b.count x a.latest a.timed) f
    ∙ ap (λ x. mk b.kind b.rate b.count b.finish x a.timed) l
    ∙ ap (λ x. mk b.kind b.rate b.count b.finish b.latest x) t

-- .. of an object's own numbers
pub checked_is : (a : Arrivals) (timed : Bool) (u : TimedUnit) (n : LeftChecker) (time : ℕ) → time ≡ time_with_low (a.count * a.pace.unit) u.input
    → n.kind ≡ a.kind → n.rate ≡ a.rate → n.count ≡ a.count + 1 → n.finish ≡ time + duration_of a.pace u.bytes → n.latest ≡ keep_last 91 (a.latest.items ++ u.bytes ∷ [])
    → n.timed ≡ (timed && admits a.pace (checked_by a timed) time u.bytes u.output) → n ≡ checked_after (checked_by a timed) u
unfolding checked_after
checked_is a timed u n time e k r c f l t =
    let time_is : time ≡ time_of (checked_by a timed) u = e ∙ ap (λ p. time_with_low (a.count * p.unit) u.input) a.pace_is in
    checker_is n (checked_after (checked_by a timed) u) k r c
    (f ∙ ap (λ x. x + duration_of a.pace u.bytes) time_is ∙ ap (λ p. time_of (checked_by a timed) u + duration_of p u.bytes) a.pace_is)
    l
    (t ∙ ap (λ x. timed && admits a.pace (checked_by a timed) x u.bytes u.output) time_is
    ∙ ap (λ p. timed && admits p (checked_by a timed) (time_of (checked_by a timed) u) u.bytes u.output) a.pace_is)

abbrev pub with_timed : Bool → LeftFifo → LeftChecker
with_timed timed l = record { kind = l.kind; rate = l.rate; count = l.count; finish = l.finish; latest = l.latest; timed = timed }

-- no unit leaves an empty checker
pub none_timed : (kind : Kind) (rate : ℕ) → LeavesTimed kind rate [] (empty_checker kind rate)
none_timed kind rate = record {
  kind_is = refl;
  rate_is = refl;
  count_is = refl;
  latest_is = refl;
  times = λ i. 0;
  has_times = record { least = λ i h. absurd (omega arith); below = λ i h. absurd (omega arith); low = λ i h. absurd (omega arith) };
  finish_is = refl;
  timed_is = (
    λ e. record {
      times = λ i. 0;
      has_times = record { least = λ i h. absurd (omega arith); below = λ i h. absurd (omega arith); low = λ i h. absurd (omega arith) };
      is_schedule = record { start = λ i h. absurd (omega arith); in_time = λ i h. absurd (omega arith); apart = λ i h. absurd (omega arith); room = λ time. omega arith };
      outputs = λ i h. absurd (omega arith);
    },
    λ e. refl,
  );
}

module _ (kind : Kind) (rate : ℕ) (units : List TimedUnit) (left : LeftChecker) (v : TimedUnit) (h : LeavesTimed kind rate units left) (small : v.input < 65536) where
  abbrev all : ℕ → TimedUnit
  all = unit_at (units ++ v ∷ [])

  abbrev x : ℕ
  x = time_of left v

  abbrev then_at : ℕ → ℕ
  then_at = with_next h.times (length units) x

  pace_is : pace_of left.kind left.rate ≡ pace_of kind rate
  pace_is = ap (λ k. pace_of k left.rate) h.kind_is ∙ ap (pace_of kind) h.rate_is

  latest_length : length left.latest ≡ min 91 left.count
  latest_length = let e = ap length h.latest_is ∙ kept_length (lengths_of units) in omega (arith, e, h.count_is, length-map units (λ (u : TimedUnit). u.bytes))

  shown_then : Shows (bytes_at all) left.latest left.count
  shown_then i l = shown (lengths_of units) left.latest v.bytes left.count h.latest_is (h.count_is ∙ sym (length-map units (λ (u : TimedUnit). u.bytes))) i l
      ∙ ap (λ xs. index xs (left.count - length left.latest + i)) (sym (lengths_push units v)) ∙ sym (bytes_index (units ++ v ∷ []) (left.count - length left.latest + i))

  last_then : bytes_at all left.count ≡ v.bytes
  last_then = ap (λ w. w.bytes) (unit_last units v left.count (sym h.count_is))

  finish_then : left.finish ≡ finish_of (pace_of kind rate) (bytes_at all) then_at (length units)
  finish_then = h.finish_is ∙ sym (finish_same (pace_of kind rate) (bytes_at (unit_at units)) (bytes_at all) h.times then_at (length units)
      (λ i l. ap (λ w. w.bytes) (unit_before units v i l)) (λ i l. with_before h.times (length units) x i l))

  least : left.count * (pace_of left.kind left.rate).unit ≤ x
  least = time_least (left.count * (pace_of left.kind left.rate).unit) v.input

  times_then : HasTimes (pace_of kind rate) all then_at (suc (length units))
  times_then =
      let below = time_below (left.count * (pace_of left.kind left.rate).unit) v.input in
      let e = ap (λ n. n * (pace_of left.kind left.rate).unit) h.count_is ∙ ap (λ p. length units * p.unit) pace_is in
      let w = with_last h.times (length units) x in
      times_more (pace_of kind rate) all then_at (length units)
      (times_same (pace_of kind rate) (unit_at units) all h.times then_at (length units) (λ i l. unit_before units v i l) (λ i l. with_before h.times (length units) x i l) h.has_times)
      (omega (arith, least)) (omega arith) (ap (λ y. y % 65536) w ∙ time_low (left.count * (pace_of left.kind left.rate).unit) v.input small ∙ ap (λ u. u.input) (sym (unit_last units v (length units) refl)))

  -- what the test says, in the list's own words
  abbrev AdmitsHere : Type 0
  AdmitsHere = Admits (pace_of kind rate) (bytes_at all) (length units) (finish_of (pace_of kind rate) (bytes_at all) then_at (length units)) (then_at (length units)) (all (length units)).output

  admits_here : Admits (pace_of left.kind left.rate) (bytes_at all) left.count left.finish x v.output ≡ AdmitsHere
  admits_here =
      ap (λ p. Admits p (bytes_at all) left.count left.finish x v.output) pace_is
      ∙ ap (λ n. Admits (pace_of kind rate) (bytes_at all) n left.finish x v.output) h.count_is
      ∙ ap (λ f. Admits (pace_of kind rate) (bytes_at all) (length units) f x v.output) finish_then
      ∙ ap (λ y. Admits (pace_of kind rate) (bytes_at all) (length units) (finish_of (pace_of kind rate) (bytes_at all) then_at (length units)) y v.output) (sym (with_last h.times (length units) x))
      ∙ ap (λ w. Admits (pace_of kind rate) (bytes_at all) (length units) (finish_of (pace_of kind rate) (bytes_at all) then_at (length units)) (then_at (length units)) w.output)
      (sym (unit_last units v (length units) refl))

  abbrev test : Bool
  test = admits (pace_of left.kind left.rate) left x v.bytes v.output

  test_is : (test ≡ true) ↔ Admits (pace_of left.kind left.rate) (bytes_at all) left.count left.finish x v.output
  test_is = admitted_means (pace_of left.kind left.rate) (bytes_at all) left x v.bytes v.output shown_then last_then (omega (arith, latest_length))
      (λ i l. omega (arith, turn_out left.kind left.rate left.count i (omega (arith, latest_length)), least))

  more : suc (length units) ≡ length (units ++ v ∷ [])
  more = omega (arith, length_push units v)

  timed_then : (left.timed && test) ≡ true → AreTimed kind rate (units ++ v ∷ [])
  timed_then t =
      let both = and_parts left.timed test t in
      subst (IsTimed (pace_of kind rate) all) more
      (timed_more (pace_of kind rate) all then_at (length units) (timed_same (pace_of kind rate) (unit_at units) all (length units) (λ i l. unit_before units v i l) (h.timed_is.0 both.0))
      times_then (subst (λ A. A) admits_here (test_is.0 both.1)))

  then_timed : AreTimed kind rate (units ++ v ∷ []) → (left.timed && test) ≡ true
  then_timed q =
      let r = subst (IsTimed (pace_of kind rate) all) (sym more) q in
      and_from left.timed test
      (h.timed_is.1 (timed_same (pace_of kind rate) all (unit_at units) (length units) (λ i l. sym (unit_before units v i l)) (timed_fewer (pace_of kind rate) all (length units) r)))
      (test_is.1 (subst (λ A. A) (sym admits_here) (timed_admits (pace_of kind rate) all then_at (length units) r times_then)))

  finish_last : x + duration_of (pace_of left.kind left.rate) v.bytes ≡ finish_of (pace_of kind rate) (bytes_at all) then_at (suc (length units))
  finish_last = omega (arith, ap (λ p. duration_of p v.bytes) pace_is, with_last h.times (length units) x, ap (λ w. duration_of (pace_of kind rate) w.bytes) (unit_last units v (length units) refl))

  pub checked_leaves : LeavesTimed kind rate (units ++ v ∷ []) (checked_after left v)
  unfolding checked_after
  checked_leaves = record {
    kind_is = h.kind_is;
    rate_is = h.rate_is;
    count_is = ap (λ m. m + 1) h.count_is ∙ sym (length_push units v);
    latest_is = ap (λ xs. keep_last 91 (xs ++ v.bytes ∷ [])) h.latest_is ∙ kept_push (lengths_of units) v.bytes ∙ ap (keep_last 91) (sym (lengths_push units v));
    times = then_at;
    has_times = subst (HasTimes (pace_of kind rate) all then_at) more times_then;
    finish_is = finish_last ∙ ap (finish_of (pace_of kind rate) (bytes_at all) then_at) more;
    timed_is = (timed_then, then_timed);
  }
