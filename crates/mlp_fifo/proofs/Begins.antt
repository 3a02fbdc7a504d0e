-- Giving up units until the others fit gives the least time for the next one.
use Rattle.std.proofs.Common.{◌≡◌, ℕ, suc, ◌+◌, ◌-◌, ◌*◌, ◌<◌, ◌≤◌, List, [], ◌∷◌, ◌++◌, length, get_or, max, arith, refl, ◌∙◌, ap, subst}
use Rattle.std.proofs.lemmas.Nat.{mul-le}
use Rattle.std.proofs.lemmas.List.{length_push}
use Rattle.std.proofs.Math.Decide.{dec_lt}
use Rattle.mlp_fifo.specs.declared.pace.Pace.{Pace}
use Rattle.mlp_fifo.specs.declared.arrivals.Held.{Held}
use Rattle.mlp_fifo.specs.Schedule.{out_of}
use Rattle.mlp_fifo.specs.Pace.{pace_of}
use Rattle.mlp_fifo.specs.Load.{sum_from}
use Rattle.mlp_fifo.specs.Arrivals.{IsGone, IsShed, time_with_shed}
use Rattle.mlp_fifo.specs.LeftFifo.{LeftFifo}
use Rattle.mlp_fifo.specs.Placed.{load_from, latest_load, first_time, begins}
use Rattle.mlp_fifo.proofs.Loads.{load, out_up, gone_one, falls_one, load_late, load_early, sum_front, sum_same}
use Rattle.mlp_fifo.proofs.Shown.{Shows, load_latest}
use Rattle.mlp_fifo.proofs.FirstTimes.{IsFirst, within, first_is}
use Rattle.mlp_fifo.proofs.Next.{IsNext}

-- the sum of the latest lengths is that of the latest units
pub sum_shown : (b : ℕ → ℕ) (latest : List ℕ) (n units : ℕ) → Shows b latest n → length latest ≤ n → units ≤ length latest
    → sum_from (λ i. get_or latest i 0) (length latest - units) units ≡ sum_from b (n - units) units
sum_shown b latest n units shows h l =
    sum_same (λ i. get_or latest i 0) b (length latest - units) (n - units) units
    (λ i k. shows (length latest - units + i) (omega arith) ∙ ap b (let e : n - length latest + (length latest - units + i) ≡ n - units + i = omega arith in e))

-- once all units before the latest have been output, at most those and the next are left
late_fits : (p : Pace) (b : ℕ → ℕ) (n units x : ℕ) → units ≤ n → IsGone p n x units → load p b (suc n) x ≤ sum_from b (n - units) units + b n
late_fits p b n units x h gone =
    let e : n - units + suc units ≡ suc n = omega arith in
    let k : n - units + units ≡ n = omega arith in
    let m = load_late p b (n - units) (suc units) x (λ i l. omega (arith, out_up p i (n - suc units) (omega arith), gone (omega arith))) in
    omega (arith, m, ap (λ j. load p b j x) e, ap b k)

-- before the unit ahead of the latest is output, it, those and the next are left
early_more : (p : Pace) (b : ℕ → ℕ) (n units x : ℕ) → units < n → x < out_of p (n - suc units) → b (n - suc units) + sum_from b (n - units) units + b n ≤ load p b (suc n) x
early_more p b n units x h l =
    let j : ℕ = n - suc units in
    let e : j + suc (suc units) ≡ suc n = omega arith in
    let k : suc j + units ≡ n = omega arith in
    let m : suc j ≡ n - units = omega arith in
    omega (arith, load_early p b j (suc (suc units)) x l, sum_front b j (suc units), ap (λ i. load p b i x) e, ap b k, ap (λ i. sum_from b i units) m)

pub shed_next : (p : Pace) (b : ℕ → ℕ) (latest : List ℕ) (n finish bytes x : ℕ) (held left : Held) → Shows b latest n → b n ≡ bytes → length latest ≤ n → held.units ≤ length latest → IsGone p n finish held.units
    → IsShed latest held bytes p.size left
    → (left.units ≡ held.units → x ≡ max (n * p.unit) finish) → (left.units < held.units → x ≡ time_with_shed p n finish left)
    → IsGone p n x left.units × IsNext p b n finish x
shed_next p b latest n finish bytes x held left shows here h l gone shed kept given = (
  gone_then,
  record {
    start = start;
    after = after;
    fits = omega (arith, late_fits p b n left.units x (omega (arith, shed.fewer)) gone_then, sums, shed.fits, shed.bytes_are, here);
    least = λ y s a f. elim (dec_lt left.units held.units) [
      | yes k ↦ elim (dec_lt y (out_of p (n - suc left.units))) [
        | yes m ↦ absurd (omega (arith, early_more p b n left.units y (omega arith) m, sums, shed.bytes_are, shed.most k, here, first k, f))
        | no m ↦ omega (arith, given k)
      ]
      | no k ↦ omega (arith, kept (omega (arith, shed.fewer)))
    ];
  },
)
  where
    sums : sum_from (λ i. get_or latest i 0) (length latest - left.units) left.units ≡ sum_from b (n - left.units) left.units
    sums = sum_shown b latest n left.units shows h (omega (arith, shed.fewer))

    first : left.units < held.units → get_or latest (length latest - suc left.units) 0 ≡ b (n - suc left.units)
    first k = shows (length latest - suc left.units) (omega arith) ∙ ap b (let e : n - length latest + (length latest - suc left.units) ≡ n - suc left.units = omega arith in e)

    start : n * p.unit ≤ x
    start = elim (dec_lt left.units held.units) [ yes k ↦ omega (arith, given k) | no k ↦ omega (arith, kept (omega (arith, shed.fewer))) ]

    after : finish ≤ x
    after = elim (dec_lt left.units held.units) [ yes k ↦ omega (arith, given k) | no k ↦ omega (arith, kept (omega (arith, shed.fewer))) ]

    gone_then : IsGone p n x left.units
    gone_then m = elim (dec_lt left.units held.units) [
      | yes k ↦ omega (arith, given k)
      | no k ↦ (let e : held.units ≡ left.units = omega (arith, shed.fewer) in let g = subst (λ u. out_of p (n - suc u) ≤ finish) e (gone (omega arith)) in omega (arith, g, after))
    ]

-- ---- the first time at which there is room

-- nothing is left once all have been output
none_from : (p : Pace) (n : ℕ) (xs : List ℕ) (x : ℕ) → ((i : ℕ) → i < n + length xs → out_of p i ≤ x) → load_from p n xs x ≡ 0
none_from p n [] x h = refl
none_from p n (b ∷ bs) x h =
    let m = none_from p (suc n) bs x (λ i l. h i (omega arith)) in
    omega (arith, m, gone_one (out_of p n) b x (h n (omega arith)))

pub load_from-falls : (p : Pace) (n : ℕ) (xs : List ℕ) (x y : ℕ) → x ≤ y → load_from p n xs y ≤ load_from p n xs x
load_from-falls p n [] x y h = omega arith
load_from-falls p n (b ∷ bs) x y h = omega (arith, load_from-falls p (suc n) bs x y h, falls_one (out_of p n) b x y h)

-- all units are output so much after the last one's turn
all_out : (p : Pace) (n i : ℕ) → i ≤ n → out_of p i ≤ n * p.unit + p.latency * p.unit
unfolding out_of
all_out p n i h =
    let m = mul-le (p.latency + i) p.unit (p.latency + n) p.unit (omega arith) (omega arith) in
    let e : (p.latency + n) * p.unit ≡ p.latency * p.unit + n * p.unit = grind arith in
    omega (arith, e, m)

first_load : (p : Pace) (latest : List ℕ) (n finish bytes : ℕ) → length latest ≤ n
    → IsFirst (latest_load p latest n bytes) p.size (max (n * p.unit) finish) (first_time (within (latest_load p latest n bytes) p.size) (p.latency * p.unit) (max (n * p.unit) finish))
first_load p latest n finish bytes l =
    let x : ℕ = max (n * p.unit) finish + p.latency * p.unit in
    let none = none_from p (n - length latest) (latest ++ bytes ∷ []) x (λ i m. omega (arith, all_out p n i (omega (arith, length_push latest bytes)))) in
    first_is (latest_load p latest n bytes) p.size (p.latency * p.unit) (max (n * p.unit) finish) (omega (arith, none))

pub first_begins : (left : LeftFifo) (bytes : ℕ) → length left.latest ≤ left.count
    → IsFirst (latest_load (pace_of left.kind left.rate) left.latest left.count bytes) (pace_of left.kind left.rate).size (max (left.count * (pace_of left.kind left.rate).unit) left.finish) (begins left bytes)
unfolding begins
first_begins left bytes l = first_load (pace_of left.kind left.rate) left.latest left.count left.finish bytes l

-- .. is the least time for the next unit, where the units before the latest have been output
first_next : (p : Pace) (b : ℕ → ℕ) (latest : List ℕ) (n finish bytes y : ℕ) → Shows b latest n → b n ≡ bytes → length latest ≤ n → ((i : ℕ) → i < n - length latest → out_of p i ≤ max (n * p.unit) finish)
    → IsFirst (latest_load p latest n bytes) p.size (max (n * p.unit) finish) y → IsNext p b n finish y
first_next p b latest n finish bytes y shows here l out q = record {
  start = omega (arith, q.start);
  after = omega (arith, q.start);
  fits = omega (arith, q.fits, loads y q.start);
  least = λ z s a f. q.least z (omega arith) (omega (arith, f, loads z (omega arith)));
}
  where
    loads : (x : ℕ) → max (n * p.unit) finish ≤ x → load p b (suc n) x ≡ latest_load p latest n bytes x
    loads x h = load_latest p b latest n bytes x shows here l (λ i m. omega (arith, out i m))

pub begins_next : (left : LeftFifo) (b : ℕ → ℕ) (bytes : ℕ) → Shows b left.latest left.count → b left.count ≡ bytes → length left.latest ≤ left.count
    → ((i : ℕ) → i < left.count - length left.latest → out_of (pace_of left.kind left.rate) i ≤ max (left.count * (pace_of left.kind left.rate).unit) left.finish)
    → IsNext (pace_of left.kind left.rate) b left.count left.finish (begins left bytes)
begins_next left b bytes shows here l out = first_next (pace_of left.kind left.rate) b left.latest left.count left.finish bytes (begins left bytes) shows here l out (first_begins left bytes l)
