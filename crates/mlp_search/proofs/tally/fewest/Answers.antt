use Rattle.std.proofs.Common.{◌≡◌, ◌+◌, ◌-◌, ◌*◌, ◌<◌, ◌≤◌, ℕ, ℤ, zero, suc, List, arith, sym, ap, subst, inl, inr}
use Rattle.std.proofs.lemmas.Bool.{cases_lt}
use Rattle.mlp_search.specs.declared.tally.Tally.{Tally}
use Rattle.mlp_search.specs.Folded.{all_folded, all_symbol_bits}
use Rattle.mlp_search.specs.Tally.{IsTally, IsCounted}
use Rattle.mlp_search.proofs.tally.fewest.Goals as goal

-- no more than each of the sums with its low bits
record IsUnder (n fewest : ℕ) (t : Tally) : Type 0 where
  before : 0 < t.low → fewest ≤ n * (t.low - 1) + t.first_before
  first_0 : fewest ≤ n * t.low + t.first_0
  first_1 : fewest ≤ n * (t.low + 1) + t.first_1
  second_0 : fewest ≤ n * t.low + t.second_0
  second_1 : fewest ≤ n * (t.low + 1) + t.second_1
  third_0 : fewest ≤ n * t.low + t.third_0
  third_1 : fewest ≤ n * (t.low + 1) + t.third_1
  third_2 : fewest ≤ n * (t.low + 2) + t.third_2

at_bits : (n k b book fewest sum : ℕ) (us : List ℕ) → b ≡ k → sum ≡ all_symbol_bits book k us → fewest ≤ n * k + sum → fewest ≤ n * b + all_symbol_bits book b us
at_bits n k b book fewest sum us e is le = subst (λ (j : ℕ). fewest ≤ n * j + all_symbol_bits book j us) (sym e) (omega (arith, is, le))

under_counted : (n fewest : ℕ) (t : Tally) (offset : ℤ) (vs : List ℤ) (book b : ℕ) → IsUnder n fewest t → IsTally offset vs t → IsCounted t.low book b → fewest ≤ n * b + all_symbol_bits book b (all_folded offset vs)
under_counted n fewest t offset vs zero b u is counted = absurd counted
under_counted n fewest t offset vs (suc zero) b u is counted = elim (cases_lt b t.low) [
  | inl less ↦
      let some : 0 < t.low = omega (arith, less) in
      at_bits n (t.low - 1) b 1 fewest t.first_before (all_folded offset vs) (omega (arith, less, counted.0)) (is.first_before some) (u.before some)
  | inr from ↦ elim (cases_lt t.low b) [
    | inr same ↦ at_bits n t.low b 1 fewest t.first_0 (all_folded offset vs) (omega (arith, from, same)) is.first_0 u.first_0
    | inl more ↦ at_bits n (t.low + 1) b 1 fewest t.first_1 (all_folded offset vs) (omega (arith, more, counted.1)) is.first_1 u.first_1
  ]
]
under_counted n fewest t offset vs (suc (suc zero)) b u is counted = elim (cases_lt t.low b) [
  | inr same ↦ at_bits n t.low b 2 fewest t.second_0 (all_folded offset vs) (omega (arith, counted.0, same)) is.second_0 u.second_0
  | inl more ↦ at_bits n (t.low + 1) b 2 fewest t.second_1 (all_folded offset vs) (omega (arith, more, counted.1)) is.second_1 u.second_1
]
under_counted n fewest t offset vs (suc (suc (suc zero))) b u is counted = elim (cases_lt t.low b) [
  | inr same ↦ at_bits n t.low b 3 fewest t.third_0 (all_folded offset vs) (omega (arith, counted.0, same)) is.third_0 u.third_0
  | inl more ↦ elim (cases_lt (t.low + 1) b) [
    | inr one ↦ at_bits n (t.low + 1) b 3 fewest t.third_1 (all_folded offset vs) (omega (arith, more, one)) is.third_1 u.third_1
    | inl two ↦ at_bits n (t.low + 2) b 3 fewest t.third_2 (all_folded offset vs) (omega (arith, two, counted.1)) is.third_2 u.third_2
  ]
]
under_counted n fewest t offset vs (suc (suc (suc (suc book)))) b u is counted = absurd counted

-- by the least for each number of low bits
record AreLeast (n none one all : ℕ) (t : Tally) : Type 0 where
  first_0 : none ≤ t.first_0
  second_0 : none ≤ t.second_0
  third_0 : none ≤ t.third_0
  first_1 : one ≤ t.first_1
  second_1 : one ≤ t.second_1
  third_1 : one ≤ t.third_1
  with_none : all ≤ none
  with_one : all ≤ n + one
  with_two : all ≤ 2 * n + t.third_2

under_least : (n none one all fewest : ℕ) (t : Tally) → AreLeast n none one all t → fewest ≤ n * t.low + all → (0 < t.low → fewest ≤ n * (t.low - 1) + t.first_before) → IsUnder n fewest t
under_least n none one all fewest t h le before = record {
  before = before;
  first_0 = omega (arith, le, h.with_none, h.first_0);
  first_1 = omega (arith, le, h.with_one, h.first_1);
  second_0 = omega (arith, le, h.with_none, h.second_0);
  second_1 = omega (arith, le, h.with_one, h.second_1);
  third_0 = omega (arith, le, h.with_none, h.third_0);
  third_1 = omega (arith, le, h.with_one, h.third_1);
  third_2 = omega (arith, le, h.with_two);
}

one_less : (n k : ℕ) → 0 < k → n * (k - 1) + n ≡ n * k
one_less n zero some = absurd (omega (arith, some))
one_less n (suc k) some = omega (arith, ap (λ (j : ℕ). n * j) (let e : suc k - 1 ≡ k = omega arith in e))

pub returns-then-tally-eq0 : goal.returns-then-tally-eq0
returns-then-tally-eq0 c =
    λ offset vs book b is counted.
    let low = ap (λ (k : ℕ). c.args.count * k) c.from.ensures in
    let least : AreLeast c.args.count c.least_of-with_low.result c.least_of-with_1_more.result c.least_of.result c.args.tally.now =
    record {
      first_0 = omega (arith, c.least_of-with_low.ensures.one, c.from-2.ensures);
      second_0 = omega (arith, c.least_of-with_low.ensures.two, c.from-3.ensures);
      third_0 = omega (arith, c.least_of-with_low.ensures.three, c.from-4.ensures);
      first_1 = omega (arith, c.least_of-with_1_more.ensures.one, c.from-5.ensures);
      second_1 = omega (arith, c.least_of-with_1_more.ensures.two, c.from-6.ensures);
      third_1 = omega (arith, c.least_of-with_1_more.ensures.three, c.from-7.ensures);
      with_none = c.least_of.ensures.one;
      with_one = c.least_of.ensures.two;
      with_two = omega (arith, c.least_of.ensures.three, c.from-with_2_more.ensures);
    }
    in
    under_counted c.args.count _ c.args.tally.now offset vs book b
    (under_least c.args.count c.least_of-with_low.result c.least_of-with_1_more.result c.least_of.result _ c.args.tally.now least (omega (arith, low)) (λ some. absurd (omega (arith, some, c.if-tally-eq0.true)))) is counted

pub returns : goal.returns
returns c =
    λ offset vs book b is counted.
    let low = ap (λ (k : ℕ). c.args.count * k) c.from.ensures in
    let least : AreLeast c.args.count c.least_of-with_low.result c.least_of-with_1_more.result c.least_of.result c.args.tally.now =
    record {
      first_0 = omega (arith, c.least_of-with_low.ensures.one, c.from-2.ensures);
      second_0 = omega (arith, c.least_of-with_low.ensures.two, c.from-3.ensures);
      third_0 = omega (arith, c.least_of-with_low.ensures.three, c.from-4.ensures);
      first_1 = omega (arith, c.least_of-with_1_more.ensures.one, c.from-5.ensures);
      second_1 = omega (arith, c.least_of-with_1_more.ensures.two, c.from-6.ensures);
      third_1 = omega (arith, c.least_of-with_1_more.ensures.three, c.from-7.ensures);
      with_none = c.least_of.ensures.one;
      with_one = c.least_of.ensures.two;
      with_two = omega (arith, c.least_of.ensures.three, c.from-with_2_more.ensures);
    }
    in
    under_counted c.args.count c.min.result c.args.tally.now offset vs book b
    (under_least c.args.count c.least_of-with_low.result c.least_of-with_1_more.result c.least_of.result c.min.result c.args.tally.now least (omega (arith, low, c.min.ensures))
    (λ some. omega (arith, low, one_less c.args.count c.args.tally.now.low some, c.min.ensures, c.from-8.ensures)))
    is counted
