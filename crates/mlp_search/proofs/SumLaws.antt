-- The bits of symbols by sums over quotients, and the sums side by side in one number.
use Rattle.std.proofs.Common.{◌≡◌, ℕ, zero, suc, ◌+◌, ◌-◌, ◌*◌, ◌/◌, ◌%◌, ◌^◌, ◌<◌, ◌≤◌, ℤ, pos, ◌-ℤ◌, Bool, true, false, List, [], ◌∷◌, length, drop, get_or, arith, refl, sym, ◌∙◌, ap, subst, inl, inr}
use Rattle.std.specs.Prelude.{max, nat_lt, if◌then◌else◌}
use Rattle.std.proofs.lemmas.Bool.{cases_lt, lt-ltb, le-ltb}
use Rattle.std.proofs.lemmas.List.{drop_more, length-map}
use Rattle.std.proofs.Math.Nat.{div-div-eq-div-mul}
use Rattle.std.proofs.Math.Pow.{pow_pos, pow-add}
use Rattle.mlp_search.specs.declared.sums.Sums.{Sums}
use Rattle.mlp_search.specs.declared.tally.Tally.{Tally}
use Rattle.mlp_search.specs.Folded.{folded, symbol_bits, all_folded, top_of, all_symbol_bits}
use Rattle.mlp_search.specs.Tally.{quotient_sum, count_below, IsSums, AreFew, IsTally}
use Rattle.mlp_search.proofs.BoundLaws.{same_order}
use Rattle.mlp_search.proofs.FoldLaws.{quotient_below, quotient_above}

-- ---- one number

-- a quotient of a quotient
pub over : (u b d k : ℕ) → k ≡ 2 ^ d → u / 2 ^ b / k ≡ u / 2 ^ (b + d)
over u b d k e = div-div-eq-div-mul u (2 ^ b) k ∙ ap (λ (n : ℕ). u / n) (ap (λ (n : ℕ). 2 ^ b * n) e ∙ sym (pow-add 2 b d))

abbrev pub bit : Bool → ℕ
bit t = if t then 1 else 0

bit_most : (t : Bool) → bit t ≤ 1
bit_most true = omega arith
bit_most false = omega arith

-- a number below another, told by the quotient of the two
below_test : (p k : ℕ) → 0 < k → nat_lt p k ≡ nat_lt (p / k) 1
below_test p k some = elim (cases_lt (p / k) 1) [
  | inl lt ↦ lt-ltb p k (omega (arith, quotient_below 1 k p some lt)) ∙ sym (lt-ltb (p / k) 1 lt)
  | inr ge ↦ le-ltb p k (omega (arith, quotient_above 1 k p ge)) ∙ sym (le-ltb (p / k) 1 ge)
]

mark_over : (u b d k : ℕ) → k ≡ 2 ^ d → 0 < k → bit (nat_lt (u / 2 ^ b) k) ≡ bit (nat_lt (u / 2 ^ (b + d)) 1)
mark_over u b d k e some = ap bit (below_test (u / 2 ^ b) k some ∙ ap (λ (n : ℕ). nat_lt n 1) (over u b d k e))

first_one : (b u : ℕ) → symbol_bits 1 (u / 2 ^ b) ≡ 1 + u / 2 ^ (b + 1) + bit (nat_lt (u / 2 ^ (b + 1)) 1) + bit (nat_lt (u / 2 ^ (b + 2)) 1)
first_one b u = omega (arith, over u b 1 2 refl, mark_over u b 1 2 refl (omega arith), mark_over u b 2 4 refl (omega arith))

third_one : (p : ℕ) → symbol_bits 3 p + p / 2 + bit (nat_lt p 1) ≡ 2 + p
third_one zero = refl
third_one (suc p) =
    let e : nat_lt (suc p) 1 ≡ false = le-ltb (suc p) 1 (omega arith) in
    subst (λ (t : Bool). 2 + (suc p - suc p / 2) - bit t + suc p / 2 + bit t ≡ 2 + suc p) (sym e) (omega arith)

one_or_none : (q : ℕ) → q < 2 → q + bit (nat_lt q 1) ≡ 1
one_or_none zero lt = refl
one_or_none (suc zero) lt = refl
one_or_none (suc (suc q)) lt = absurd (omega (arith, lt))

-- ---- all numbers

first_by_sums : (b : ℕ) (us : List ℕ) → all_symbol_bits 1 b us ≡ length us + quotient_sum (b + 1) us + count_below (b + 1) us + count_below (b + 2) us
first_by_sums b [] = refl
first_by_sums b (u ∷ us) = omega (arith, first_one b u, first_by_sums b us)

pub first_is : (b h q : ℕ) (us : List ℕ) → h ≡ b + 1 → q ≡ b + 2 → all_symbol_bits 1 b us ≡ length us + quotient_sum h us + count_below h us + count_below q us
first_is b h q us e f = rw (e, f) (first_by_sums b us)

second_by_sums : (b : ℕ) (us : List ℕ) → all_symbol_bits 2 b us ≡ 2 * length us + quotient_sum (b + 1) us
second_by_sums b [] = refl
second_by_sums b (u ∷ us) = omega (arith, over u b 1 2 refl, second_by_sums b us)

pub second_is : (b h : ℕ) (us : List ℕ) → h ≡ b + 1 → all_symbol_bits 2 b us ≡ 2 * length us + quotient_sum h us
second_is b h us e = rw e (second_by_sums b us)

third_by_sums : (b : ℕ) (us : List ℕ) → all_symbol_bits 3 b us + quotient_sum (b + 1) us + count_below b us ≡ 2 * length us + quotient_sum b us
third_by_sums b [] = refl
third_by_sums b (u ∷ us) = omega (arith, third_one (u / 2 ^ b), over u b 1 2 refl, third_by_sums b us)

pub third_is : (b h : ℕ) (us : List ℕ) → h ≡ b + 1 → all_symbol_bits 3 b us + quotient_sum h us + count_below b us ≡ 2 * length us + quotient_sum b us
third_is b h us e = rw e (third_by_sums b us)

head_within : (b u s : ℕ) (us : List ℕ) → top_of (u ∷ us) / 2 ^ b < s → u / 2 ^ b < s
head_within b u s us lt = omega (arith, lt, same_order u (max u (top_of us)) (2 ^ b) (pow_pos b) (omega arith))

rest_within : (b u s : ℕ) (us : List ℕ) → top_of (u ∷ us) / 2 ^ b < s → top_of us / 2 ^ b < s
rest_within b u s us lt = omega (arith, lt, same_order (top_of us) (max u (top_of us)) (2 ^ b) (pow_pos b) (omega arith))

-- quotients of which each is 0 or 1
last_by_count : (b : ℕ) (us : List ℕ) → top_of us / 2 ^ b < 2 → quotient_sum b us + count_below b us ≡ length us
last_by_count b [] lt = refl
last_by_count b (u ∷ us) lt = omega (arith, one_or_none (u / 2 ^ b) (head_within b u 2 us lt), last_by_count b us (rest_within b u 2 us lt))

eighths_by_count : (low : ℕ) (us : List ℕ) → top_of us / 2 ^ low < 16 → quotient_sum (low + 3) us + count_below (low + 3) us ≡ length us
eighths_by_count low us lt = last_by_count (low + 3) us (omega (arith, lt, over (top_of us) low 3 8 refl))

-- ---- bounds

most_quotients : (b s : ℕ) (us : List ℕ) → top_of us / 2 ^ b < s + 1 → quotient_sum b us ≤ s * length us
most_quotients b s [] lt = omega arith
most_quotients b s (u ∷ us) lt = omega (arith, head_within b u (s + 1) us lt, most_quotients b s us (rest_within b u (s + 1) us lt))

most_below : (b : ℕ) (us : List ℕ) → count_below b us ≤ length us
most_below b [] = omega arith
most_below b (u ∷ us) = omega (arith, bit_most (nat_lt (u / 2 ^ b) 1), most_below b us)

most_whole : (low : ℕ) (us : List ℕ) → top_of us / 2 ^ low < 16 → quotient_sum low us ≤ 15 * length us
most_whole low us lt = most_quotients low 15 us lt

most_halves : (low : ℕ) (us : List ℕ) → top_of us / 2 ^ low < 16 → quotient_sum (low + 1) us ≤ 7 * length us
most_halves low us lt = most_quotients (low + 1) 7 us (omega (arith, lt, over (top_of us) low 1 2 refl))

most_quarters : (low : ℕ) (us : List ℕ) → top_of us / 2 ^ low < 16 → quotient_sum (low + 2) us ≤ 3 * length us
most_quarters low us lt = most_quotients (low + 2) 3 us (omega (arith, lt, over (top_of us) low 2 4 refl))

fewer_halves : (b : ℕ) (us : List ℕ) → quotient_sum (b + 1) us ≤ quotient_sum b us
fewer_halves b [] = omega arith
fewer_halves b (u ∷ us) = omega (arith, over u b 1 2 refl, fewer_halves b us)

-- ---- sums side by side

abbrev pub parts_total : ℕ → List ℕ → ℕ
parts_total low us = quotient_sum low us + 2 ^ 12 * quotient_sum (low + 1) us + 2 ^ 23 * quotient_sum (low + 2) us

abbrev pub marks_total : ℕ → List ℕ → ℕ
marks_total low us = count_below low us + 2 ^ 8 * count_below (low + 1) us + 2 ^ 16 * count_below (low + 2) us + 2 ^ 24 * count_below (low + 3) us

-- one value more
pub parts_next : (low : ℕ) (m : ℤ) (vs : List ℤ) (i u r sum total : ℕ) → i < length vs → u ≡ folded (get_or vs i (pos 0) -ℤ m) → r ≡ u / 2 ^ low + 2 ^ 12 * (u / 2 ^ low / 2) + 2 ^ 23 * (u / 2 ^ low / 4)
    → sum + parts_total low (all_folded m (drop i vs)) ≡ total → sum + r + parts_total low (all_folded m (drop (i + 1) vs)) ≡ total
parts_next low m vs i u r sum total lt is made inv =
    let e : parts_total low (all_folded m (drop i vs)) ≡ parts_total low (u ∷ all_folded m (drop (i + 1) vs)) =
    ap (λ (xs : List ℤ). parts_total low (all_folded m xs)) (drop_more vs i (pos 0) lt) ∙ ap (λ (k : ℕ). parts_total low (k ∷ all_folded m (drop (i + 1) vs))) (sym is)
    in
    omega (arith, e, over u low 1 2 refl, over u low 2 4 refl, made, inv)

pub marks_next : (low : ℕ) (m : ℤ) (vs : List ℤ) (i u r sum total : ℕ) → i < length vs → u ≡ folded (get_or vs i (pos 0) -ℤ m)
    → r ≡ bit (nat_lt (u / 2 ^ low) 1) + 2 ^ 8 * bit (nat_lt (u / 2 ^ low) 2) + 2 ^ 16 * bit (nat_lt (u / 2 ^ low) 4) + 2 ^ 24 * bit (nat_lt (u / 2 ^ low) 8)
    → sum + marks_total low (all_folded m (drop i vs)) ≡ total → sum + r + marks_total low (all_folded m (drop (i + 1) vs)) ≡ total
marks_next low m vs i u r sum total lt is made inv =
    let e : marks_total low (all_folded m (drop i vs)) ≡ marks_total low (u ∷ all_folded m (drop (i + 1) vs)) =
    ap (λ (xs : List ℤ). marks_total low (all_folded m xs)) (drop_more vs i (pos 0) lt) ∙ ap (λ (k : ℕ). marks_total low (k ∷ all_folded m (drop (i + 1) vs))) (sym is)
    in
    omega (arith, e, mark_over u low 1 2 refl (omega arith), mark_over u low 2 4 refl (omega arith), mark_over u low 3 8 refl (omega arith), made, inv)

pub parts_fit : (low : ℕ) (us : List ℕ) → length us ≤ 160 → top_of us / 2 ^ low < 16 → parts_total low us < 2 ^ 32
parts_fit low us few lt = omega (arith, few, most_whole low us lt, most_halves low us lt, most_quarters low us lt)

pub marks_fit : (low : ℕ) (us : List ℕ) → length us ≤ 160 → marks_total low us < 2 ^ 32
marks_fit low us few = omega (arith, few, most_below low us, most_below (low + 1) us, most_below (low + 2) us, most_below (low + 3) us)

-- the sums as they are taken apart
pub taken_apart : (low parts marks : ℕ) (us : List ℕ) (s : Sums) → length us ≤ 160 → top_of us / 2 ^ low < 16 → parts ≡ parts_total low us → marks ≡ marks_total low us
    → s.whole ≡ parts % 4096 → s.halves ≡ parts / 4096 % 2048 → s.quarters ≡ parts / 8388608
    → s.below_1 ≡ marks % 256 → s.below_2 ≡ marks / 256 % 256 → s.below_4 ≡ marks / 65536 % 256 → s.below_8 ≡ marks / 16777216 → IsSums low us s
taken_apart low parts marks us s few lt p m w h q b1 b2 b4 b8 =
    let whole = most_whole low us lt in
    let halves = most_halves low us lt in
    let quarters = most_quarters low us lt in
    let below_1 = most_below low us in
    let below_2 = most_below (low + 1) us in
    let below_4 = most_below (low + 2) us in
    let below_8 = most_below (low + 3) us in
    record {
      whole = omega (arith, whole, few, p, w);
      halves = omega (arith, whole, halves, few, p, h);
      quarters = omega (arith, whole, halves, few, p, q);
      below_1 = omega (arith, below_1, few, m, b1);
      below_2 = omega (arith, below_1, below_2, few, m, b2);
      below_4 = omega (arith, below_1, below_2, below_4, few, m, b4);
      below_8 = omega (arith, below_1, below_2, below_4, few, m, b8);
    }

pub are_few : (low count : ℕ) (us : List ℕ) (s : Sums) → length us ≡ count → top_of us / 2 ^ low < 16 → IsSums low us s → AreFew count s
are_few low count us s same lt is = record {
  whole = omega (arith, same, most_whole low us lt, is.whole);
  halves = omega (arith, fewer_halves low us, is.whole, is.halves);
  quarters = omega (arith, fewer_halves (low + 1) us, is.halves, is.quarters, ap (λ (k : ℕ). quotient_sum k us) (let e : low + 1 + 1 ≡ low + 2 = omega arith in e));
  below_1 = omega (arith, same, most_below low us, is.below_1);
  below_2 = omega (arith, same, most_below (low + 1) us, is.below_2);
  below_4 = omega (arith, same, most_below (low + 2) us, is.below_4);
  below_8 = omega (arith, same, most_below (low + 3) us, is.below_8);
}

-- the bits that are made of them
pub made_of_sums : (offset : ℤ) (vs : List ℤ) (s : Sums) (t : Tally) (count : ℕ) → count ≡ length vs → top_of (all_folded offset vs) / 2 ^ t.low < 16 → IsSums t.low (all_folded offset vs) s → AreFew count s
    → t.first_before ≡ count + s.whole + s.below_1 + s.below_2 → t.first_0 ≡ count + s.halves + s.below_2 + s.below_4 → t.first_1 ≡ count + s.quarters + s.below_4 + s.below_8
    → t.second_0 ≡ 2 * count + s.halves → t.second_1 ≡ 2 * count + s.quarters
    → t.third_0 ≡ 2 * count + s.whole - s.halves - s.below_1 → t.third_1 ≡ 2 * count + s.halves - s.quarters - s.below_2 → t.third_2 ≡ count + s.quarters + s.below_8 - s.below_4
    → IsTally offset vs t
made_of_sums offset vs s t count n lt is few a b c d e f g h =
    let same : length (all_folded offset vs) ≡ count = length-map vs _ ∙ sym n in
    record {
      first_before = λ some. omega (arith, same, is.whole, is.below_1, is.below_2, a, first_is (t.low - 1) t.low (t.low + 1) (all_folded offset vs) (omega (arith, some)) (omega (arith, some)));
      first_0 = omega (arith, same, is.halves, is.below_2, is.below_4, b, first_is t.low (t.low + 1) (t.low + 2) (all_folded offset vs) refl refl);
      first_1 = omega (arith, same, is.quarters, is.below_4, is.below_8, c, first_is (t.low + 1) (t.low + 2) (t.low + 3) (all_folded offset vs) (omega arith) (omega arith));
      second_0 = omega (arith, same, is.halves, d, second_is t.low (t.low + 1) (all_folded offset vs) refl);
      second_1 = omega (arith, same, is.quarters, e, second_is (t.low + 1) (t.low + 2) (all_folded offset vs) (omega arith));
      third_0 = omega (arith, same, is.whole, is.halves, is.below_1, f, third_is t.low (t.low + 1) (all_folded offset vs) refl);
      third_1 = omega (arith, same, is.halves, is.quarters, is.below_2, g, third_is (t.low + 1) (t.low + 2) (all_folded offset vs) (omega arith));
      third_2 = omega (arith, same, is.quarters, is.below_4, is.below_8, h, third_is (t.low + 2) (t.low + 3) (all_folded offset vs) (omega arith), eighths_by_count t.low (all_folded offset vs) lt);
    }
