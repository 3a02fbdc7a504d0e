-- What the parameters and the codes of a choice cost.
use Rattle.std.proofs.Common.{◌≡◌, ℕ, ◌+◌, ◌-◌, ℤ, pos, ◌+ℤ◌, Bool, true, false, List, [], ◌++◌, length, map, get_or, Option, Some, None, arith, refl, sym, ◌∙◌, ap, subst, inl, inr}
use Rattle.std.specs.Prelude.{All, ◌&&◌, FitsSigned, ◌⊎◌, if◌then◌else◌}
use Rattle.std.specs.Int.{w32}
use Rattle.std.specs.List.{list_all}
use Rattle.std.specs.Option.{option_map}
use Rattle.std.specs.Ordering.{int_eq}
use Rattle.std.proofs.lemmas.Int.{ints}
use Rattle.std.proofs.lemmas.Bool.{and_parts, or_cases, and_from}
use Rattle.std.proofs.lemmas.Bool.Decides.{Decides-int_eq}
use Rattle.std.proofs.lemmas.List.{length-append}
use Rattle.mlp_syntax.specs.declared.params.ChannelParams.{ChannelParams}
use Rattle.mlp_arith.specs.Words.{floor_by}
use Rattle.mlp_bits.specs.Bits.{bits}
use Rattle.mlp_bits.proofs.BitLists.{length-bits}
use Rattle.mlp_layout.specs.Layout.{number_of, ruled, tested, part, made}
use Rattle.mlp_layout.specs.Combined.{signed_of, group}
use Rattle.mlp_params.specs.declared.state.ChannelState.{ChannelState}
use Rattle.mlp_params.specs.Filters.{filter}
use Rattle.mlp_params.specs.Parameters.{channel, filters_tested}
use Rattle.mlp_levinson.specs.Computed.{has_bits}
use Rattle.mlp_levinson.specs.Best.{HasBits}
use Rattle.mlp_levinson.proofs.Widths.{all_to}
use Rattle.mlp_search.specs.declared.pair.Pair.{Pair}
use Rattle.mlp_search.specs.declared.choice.Choice.{Choice}
use Rattle.mlp_search.specs.Candidates.{least_of, greatest_of, limited, middle_of}
use Rattle.mlp_search.specs.Given.{IsPair, fir_stays, iir_stays, fir_given, iir_given, with_zeros, offset_given, all_stays}
use Rattle.mlp_search.specs.Cost.{bits_for, fir_bits, iir_bits, offset_bits, parameter_bits, parameter_sum, in_range, is_offset, cost_over}
use Rattle.mlp_search.proofs.FilterLaws.{field_fits, signed_takes, none_length, some_length, filter_length, zeros_length}

-- ---- parameters

fir_size : (force : ChannelState) (n : ℕ) (pair : Pair) → IsPair pair → length ((group true (filter 8 false)).spelling (fir_given force n pair)) ≡ 1 + fir_bits (fir_given force n pair)
fir_size force n pair p = pick (fir_stays force n pair)
  where
    pick : (t : Bool) → length ((group true (filter 8 false)).spelling (if t then None else Some pair.fir)) ≡ 1 + fir_bits (if t then None else Some pair.fir)
    pick true = none_length (filter 8 false)
    pick false = omega (arith, some_length (filter 8 false) pair.fir, filter_length 8 pair.fir p.fir)

iir_size : (force : ChannelState) (n : ℕ) (pair : Pair) → IsPair pair → length ((group true (filter 4 true)).spelling (iir_given force n pair)) ≡ 1 + iir_bits (iir_given force n pair)
iir_size force n pair p = pick (iir_stays force n pair)
  where
    pick : (t : Bool) → length ((group true (filter 4 true)).spelling (if t then None else Some (with_zeros pair.iir))) ≡ 1 + iir_bits (if t then None else Some (with_zeros pair.iir))
    pick true = none_length (filter 4 true)
    pick false = some_length (filter 4 true) (with_zeros pair.iir) ∙ ap (λ (n : ℕ). 1 + n) (zeros_length pair.iir p.iir)

offset_size : (force : ChannelState) (offset : ℤ) → (signed_of 15).Fits offset → length ((group true (signed_of 15)).spelling (offset_given force offset)) ≡ 1 + offset_bits force offset
offset_size force offset fits = pick (int_eq offset force.offset)
  where
    pick : (t : Bool) → length ((group true (signed_of 15)).spelling (if t then None else Some offset)) ≡ 1 + (if t then 0 else 15)
    pick true = none_length (signed_of 15)
    pick false = let is = (signed_takes 15).takes offset fits in omega (arith, some_length (signed_of 15) offset, is)

channel_size : (force : ChannelState) (g : ChannelParams) (f i o : ℕ) → length ((group true (filter 8 false)).spelling g.fir) ≡ 1 + f → length ((group true (filter 4 true)).spelling g.iir) ≡ 1 + i
    → length ((group true (signed_of 15)).spelling g.offset) ≡ 1 + o
    → length ((channel 0xFF force).spelling g) ≡ 10 + f + i + o
unfolding channel part filters_tested tested ruled number_of made
channel_size force g f i o a b c =
    let fir = (group true (filter 8 false)).spelling g.fir in
    let iir = (group true (filter 4 true)).spelling g.iir in
    let offset = (group true (signed_of 15)).spelling g.offset in
    let codes = bits 2 g.book ++ (bits 5 g.low ++ []) in
    omega (
      arith,
      a,
      b,
      c,
      length-append fir (iir ++ (offset ++ codes)),
      length-append iir (offset ++ codes),
      length-append offset codes,
      length-append (bits 2 g.book) (bits 5 g.low ++ []),
      length-append (bits 5 g.low) [],
      length-bits 2 g.book,
      length-bits 5 g.low,
    )

-- the parameters take as many bits as the sum says
pub parameters_is : (force : ChannelState) (pair : Pair) (c : Choice) → IsPair pair → (signed_of 15).Fits c.offset → parameter_bits force pair c ≡ parameter_sum force pair c
parameters_is force pair c p o = pick (all_stays force pair c)
  where
    pick : (t : Bool)
        → length ((group true (channel 0xFF force)).spelling (if t then None else Some (record { fir = fir_given force c.filter pair; iir = iir_given force c.filter pair; offset = offset_given force c.offset; book = c.book; low = c.low })))
        ≡ (if t then 1 else 11 + fir_bits (fir_given force c.filter pair) + iir_bits (iir_given force c.filter pair) + offset_bits force c.offset)
    pick true = none_length (channel 0xFF force)
    pick false =
        let g : ChannelParams = record { fir = fir_given force c.filter pair; iir = iir_given force c.filter pair; offset = offset_given force c.offset; book = c.book; low = c.low } in
        let f = fir_bits (fir_given force c.filter pair) in
        let i = iir_bits (iir_given force c.filter pair) in
        let k = offset_bits force c.offset in
        let all = channel_size force g f i k (fir_size force c.filter pair p) (iir_size force c.filter pair p) (offset_size force c.offset o) in
        omega (arith, some_length (channel 0xFF force) g, all)

-- ---- offsets

limited_has : (v : ℤ) → HasBits 15 (limited v)
limited_has v = record { low = grind (arith, ints); high = grind (arith, ints) }

pub middle_fits : (step : ℕ) (rs : List ℤ) → (signed_of 15).Fits (middle_of step rs)
middle_fits step rs = field_fits 15 (middle_of step rs) (omega arith) (limited_has (floor_by 1 (least_of (map (floor_by step) rs) +ℤ greatest_of (map (floor_by step) rs))))

zero_fits : (signed_of 15).Fits (pos 0)
zero_fits = field_fits 15 (pos 0) (omega arith) (record { low = omega (arith, ints); high = omega (arith, ints) })

-- an offset of a candidate is 0 or the middle
pub offset_either : (step : ℕ) (rs : List ℤ) (offset : ℤ) → is_offset step rs offset ≡ true → (offset ≡ pos 0) ⊎ (offset ≡ middle_of step rs)
offset_either step rs offset e = elim (or_cases (int_eq offset (pos 0)) (int_eq offset (middle_of step rs)) e) [
  | inl z ↦ inl ((Decides-int_eq offset (pos 0)).0 z)
  | inr m ↦ inr ((Decides-int_eq offset (middle_of step rs)).0 m)
]

pub offset_fits : (step : ℕ) (rs : List ℤ) (offset : ℤ) → is_offset step rs offset ≡ true → (signed_of 15).Fits offset
offset_fits step rs offset e = elim (offset_either step rs offset e) [
  | inl z ↦ subst (λ (o : ℤ). (signed_of 15).Fits o) (sym z) zero_fits
  | inr m ↦ subst (λ (o : ℤ). (signed_of 15).Fits o) (sym m) (middle_fits step rs)
]

-- ---- words

word_has : (z : ℤ) → FitsSigned w32 z → HasBits 32 z
word_has z h = record { low = omega (arith, ints, h); high = omega (arith, ints, h) }

pub words_true : (rs : List ℤ) → All (FitsSigned w32) rs → list_all (has_bits 32) rs ≡ true
words_true rs h = all_to 32 rs (λ i d l. word_has (get_or rs i d) (h i d l))

-- ---- the cost over residuals

-- what the cost says of a choice
pub record Costs (force : ChannelState) (step : ℕ) (filters : Bool) (pair : Pair) (rs : List ℤ) (c : Choice) (n : ℕ) : Type 0 where
  pub range : in_range step filters c ≡ true
  pub offset : is_offset step rs c.offset ≡ true
  pub words : list_all (has_bits 32) rs ≡ true
  pub codes : ℕ
  pub taken : bits_for c.book (c.low - step) c.offset step rs ≡ Some codes
  pub total : n ≡ parameter_bits force pair c + codes

pub costs_from : (force : ChannelState) (step : ℕ) (filters : Bool) (pair : Pair) (rs : List ℤ) (c : Choice) (n : ℕ) → cost_over force step filters pair rs c ≡ Some n → Costs force step filters pair rs c n
costs_from force step filters pair rs c n e = pick (in_range step filters c && is_offset step rs c.offset && list_all (has_bits 32) rs) refl e
  where
    sums : (o : Option ℕ) → bits_for c.book (c.low - step) c.offset step rs ≡ o → option_map (λ k. parameter_bits force pair c + k) o ≡ Some n
        → (k : ℕ) × (bits_for c.book (c.low - step) c.offset step rs ≡ Some k) × (n ≡ parameter_bits force pair c + k)
    sums None is e = absurd cc
    sums (Some k) is e = (k, is, let s : n ≡ parameter_bits force pair c + k = cc in s)

    pick : (t : Bool) → (in_range step filters c && is_offset step rs c.offset && list_all (has_bits 32) rs) ≡ t
        → (if t then option_map (λ k. parameter_bits force pair c + k) (bits_for c.book (c.low - step) c.offset step rs) else None) ≡ Some n → Costs force step filters pair rs c n
    pick true t e =
        let p = and_parts (in_range step filters c && is_offset step rs c.offset) (list_all (has_bits 32) rs) t in
        let q = and_parts (in_range step filters c) (is_offset step rs c.offset) p.0 in
        let s = sums (bits_for c.book (c.low - step) c.offset step rs) refl e in
        record { range = q.0; offset = q.1; words = p.1; codes = s.0; taken = s.1; total = s.2 }
    pick false t e = absurd cc

-- the cost of a candidate whose residuals are words
pub cost_is : (force : ChannelState) (step : ℕ) (filters : Bool) (pair : Pair) (rs : List ℤ) (c : Choice) → in_range step filters c ≡ true → is_offset step rs c.offset ≡ true → list_all (has_bits 32) rs ≡ true
    → cost_over force step filters pair rs c ≡ option_map (λ k. parameter_bits force pair c + k) (bits_for c.book (c.low - step) c.offset step rs)
cost_is force step filters pair rs c r o w =
    let two = and_from (in_range step filters c) (is_offset step rs c.offset) r o in
    let all = and_from (in_range step filters c && is_offset step rs c.offset) (list_all (has_bits 32) rs) two w in
    ap (λ (t : Bool). if t then option_map (λ k. parameter_bits force pair c + k) (bits_for c.book (c.low - step) c.offset step rs) else None) all
