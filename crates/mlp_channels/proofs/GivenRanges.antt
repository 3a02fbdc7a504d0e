-- What the rules leave of filters and their states is what prediction takes.
use Rattle.std.proofs.Common.{◌≡◌, ◌≢◌, ℕ, zero, suc, ◌+◌, ◌-◌, ◌*◌, ◌<◌, ◌≤◌, ◌^◌, Bool, true, false, eqb, List, [], ◌∷◌, length, get_or}
use Rattle.std.proofs.Common.{drop, Option, Some, None, ℤ, pos, negsuc, neg_ℤ, ◌*ℤ◌, ◌≤ℤ◌, ◌<ℤ◌, FitsSigned, w32, All, refl, sym, ap, subst, arith, inl, inr}
use Rattle.std.specs.Prelude.{IfSome, is_some, unwrap_or}
use Rattle.std.proofs.Math.Pow.{pow_mono}
use Rattle.std.proofs.Math.Nat.{pow-suc, mul-le-mul_right}
use Rattle.std.proofs.lemmas.Nat.{pow-add}
use Rattle.std.proofs.lemmas.Bool.{cases_eq, and_parts, leb-true, ltb-true, eq-eqb, ne_eqb}
use Rattle.std.proofs.lemmas.Int.{ints}
use Rattle.std.proofs.lemmas.Nat.{pow_pos}
use Rattle.std.proofs.lemmas.List.Elements.{All-nil, All-cons}
use Rattle.arrayvec.specs.ArrayVec.{array_vec_len}
use Rattle.mlp_syntax.specs.declared.params.FilterState.{FilterState}
use Rattle.mlp_syntax.specs.declared.params.Filter.{Filter}
use Rattle.mlp_syntax.specs.declared.params.ChannelParams.{ChannelParams}
use Rattle.mlp_syntax.specs.declared.params.Params.{Params}
use Rattle.mlp_bits.specs.Bits.{bit}
use Rattle.mlp_bits.specs.Signed.{HasBits, unsigned}
use Rattle.mlp_layout.specs.Layout.{Layout, number_of, seen, ruled, part, made, item}
use Rattle.mlp_layout.specs.Combined.{signed_of, chosen, present, group, times, each}
use Rattle.mlp_layout.specs.Allowed.{Allowed}
use Rattle.mlp_layout.proofs.RuleReading.{rule_holds}
use Rattle.mlp_layout.proofs.SignedLaws.{stands_for}
use Rattle.mlp_layout.proofs.WritingGroups.{some_allowed}
use Rattle.mlp_params.specs.declared.state.ChannelState.{ChannelState}
use Rattle.mlp_params.specs.declared.state.State.{State}
use Rattle.mlp_params.specs.Filters.{order_of, absent, widths, filter_state, filter, behind_order}
use Rattle.mlp_params.specs.Parameters.{channel, params}
use Rattle.mlp_params.specs.States.{IsChannelState}
use Rattle.mlp_params.proofs.LawfulSteps.{parts, given_count}
use Rattle.mlp_params.proofs.WritingFilters.{second_fits, second_meets}
use Rattle.mlp_params.specs.States as states
use Rattle.mlp_predict.specs.Prediction.{IsCoefficient}
use Rattle.mlp_predict.specs.Filters.{scaled, IsFilter, AreFilters}
use Rattle.mlp_channels.specs.Given.{FitsPast, StateFits, FilterFits, GivesChannel}

-- ---- scaled values

-- it has k bits beside its sign
record IsWithin (k : ℕ) (z : ℤ) : Type 0 where
  low : neg_ℤ (pos (2 ^ k)) ≤ℤ z
  high : z <ℤ pos (2 ^ k)

-- so much less than 2^w is so much less, times 2^s
scaled_less : (a w s k : ℕ) → a ≤ 2 ^ w → w + s ≤ k → a * 2 ^ s ≤ 2 ^ k
scaled_less a w s k h l =
    let m : a * 2 ^ s ≤ 2 ^ w * 2 ^ s = mul-le-mul_right (2 ^ s) h in
    let e : 2 ^ (w + s) ≡ 2 ^ w * 2 ^ s = pow-add 2 w s in
    let p : 2 ^ (w + s) ≤ 2 ^ k = pow_mono l in
    omega arith

one_more : (n s : ℕ) → suc n * 2 ^ s ≡ 2 ^ s + n * 2 ^ s
one_more n s = omega arith

negated : (n m k : ℕ) → suc n * m ≤ 2 ^ k → IsWithin k (negsuc n *ℤ pos m)
negated n m k h = record { low = omega (arith, ints); high = omega (arith, ints, pow_pos k) }

scaled_within : (b s k : ℕ) (v : ℤ) → HasBits b v → b - 1 + s ≤ k → IsWithin k (v *ℤ pos (2 ^ s))
scaled_within b s k (pos n) h l =
    let m : suc n * 2 ^ s ≤ 2 ^ k = scaled_less (suc n) (b - 1) s k (omega arith) l in
    let e = one_more n s in
    let p = pow_pos s in
    record { low = omega (arith, ints); high = omega (arith, ints) }
scaled_within zero s k (negsuc n) h l = absurd (omega arith)
scaled_within (suc b) s k (negsuc n) h l =
    let two : 2 ^ suc b ≡ 2 ^ b * 2 = pow-suc 2 b in
    negated n (2 ^ s) k (scaled_less (suc n) b s k (omega arith) (omega arith))

within_fits : (z : ℤ) → IsWithin 29 z → FitsSigned w32 z
within_fits z h = omega (arith, ints, h.low, h.high)

coefficients : (b s : ℕ) (vs : List ℤ) → All (HasBits b) vs → b - 1 + s ≤ 15 → All IsCoefficient (scaled s vs)
coefficients b s [] h l = All-nil IsCoefficient
coefficients b s (v ∷ vs) h l =
    let w = scaled_within b s 15 v (h 0 v (omega arith)) l in
    All-cons IsCoefficient (v *ℤ pos (2 ^ s)) (scaled s vs) (record { low = w.low; high = w.high }) (coefficients b s vs (λ k d i. h (suc k) d (omega arith)) l)

differences : (b s : ℕ) (vs : List ℤ) → All (HasBits b) vs → b - 1 + s ≤ 29 → All (FitsSigned w32) (scaled s vs)
differences b s [] h l = All-nil (FitsSigned w32)
differences b s (v ∷ vs) h l =
    All-cons (FitsSigned w32) (v *ℤ pos (2 ^ s)) (scaled s vs) (within_fits (v *ℤ pos (2 ^ s)) (scaled_within b s 29 v (h 0 v (omega arith)) l)) (differences b s vs (λ k d i. h (suc k) d (omega arith)) l)

-- ---- fields

field_bits : (b : ℕ) (v : ℤ) → (signed_of b).Fits v → HasBits b v
unfolding signed_of seen number_of
field_bits b v h = stands_for b (unsigned b v) v h

fields_bits : (n b : ℕ) (vs : List ℤ) → (times n (signed_of b)).Fits vs → All (HasBits b) vs
unfolding times item made
fields_bits n b [] h = All-nil (HasBits b)
fields_bits zero b (v ∷ vs) h = absurd (let e = h in cc)
fields_bits (suc n) b (v ∷ vs) h = All-cons (HasBits b) v vs (field_bits b v h.0) (fields_bits n b vs h.1)

fields_count : (n b : ℕ) (vs : List ℤ) → (times n (signed_of b)).Fits vs → length vs ≡ n
unfolding times item made
fields_count zero b [] h = refl
fields_count zero b (v ∷ vs) h = absurd (let e = h in cc)
fields_count (suc n) b [] h = absurd h
fields_count (suc n) b (v ∷ vs) h = ap suc (fields_count n b vs h.1)

-- ---- filters

first_fits : {A : Type 0} (l m : Layout A) (x : A) (b : Bool) → b ≡ true → (chosen b l m).Fits x → l.Fits x
unfolding chosen
first_fits l m x b e h = let P : Bool → Type 0 = λ v. (chosen v l m).Fits x in subst P e h

-- without coefficients nothing stands there
absent_is : (n : ℕ) (has_state : Bool) (f : Filter n) → order_of f ≡ 0 → Allowed (filter n has_state) f → f ≡ absent
unfolding filter part made
absent_is n has_state f none a = first_fits (made absent) (behind_order n has_state (order_of f)) f (eqb (order_of f) 0) (eq-eqb (order_of f) 0 none) a.fits.1

behind : (n : ℕ) (has_state : Bool) (f : Filter n) → order_of f ≢ 0 → Allowed (filter n has_state) f → Allowed (behind_order n has_state (order_of f)) f
unfolding filter part
behind n has_state f some a =
    let e = ne_eqb (order_of f) 0 some in
    record {
      fits = second_fits (made absent) (behind_order n has_state (order_of f)) f (eqb (order_of f) 0) e a.fits.1;
      meets = second_meets (made absent) (behind_order n has_state (order_of f)) f (eqb (order_of f) 0) e a.meets.1;
    }

pub order_most : (n : ℕ) (has_state : Bool) (f : Filter n) → Allowed (filter n has_state) f → order_of f ≤ n
unfolding filter part ruled
order_most n has_state f a = leb-true _ n (rule_holds _ 0 a.meets.0.1)

record AreFields (n : ℕ) (f : Filter n) : Type 0 where
  shift : f.shift < 16
  coeff_shift : f.coeff_shift < 8
  some : 0 < f.coeff_bits
  width : f.coeff_bits + f.coeff_shift ≤ 16
  values : (times (order_of f) (signed_of f.coeff_bits)).Fits f.coeffs.items
  state : (present (is_some f.state) (filter_state (order_of f))).Fits f.state

fields : (n : ℕ) (has_state : Bool) (f : Filter n) → Allowed (behind_order n has_state (order_of f)) f → AreFields n f
unfolding part ruled number_of widths
fields n has_state f a =
    let h = a.fits in
    record {
      shift = h.0;
      coeff_shift = h.1.0.1.0;
      some = ltb-true _ _ (and_parts _ _ (rule_holds _ 0 a.meets.1.0.0.0.1)).0;
      width = leb-true _ _ (rule_holds _ 0 a.meets.1.0.1);
      values = h.1.1.0;
      state = h.1.1.1.1.0;
    }

absent_filter : (n : ℕ) → IsFilter {N = n} absent
absent_filter n = record { shift = omega arith; coeff_shift = omega arith; coefficients = All-nil IsCoefficient }

is_filter : (n : ℕ) (has_state : Bool) (f : Filter n) → Allowed (filter n has_state) f → IsFilter f
is_filter n has_state f a = elim (cases_eq (order_of f) 0) [
  | inl none ↦ let P : Filter n → Type 0 = λ g. IsFilter g in subst P (sym (absent_is n has_state f none a)) (absent_filter n)
  | inr some ↦ there (fields n has_state f (behind n has_state f some a))
]
  where
    there : AreFields n f → IsFilter f
    there h = record { shift = h.shift; coeff_shift = omega (arith, h.coeff_shift); coefficients = coefficients f.coeff_bits f.coeff_shift f.coeffs.items (fields_bits _ _ _ h.values) (omega (arith, h.some, h.width)) }

pub are_filters : (c : ChannelState) → IsChannelState c → AreFilters c.fir c.iir
are_filters c h = record { fir_filter = is_filter 8 false c.fir h.fir; iir_filter = is_filter 4 false c.iir h.iir }

-- ---- states

state_fits : (order : ℕ) (s : FilterState) → order ≤ 4 → (filter_state order).Fits s → FitsPast s
unfolding filter_state part number_of
state_fits order s few h =
    let values = h.1.1.0 in
    let bits : s.bits < 16 = h.0 in
    let shift : s.shift < 16 = h.1.0 in
    let count = fields_count order s.bits s.values.items values in
    record {
      few = omega (arith, count);
      state = record { shift = shift; differences = differences s.bits s.shift s.values.items (fields_bits order s.bits s.values.items values) (omega arith) };
    }

given_state : (order : ℕ) (o : Option FilterState) → order ≤ 4 → (present (is_some o) (filter_state order)).Fits o → StateFits o
unfolding present chosen seen
given_state order None few h = tt
given_state order (Some s) few h = state_fits order s few h.0

filter_fits : (has_state : Bool) (f : Filter 4) → Allowed (filter 4 has_state) f → StateFits f.state
filter_fits has_state f a = elim (cases_eq (order_of f) 0) [
  | inl none ↦ let P : Filter 4 → Type 0 = λ g. StateFits g.state in subst P (sym (absent_is 4 has_state f none a)) tt
  | inr some ↦ given_state (order_of f) f.state (order_most 4 has_state f a) (fields 4 has_state f (behind 4 has_state f some a)).state
]

-- ---- what a block gives to channels

iir_fits : (b : Bool) (o : Option (Filter 4)) → Allowed (group b (filter 4 true)) o → FilterFits o
iir_fits b None a = tt
iir_fits b (Some f) a = filter_fits true f (some_allowed b (filter 4 true) f a)

channel_iir : (flags : ℕ) (c : ChannelState) (g : ChannelParams) → Allowed (channel flags c) g → Allowed (group (bit flags 2) (filter 4 true)) g.iir
unfolding channel part
channel_iir flags c g a = record { fits = a.fits.1.0; meets = a.meets.1.0 }

channel_fits : (flags : ℕ) (c : ChannelState) (o : Option ChannelParams) → Allowed (group true (channel flags c)) o → IfSome o (λ g. FilterFits g.iir)
channel_fits flags c None a = tt
channel_fits flags c (Some g) a = iir_fits (bit flags 2) g.iir (channel_iir flags c g (some_allowed true (channel flags c) g a))

-- an item of a list of which each fits
item_of : {S A : Type 0} (l : S → Layout A) (ss : List S) (xs : List A) (i : ℕ) (e : S) (d : A) → Allowed (each l ss) xs → i < length xs → Allowed (l (get_or ss i e)) (get_or xs i d)
unfolding each item made
item_of l [] [] i e d a h = absurd (omega arith)
item_of l [] (x ∷ xs) i e d a h = absurd (let same = a.fits in cc)
item_of l (s ∷ ss) [] i e d a h = absurd (omega arith)
item_of l (s ∷ ss) (x ∷ xs) zero e d a h = record { fits = a.fits.0; meets = a.meets.0 }
item_of l (s ∷ ss) (x ∷ xs) (suc i) e d a h = item_of l ss xs i e d (record { fits = a.fits.1; meets = a.meets.1 }) (omega arith)

pub gives_channel : (s : State) (p : Params) (i : ℕ) (c : ChannelState) → states.IsState s → Allowed (params s) p → i < s.restart.max + 1 - s.restart.min → GivesChannel i p
gives_channel s p i c h a l =
    let count = given_count s p h a in
    let flags = unwrap_or p.presence s.presence in
    let there : i < array_vec_len p.channels = omega (arith, count) in
    record {
      there = there;
      state = channel_fits flags _ _ (item_of (λ c. group true (channel flags c)) (drop s.restart.min s.channels.items) p.channels.items i c None (parts s p a).channels there);
    }
