-- Parameters that meet the rules leave a state that does.
use Rattle.std.proofs.Common.{◌≡◌, ℕ, zero, suc, ◌+◌, ◌<◌, ◌≤◌, Bool, true, false, leb, eqb, List, [], ◌∷◌, length, take, drop, Option, Some, None, ℤ, refl, sym, ap, subst, arith}
use Rattle.std.specs.Prelude.{All, unwrap_or, option_map, ◌||◌}
use Rattle.std.proofs.lemmas.Bool.{leb-true}
use Rattle.std.proofs.Math.Dec.{eqb-suc-zero}
use Rattle.std.proofs.lemmas.List.{length-append, length-take, length-drop}
use Rattle.std.proofs.lemmas.List.Elements.{All-append, All-drop, All-take}
use Rattle.arrayvec.specs.ArrayVec.{array_vec_len}
use Rattle.mlp_syntax.specs.declared.params.Filter.{Filter}
use Rattle.mlp_syntax.specs.declared.params.FilterState.{FilterState}
use Rattle.mlp_syntax.specs.declared.params.ChannelParams.{ChannelParams}
use Rattle.mlp_syntax.specs.declared.params.Params.{Params}
use Rattle.mlp_params.specs.declared.state.ChannelState.{ChannelState}
use Rattle.mlp_params.specs.declared.state.State.{State}
use Rattle.mlp_bits.specs.Bits.{bit}
use Rattle.mlp_layout.specs.Layout.{Layout, number_of, seen, ruled, tested, made, part, item}
use Rattle.mlp_layout.specs.Combined.{flag, signed_of, chosen, present, group, listed, each}
use Rattle.mlp_layout.specs.Allowed.{Allowed}
use Rattle.mlp_params.specs.Filters.{order_of, absent, filter, behind_order}
use Rattle.mlp_params.specs.Matrices.{rows}
use Rattle.mlp_params.specs.Parameters.{block_size_of, output_shift, one_precision, filters_tested, channel, groups, params}
use Rattle.mlp_params.specs.InForce.{stateless}
use Rattle.mlp_params.specs.Applied.{applied, channel_applied, channels_applied}
use Rattle.mlp_params.specs.States.{IsChannelState, IsState}
use Rattle.mlp_params.proofs.RestartRanges.{ranges}
use Rattle.mlp_layout.proofs.RuleReading.{rule_holds}
use Rattle.mlp_layout.proofs.WritingGroups.{some_allowed}
use Rattle.mlp_params.proofs.ApplyLaws.{applied_count}

-- ---- groups

pub allowed_now : {A : Type 0} (there : Bool) (l : Layout A) (o : Option A) (old : A) → Allowed (group there l) o → Allowed l old → Allowed l (unwrap_or o old)
allowed_now there l None old a h = h
allowed_now there l (Some x) old a h = some_allowed there l x a

-- ---- filters

module _ {A : Type 0} {b : Bool} (l m : Layout A) (x : A) where
  second : b ≡ false → Allowed (chosen b l m) x → Allowed m x
  unfolding chosen
  second e a = let P : Bool → Type 0 = λ v. Allowed (chosen v l m) x in subst P e a

  is_second : b ≡ false → Allowed m x → Allowed (chosen b l m) x
  unfolding chosen
  is_second e a = let P : Bool → Type 0 = λ v. Allowed (chosen v l m) x in subst P (sym e) a

no_state : (n : ℕ) (has_state : Bool) (shift coeff_bits coeff_shift : ℕ) (state : Option FilterState)
    → Allowed (filter n has_state) (record { shift = shift; coeff_bits = coeff_bits; coeff_shift = coeff_shift; coeffs = record { items = [] }; state = state })
    → Allowed (filter n false) (record { shift = shift; coeff_bits = coeff_bits; coeff_shift = coeff_shift; coeffs = record { items = [] }; state = None })
unfolding filter part ruled chosen made
no_state n has_state shift coeff_bits coeff_shift state a = record { fits = (a.fits.0, ap stateless a.fits.1); meets = (a.meets.0, tt) }

without_state : (n : ℕ) (has_state : Bool) (items : List ℤ) (shift coeff_bits coeff_shift : ℕ) (state : Option FilterState)
    → Allowed (behind_order n has_state (length items)) (record { shift = shift; coeff_bits = coeff_bits; coeff_shift = coeff_shift; coeffs = record { items = items }; state = state })
    → Allowed (behind_order n false (length items)) (record { shift = shift; coeff_bits = coeff_bits; coeff_shift = coeff_shift; coeffs = record { items = items }; state = None })
unfolding part ruled chosen present seen flag number_of made
without_state n has_state items shift coeff_bits coeff_shift state a =
    let f = a.fits in
    let m = a.meets in
    record {
      fits = (f.0, (f.1.0, (f.1.1.0, ((omega arith, refl), (refl, refl)))));
      meets = (m.0, (m.1.0, (m.1.1.0, ((tt, refl), (tt, tt)))));
    }

some_coefficients : (n : ℕ) (has_state : Bool) (x : ℤ) (items : List ℤ) (shift coeff_bits coeff_shift : ℕ) (state : Option FilterState)
    → Allowed (filter n has_state) (record { shift = shift; coeff_bits = coeff_bits; coeff_shift = coeff_shift; coeffs = record { items = x ∷ items }; state = state })
    → Allowed (filter n false) (record { shift = shift; coeff_bits = coeff_bits; coeff_shift = coeff_shift; coeffs = record { items = x ∷ items }; state = None })
unfolding filter part
some_coefficients n has_state x items shift coeff_bits coeff_shift state a =
    let some : eqb (suc (length items)) 0 ≡ false = eqb-suc-zero (length items) in
    let rest = second (made absent) (behind_order n has_state (length (x ∷ items))) _ some (record { fits = a.fits.1; meets = a.meets.1 }) in
    let later = is_second (made absent) (behind_order n false (length (x ∷ items))) _ some (without_state n has_state (x ∷ items) shift coeff_bits coeff_shift state rest) in
    record { fits = (a.fits.0, later.fits); meets = (a.meets.0, later.meets) }

by_items : (n : ℕ) (has_state : Bool) (items : List ℤ) (shift coeff_bits coeff_shift : ℕ) (state : Option FilterState)
    → Allowed (filter n has_state) (record { shift = shift; coeff_bits = coeff_bits; coeff_shift = coeff_shift; coeffs = record { items = items }; state = state })
    → Allowed (filter n false) (record { shift = shift; coeff_bits = coeff_bits; coeff_shift = coeff_shift; coeffs = record { items = items }; state = None })
by_items n has_state [] = no_state n has_state
by_items n has_state (x ∷ items) = some_coefficients n has_state x items

pub stateless_allowed : (n : ℕ) (has_state : Bool) (f : Filter n) → Allowed (filter n has_state) f → Allowed (filter n false) (stateless f)
stateless_allowed n has_state f a = by_items n has_state f.coeffs.items f.shift f.coeff_bits f.coeff_shift f.state a

filter_now : (n : ℕ) (has_state there : Bool) (o : Option (Filter n)) (old : Filter n) → Allowed (group there (filter n has_state)) o → Allowed (filter n false) old → Allowed (filter n false) (unwrap_or (option_map stateless o) old)
filter_now n has_state there None old a h = h
filter_now n has_state there (Some f) old a h = stateless_allowed n has_state f (some_allowed there (filter n has_state) f a)

same_order : (n : ℕ) (o : Option (Filter n)) (old : Filter n) → order_of (unwrap_or (option_map stateless o) old) ≡ order_of (unwrap_or o old)
same_order n None old = refl
same_order n (Some f) old = refl

same_precision : (o : Option (Filter 8)) (a : Filter 8) (q : Option (Filter 4)) (b : Filter 4) → one_precision (unwrap_or (option_map stateless o) a) (unwrap_or (option_map stateless q) b) ≡ one_precision (unwrap_or o a) (unwrap_or q b)
same_precision None a None b = refl
same_precision None a (Some g) b = refl
same_precision (Some f) a None b = refl
same_precision (Some f) a (Some g) b = refl

-- ---- a channel

low_most : (book low : ℕ) → ((eqb book 0) || (leb low 24)) ≡ true → 0 < book → low ≤ 24
low_most zero low e h = absurd (omega arith)
low_most (suc book) low e h = let k = rw (eqb-suc-zero book) at e in leb-true low 24 k

channel_given : (flags : ℕ) (c : ChannelState) (g : ChannelParams) → IsChannelState c → Allowed (channel flags c) g → IsChannelState (channel_applied c (Some g))
unfolding channel part filters_tested tested ruled number_of made
channel_given flags c g h a =
    let f = a.fits in
    let m = a.meets in
    let fir : Allowed (group (bit flags 3) (filter 8 false)) g.fir = record { fits = f.0; meets = m.0 } in
    let iir : Allowed (group (bit flags 2) (filter 4 true)) g.iir = record { fits = f.1.0; meets = m.1.0 } in
    let tests = m.1.1 in
    let behind = f.1.1 in
    let offset : Allowed (group (bit flags 1) (signed_of 15)) g.offset = record { fits = behind.0; meets = tests.1.1.0 } in
    let sum : order_of (unwrap_or g.fir c.fir) + order_of (unwrap_or g.iir c.iir) ≤ 8 = leb-true _ 8 tests.0 in
    record {
      fir = filter_now 8 false (bit flags 3) g.fir c.fir fir h.fir;
      iir = filter_now 4 true (bit flags 2) g.iir c.iir iir h.iir;
      sum = rw (same_order 8 g.fir c.fir, same_order 4 g.iir c.iir) sum;
      precision = rw (same_precision g.fir c.fir g.iir c.iir) tests.1.0;
      offset = allowed_now (bit flags 1) (signed_of 15) g.offset c.offset offset h.offset;
      book = behind.1.0;
      low = behind.1.1.0;
      book_low = low_most g.book g.low (rule_holds _ 0 tests.1.1.1.1.0.1);
    }

channel_lawful : (flags : ℕ) (c : ChannelState) (o : Option ChannelParams) → IsChannelState c → Allowed (group true (channel flags c)) o → IsChannelState (channel_applied c o)
channel_lawful flags c None h a = h
channel_lawful flags c (Some g) h a = channel_given flags c g h (some_allowed true (channel flags c) g a)

-- ---- the channels

all_cons : {A : Type 0} (P : A → Type 0) (x : A) (xs : List A) → P x → All P xs → All P (x ∷ xs)
all_cons P x xs h all zero d lt = h
all_cons P x xs h all (suc k) d lt = all k d (omega arith)

all_tail : {A : Type 0} (P : A → Type 0) (x : A) (xs : List A) → All P (x ∷ xs) → All P xs
all_tail P x xs all k d lt = all (suc k) d (omega arith)

channels_lawful : (flags : ℕ) (ss : List ChannelState) (given : List (Option ChannelParams)) → All IsChannelState ss → Allowed (each (λ c. group true (channel flags c)) ss) given → All IsChannelState (channels_applied ss given)
unfolding each item
channels_lawful flags [] given all a = all
channels_lawful flags (s ∷ ss) [] all a = all
channels_lawful flags (s ∷ ss) (c ∷ given) all a =
    all_cons IsChannelState (channel_applied s c) (channels_applied ss given)
    (channel_lawful flags s c (all 0 s (omega arith)) (record { fits = a.fits.0; meets = a.meets.0 }))
    (channels_lawful flags ss given (all_tail IsChannelState s ss all) (record { fits = a.fits.1; meets = a.meets.1 }))

pub each_count : {S A : Type 0} (l : S → Layout A) (ss : List S) (xs : List A) → (each l ss).Fits xs → length xs ≡ length ss
unfolding each made item
each_count l [] xs h = ap (λ (ys : List _). length ys) h
each_count l (s ∷ ss) [] h = absurd h
each_count l (s ∷ ss) (x ∷ xs) h = ap suc (each_count l ss xs h.1)

-- ---- the parts of a block's parameters

pub record Parts (s : State) (p : Params) : Type 0 where
  pub presence : Allowed (group (bit s.presence 0) (number_of 8)) p.presence
  pub block_size : Allowed (group (bit (unwrap_or p.presence s.presence) 7) (block_size_of s.unit_frames)) p.block_size
  pub matrices : Allowed (group (bit (unwrap_or p.presence s.presence) 6) (rows s.format s.restart)) p.matrices
  pub shifts : Allowed (group (bit (unwrap_or p.presence s.presence) 5) (listed (s.restart.max_matrix + 1) output_shift)) p.shifts
  pub steps : Allowed (group (bit (unwrap_or p.presence s.presence) 4) (listed (s.restart.max + 1) (number_of 4))) p.steps
  pub channels : Allowed (each (λ c. group true (channel (unwrap_or p.presence s.presence) c)) (drop s.restart.min s.channels.items)) p.channels.items

pub parts : (s : State) (p : Params) → Allowed (params s) p → Parts s p
unfolding params groups part
parts s p a =
    let f = a.fits.1 in
    let m = a.meets.1 in
    record {
      presence = record { fits = a.fits.0; meets = a.meets.0 };
      block_size = record { fits = f.0; meets = m.0 };
      matrices = record { fits = f.1.0; meets = m.1.0 };
      shifts = record { fits = f.1.1.0; meets = m.1.1.0 };
      steps = record { fits = f.1.1.1.0; meets = m.1.1.1.0 };
      channels = record { fits = f.1.1.1.1.0; meets = m.1.1.1.1.0 };
    }

-- as many channels as are given
pub given_count : (s : State) (p : Params) → IsState s → Allowed (params s) p → s.restart.min + array_vec_len p.channels ≡ s.restart.max + 1
given_count s p h a =
    let order = (ranges _ _ h.restart).order in
    let count = each_count _ (drop s.restart.min s.channels.items) p.channels.items (parts s p a).channels.fits in
    omega (arith, count, order, h.channel_count, length-drop s.restart.min s.channels.items)

pub applied_is : (s : State) (p : Params) → IsState s → Allowed (params s) p → IsState (applied s p)
applied_is s p h a =
    let g = parts s p a in
    let low = take s.restart.min s.channels.items in
    let high = drop s.restart.min s.channels.items in
    let order = (ranges _ _ h.restart).order in
    record {
      restart = h.restart;
      unit_frames = h.unit_frames;
      presence = allowed_now _ _ p.presence s.presence g.presence h.presence;
      block_size = allowed_now _ _ p.block_size s.block_size g.block_size h.block_size;
      rows = allowed_now _ _ p.matrices s.rows g.matrices h.rows;
      shifts = allowed_now _ _ p.shifts s.shifts g.shifts h.shifts;
      steps = allowed_now _ _ p.steps s.steps g.steps h.steps;
      channel_count = omega (
        arith,
        order,
        h.channel_count,
        length-append low (channels_applied high p.channels.items),
        applied_count high p.channels.items,
        length-take s.restart.min s.channels.items,
        length-drop
            s.restart.min s.channels.items,
      );
      channels = All-append IsChannelState low (channels_applied high p.channels.items) (All-take IsChannelState s.restart.min s.channels.items h.channels)
          (channels_lawful _ high p.channels.items (All-drop IsChannelState s.restart.min s.channels.items h.channels) g.channels);
    }
