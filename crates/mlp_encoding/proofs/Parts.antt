-- The frames of a unit's bytes can be sent.
use Rattle.std.proofs.Common.{◌≡◌, ℕ, zero, suc, ◌+◌, ◌-◌, ◌*◌, ◌/◌, ◌%◌, ◌<◌, ◌≤◌, Bool, true, false, not, IsTrue, List, ◌∷◌, ◌++◌, length, take, drop, get_or, replicate, Option}
use Rattle.std.proofs.Common.{None, Some, Result, Ok, Err, OnOk, IfErr, ℤ, pos, negsuc, inl, inr, refl, sym, ap, subst, ◌∙◌, arith}
use Rattle.std.specs.Prelude.{All, ◌==◌, ◌&&◌, nat_lt, slice_index, if◌then◌else◌}
use Rattle.std.specs.List.{list_all}
use Rattle.std.proofs.Math.Nat.{mul-mod_left, div-eq_of_eq-mul_left}
use Rattle.std.proofs.lemmas.Int.{ints}
use Rattle.std.proofs.lemmas.Bool.{lt-ltb, ne_eqb, eq-eqb, cases_lt, cases_Bool}
use Rattle.std.proofs.lemmas.Bool.Decides.{nat_tests}
use Rattle.std.proofs.lemmas.Nat.{div_below, le-div, div-add-mod'}
use Rattle.std.proofs.lemmas.List.{length-take-le, get_or-take, drop-take}
use Rattle.std.proofs.lemmas.List.Sums.{AllPass-from_list_all}
use Rattle.mlp_syntax.specs.declared.major.Kind.TheVariants.{Fbb}
use Rattle.mlp_syntax.specs.declared.refusal.PcmFault.{PcmFault}
use Rattle.mlp_syntax.specs.declared.refusal.PcmFault.TheVariants as fault
use Rattle.mlp_arith.specs.Words.{clear}
use Rattle.mlp_pcm.specs.Samples.{sample_in, pieces, row_in, is_clear, are_clear, first_failing, AreUnpacked, AreUnpackedTo, IsForm, Is24, IsRow}
use Rattle.mlp_pcm.proofs.Pieces.{pieces_length}
use Rattle.mlp_pcm.proofs.FirstFailing.{none_fails, is_first, first_failing_is}
use Rattle.mlp_pcm.proofs.PackedBack.{unpacked_are_rows}
use Rattle.mlp_fifo.specs.Pace.{unit_of}
use Rattle.mlp_fifo.proofs.Paces.{unit_most}
use Rattle.mlp_fold.specs.declared.profile.Profile.{Profile}
use Rattle.mlp_fold.specs.Profile.{checked}
use Rattle.mlp_fold.specs.Mix.{AreSamples}
use Rattle.mlp_encode.specs.Numbers.{low_zeros}
use Rattle.mlp_encode.specs.Unit.{AreNext}
use Rattle.mlp_encoding.specs.Pcm.{sample_size, frame_size, full_size, frames_in, first_padded}
use Rattle.mlp_encoding.specs.Encoding.{is_fbb, cut_fault, fault_by, fault_in}
use Rattle.mlp_encoding.specs.Sizes.{AreSizes, sizes}

-- ---- the whole frames of some bytes are in their front

abbrev whole_in : ℕ → List ℕ → List ℕ
whole_in f bytes = take (length bytes - length bytes % f) bytes

-- a value that is read from its first bytes alone
abbrev pub IsRead : {A : Type 0} → (List ℕ → A) → ℕ → Type 0
IsRead value size = (m : ℕ) (bytes : List ℕ) → size ≤ m → value (take m bytes) ≡ value bytes

pieces_front : {A : Type 0} (value : List ℕ → A) (size n m : ℕ) (bytes : List ℕ) → IsRead value size → n * size ≤ m → pieces value size n (take m bytes) ≡ pieces value size n bytes
unfolding pieces
pieces_front value size zero m bytes reads le = refl
pieces_front {A = A} value size (suc n) m bytes reads le =
    let one : suc n * size ≡ n * size + size = grind arith in
    let sum : m ≡ size + (m - size) = omega (arith, one, le) in
    let rest : drop size (take m bytes) ≡ take (m - size) (drop size bytes) = ap (λ (k : ℕ). drop size (take k bytes)) sum ∙ drop-take size (m - size) bytes in
    ap (λ (x : A). x ∷ pieces value size n (drop size (take m bytes))) (reads m bytes (omega (arith, one, le)))
    ∙ ap (λ (xs : List ℕ). value bytes ∷ pieces value size n xs) rest
    ∙ ap (λ (xs : List A). value bytes ∷ xs) (pieces_front value size n (m - size) (drop size bytes) reads (omega (arith, one, le)))

byte_front : (m i : ℕ) (bytes : List ℕ) → i < m → slice_index (take m bytes) i ≡ slice_index bytes i
byte_front m i bytes lt = get_or-take m bytes i 0 lt

sample_2 : IsRead (sample_in 2) 2
unfolding sample_in
sample_2 m bytes le = let a = byte_front m 0 bytes (omega arith) in let b = byte_front m 1 bytes (omega arith) in rw (a, b) refl

sample_3 : IsRead (sample_in 3) 3
unfolding sample_in
sample_3 m bytes le =
    let a = byte_front m 0 bytes (omega arith) in let b = byte_front m 1 bytes (omega arith) in let c = byte_front m 2 bytes (omega arith) in rw (a, b, c) refl

sample_front : (width depth : ℕ) → IsForm width depth → IsRead (sample_in width) width
sample_front width depth (inl h) = subst (λ (w : ℕ). IsRead (sample_in w) w) (sym h.0) sample_2
sample_front width depth (inr h) = subst (λ (w : ℕ). IsRead (sample_in w) w) (sym h.0) sample_3

pub row_front : (width depth channels : ℕ) → IsForm width depth → IsRead (row_in width channels) (channels * width)
row_front width depth channels form m bytes le =
    ap (λ (xs : List ℤ). xs ++ replicate (8 - channels) (pos 0)) (pieces_front (sample_in width) width channels m bytes (sample_front width depth form) le)

module _ (p : Profile) (is : AreSizes p) (part : List ℕ) where
  abbrev front : List ℕ
  front = whole_in (frame_size p) part

  cut : length part / frame_size p * frame_size p + length part % frame_size p ≡ length part
  cut = div-add-mod' (length part) (frame_size p)

  front_length : length front ≡ length part / frame_size p * frame_size p
  front_length = omega (arith, cut, length-take-le (length part - length part % frame_size p) part (omega (arith, cut)))

  front_count : length front / frame_size p ≡ length part / frame_size p
  front_count =
      let below : length part / frame_size p * frame_size p < suc (length part / frame_size p) * frame_size p =
      let one : suc (length part / frame_size p) * frame_size p ≡ length part / frame_size p * frame_size p + frame_size p = grind arith in omega (arith, one, is.frame_some) in
      omega (
        arith,
        le-div (length part / frame_size p) (length front) (frame_size p) is.frame_some (omega (arith, front_length)),
        div_below (length front) (frame_size p) (suc (length part / frame_size p)) is.frame_some (omega (arith, front_length, below)),
      )

  pub front_frames : frames_in p front ≡ frames_in p part
  front_frames =
      ap (λ (n : ℕ). pieces (row_in (sample_size p.depth) p.channels) (frame_size p) n front) front_count
      ∙ pieces_front (row_in (sample_size p.depth) p.channels) (frame_size p) (length part / frame_size p) (length part - length part % frame_size p) part
      (row_front (sample_size p.depth) p.depth p.channels is.form) (omega (arith, cut))

  pub few_frames : length part ≤ full_size p → length part / frame_size p ≤ unit_of p.rate
  few_frames le =
      let one : suc (unit_of p.rate) * frame_size p ≡ unit_of p.rate * frame_size p + frame_size p = grind arith in
      omega (arith, div_below (length part) (frame_size p) (suc (unit_of p.rate)) is.frame_some (omega (arith, one, le, is.frame_some)))

  pub front_few : length part ≤ full_size p → length front / frame_size p ≤ 160
  front_few le = omega (arith, front_count, few_frames le, unit_most p.rate)

  -- ---- what unpacking tells

  pub clear_by : (r : Result Unit ℕ) (rows : List (List ℤ)) → OnOk r (AreUnpacked (sample_size p.depth) p.depth p.channels front rows) → OnOk r (first_padded p part ≡ None)
  clear_by (Ok x) rows h = ap (first_failing (are_clear p.depth)) (sym front_frames) ∙ none_fails (are_clear p.depth) (frames_in p front) h.1
  clear_by (Err i) rows h = tt

  pub frames_by : (r : Result Unit ℕ) (rows : List (List ℤ)) → OnOk r (AreUnpacked (sample_size p.depth) p.depth p.channels front rows) → OnOk r (rows ≡ frames_in p part)
  frames_by (Ok x) rows h = h.0 ∙ front_frames
  frames_by (Err i) rows h = tt

  pub padded_by : (r : Result Unit ℕ) (rows : List (List ℤ)) → IfErr r (AreUnpackedTo (sample_size p.depth) p.depth p.channels front rows) → IfErr r (λ frame. first_padded p part ≡ Some frame)
  padded_by (Ok x) rows h = tt
  padded_by (Err i) rows h = ap (first_failing (are_clear p.depth)) (sym front_frames) ∙ is_first (are_clear p.depth) (frames_in p front) i h.0

-- ---- rows are samples

cleared_16 : (x : ℤ) → Is24 x → is_clear 16 x ≡ true → clear 8 x ≡ x
unfolding is_clear
cleared_16 (pos n) h e = grind (arith, ints, nat_tests, h.high, h.low)
cleared_16 (negsuc n) h e = grind (arith, ints, nat_tests, h.high, h.low)

cleared_20 : (x : ℤ) → Is24 x → is_clear 20 x ≡ true → clear 4 x ≡ x
unfolding is_clear
cleared_20 (pos n) h e = grind (arith, ints, nat_tests, h.high, h.low)
cleared_20 (negsuc n) h e = grind (arith, ints, nat_tests, h.high, h.low)

cleared_24 : (x : ℤ) → clear 0 x ≡ x
cleared_24 (pos n) = grind (arith, ints, nat_tests)
cleared_24 (negsuc n) = grind (arith, ints, nat_tests)

cleared : (width depth : ℕ) (x : ℤ) → IsForm width depth → Is24 x → is_clear depth x ≡ true → clear (low_zeros depth) x ≡ x
cleared width depth x (inl h) b e = subst (λ (d : ℕ). clear (24 - d) x ≡ x) (sym h.1) (cleared_16 x b (subst (λ (d : ℕ). is_clear d x ≡ true) h.1 e))
cleared width depth x (inr (w, inl h)) b e = subst (λ (d : ℕ). clear (24 - d) x ≡ x) (sym h) (cleared_20 x b (subst (λ (d : ℕ). is_clear d x ≡ true) h e))
cleared width depth x (inr (w, inr h)) b e = subst (λ (d : ℕ). clear (24 - d) x ≡ x) (sym h) (cleared_24 x)

row_samples : (width depth channels : ℕ) (row : List ℤ) → IsForm width depth → channels ≤ 8 → IsRow depth channels row → AreSamples (low_zeros depth) channels row
row_samples width depth channels row form few h c lt =
    let within : c < length row = omega (arith, lt, few, h.eight) in
    let value = h.samples c (pos 0) within in
    record { low = value.low; high = value.high; cleared = cleared width depth (get_or row c (pos 0)) form value (AllPass-from_list_all (is_clear depth) row h.clear c (pos 0) within) }

-- ---- the next unit

abbrev pub cut_by : Profile → List ℕ → Bool → Option PcmFault
cut_by p part cut =
    if cut then Some fault.PartialFrame
    else if is_fbb p.kind && nat_lt (length part) (full_size p) then Some fault.PartialUnit
    else None

abbrev pub short_by : Bool → Option PcmFault
short_by short = if short then Some fault.PartialUnit else None

cut_some : (p : Profile) (part : List ℕ) → cut_by p part true ≡ None → ⊥
cut_some p part h = cc

short_some : short_by true ≡ None → ⊥
short_some h = cc

-- the bytes are whole frames, or there would be a fault
whole_by : (p : Profile) (part : List ℕ) → cut_fault p part ≡ None → length part % frame_size p ≡ 0
whole_by p part e = elim (cases_lt 0 (length part % frame_size p)) [
  | inl some ↦ (
      let cut_off : (length part % frame_size p == 0) ≡ false = ne_eqb (length part % frame_size p) 0 (λ z. omega (arith, some, z)) in
      absurd (cut_some p part (ap (λ (b : Bool). cut_by p part (not b)) (sym cut_off) ∙ e)))
  | inr none ↦ omega (arith, none)
]

-- .. and those of MLP a whole unit
full_by : (p : Profile) (part : List ℕ) → length part ≤ full_size p → cut_fault p part ≡ None → p.kind ≡ Fbb → length part ≡ full_size p
full_by p part most e fbb = elim (cases_lt (length part) (full_size p)) [
  | inl lt ↦ (
      let even : (length part % frame_size p == 0) ≡ true = eq-eqb (length part % frame_size p) 0 (whole_by p part e) in
      let is : is_fbb p.kind ≡ true = ap is_fbb fbb in
      absurd (short_some (ap (λ (b : Bool). short_by (b && true)) (sym is) ∙ ap (λ (b : Bool). short_by (is_fbb p.kind && b)) (sym (lt-ltb (length part) (full_size p) lt))
      ∙ ap (λ (b : Bool). cut_by p part (not b)) (sym even) ∙ e)))
  | inr ge ↦ omega (arith, ge, most)
]

none_by : (p : Profile) (units : ℕ) (part : List ℕ) (last : Bool) (o : Option ℕ) → fault_by p units part last o ≡ None → (o ≡ None) × (last ≡ true → cut_fault p part ≡ None)
none_by p units part true None e = (refl, λ z. e)
none_by p units part false None e = (refl, λ z. absurd cc)
none_by p units part last (Some frame) e = absurd cc

-- bytes without a fault have frames that can be sent
pub next_frames : (p : Profile) (units : ℕ) (part : List ℕ) (last : Bool) → checked p ≡ Ok tt → All (λ (b : ℕ). b < 256) part → 0 < length part → length part ≤ full_size p
    → (last ≡ false → length part ≡ full_size p) → fault_in p units part last ≡ None → AreNext p (frames_in p part) last
next_frames p units part last ok bytes some most whole e =
    let is = sizes p ok in
    let none = none_by p units part last (first_padded p part) e in
    let even : length part % frame_size p ≡ 0 = elim (cases_Bool last) [
      | inl so ↦ whole_by p part (none.1 so)
      | inr so ↦ ap (λ (n : ℕ). n % frame_size p) (whole so) ∙ mul-mod_left (unit_of p.rate) (frame_size p)
    ] in
    let count : length (frames_in p part) ≡ length part / frame_size p = pieces_length (row_in (sample_size p.depth) p.channels) (frame_size p) (length part / frame_size p) part in
    let sum = div-add-mod' (length part) (frame_size p) in
    let full : length part ≡ full_size p → length (frames_in p part) ≡ unit_of p.rate = λ same. count ∙ full_count p is part same in
    let clear : IsTrue (list_all (are_clear p.depth) (frames_in p part)) = (first_failing_is (are_clear p.depth) (frames_in p part)).none.0 none.0 in
    let rows = unpacked_are_rows (sample_size p.depth) p.depth p.channels is.form is.some_channels is.few_channels part (record { small = bytes; whole = even }) clear in
    record {
      some = omega (arith, count, some_count p is part some even);
      most = omega (arith, count, few_frames p is part most);
      whole = λ so. full (whole so);
      filled_up = λ fbb. full (elim (cases_Bool last) [ inl so ↦ full_by p part most (none.1 so) fbb | inr so ↦ whole so ]);
      samples = λ k d lt. row_samples (sample_size p.depth) p.depth p.channels _ is.form is.few_channels (rows k d lt);
    }
  where
    full_count : (p : Profile) → AreSizes p → (part : List ℕ) → length part ≡ full_size p → length part / frame_size p ≡ unit_of p.rate
    full_count p is part same = div-eq_of_eq-mul_left {n = frame_size p} is.frame_some same

    some_count : (p : Profile) → AreSizes p → (part : List ℕ) → 0 < length part → length part % frame_size p ≡ 0 → 0 < length part / frame_size p
    some_count p is part some cut = elim (cases_lt 0 (length part / frame_size p)) [
      | inl lt ↦ lt
      | inr none ↦ (
          let zero_is : length part / frame_size p ≡ 0 = omega (arith, none) in
          let none_of : 0 * frame_size p ≡ 0 = grind arith in
          let nothing : length part / frame_size p * frame_size p ≡ 0 = ap (λ (n : ℕ). n * frame_size p) zero_is ∙ none_of in
          absurd (omega (arith, some, cut, nothing, div-add-mod' (length part) (frame_size p))))
    ]
