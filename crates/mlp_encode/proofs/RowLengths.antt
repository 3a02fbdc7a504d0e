-- How many bits the rows of the mixes take, and the bits that bypass them.
use Rattle.std.proofs.Common.{◌≡◌, ℕ, zero, suc, ◌+◌, ◌≤◌, ℤ, pos, neg_ℤ, Bool, true, false, List, [], ◌∷◌, ◌++◌, map, length, get_or, Option, Some, None, refl, ap, arith}
use Rattle.std.specs.Prelude.{◌==◌, not, if◌then◌else◌}
use Rattle.std.specs.List.{list_any}
use Rattle.std.proofs.lemmas.List.{length-append}
use Rattle.arrayvec.specs.ArrayVec.{ArrayVec}
use Rattle.mlp_syntax.specs.declared.fault.Field.TheVariants.{NoiseShift}
use Rattle.mlp_syntax.specs.declared.major.Kind.{Kind}
use Rattle.mlp_syntax.specs.declared.params.MatrixRow.{MatrixRow}
use Rattle.mlp_syntax.specs.declared.restart.Restart.{Restart}
use Rattle.mlp_bits.specs.Bits.{bits}
use Rattle.mlp_bits.specs.Signed.{unsigned}
use Rattle.mlp_bits.proofs.BitLists.{length-bits}
use Rattle.mlp_layout.specs.Layout.{spelling_as, number_of, seen, ruled, part, made, item}
use Rattle.mlp_layout.specs.Combined.{must, flag, signed_of, chosen, group, times}
use Rattle.mlp_params.specs.Matrices.{sources, noise_shift_of, row as row_layout, rows}
use Rattle.mlp_residual.specs.Frames.{bypass_bit, bypass_bits, unpacked}
use Rattle.mlp_fold.specs.declared.profile.Mix.{Mix}
use Rattle.mlp_fold.specs.declared.profile.Mix.TheVariants.{Split, Fold, Bypass, Side}
use Rattle.mlp_fold.specs.Profile.{IsShape}
use Rattle.mlp_fold.specs.Mix.{channels_of}
use Rattle.mlp_fold.specs.Rows.{row, on, left, right, rows_of}
use Rattle.mlp_search.proofs.FilterLaws.{none_length, some_length}
use Rattle.mlp_encode.specs.Numbers.{noise_kind}
use Rattle.mlp_encode.specs.Lawful.{rows_size, bypass_size}
use Rattle.mlp_encode.proofs.BitCounts.{flag_long, series_most, bypass_most}
use Rattle.mlp_encode.proofs.MixRows.{HasChannels, sources_in, sources_are}

-- ---- a row

signed_most : (w : ℕ) (z : ℤ) → length ((signed_of w).spelling z) ≤ w
unfolding signed_of seen number_of
signed_most w z = pick (unsigned w z)
  where
    pick : (o : Option ℕ) → length (spelling_as (λ n. bits w n) o) ≤ w
    pick None = omega arith
    pick (Some n) = let e = length-bits w n in omega (arith, e)

-- the bits of coefficients without their flags
abbrev coefficients_size : ℕ → List (Option ℤ) → ℕ
coefficients_size w [] = 0
coefficients_size w (None ∷ cs) = coefficients_size w cs
coefficients_size w (Some c ∷ cs) = w + coefficients_size w cs

coefficients_most : (w n : ℕ) (cs : List (Option ℤ)) → length ((times n (group true (signed_of w))).spelling cs) ≤ n + coefficients_size w cs
unfolding times item made
coefficients_most w zero cs = omega arith
coefficients_most w (suc n) [] = omega arith
coefficients_most w (suc n) (None ∷ cs) =
    let rest = coefficients_most w n cs in
    omega (arith, rest, none_length (signed_of w), length-append ((group true (signed_of w)).spelling None) ((times n (group true (signed_of w))).spelling cs))
coefficients_most w (suc n) (Some c ∷ cs) =
    let rest = coefficients_most w n cs in
    omega (arith, rest, some_length (signed_of w) c, signed_most w c, length-append ((group true (signed_of w)).spelling (Some c)) ((times n (group true (signed_of w))).spelling cs))

abbrev noise_size : ℕ → ℕ
noise_size kind = if kind == 0 then 0 else 4

noise_most : (kind n : ℕ) → length ((noise_shift_of kind).spelling n) ≤ noise_size kind
unfolding noise_shift_of chosen made ruled number_of
noise_most kind n = pick (kind == 0)
  where
    pick : (t : Bool) → length ((chosen t (made 0) (ruled (must NoiseShift (λ n. n == 0)) (number_of 4))).spelling n) ≤ (if t then 0 else 4)
    pick true = omega arith
    pick false = let e = length-bits 4 n in omega (arith, e)

-- the bits of a row of substream j
abbrev row_size : ℕ → MatrixRow → ℕ
row_size j m = 9 + sources_in j + coefficients_size (m.frac + 2) m.coeffs.items + noise_size (noise_kind j)

row_most : (j : ℕ) (r : Restart) (m : MatrixRow) → HasChannels j r → length ((row_layout r).spelling m) ≤ row_size j m
unfolding row_layout part ruled number_of made
row_most j r m h =
    let coeffs = coefficients_most (m.frac + 2) (sources r) m.coeffs.items in
    let texts = (times (sources r) (group true (signed_of (m.frac + 2)))).spelling m.coeffs.items in
    let shift = (noise_shift_of r.kind).spelling m.noise_shift in
    omega (
      arith,
      coeffs,
      sources_are j r h,
      noise_most r.kind m.noise_shift,
      ap noise_size h.kind,
      flag_long m.bypass,
      length-bits 4 m.dest,
      length-bits 4 m.frac,
      length-append (bits 4 m.dest) (bits 4 m.frac ++ (flag.spelling m.bypass ++ (texts ++ (shift ++ [])))),
      length-append (bits 4 m.frac) (flag.spelling m.bypass ++ (texts ++ (shift ++ []))),
      length-append (flag.spelling m.bypass) (texts ++ (shift ++ [])),
      length-append texts (shift ++ []),
      length-append shift [],
    )

-- ---- all rows

abbrev all_size : ℕ → List MatrixRow → ℕ
all_size j [] = 0
all_size j (m ∷ ms) = row_size j m + all_size j ms

all_most : (j : ℕ) (r : Restart) → HasChannels j r → (n : ℕ) (ms : List MatrixRow) → length ((times n (row_layout r)).spelling ms) ≤ all_size j ms
unfolding times item made
all_most j r h zero ms = omega arith
all_most j r h (suc n) [] = omega arith
all_most j r h (suc n) (m ∷ ms) =
    let rest = all_most j r h n ms in
    omega (arith, rest, row_most j r m h, length-append ((row_layout r).spelling m) ((times n (row_layout r)).spelling ms))

some_most : (format : Kind) (j : ℕ) (r : Restart) (ms : List MatrixRow) → HasChannels j r → length ((group true (rows format r)).spelling (Some (record { items = ms }))) ≤ 5 + all_size j ms
unfolding rows part ruled number_of made
some_most format j r ms h =
    let all = all_most j r h (length ms) ms in
    let texts = (times (length ms) (row_layout r)).spelling ms in
    let v : ArrayVec MatrixRow = record { items = ms } in
    omega (arith, all, some_length (rows format r) v, length-bits 4 (length ms), length-append (bits 4 (length ms)) (texts ++ []), length-append texts [])

-- ---- those of each mix

module _ (format : Kind) (r : Restart) where
  -- where there are any
  abbrev rows_text : List MatrixRow → List Bool
  rows_text ms = (group true (rows format r)).spelling (if not (length ms == 0) then Some (record { items = ms }) else None)

  pub rows_most : (mix : Mix) (j channels depth : ℕ) → HasChannels j r → IsShape mix channels depth → channels_of j ≤ channels → j ≤ 2 → length (rows_text (rows_of mix j channels)) ≤ rows_size mix j
  rows_most Split j channels depth h shape top le = let e = none_length (rows format r) in omega (arith, e)
  rows_most Fold zero channels depth h shape top le = let e = some_most format 0 r (rows_of Fold 0 channels) h in omega (arith, e)
  rows_most Fold (suc zero) channels depth h shape top le = pick (channels == 6)
    where
      pick : (t : Bool) → length (rows_text (
          if t
          then row 0 14 false (left (neg_ℤ (pos 11585))) ∷ row 1 14 false (right (neg_ℤ (pos 11585))) ∷ []
          else row 0 14 false (left (neg_ℤ (pos 5793))) ∷ row 1 14 false (right (neg_ℤ (pos 5793))) ∷ row 4 14 false (on ((4, pos 8192) ∷ [])) ∷ row 5 14 false (on ((5, pos 8192) ∷ [])) ∷ []
          )) ≤ 201
      pick true = let e = some_most format 1 r (row 0 14 false (left (neg_ℤ (pos 11585))) ∷ row 1 14 false (right (neg_ℤ (pos 11585))) ∷ []) h in omega (arith, e)
      pick false =
          let e = some_most format 1 r (row 0 14 false (left (neg_ℤ (pos 5793))) ∷ row 1 14 false (right (neg_ℤ (pos 5793))) ∷ row 4 14 false (on ((4, pos 8192) ∷ [])) ∷ row 5 14 false (on ((5, pos 8192) ∷ [])) ∷ []) h in
          omega (arith, e)
  rows_most Fold (suc (suc zero)) channels depth h shape top le = let e = some_most format 2 r (rows_of Fold 2 channels) h in omega (arith, e)
  rows_most Fold (suc (suc (suc j))) channels depth h shape top le = absurd (omega (arith, le))
  rows_most Bypass zero channels depth h shape top le = let e = none_length (rows format r) in omega (arith, e)
  rows_most Bypass (suc zero) channels depth h shape top le = let e = some_most format 1 r (rows_of Bypass 1 channels) h in omega (arith, e)
  rows_most Bypass (suc (suc j)) channels depth h shape top le = absurd (omega (arith, shape.0, top))
  rows_most Side zero channels depth h shape top le = let e = some_most format 0 r (rows_of Side 0 channels) h in omega (arith, e)
  rows_most Side (suc zero) channels depth h shape top le = absurd (omega (arith, shape, top))
  rows_most Side (suc (suc j)) channels depth h shape top le = absurd (omega (arith, shape, top))

-- ---- the bits of a frame that bypass them

none_taken : (bs : List Bool) (k : ℕ) → list_any (λ b. b) bs ≡ false → get_or bs k false ≡ false
none_taken [] k e = refl
none_taken (true ∷ bs) k e = absurd (let t : true ≡ false = e in cc)
none_taken (false ∷ bs) zero e = refl
none_taken (false ∷ bs) (suc k) e = none_taken bs k e

nothing_long : (t b : Bool) → t ≡ false → length ((chosen t flag (made false)).spelling b) ≤ 0
unfolding chosen made
nothing_long true b e = absurd (let t : true ≡ false = e in cc)
nothing_long false b e = omega arith

none_most : (bs : List Bool) (n : ℕ) → list_any (λ b. b) bs ≡ false → length ((bypass_bits bs).spelling n) ≤ 0
unfolding bypass_bits seen
none_most bs n e =
    let all = series_most (bypass_bit bs) 0 (λ before b. nothing_long (get_or bs (length before) false) b (none_taken bs (length before) e)) (length bs) [] (unpacked (length bs) n) in
    omega (arith, all)

pub bypass_few : (mix : Mix) (j channels n : ℕ) → length ((bypass_bits (map (λ row. row.bypass) (rows_of mix j channels))).spelling n) ≤ bypass_size mix j
bypass_few Split j channels n = none_most [] n refl
bypass_few Fold zero channels n = none_most (false ∷ false ∷ []) n refl
bypass_few Fold (suc zero) channels n = pick (channels == 6)
  where
    pick : (t : Bool) → length ((bypass_bits (map (λ row. row.bypass) (
        if t
        then row 0 14 false (left (neg_ℤ (pos 11585))) ∷ row 1 14 false (right (neg_ℤ (pos 11585))) ∷ []
        else row 0 14 false (left (neg_ℤ (pos 5793))) ∷ row 1 14 false (right (neg_ℤ (pos 5793))) ∷ row 4 14 false (on ((4, pos 8192) ∷ [])) ∷ row 5 14 false (on ((5, pos 8192) ∷ [])) ∷ []
        ))).spelling n) ≤ 0
    pick true = none_most (false ∷ false ∷ []) n refl
    pick false = none_most (false ∷ false ∷ false ∷ false ∷ []) n refl
bypass_few Fold (suc (suc j)) channels n = none_most (false ∷ false ∷ false ∷ false ∷ []) n refl
bypass_few Bypass zero channels n = none_most [] n refl
bypass_few Bypass (suc j) channels n = let e = bypass_most (true ∷ true ∷ true ∷ true ∷ []) n in omega (arith, e)
bypass_few Side j channels n = none_most (false ∷ []) n refl
