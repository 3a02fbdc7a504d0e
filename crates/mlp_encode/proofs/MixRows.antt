-- The rows and steps of the mixes can be written.
use Rattle.std.proofs.Common.{◌≡◌, ℕ, zero, suc, ◌+◌, ◌<◌, ◌≤◌, ◌^◌, ℤ, pos, neg_ℤ, Bool, true, false, List, [], ◌∷◌, length, get_or, Option, Some, None, refl, sym, ap, ◌∙◌, arith}
use Rattle.std.specs.Prelude.{◌==◌, nat_le, if◌then◌else◌}
use Rattle.std.proofs.lemmas.Int.{ints}
use Rattle.std.proofs.lemmas.Bool.{le-leb}
use Rattle.mlp_syntax.specs.declared.major.Kind.{Kind}
use Rattle.mlp_syntax.specs.declared.major.Kind.TheVariants.{Fbb, Fba}
use Rattle.mlp_syntax.specs.declared.restart.Restart.{Restart}
use Rattle.mlp_syntax.specs.declared.params.MatrixRow.{MatrixRow}
use Rattle.mlp_syntax.specs.declared.fault.Field.TheVariants.{NoiseShift}
use Rattle.mlp_layout.specs.Layout.{number_of, seen, ruled, part, made, item}
use Rattle.mlp_layout.specs.Combined.{must, flag, signed_of, chosen, group, times, listed}
use Rattle.mlp_layout.specs.Allowed.{Allowed}
use Rattle.mlp_layout.proofs.Fitting.{flag_fits}
use Rattle.mlp_levinson.specs.Best.{HasBits}
use Rattle.mlp_params.specs.Matrices.{matrix_limit, sources, noise_shift_of, row as row_layout, rows}
use Rattle.mlp_search.proofs.FilterLaws.{field_fits, field_meets}
use Rattle.mlp_fold.specs.declared.profile.Mix.{Mix}
use Rattle.mlp_fold.specs.declared.profile.Mix.TheVariants.{Split, Fold, Bypass, Side}
use Rattle.mlp_fold.specs.Profile.{IsShape}
use Rattle.mlp_fold.specs.Mix.{channels_of}
use Rattle.mlp_fold.specs.Rows.{row, on, left, right, rows_of, steps_of}
use Rattle.mlp_fold.specs.Substreams.{last_channel}
use Rattle.mlp_encode.specs.Numbers.{noise_kind}
use Rattle.mlp_encode.proofs.Groups.{none_allowed, some_allowed, holds}

-- ---- steps

pub steps_long : (mix : Mix) (q j channels depth : ℕ) → IsShape mix channels depth → channels_of j ≤ channels → length (steps_of mix q j) ≡ last_channel j + 1
steps_long Split q zero channels depth h top = refl
steps_long Split q (suc zero) channels depth h top = refl
steps_long Split q (suc (suc j)) channels depth h top = refl
steps_long Fold q zero channels depth h top = refl
steps_long Fold q (suc zero) channels depth h top = refl
steps_long Fold q (suc (suc j)) channels depth h top = refl
steps_long Side q zero channels depth h top = refl
steps_long Side q (suc zero) channels depth h top = refl
steps_long Side q (suc (suc j)) channels depth h top = refl
steps_long Bypass q zero channels depth h top = refl
steps_long Bypass q (suc zero) channels depth h top = refl
steps_long Bypass q (suc (suc j)) channels depth h top = absurd (omega (arith, h.0, top))

numbers_allowed : (n : ℕ) (xs : List ℕ) → length xs ≡ n → ((i : ℕ) → i < n → get_or xs i 0 < 2 ^ 4) → Allowed (times n (number_of 4)) xs
unfolding times item made number_of
numbers_allowed zero [] e h = record { fits = refl; meets = tt }
numbers_allowed zero (x ∷ xs) e h = absurd (omega (arith, e))
numbers_allowed (suc n) [] e h = absurd (omega (arith, e))
numbers_allowed (suc n) (x ∷ xs) e h =
    let rest = numbers_allowed n xs (omega (arith, e)) (λ i lt. h (suc i) (omega (arith, lt))) in
    record { fits = (h 0 (omega arith), rest.fits); meets = (tt, rest.meets) }

pub steps_listed : (n : ℕ) (xs : List ℕ) → length xs ≡ n → ((i : ℕ) → i < n → get_or xs i 0 ≤ 8) → Allowed (listed n (number_of 4)) (record { items = xs })
unfolding listed part made
steps_listed n xs e h =
    let all = numbers_allowed n xs e (λ i lt. let b = h i lt in omega (arith, b)) in
    record { fits = (all.fits, refl); meets = (all.meets, tt) }

-- ---- rows

-- coefficients of so many bits
abbrev AllFit : ℕ → List (Option ℤ) → Type 0
AllFit w [] = Unit {0}
AllFit w (None ∷ cs) = AllFit w cs
AllFit w (Some c ∷ cs) = HasBits w c × AllFit w cs

coefficients_allowed : (w n : ℕ) (cs : List (Option ℤ)) → 0 < w → length cs ≡ n → AllFit w cs → Allowed (times n (group true (signed_of w))) cs
unfolding times item made
coefficients_allowed w zero [] p e h = record { fits = refl; meets = tt }
coefficients_allowed w zero (c ∷ cs) p e h = absurd (omega (arith, e))
coefficients_allowed w (suc n) [] p e h = absurd (omega (arith, e))
coefficients_allowed w (suc n) (None ∷ cs) p e h =
    let first = none_allowed (signed_of w) in
    let rest = coefficients_allowed w n cs p (omega (arith, e)) h in
    record { fits = (first.fits, rest.fits); meets = (first.meets, rest.meets) }
coefficients_allowed w (suc n) (Some c ∷ cs) p e h =
    let first = some_allowed (signed_of w) c (record { fits = field_fits w c p h.0; meets = field_meets w c }) in
    let rest = coefficients_allowed w n cs p (omega (arith, e)) h.1 in
    record { fits = (first.fits, rest.fits); meets = (first.meets, rest.meets) }

no_shift : (kind : ℕ) → Allowed (noise_shift_of kind) 0
unfolding noise_shift_of chosen made ruled number_of
no_shift kind = pick (kind == 0)
  where
    pick : (t : Bool) → Allowed (chosen t (made 0) (ruled (must NoiseShift (λ n. n == 0)) (number_of 4))) 0
    pick true = record { fits = refl; meets = tt }
    pick false = record { fits = omega arith; meets = (tt, refl) }

flag_meets : (b : Bool) → flag.Meets b
unfolding flag seen number_of
flag_meets true = tt
flag_meets false = tt

row_allowed : (r : Restart) (dest frac : ℕ) (bypass : Bool) (cs : List (Option ℤ)) → dest ≤ r.max_matrix → dest < 2 ^ 4 → frac ≤ 14 → length cs ≡ sources r → AllFit (frac + 2) cs → Allowed (row_layout r) (row dest frac bypass cs)
unfolding row_layout part ruled number_of made
row_allowed r dest frac bypass cs d few f count fit =
    let all = coefficients_allowed (frac + 2) (sources r) cs (omega arith) count fit in
    let shift = no_shift r.kind in
    record {
      fits = (few, (omega (arith, f), (flag_fits bypass, (all.fits, (shift.fits, refl)))));
      meets = ((tt, holds (nat_le dest r.max_matrix) (le-leb dest r.max_matrix d)), ((tt, holds (nat_le frac 14) (le-leb frac 14 f)), (flag_meets bypass, (all.meets, (shift.meets, tt)))));
    }

-- ---- all rows of a substream

abbrev AllRows : Restart → List MatrixRow → Type 0
AllRows r [] = Unit {0}
AllRows r (m ∷ ms) = Allowed (row_layout r) m × AllRows r ms

rows_listed : (r : Restart) (n : ℕ) (ms : List MatrixRow) → length ms ≡ n → AllRows r ms → Allowed (times n (row_layout r)) ms
unfolding times item made
rows_listed r zero [] e h = record { fits = refl; meets = tt }
rows_listed r zero (m ∷ ms) e h = absurd (omega (arith, e))
rows_listed r (suc n) [] e h = absurd (omega (arith, e))
rows_listed r (suc n) (m ∷ ms) e h =
    let rest = rows_listed r n ms (omega (arith, e)) h.1 in
    record { fits = (h.0.fits, rest.fits); meets = (h.0.meets, rest.meets) }

rows_from : (format : Kind) (r : Restart) (ms : List MatrixRow) (n : ℕ) → length ms ≡ n → n ≤ 4 → AllRows r ms → Allowed (rows format r) (record { items = ms })
unfolding rows part ruled number_of made
rows_from format r ms n e few h =
    let all = rows_listed r (length ms) ms refl h in
    let limit = limit_least format in
    let count : length ms ≤ matrix_limit format = omega (arith, few, limit, e) in
    record { fits = (omega (arith, few, e), (all.fits, refl)); meets = ((tt, holds (nat_le (length ms) (matrix_limit format)) (le-leb (length ms) (matrix_limit format) count)), (all.meets, tt)) }
  where
    limit_least : (k : Kind) → 6 ≤ matrix_limit k
    limit_least Fbb = omega arith
    limit_least Fba = omega arith

-- a restart of substream j
pub record HasChannels (j : ℕ) (r : Restart) : Type 0 where
  pub kind : r.kind ≡ noise_kind j
  pub max_matrix : r.max_matrix ≡ last_channel j

abbrev pub sources_in : ℕ → ℕ
sources_in j = last_channel j + 1 + (if noise_kind j == 0 then 2 else 0)

pub sources_are : (j : ℕ) (r : Restart) → HasChannels j r → sources r ≡ sources_in j
sources_are j r h = ap (λ (m : ℕ). m + 1 + (if r.kind == 0 then 2 else 0)) h.max_matrix ∙ ap (λ (k : ℕ). last_channel j + 1 + (if k == 0 then 2 else 0)) h.kind

-- a row of substream j
row_in : (j : ℕ) (r : Restart) → HasChannels j r → (dest frac : ℕ) (bypass : Bool) (cs : List (Option ℤ)) → dest ≤ last_channel j → dest < 2 ^ 4 → frac ≤ 14 → length cs ≡ sources_in j
    → AllFit (frac + 2) cs → Allowed (row_layout r) (row dest frac bypass cs)
row_in j r h dest frac bypass cs d few f count fit = row_allowed r dest frac bypass cs (omega (arith, d, h.max_matrix)) few f (count ∙ sym (sources_are j r h)) fit

one : HasBits 2 (pos 1)
one = record { low = omega (arith, ints); high = omega (arith, ints) }

stereo : HasBits 16 (pos 6786)
stereo = record { low = omega (arith, ints); high = omega (arith, ints) }

whole : HasBits 16 (pos 16384)
whole = record { low = omega (arith, ints); high = omega (arith, ints) }

half : HasBits 16 (pos 8192)
half = record { low = omega (arith, ints); high = omega (arith, ints) }

centre : HasBits 16 (neg_ℤ (pos 11585))
centre = record { low = omega (arith, ints); high = omega (arith, ints) }

side : HasBits 16 (neg_ℤ (pos 5793))
side = record { low = omega (arith, ints); high = omega (arith, ints) }

less : HasBits 16 (neg_ℤ (pos 16384))
less = record { low = omega (arith, ints); high = omega (arith, ints) }

left_fits : (s : ℤ) → HasBits 16 s → AllFit 16 (left s)
left_fits s h = (whole, (centre, (h, tt)))

right_fits : (s : ℤ) → HasBits 16 s → AllFit 16 (right s)
right_fits s h = (whole, (centre, (h, tt)))

pub mix_rows : (format : Kind) (r : Restart) (mix : Mix) (j channels depth : ℕ) → HasChannels j r → IsShape mix channels depth → channels_of j ≤ channels → j ≤ 2 → Allowed (rows format r) (record { items = rows_of mix j channels })
mix_rows format r Split j channels depth h shape top le = rows_from format r [] 0 refl (omega arith) tt
mix_rows format r Fold zero channels depth h shape top le =
    rows_from format r (rows_of Fold 0 channels) 2 refl (omega arith) (
      row_in 0 r h 0 14 false (Some (pos 6786) ∷ None ∷ None ∷ None ∷ []) (omega arith) (omega arith) (omega arith) refl (stereo, tt),
      (row_in 0 r h 1 14 false (None ∷ Some (pos 6786) ∷ None ∷ None ∷ []) (omega arith) (omega arith) (omega arith) refl (stereo, tt), tt),
    )
mix_rows format r Fold (suc zero) channels depth h shape top le = pick (channels == 6)
  where
    pick : (t : Bool) → Allowed (rows format r) (record {
      items =
          if t
          then row 0 14 false (left (neg_ℤ (pos 11585))) ∷ row 1 14 false (right (neg_ℤ (pos 11585))) ∷ []
          else row 0 14 false (left (neg_ℤ (pos 5793))) ∷ row 1 14 false (right (neg_ℤ (pos 5793))) ∷ row 4 14 false (on ((4, pos 8192) ∷ [])) ∷ row 5 14 false (on ((5, pos 8192) ∷ [])) ∷ [];
    })
    pick true =
        rows_from format r (row 0 14 false (left (neg_ℤ (pos 11585))) ∷ row 1 14 false (right (neg_ℤ (pos 11585))) ∷ []) 2 refl (omega arith) (
          row_in 1 r h 0 14 false (left (neg_ℤ (pos 11585))) (omega arith) (omega arith) (omega arith) refl (left_fits (neg_ℤ (pos 11585)) centre),
          (row_in 1 r h 1 14 false (right (neg_ℤ (pos 11585))) (omega arith) (omega arith) (omega arith) refl (right_fits (neg_ℤ (pos 11585)) centre), tt),
        )
    pick false =
        rows_from format r (row 0 14 false (left (neg_ℤ (pos 5793))) ∷ row 1 14 false (right (neg_ℤ (pos 5793))) ∷ row 4 14 false (on ((4, pos 8192) ∷ [])) ∷ row 5 14 false (on ((5, pos 8192) ∷ [])) ∷ []) 4 refl (omega arith) (
          row_in 1 r h 0 14 false (left (neg_ℤ (pos 5793))) (omega arith) (omega arith) (omega arith) refl (left_fits (neg_ℤ (pos 5793)) side),
          (
            row_in 1 r h 1 14 false (right (neg_ℤ (pos 5793))) (omega arith) (omega arith) (omega arith) refl (right_fits (neg_ℤ (pos 5793)) side),
            (
              row_in 1 r h 4 14 false (on ((4, pos 8192) ∷ [])) (omega arith) (omega arith) (omega arith) refl (half, tt),
              (row_in 1 r h 5 14 false (on ((5, pos 8192) ∷ [])) (omega arith) (omega arith) (omega arith) refl (half, tt), tt),
            ),
          ),
        )
mix_rows format r Fold (suc (suc zero)) channels depth h shape top le =
    rows_from format r (rows_of Fold 2 channels) 4 refl (omega arith) (
      row_in 2 r h 0 14 false (left (neg_ℤ (pos 5793))) (omega arith) (omega arith) (omega arith) refl (left_fits (neg_ℤ (pos 5793)) side),
      (
        row_in 2 r h 1 14 false (right (neg_ℤ (pos 5793))) (omega arith) (omega arith) (omega arith) refl (right_fits (neg_ℤ (pos 5793)) side),
        (
          row_in 2 r h 4 14 false (on ((4, pos 16384) ∷ (6, neg_ℤ (pos 16384)) ∷ [])) (omega arith) (omega arith) (omega arith) refl (whole, (less, tt)),
          (row_in 2 r h 5 14 false (on ((5, pos 16384) ∷ (7, neg_ℤ (pos 16384)) ∷ [])) (omega arith) (omega arith) (omega arith) refl (whole, (less, tt)), tt),
        ),
      ),
    )
mix_rows format r Fold (suc (suc (suc j))) channels depth h shape top le = absurd (omega (arith, le))
mix_rows format r Bypass zero channels depth h shape top le = rows_from format r [] 0 refl (omega arith) tt
mix_rows format r Bypass (suc zero) channels depth h shape top le =
    rows_from format r (rows_of Bypass 1 channels) 4 refl (omega arith) (
      row_in 1 r h 2 0 true (on ((2, pos 1) ∷ [])) (omega arith) (omega arith) (omega arith) refl (one, tt),
      (
        row_in 1 r h 3 0 true (on ((3, pos 1) ∷ [])) (omega arith) (omega arith) (omega arith) refl (one, tt),
        (
          row_in 1 r h 4 0 true (on ((4, pos 1) ∷ [])) (omega arith) (omega arith) (omega arith) refl (one, tt),
          (row_in 1 r h 5 0 true (on ((5, pos 1) ∷ [])) (omega arith) (omega arith) (omega arith) refl (one, tt), tt),
        ),
      ),
    )
mix_rows format r Bypass (suc (suc j)) channels depth h shape top le = absurd (omega (arith, shape.0, top))
mix_rows format r Side zero channels depth h shape top le =
    rows_from format r (rows_of Side 0 channels) 1 refl (omega arith) (
      row_in 0 r h 1 0 false (Some (pos 1) ∷ Some (pos 1) ∷ None ∷ None ∷ []) (omega arith) (omega arith) (omega arith) refl (one, (one, tt)),
      tt,
    )
mix_rows format r Side (suc zero) channels depth h shape top le = absurd (omega (arith, shape, top))
mix_rows format r Side (suc (suc j)) channels depth h shape top le = absurd (omega (arith, shape, top))
