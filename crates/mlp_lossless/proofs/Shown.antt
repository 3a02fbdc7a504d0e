-- What a decoder shows of a frame that was coded is what the presentation shows of it.
use Rattle.std.proofs.Common.{◌≡◌, ℕ, zero, suc, ◌-◌, ◌^◌, ◌≤◌, ℤ, pos, ◌*ℤ◌, Bool, true, false, List, [], ◌∷◌, ◌++◌, map, length, take, replicate, refl, sym, ap, ◌∙◌, subst, arith}
use Rattle.std.specs.Prelude.{◌==◌, if◌then◌else◌}
use Rattle.std.specs.List.{list_any, range_with_len}
use Rattle.std.proofs.lemmas.Int.{ints}
use Rattle.std.proofs.lemmas.List.{append-nil, length-take-le, take-append-le}
use Rattle.mlp_arith.specs.Words.{low24}
use Rattle.mlp_arith.specs.Ranges.{Is24}
use Rattle.mlp_arith.proofs.Residues.{low24_unique}
use Rattle.mlp_matrix.specs.Matrix.{applied}
use Rattle.mlp_matrix.specs.Noise.{noise_values}
use Rattle.mlp_matrix.specs.Front.{AreWithin}
use Rattle.mlp_matrix.proofs.Fronts.{take-applied}
use Rattle.mlp_output.specs.Output.{sample, samples_of, placed}
use Rattle.mlp_fold.specs.declared.profile.Mix.{Mix}
use Rattle.mlp_fold.specs.declared.profile.Mix.TheVariants.{Split, Fold, Bypass, Side}
use Rattle.mlp_fold.specs.Profile.{AreMixed}
use Rattle.mlp_fold.specs.Mix.{at, AreSamples, channels_of, coded_of, bypass_of, coded_frame, presented_of}
use Rattle.mlp_fold.specs.Rows.{rows_of, fold_rows, bypass_rows, side_row, steps_of}
use Rattle.mlp_fold.proofs.Mixes.{mixes}
use Rattle.mlp_fold.proofs.Wide.{wide}
use Rattle.mlp_encode.specs.Numbers.{noise_kind}
use Rattle.mlp_encode.specs.Blocks.{bypass_in}

-- ---- the places of the channels

in_place : (mix : Mix) (q channels j : ℕ) (x : List ℤ) → placed (range_with_len 0 (channels_of j)) (take (channels_of j) (presented_of mix q channels j x)) ≡ presented_of mix q channels j x
in_place Split q channels zero x = refl
in_place Split q channels (suc zero) x = refl
in_place Split q channels (suc (suc j)) x = refl
in_place Bypass q channels zero x = refl
in_place Bypass q channels (suc zero) x = refl
in_place Bypass q channels (suc (suc j)) x = refl
in_place Side q channels zero x = refl
in_place Side q channels (suc zero) x = refl
in_place Side q channels (suc (suc j)) x = refl
in_place Fold q channels j x = pick (channels == 6) j
  where
    pick : (t : Bool) (j : ℕ) → let v : List ℤ = if t then presented_of Fold q 6 j x else presented_of Fold q 8 j x in placed (range_with_len 0 (channels_of j)) (take (channels_of j) v) ≡ v
    pick true zero = refl
    pick true (suc zero) = refl
    pick true (suc (suc j)) = refl
    pick false zero = refl
    pick false (suc zero) = refl
    pick false (suc (suc j)) = refl

-- ---- a sample of 24 bits is itself

sample_kept : (v : ℤ) → Is24 v → sample 0 v ≡ v
sample_kept v h =
    let e : v *ℤ pos (2 ^ 0) ≡ v = omega (arith, ints) in
    ap low24 e ∙ low24_unique v v (record { low = h.low; high = h.high; congruent = (pos 0, omega (arith, ints)) })

samples_front : (n : ℕ) (ys : List ℤ) → samples_of (replicate n 0) ys ≡ map (sample 0) (take n ys)
samples_front zero ys = refl
samples_front (suc n) [] = refl
samples_front (suc n) (y ∷ ys) = ap (λ (zs : List ℤ). sample 0 y ∷ zs) (samples_front n ys)

front_kept : (n : ℕ) (xs : List ℤ) → ((c : ℕ) → Is24 (at xs c)) → map (sample 0) (take n xs) ≡ take n xs
front_kept zero xs h = refl
front_kept (suc n) [] h = refl
front_kept (suc n) (x ∷ xs) h = ap (λ (y : ℤ). y ∷ map (sample 0) (take n xs)) (sample_kept x (h 0)) ∙ ap (λ (ys : List ℤ). x ∷ ys) (front_kept n xs (λ c. h (suc c)))

-- ---- bits that no row takes

taken_zero : (t : Bool) → ◌≡◌ {A = ℕ} (if t then 0 else 0) 0
taken_zero true = refl
taken_zero false = refl

bits_same : (mix : Mix) (q channels j : ℕ) (x ys : List ℤ) → applied (rows_of mix j channels) (steps_of mix q j) (bypass_in (rows_of mix j channels) (coded_frame mix q channels x)) ys
    ≡ applied (rows_of mix j channels) (steps_of mix q j) (bypass_of mix x) ys
bits_same Split q channels j x ys = refl
bits_same Fold q channels j x ys = ap (λ (b : ℕ). applied (fold_rows j channels) (steps_of Fold q j) b ys) (taken_zero (list_any (λ row. row.bypass) (fold_rows j channels)))
bits_same Bypass q channels zero x ys = refl
bits_same Bypass q channels (suc j) x ys = refl
bits_same Side q channels j x ys = refl

-- ---- the rows of the third substream look at no noise

fold_within : (channels j : ℕ) → AreWithin 8 (fold_rows (suc (suc j)) channels)
fold_within channels j zero d lt = omega arith
fold_within channels j (suc zero) d lt = omega arith
fold_within channels j (suc (suc zero)) d lt = omega arith
fold_within channels j (suc (suc (suc zero))) d lt = omega arith
fold_within channels j (suc (suc (suc (suc i)))) d lt = absurd (omega arith)

bypass_within : (j : ℕ) → AreWithin 8 (bypass_rows (suc j))
bypass_within j zero d lt = omega arith
bypass_within j (suc zero) d lt = omega arith
bypass_within j (suc (suc zero)) d lt = omega arith
bypass_within j (suc (suc (suc zero))) d lt = omega arith
bypass_within j (suc (suc (suc (suc i)))) d lt = absurd (omega arith)

side_within : AreWithin 8 (side_row ∷ [])
side_within zero d lt = omega arith
side_within (suc i) d lt = absurd (omega arith)

third_within : (mix : Mix) (channels j : ℕ) → AreWithin 8 (rows_of mix (suc (suc j)) channels)
third_within Split channels j i d lt = absurd (omega arith)
third_within Fold channels j i d lt = fold_within channels j i d lt
third_within Bypass channels j i d lt = bypass_within (suc j) i d lt
third_within Side channels j i d lt = side_within i d lt

-- ---- a frame

pub coded_eight : (mix : Mix) (q channels : ℕ) (x : List ℤ) → length (coded_of mix q channels x) ≡ 8
coded_eight Split q channels x = refl
coded_eight Bypass q channels x = refl
coded_eight Side q channels x = refl
coded_eight Fold q channels x = pick (channels == 6)
  where
    pick : (t : Bool) → length (if t then coded_of Fold q 6 x else coded_of Fold q 8 x) ≡ 8
    pick true = refl
    pick false = refl

-- the noise behind the channels of substream j
abbrev pub noise_by : ℕ → ℕ → ℕ → List ℤ
noise_by j shift seed = if noise_kind j == 0 then noise_values shift seed else []

module _ (mix : Mix) (depth channels j : ℕ) (x : List ℤ) (m : AreMixed mix depth channels) (top : channels_of j ≤ channels) (h : AreSamples (24 - depth) channels x) where
  abbrev q : ℕ
  q = 24 - depth

  abbrev n : ℕ
  n = channels_of j

  abbrev by_rows : List ℤ → List ℤ
  by_rows ys = applied (rows_of mix j channels) (steps_of mix (24 - depth) j) (bypass_of mix x) ys

  two_there : (a b : ℤ) → take (channels_of j) (by_rows (take (channels_of j) (coded_of mix (24 - depth) channels x) ++ a ∷ b ∷ [])) ≡ take (channels_of j) (presented_of mix (24 - depth) channels j x)
  two_there a b = mixes mix depth channels j x a b [] m top h

  -- without noise, where no row looks at any
  none_there : AreWithin 8 (rows_of mix j channels) → channels_of j ≡ 8 → take (channels_of j) (by_rows (take (channels_of j) (coded_of mix (24 - depth) channels x))) ≡ take (channels_of j) (presented_of mix (24 - depth) channels j x)
  none_there few is =
      let vs : List ℤ = take (channels_of j) (coded_of mix (24 - depth) channels x) in
      let more : List ℤ = pos 0 ∷ pos 0 ∷ [] in
      let count : length vs ≡ 8 = length-take-le (channels_of j) (coded_of mix (24 - depth) channels x) (omega (arith, is, coded_eight mix (24 - depth) channels x)) ∙ is in
      let front : take 8 (vs ++ more) ≡ take 8 vs = take-append-le 8 vs more (omega (arith, count)) in
      let makes = take-applied 8 (rows_of mix j channels) few (steps_of mix (24 - depth) j) (bypass_of mix x) in
      ap (λ (k : ℕ). take k (by_rows vs)) is
      ∙ makes vs
      ∙ ap by_rows (sym front)
      ∙ sym (makes (vs ++ more))
      ∙ ap (λ (k : ℕ). take k (by_rows (vs ++ more))) (sym is)
      ∙ two_there (pos 0) (pos 0)

  with_noise : (shift seed : ℕ) → j ≤ 2 → take (channels_of j) (by_rows (take (channels_of j) (coded_of mix (24 - depth) channels x) ++ noise_by j shift seed)) ≡ take (channels_of j) (presented_of mix (24 - depth) channels j x)
  with_noise shift seed le = by_number j refl
    where
      by_number : (i : ℕ) → j ≡ i → take (channels_of j) (by_rows (take (channels_of j) (coded_of mix (24 - depth) channels x) ++ noise_by i shift seed)) ≡ take (channels_of j) (presented_of mix (24 - depth) channels j x)
      by_number zero e = two_there _ _
      by_number (suc zero) e = two_there _ _
      by_number (suc (suc zero)) e =
          ap (λ (ys : List ℤ). take (channels_of j) (by_rows ys)) (append-nil (take (channels_of j) (coded_of mix (24 - depth) channels x)))
          ∙ none_there (subst (λ (i : ℕ). AreWithin 8 (rows_of mix i channels)) (sym e) (third_within mix channels 0)) (ap channels_of e)
      by_number (suc (suc (suc i))) e = absurd (omega (arith, e, le))

  -- the samples of its matrix channels
  pub samples_shown : (shift seed : ℕ) → j ≤ 2
      → samples_of (replicate (channels_of j) 0) (applied (rows_of mix j channels) (steps_of mix (24 - depth) j) (bypass_in (rows_of mix j channels) (coded_frame mix (24 - depth) channels x))
      (take (channels_of j) (coded_of mix (24 - depth) channels x) ++ noise_by j shift seed))
      ≡ take (channels_of j) (presented_of mix (24 - depth) channels j x)
  samples_shown shift seed le =
      let ys : List ℤ = take (channels_of j) (coded_of mix (24 - depth) channels x) ++ noise_by j shift seed in
      ap (samples_of (replicate (channels_of j) 0)) (bits_same mix (24 - depth) channels j x ys)
      ∙ samples_front (channels_of j) (by_rows ys)
      ∙ ap (map (sample 0)) (with_noise shift seed le)
      ∙ front_kept (channels_of j) (presented_of mix (24 - depth) channels j x) (wide mix depth channels j x m top h)

  -- .. at their places
  pub placed_shown : placed (range_with_len 0 (channels_of j)) (take (channels_of j) (presented_of mix (24 - depth) channels j x)) ≡ presented_of mix (24 - depth) channels j x
  placed_shown = in_place mix (24 - depth) channels j x
