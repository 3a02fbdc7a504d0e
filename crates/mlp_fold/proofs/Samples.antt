-- Samples as words, and presentations past the first.
use Rattle.std.proofs.Common.{◌≡◌, ℕ, zero, suc, ◌<◌, ◌≤◌, List, [], ◌∷◌, ℤ, pos, neg_ℤ, ◌*ℤ◌, ◌≤ℤ◌, ◌<ℤ◌, FitsSigned, w32, to_z, of_z, arith, refl}
use Rattle.std.proofs.lemmas.Int.{ints, to_z-of_z}
use Rattle.std.proofs.Math.Pow.{pow-lt}
use Rattle.mlp_arith.specs.Words.{floor_by}
use Rattle.mlp_arith.proofs.Floors.{floor_le, lt_floor}
use Rattle.mlp_arith.proofs.Residues.{clear_le, lt_clear}
use Rattle.mlp_arith.specs.Ranges.{Is26}
use Rattle.mlp_fold.specs.Mix.{at, IsSample, shown, stereo, halved, presented_fold6, presented_fold8}

pub sample_fits : (q : ℕ) (x : ℤ) → IsSample q x → FitsSigned w32 x
sample_fits q x h = omega (arith, ints, h.low, h.high)

pub sample_word : (q : ℕ) (x : ℤ) → IsSample q x → IsSample q (to_z w32 (of_z w32 x))
sample_word q x h = rw (to_z-of_z w32 x (sample_fits q x h)) h

pub word26 : (x : ℤ) → Is26 x → Is26 (to_z w32 (of_z w32 x))
word26 x h = let f : FitsSigned w32 x = omega (arith, ints, h.low, h.high) in rw (to_z-of_z w32 x f) h

pub later6 : (q k : ℕ) (x : List ℤ) → 0 < k → shown 6 x ≡ presented_fold6 q k x
later6 q zero x h = absurd (omega arith)
later6 q (suc k) x h = refl

pub later8 : (q k : ℕ) (x : List ℤ) → 1 < k → shown 8 x ≡ presented_fold8 q k x
later8 q zero x h = absurd (omega arith)
later8 q (suc zero) x h = absurd (omega arith)
later8 q (suc (suc k)) x h = refl

-- both fit words
pub stereo_fits : (q : ℕ) (z : ℤ) → q ≤ 8 → neg_ℤ (pos 33554432) ≤ℤ z → z <ℤ pos 33554432 → FitsSigned w32 (stereo q z)
stereo_fits q z l a b =
    let s : ℤ = pos 6786 *ℤ z in
    omega (arith, ints, clear_le q (floor_by 14 s), lt_clear q (floor_by 14 s), floor_le s 16384 (omega arith), lt_floor s 16384 (omega arith), pow-lt {i = q} {j = 9} (omega arith), a, b)

pub halved_fits : (q : ℕ) (z : ℤ) → q ≤ 8 → neg_ℤ (pos 33554432) ≤ℤ z → z <ℤ pos 33554432 → FitsSigned w32 (halved q z)
halved_fits q z l a b =
    omega (arith, ints, clear_le q (floor_by 1 z), lt_clear q (floor_by 1 z), floor_le z 2 (omega arith), lt_floor z 2 (omega arith), pow-lt {i = q} {j = 9} (omega arith), a, b)

-- what holds of eight values and of 0 holds at every place
pub eight : (P : ℤ → Type 0) → P (pos 0) → (v0 v1 v2 v3 v4 v5 v6 v7 : ℤ) → P v0 → P v1 → P v2 → P v3
    → P v4 → P v5 → P v6 → P v7 → (c : ℕ) → P (at (v0 ∷ v1 ∷ v2 ∷ v3 ∷ v4 ∷ v5 ∷ v6 ∷ v7 ∷ []) c)
eight P z v0 v1 v2 v3 v4 v5 v6 v7 h0 h1 h2 h3 h4 h5 h6 h7 zero = h0
eight P z v0 v1 v2 v3 v4 v5 v6 v7 h0 h1 h2 h3 h4 h5 h6 h7 (suc zero) = h1
eight P z v0 v1 v2 v3 v4 v5 v6 v7 h0 h1 h2 h3 h4 h5 h6 h7 (suc (suc zero)) = h2
eight P z v0 v1 v2 v3 v4 v5 v6 v7 h0 h1 h2 h3 h4 h5 h6 h7 (suc (suc (suc zero))) = h3
eight P z v0 v1 v2 v3 v4 v5 v6 v7 h0 h1 h2 h3 h4 h5 h6 h7 (suc (suc (suc (suc zero)))) = h4
eight P z v0 v1 v2 v3 v4 v5 v6 v7 h0 h1 h2 h3 h4 h5 h6 h7 (suc (suc (suc (suc (suc zero))))) = h5
eight P z v0 v1 v2 v3 v4 v5 v6 v7 h0 h1 h2 h3 h4 h5 h6 h7 (suc (suc (suc (suc (suc (suc zero)))))) = h6
eight P z v0 v1 v2 v3 v4 v5 v6 v7 h0 h1 h2 h3 h4 h5 h6 h7 (suc (suc (suc (suc (suc (suc (suc zero))))))) = h7
eight P z v0 v1 v2 v3 v4 v5 v6 v7 h0 h1 h2 h3 h4 h5 h6 h7 (suc (suc (suc (suc (suc (suc (suc (suc c)))))))) = z
