-- Frames that fill up a unit.
use Rattle.std.proofs.Common.{◌≡◌, ℕ, zero, suc, ◌-◌, ℤ, pos, Bool, List, length, replicate, get_or, sym, subst, arith, inl, inr}
use Rattle.std.specs.Prelude.{All}
use Rattle.std.proofs.lemmas.Bool.{cases_lt}
use Rattle.std.proofs.lemmas.Int.{ints}
use Rattle.std.proofs.lemmas.List.{length-append, length-replicate, get_or-replicate, get_or_past}
use Rattle.std.proofs.lemmas.List.Elements.{All-append, All-nil, All-cons}
use Rattle.mlp_arith.proofs.Residues.{clear_zero}
use Rattle.mlp_fifo.specs.Pace.{unit_of}
use Rattle.mlp_fold.specs.declared.profile.Profile.{Profile}
use Rattle.mlp_fold.specs.Mix.{IsSample, AreSamples}
use Rattle.mlp_encode.specs.Numbers.{low_zeros}
use Rattle.mlp_encode.specs.Unit.{AreNext, filled}

-- frames of zeros
zeros_are : (q channels n : ℕ) → All (AreSamples q channels) (replicate n (replicate 8 (pos 0)))
zeros_are q channels zero = All-nil (AreSamples q channels)
zeros_are q channels (suc n) = All-cons (AreSamples q channels) (replicate 8 (pos 0)) (replicate n (replicate 8 (pos 0))) (λ c lt. of_zero (get_or (replicate 8 (pos 0)) c (pos 0)) (silent c)) (zeros_are q channels n)
  where
    silent : (c : ℕ) → get_or (replicate 8 (pos 0)) c (pos 0) ≡ pos 0
    silent c = elim (cases_lt c 8) [
      | inl lt ↦ get_or-replicate 8 c (pos 0) (pos 0) lt
      | inr ge ↦ get_or_past (replicate 8 (pos 0)) c (pos 0) ge
    ]

    of_zero : (x : ℤ) → x ≡ pos 0 → IsSample q x
    of_zero x e = subst (λ (x : ℤ). IsSample q x) (sym e) (record { low = omega (arith, ints); high = omega (arith, ints); cleared = clear_zero q })

module _ (p : Profile) (frames : List (List ℤ)) (last : Bool) (h : AreNext p frames last) where
  pub filled_samples : All (AreSamples (low_zeros p.depth) p.channels) (filled p frames)
  filled_samples = All-append (AreSamples (low_zeros p.depth) p.channels) frames (replicate (unit_of p.rate - length frames) (replicate 8 (pos 0))) h.samples (zeros_are (low_zeros p.depth) p.channels (unit_of p.rate - length frames))

  pub filled_count : length (filled p frames) ≡ unit_of p.rate
  filled_count =
      let n = length-append frames (replicate (unit_of p.rate - length frames) (replicate 8 (pos 0))) in
      let m = length-replicate (unit_of p.rate - length frames) (replicate 8 (pos 0)) in
      omega (arith, n, m, h.most)
