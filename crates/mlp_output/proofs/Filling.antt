-- Samples put in place from the last channel to the first.
use Rattle.std.proofs.Common.{◌≡◌, ℕ, ◌+◌, ◌<◌, ◌≤◌, List, [], ◌∷◌, drop, get_or, length, ℤ, pos, replicate, refl, sym, ap, subst, ◌∙◌, arith, bit_xor}
use lib.Bits.{xor_assoc, xor_zero_r}
use Rattle.std.specs.Int.{w32, cast_unsigned}
use Rattle.std.proofs.Math.ListN.{set}
use Rattle.std.proofs.lemmas.List.{drop_more, drop_all}
use Rattle.std.proofs.lemmas.Nat.{xor_comm}
use Rattle.mlp_output.specs.Output.{sample, samples_of, placed, check_from}
use Rattle.mlp_output.proofs.Sums.{part}

-- the samples from channel i on are in place, and their check was added to the first one
pub record IsFilled (shifts assign : List ℕ) (frame : List ℤ) (i : ℕ) (row : List ℤ) (first check : ℕ) : Type 0 where
  pub in_place : row ≡ placed (drop i assign) (samples_of (drop i shifts) (drop i frame))
  pub sum : check ≡ bit_xor first (check_from i (samples_of (drop i shifts) (drop i frame)))

module _ (shifts assign : List ℕ) (frame : List ℤ) (i : ℕ) where
  abbrev samples_from : ℕ → List ℤ
  samples_from n = samples_of (drop n shifts) (drop n frame)

  abbrev here : ℤ
  here = sample (get_or shifts i 0) (get_or frame i (pos 0))

  -- the samples from i on are that of i and those behind it
  first_sample : i < length shifts → i < length frame → samples_from i ≡ here ∷ samples_from (i + 1)
  first_sample a b =
      ap (λ (ss : List ℕ). samples_of ss (drop i frame)) (drop_more shifts i 0 a)
      ∙ ap (λ (xs : List ℤ). samples_of (get_or shifts i 0 ∷ drop (i + 1) shifts) xs) (drop_more frame i (pos 0) b)

  pub filled_more : (row : List ℤ) (first check next : ℕ) (v : ℤ) → i < length shifts → i < length assign → i < length frame
      → v ≡ here → next ≡ bit_xor check (part i (cast_unsigned w32 v)) → IsFilled shifts assign frame (i + 1) row first check
      → IsFilled shifts assign frame i (set row (get_or assign i 0) v) first next
  filled_more row first check next v a b c is added h =
      let bits : ℕ = part i (cast_unsigned w32 v) in
      let rest : ℕ = check_from (i + 1) (samples_from (i + 1)) in
      record {
        in_place =
            ap (λ (ys : List ℤ). set ys (get_or assign i 0) v) h.in_place
            ∙ ap (λ (x : ℤ). set (placed (drop (i + 1) assign) (samples_from (i + 1))) (get_or assign i 0) x) is
            ∙ ap (λ (xs : List ℤ). placed (get_or assign i 0 ∷ drop (i + 1) assign) xs) (sym (first_sample a c))
            ∙ ap (λ (ss : List ℕ). placed ss (samples_from i)) (sym (drop_more assign i 0 b));
        sum =
            added
            ∙ ap (λ (n : ℕ). bit_xor n bits) h.sum
            ∙ xor_assoc first rest bits
            ∙ ap (bit_xor first) (xor_comm rest bits)
            ∙ ap (λ (x : ℤ). bit_xor first (bit_xor (part i (cast_unsigned w32 x)) rest)) is
            ∙ ap (λ (xs : List ℤ). bit_xor first (check_from i xs)) (sym (first_sample a c));
      }

-- none are, and all are
pub filled_none : (shifts assign : List ℕ) (frame : List ℤ) (n first : ℕ) → length shifts ≤ n → length assign ≤ n → IsFilled shifts assign frame n (replicate 8 (pos 0)) first first
filled_none shifts assign frame n first a b =
    let no_shifts : drop n shifts ≡ [] = drop_all n shifts a in
    let no_places : drop n assign ≡ [] = drop_all n assign b in
    record { in_place = rw no_places refl; sum = rw no_shifts (sym (xor_zero_r first)) }

pub filled_all : (shifts assign : List ℕ) (frame : List ℤ) (n : ℕ) (row : List ℤ) (first check : ℕ) → n ≤ 0 → IsFilled shifts assign frame n row first check → IsFilled shifts assign frame 0 row first check
filled_all shifts assign frame n row first check none h =
    let e : n ≡ 0 = omega arith in
    subst (λ (m : ℕ). IsFilled shifts assign frame m row first check) e h
