-- Bits as bytes, eight at a time.
use Rattle.std.proofs.Common.{◌≡◌, ℕ, zero, suc, ◌*◌, ◌<◌, Bool, List, [], ◌∷◌, ◌++◌, length, refl, ap, ◌∙◌, arith}
use Rattle.std.proofs.lemmas.List.Elements.{All-nil, All-cons}
use Rattle.mlp_bits.specs.Bits.{bits, bits_of, number}
use Rattle.mlp_bits.proofs.BitLists.{bits_of-cons}
use Rattle.mlp_bits.proofs.Fields.{number-below}
use Rattle.mlp_bits.proofs.ReadBack.{bits-number}
use Rattle.mlp_unit.specs.Laws.{AreBytes}
use Rattle.mlp_substream.specs.Checks.{bytes_of}

-- so many bytes' bits are those of the bytes that they spell
pub bits_again : (n : ℕ) (all : List Bool) → length all ≡ 8 * n → bits_of (bytes_of all) ≡ all
unfolding bytes_of bits_of
bits_again zero [] e = refl
bits_again zero (b ∷ all) e = absurd (omega (arith, e))
bits_again (suc n) (a ∷ b ∷ c ∷ d ∷ e ∷ f ∷ g ∷ h ∷ all) long =
    let byte = a ∷ b ∷ c ∷ d ∷ e ∷ f ∷ g ∷ h ∷ [] in
    bits_of-cons (number byte) (bytes_of all) ∙ ap (λ (t : List Bool). bits 8 (number byte) ++ t) (bits_again n all (omega arith)) ∙ ap (λ (t : List Bool). t ++ all) (bits-number byte)
bits_again (suc n) all long = absurd (omega (arith, long))

abbrev IsByte : ℕ → Type 0
IsByte b = b < 256

pub bytes_are : (bits : List Bool) → AreBytes (bytes_of bits)
unfolding bytes_of
bytes_are (a ∷ b ∷ c ∷ d ∷ e ∷ f ∷ g ∷ h ∷ bits) =
    All-cons IsByte (number (a ∷ b ∷ c ∷ d ∷ e ∷ f ∷ g ∷ h ∷ [])) (bytes_of bits) (number-below (a ∷ b ∷ c ∷ d ∷ e ∷ f ∷ g ∷ h ∷ [])) (bytes_are bits)
bytes_are bits = All-nil IsByte
