-- A unit's own text is the bytes that it was read from.
use Rattle.std.proofs.Common.{◌≡◌, ℕ, zero, suc, ◌*◌, ◌≤◌, List, [], ◌∷◌, length, take, Ok, Option, None, sym, ap, ◌∙◌, arith}
use Rattle.mlp_syntax.specs.declared.major.MajorSync.{MajorSync}
use Rattle.mlp_bits.specs.Bits.{bits_of}
use Rattle.mlp_bits.proofs.BitLists.{length-bits_of}
use Rattle.mlp_major.proofs.SyncReading.{bits_of-take}
use Rattle.mlp_walk.specs.Next.{Taken, next_of}
use Rattle.mlp_walk.proofs.NextLaws.{from_unit}
use Rattle.mlp_unit.specs.AccessUnit.{AccessUnit, access_unit}
use Rattle.mlp_unit.specs.Written.{unit_text}
use Rattle.mlp_unit.specs.Outline.{outline}
use Rattle.mlp_unit.proofs.UnitRules.{fits_text}
use Rattle.mlp_substream.specs.Checks.{bytes_of}
use Rattle.mlp_substream.proofs.CheckLaws.{AreBytes, bytes_of-bits}
use Rattle.mlp_unit.proofs.OutlineLaws.{outline_is}
use Rattle.mlp_outline.proofs.Outlines.{outline_bytes}
use Rattle.mlp_cut.specs.Cut.{unit_bytes}

front_small : (bytes : List ℕ) (n : ℕ) → AreBytes bytes → AreBytes (take n bytes)
front_small bytes zero h i = omega arith
front_small [] (suc n) h i = omega arith
front_small (b ∷ bytes) (suc n) h zero = h 0
front_small (b ∷ bytes) (suc n) h (suc i) = front_small bytes n (λ k. h (suc k)) i

-- .. of a unit whose text stands at the front
pub own_bytes : (first : Option MajorSync) (bytes : List ℕ) (size : ℕ) (u : AccessUnit) → AreBytes bytes → size ≤ length bytes → (access_unit first).Fits u
    → 8 * size ≡ length ((access_unit first).spelling u) → take (length ((access_unit first).spelling u)) (bits_of bytes) ≡ (access_unit first).spelling u → unit_bytes u ≡ take size bytes
unfolding unit_bytes
own_bytes first bytes size u small le fits long stands =
    let front : take (8 * size) (bits_of bytes) ≡ bits_of (take size bytes) = bits_of-take size bytes le in
    let text : unit_text u ≡ bits_of (take size bytes) = sym (fits_text first u fits) ∙ sym stands ∙ ap (λ (n : ℕ). take n (bits_of bytes)) (sym long) ∙ front in
    ap bytes_of text ∙ bytes_of-bits (take size bytes) (front_small bytes size small)

pub taken_bytes : (number : ℕ) (first : Option MajorSync) (bytes : List ℕ) (t : Taken AccessUnit (Unit {0})) → AreBytes bytes → next_of outline None number first bytes ≡ Ok t
    → unit_bytes t.unit.outer ≡ take t.size bytes
taken_bytes number first bytes t small e =
    let from = from_unit outline outline_is outline_bytes None number first bytes t e in
    let found = from.next.outer in
    own_bytes first bytes t.size t.unit.outer small (omega (arith, found.stands.within, from.size, length-bits_of bytes)) found.fits from.size found.stands.text_is
