-- Units stand in their own texts as they stand in a stream.
use Rattle.std.proofs.Common.{◌≡◌, ℕ, Bool, List, [], ◌∷◌, ◌++◌, length, refl, sym, ap, subst, ◌∙◌, arith, length-append}
use Rattle.std.proofs.lemmas.List.{take_at, drop_at}
use Rattle.std.proofs.lemmas.List.Concat.{flat_map-cons}
use Rattle.mlp_bits.specs.Bits.{bits_of}
use Rattle.mlp_bits.proofs.Words.{bits_of-append}
use Rattle.mlp_layout.specs.Layout.{tested}
use Rattle.mlp_layout.specs.Streams.{IsNext, spelling_of, rest_of, Begins}
use Rattle.mlp_unit.specs.Written.{unit_text}
use Rattle.mlp_unit.proofs.UnitRules.{fits_text}
use Rattle.mlp_contents.specs.Units.{Left, Unit_of, after, whole}
use Rattle.mlp_contents.proofs.FormatLaws.{whole_bytes}
use Rattle.mlp_cut.specs.Cut.{unit_bytes, units_bytes}
use Rattle.mlp_samples.proofs.WholeBytes.{bits_again}

-- the texts of units, one after the other
abbrev pub texts : List Unit_of → List Bool
texts [] = []
texts (u ∷ us) = unit_text u.outer ++ texts us

module _ (k : ℕ) where
  text_is : (l : Left) (all : List Bool) (u : Unit_of) → IsNext (whole k) l all u → spelling_of (whole k) l u ≡ unit_text u.outer
  unfolding tested
  text_is l all u next = fits_text l.sync u.outer next.outer.fits

  next_alone : (l : Left) (all more : List Bool) (u : Unit_of) → IsNext (whole k) l all u → IsNext (whole k) l (unit_text u.outer ++ more) u
  next_alone l all more u next =
      let e = text_is l all u next in
      let text = spelling_of (whole k) l u in
      let long : length text ≡ length (unit_text u.outer) = ap length e in
      record {
        outer = record {
          fits = next.outer.fits;
          meets = next.outer.meets;
          stands = record {
            within = omega (arith, length-append (unit_text u.outer) more);
            text_is = take_at (unit_text u.outer) more (length text) (sym long) ∙ sym e;
          };
        };
        contents = next.contents;
      }

  pub begins_alone : (l : Left) (all : List Bool) (us : List Unit_of) (rest : List Bool) → Begins (whole k) l all us rest → Begins (whole k) l (texts us) us []
  unfolding Begins
  begins_alone l all [] rest b = refl
  begins_alone l all (u ∷ us) rest b =
      let e = text_is l all u b.0 in
      let behind : texts us ≡ rest_of (whole k) l (texts (u ∷ us)) u = sym (drop_at (unit_text u.outer) (texts us) (length (spelling_of (whole k) l u)) (sym (ap length e))) in (
        next_alone l all (texts us) u b.0,
        subst (λ (t : List Bool). Begins (whole k) (after k l u) t us []) behind (begins_alone (after k l u) (rest_of (whole k) l all u) us rest b.1),
      )

  pub bytes_are : (l : Left) (all : List Bool) (us : List Unit_of) (rest : List Bool) → Begins (whole k) l all us rest → bits_of (units_bytes us) ≡ texts us
  unfolding Begins bits_of unit_bytes
  bytes_are l all [] rest b = refl
  bytes_are l all (u ∷ us) rest b =
      let e = text_is l all u b.0 in
      let n = (whole_bytes k).whole l u.outer b.0.outer.fits in
      let here : bits_of (unit_bytes u.outer) ≡ unit_text u.outer = bits_again n.0 (unit_text u.outer) (sym (ap length e) ∙ n.1) in
      let later = bytes_are (after k l u) (rest_of (whole k) l all u) us rest b.1 in
      ap bits_of (flat_map-cons (λ (v : Unit_of). unit_bytes v.outer) u us) ∙ bits_of-append (unit_bytes u.outer) (units_bytes us) ∙ (λ i. here i ++ later i)
