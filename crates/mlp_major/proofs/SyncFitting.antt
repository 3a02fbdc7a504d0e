-- Which major syncs have a spelling.
use Rattle.std.proofs.Common.{◌≡◌, ◌↔◌, ℕ, suc, ◌+◌, ◌*◌, ◌/◌, ◌^◌, ◌<◌, eqb, Bool, true, false, List, [], ◌∷◌, length, get_or, None, refl, sym, ◌∙◌, arith}
use Rattle.std.specs.Prelude.{IsTrue}
use Rattle.std.proofs.lemmas.Bool.{eqb-true, eq-eqb}
use Rattle.mlp_syntax.specs.declared.major.Kind.{Kind}
use Rattle.mlp_syntax.specs.declared.major.Kind.TheVariants as kind
use Rattle.mlp_syntax.specs.declared.major.MajorSync.{MajorSync}
use Rattle.mlp_bits.specs.Checks.{modulus16}
use Rattle.mlp_bits.proofs.Remainders.{rem_from-smaller}
use Rattle.mlp_layout.specs.Layout.{number_of, seen, ruled, opening, whole, part, made, item}
use Rattle.mlp_layout.specs.Combined.{fixed, checked, chosen}
use Rattle.mlp_layout.proofs.CombinedLaws.{times_count}
use Rattle.mlp_layout.proofs.Fitting.{Small, flag_fits, times_fit}
use Rattle.mlp_major.specs.MajorSync.{kind_of, kind_bit, extension, fields, checked_sync, judged_sync, major_sync, rules, with_signature}
use Rattle.mlp_major.proofs.SyncWriting.{SyncFits, sync_fits, fits_under, sync_has_fields}

-- ---- the extension

-- where no extension is told of
pub fits_without : (long empty : Bool) (bytes : List ℕ) → long ≡ false → empty ≡ eqb (length bytes) 0 → IsTrue empty ↔ (extension long).Fits bytes
unfolding extension chosen made
fits_without true empty bytes none is = absurd cc
fits_without false empty [] none is = (λ t. refl, λ fits. is)
fits_without false empty (b ∷ bs) none is = (λ t. absurd (omega (arith, eqb-true (length (b ∷ bs)) 0 (sym is ∙ t))), λ fits. absurd cc)

pub empty_fits : (long empty : Bool) (bytes : List ℕ) → long ≡ true → empty ≡ true → empty ≡ eqb (length bytes) 0 → IsTrue false ↔ (extension long).Fits bytes
unfolding extension chosen item
empty_fits false empty bytes long-is some is = absurd cc
empty_fits true empty [] long-is some is = (λ t. absurd cc, λ fits. absurd fits)
empty_fits true empty (b ∷ bs) long-is some is = absurd (omega (arith, eqb-true (length (b ∷ bs)) 0 (sym is ∙ some)))

-- where one is told of
pub fits_with : (long empty : Bool) (bytes : List ℕ) → Small bytes → long ≡ true → empty ≡ false → empty ≡ eqb (length bytes) 0
    → IsTrue (eqb (length bytes) (2 + 2 * (get_or bytes 0 0 / 16))) ↔ (extension long).Fits bytes
unfolding extension chosen item number_of
fits_with false empty bytes small long-is some is = absurd cc
fits_with true empty [] small long-is some is = absurd cc
fits_with true empty (b ∷ bs) small long-is some is =
    let n = 2 + 2 * (b / 16) in (
      λ t. let e : suc (length bs) ≡ n = eqb-true _ _ t in (small 0, times_fit (1 + 2 * (b / 16)) bs (omega (arith, e)) (λ i. small (suc i))),
      λ fits. let e : suc (length bs) ≡ n = omega (arith, times_count (1 + 2 * (b / 16)) (number_of 8) bs fits.1) in eq-eqb _ _ e,
    )

-- ---- the fields

kind_fits : (k : Kind) → kind_bit.Fits k
unfolding kind_bit seen number_of
kind_fits kind.Fba = (omega arith, refl)
kind_fits kind.Fbb = (omega arith, refl)

fields_fit : (m : MajorSync) → SyncFits m → m.meaning < 2 ^ 64 → fields.Fits (with_signature m)
unfolding fields fixed ruled part number_of made
fields_fit m f meaning =
    (omega arith, (kind_fits (kind_of m.format), (f.format, (omega arith, (f.flags, (f.reserved, (flag_fits m.variable, (f.peak, (f.substreams, (f.carried, (f.extended, (f.info, (meaning, (f.extension, refl))))))))))))))

checked_fits : (m : MajorSync) → fields.Fits (with_signature m) → checked_sync.Fits (with_signature m)
unfolding checked_sync whole checked part fixed ruled number_of made
checked_fits m fits = (fits, (rem_from-smaller modulus16 0 (fields.spelling (with_signature m)) (omega arith) (omega arith), refl))

judged_fits : (m : MajorSync) → checked_sync.Fits (with_signature m) → (judged_sync None).Fits m
unfolding judged_sync seen ruled
judged_fits m fits = fits_under (rules None) _ m (fits, refl)

opening_fits : (m : MajorSync) → (judged_sync None).Fits m → (major_sync None).Fits m
unfolding major_sync opening
opening_fits m fits = fits

pub fit_of : (m : MajorSync) → (major_sync None).Fits m → SyncFits m
fit_of m fits = sync_fits m (sync_has_fields None m fits)

pub fit_by : (m : MajorSync) → SyncFits m → m.meaning < 2 ^ 64 → (major_sync None).Fits m
fit_by m f meaning = opening_fits m (judged_fits m (checked_fits m (fields_fit m f meaning)))
