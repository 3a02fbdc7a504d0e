-- An extraction of an extraction is one of the stream.
use Rattle.std.proofs.Common.{◌≡◌, ℕ, ◌+◌, ◌*◌, ◌/◌, ◌≤◌, ◌<◌, ◌%◌, List, [], ◌∷◌, ◌++◌, length, take, Option, Some, None, refl, sym, ap, ◌∙◌, arith}
use Rattle.std.proofs.lemmas.List.{take-take}
use Rattle.std.proofs.lemmas.List.Concat.{flat_map-cons}
use Rattle.std.specs.Prelude.{option_map}
use Rattle.mlp_syntax.specs.declared.major.MajorSync.{MajorSync}
use Rattle.mlp_layout.specs.Allowed.{Allowed}
use Rattle.mlp_major.specs.MajorSync.{smaller}
use Rattle.mlp_unit.specs.AccessUnit.{AccessUnit, access_unit}
use Rattle.mlp_unit.specs.Extracted.{extracted}
use Rattle.mlp_unit.specs.Shape.{end_at}
use Rattle.mlp_unit.specs.Written.{FirstUsable, written_unit}
use Rattle.mlp_unit.proofs.Reread.{parts_of}
use Rattle.mlp_cut.specs.Cut.{unit_bytes}
use Rattle.mlp_contents.specs.Units.{Unit_of}
use Rattle.mlp_extract.specs.Extract.{extracted_bytes, extract}
use Rattle.mlp_extracted.specs.Extracted.{extracted_unit, extracted_units}
use Rattle.mlp_extracted.proofs.Portions.{ends_up, end_fewer}
use Rattle.mlp_extracted.proofs.Extraction.{EachOuter}

smaller_again : (j k : ℕ) (o : Option MajorSync) → option_map (smaller j) (option_map (smaller k) o) ≡ option_map (smaller j) o
smaller_again j k None = refl
smaller_again j k (Some m) =
    let info : m.info % 128 % 128 ≡ m.info % 128 = omega arith in
    λ i. Some (record m { substreams = j + 1; info = info i })

-- of a unit
pub extracted_again : (j k : ℕ) → j ≤ k → (first : Option MajorSync) (o : AccessUnit) → FirstUsable first → Allowed (access_unit first) o → k < length o.entries
    → extracted j (extracted k o) ≡ extracted j o
extracted_again j k le first o usable a lt =
    let es = o.entries in
    let p = parts_of first o (λ none. usable) a.fits a.meets in
    let major = smaller_again j k o.major in
    let entries : take (j + 1) (take (k + 1) es) ≡ take (j + 1) es = take-take (j + 1) (k + 1) es (omega (arith, le)) in
    let end : end_at (take (k + 1) es) j ≡ end_at es j = end_fewer (k + 1) es j (omega (arith, le)) in
    let up = ends_up (length o.body / 2) es j k p.ends lt le in
    let body : take (2 * end_at (take (k + 1) es) j) (take (2 * end_at es k) o.body) ≡ take (2 * end_at es j) o.body =
    ap (λ (n : ℕ). take (2 * n) (take (2 * end_at es k) o.body)) end ∙ take-take (2 * end_at es j) (2 * end_at es k) o.body (omega (arith, up)) in
    λ i. written_unit o.head.timing (major i) (entries i) (body i)

-- of several
pub extract_again : (j k : ℕ) (us : List Unit_of) → EachOuter (λ o. extracted j (extracted k o) ≡ extracted j o) us → extract j (extracted_units k us) ≡ extract j us
extract_again j k [] each = refl
extract_again j k (u ∷ us) each =
    let bytes = λ (v : Unit_of). extracted_bytes j v.outer in
    flat_map-cons bytes (extracted_unit k u) (extracted_units k us) ∙ (λ i. unit_bytes (each.0 i) ++ extract_again j k us each.1 i) ∙ sym (flat_map-cons bytes u us)
