-- Units behind first syncs that are alike, and a unit with a major sync as a first unit.
use Rattle.std.proofs.Common.{◌≡◌, ℕ, Bool, true, false, List, Option, Some, None, refl, sym, ap, subst, ◌∙◌}
use Rattle.std.specs.Prelude.{is_some}
use Rattle.mlp_syntax.specs.declared.major.FormatInfo.{FormatInfo}
use Rattle.mlp_syntax.specs.declared.major.FormatInfo.TheVariants as format
use Rattle.mlp_syntax.specs.declared.major.Kind.{Kind}
use Rattle.mlp_syntax.specs.declared.major.Kind.TheVariants as kind
use Rattle.mlp_syntax.specs.declared.major.MajorSync.{MajorSync}
use Rattle.mlp_syntax.specs.declared.unit.DirEntry.{DirEntry}
use Rattle.mlp_layout.specs.Layout.{Layout, Found}
use Rattle.mlp_layout.specs.Reading.{Stands}
use Rattle.mlp_major.specs.MajorSync.{major_sync, judged_sync, kind_of, rate_of, Alike}
use Rattle.mlp_major.proofs.SyncRules.{alike_of, keeps_first}
use Rattle.mlp_unit.specs.Directory.{first_failing, may_stand}
use Rattle.mlp_unit.specs.AccessUnit.{AccessUnit, access_unit, behind_sync, parts}
use Rattle.mlp_unit.specs.Written.{MayFollow}
use Rattle.mlp_unit.specs.Laws.{SameLayout, CouldBeFirst}
use Rattle.mlp_unit.proofs.UnitRules.{fits_text}
use Rattle.mlp_unit.proofs.WrittenLaws.{unit_fits}
use Rattle.mlp_unit.proofs.UnitRules.{unit_meets}
use Rattle.mlp_unit.proofs.Reread.{parts_of, writable, rewritten, small_size}

-- ---- first syncs that are alike

-- a format info of this kind and rate
form : Kind → ℕ → FormatInfo
form kind.Fbb rate = format.Fbb (record { quant1 = 0; quant2 = 0; rate1 = rate; rate2 = 0; carried = 0; arrangement = 0 })
form kind.Fba rate = format.Fba (record { rate = rate; carried = 0; mod2 = 0; mod6 = 0; assign6 = 0; mod8 = 0; assign8 = 0 })

abbrev with_format : MajorSync → FormatInfo → MajorSync
with_format m f = record m { format = f }

by_format : (a : MajorSync) (f : FormatInfo) → access_unit (Some (with_format a f)) ≡ access_unit (Some (with_format a (form (kind_of f) (rate_of f))))
unfolding access_unit parts behind_sync major_sync judged_sync form
by_format a (format.Fbb f) = refl
by_format a (format.Fba f) = refl

abbrev told : MajorSync → Kind → ℕ → ℕ → MajorSync
told m k rate substreams = record m { format = form k rate; substreams = substreams }

by_told : (a b : MajorSync) (k : Kind) (rate substreams : ℕ) → access_unit (Some (told a k rate substreams)) ≡ access_unit (Some (told b k rate substreams))
unfolding access_unit parts behind_sync major_sync judged_sync
by_told a b k rate substreams = refl

pub alike_units : (a b : MajorSync) → Alike a b → access_unit (Some a) ≡ access_unit (Some b)
alike_units a b s =
    let one = by_format a a.format in
    let two : access_unit (Some (told a (kind_of a.format) (rate_of a.format) a.substreams)) ≡ access_unit (Some (told b (kind_of b.format) (rate_of b.format) b.substreams)) =
    rw (s.kind, s.rate, s.substreams) (by_told a b (kind_of b.format) (rate_of b.format) b.substreams) in
    one ∙ two ∙ sym (by_format b b.format)

same_layout : {A : Type 0} (l m : Layout A) → l ≡ m → SameLayout l m
same_layout l m e = subst (λ (k : Layout _). SameLayout l k) e (record {
  spelling = λ x. refl;
  fits = λ x. (λ f. f, λ f. f);
  meets = λ x. (λ f. f, λ f. f);
  fails = λ all place d. (λ f. f, λ f. f);
  read = λ all place. refl;
})

pub alike_layouts : (a b : MajorSync) → Alike a b → SameLayout (access_unit (Some a)) (access_unit (Some b))
alike_layouts a b s = same_layout (access_unit (Some a)) (access_unit (Some b)) (alike_units a b s)

-- ---- a unit with a major sync as a first unit

first_may : (a m : MajorSync) (es : List DirEntry) → MayFollow (Some a) (Some m) es → MayFollow None (Some m) es
first_may a m es f =
    let s = alike_of a m f.sync in
    record {
      sync = keeps_first (Some a) m f.sync;
      count = sym s.substreams ∙ f.count;
      extra = subst (λ (k : Kind). first_failing (may_stand k) 0 es ≡ None) s.kind f.extra;
      flags = f.flags;
    }

first_of : (a m : MajorSync) (o : Option MajorSync) (es : List DirEntry) → o ≡ Some m → MayFollow (Some a) o es → MayFollow None o es × Alike a m
first_of a m o es is f =
    let g = subst (λ (p : Option MajorSync). MayFollow (Some a) p es) is f in
    (subst (λ (p : Option MajorSync). MayFollow None p es) (sym is) (first_may a m es g), alike_of a m g.sync)

pub could_be_first : (a m : MajorSync) (all : List Bool) (u : AccessUnit) → Found (access_unit (Some a)) all 0 u → u.major ≡ Some m → CouldBeFirst a m all u
could_be_first a m all u found is =
    let some : is_some u.major ≡ true = ap is_some is in
    let usable = λ (none : is_some u.major ≡ false). absurd (let e : true ≡ false = sym some ∙ none in cc) in
    let p = parts_of (Some a) u usable found.fits found.meets in
    let w = writable (Some a) u usable found.fits found.meets in
    let same = rewritten (Some a) u usable found.fits found.meets in
    let size = small_size (Some a) u usable found.fits found.meets in
    let f = first_of a m u.major u.entries is p.asked in
    let fits : (access_unit None).Fits u = subst (access_unit None).Fits same (unit_fits None u.head.timing u.major u.entries u.body w f.0.count p.timing p.small size) in
    let meets : (access_unit None).Meets u = subst (access_unit None).Meets same (unit_meets None u.head.timing u.major u.entries u.body w f.0 size) in
    let text : (access_unit (Some a)).spelling u ≡ (access_unit None).spelling u = fits_text (Some a) u found.fits ∙ sym (fits_text None u fits) in
    record {
      found = record { fits = fits; meets = meets; stands = subst (Stands all 0) text found.stands };
      alike = f.1;
    }
