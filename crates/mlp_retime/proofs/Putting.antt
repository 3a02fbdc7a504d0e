-- What is written of a unit.
use Rattle.std.proofs.Common.{◌≡◌, ◌↔◌, ℕ, ◌+◌, ◌*◌, ◌<◌, ◌≤◌, ◌++◌, Bool, true, List, drop, Option, Some, None, Result, Ok, Err, refl, sym, ap, ◌∙◌, arith}
use Rattle.std.specs.Prelude.{IsErr, OnOk, is_some, if◌then◌else◌}
use Rattle.mlp_syntax.specs.declared.major.MajorSync.{MajorSync}
use Rattle.mlp_syntax.specs.declared.unit.DirEntry.{DirEntry}
use Rattle.mlp_syntax.specs.declared.unit.Outer.{Outer}
use Rattle.mlp_bits.specs.Bits.{bits_of}
use Rattle.mlp_unit.specs.Written.{SpellsUnit, unit_size, written_unit}
use Rattle.mlp_unit.proofs.UnitRules.{fits_text}
use Rattle.mlp_substream.specs.Checks.{bytes_of}
use Rattle.mlp_cut.specs.Cut.{unit_bytes}
use Rattle.mlp_unit.specs.Shape.{end_before}
use Rattle.mlp_substream.specs.declared.known.Place.{Place}
use Rattle.mlp_contents.specs.Units.{place_by}
use Rattle.mlp_retime.specs.Top.{highest}
use Rattle.mlp_retime.specs.Stamping.{IsCounted, restamped_from, restamped_body, rewritten}

module _ (input : ℕ) (major told : Option MajorSync) (entries listed : List DirEntry) (body : List ℕ) (c : IsCounted major entries) (small : unit_size major entries body ≤ 8190) (m : told ≡ major) (e : listed ≡ entries) where
  spelled : (out : List ℕ) → bytes_of (bits_of out) ≡ out → SpellsUnit (written_unit input major entries body) out → out ≡ unit_bytes (written_unit input major entries body)
  unfolding unit_bytes
  spelled out own s =
      let unit = s c.first c.count in
      sym own ∙ ap bytes_of (unit.1 ∙ fits_text c.first (written_unit input major entries body) unit.0)

  pub put_bytes : {E : Type 0} (r : Result (Unit {0}) E) (out : List ℕ) → bytes_of (bits_of out) ≡ out → IsErr r ↔ (8190 < unit_size told listed body) → OnOk r (SpellsUnit (written_unit input told listed body) out)
      → out ≡ unit_bytes (written_unit input major entries body)
  put_bytes (Ok done) out own long spells = spelled out own (rw (m, e) at spells)
  put_bytes (Err r) out own long spells = let size : unit_size told listed body ≤ 8190 = rw (m, e) small in absurd (omega (arith, long.0 refl, size))

-- ---- with other output timings

place_some : (first : MajorSync) (major : Option MajorSync) → is_some major ≡ true → place_by (Some first) (Some first) ≡ place_by (Some first) major
place_some first None e = absurd cc
place_some first (Some m) e = refl

pub stamped_unit : (first : MajorSync) (input output n : ℕ) (unit : List ℕ) (o : Outer) (place : Place) (body : List ℕ) → is_some o.major ≡ true → place ≡ place_by (Some first) (Some first) → n ≡ highest (Some first) + 1
    → bytes_of (bits_of body) ≡ body → bits_of body ≡ restamped_from place output unit o 0 n ++ bits_of (drop (o.body + 2 * end_before o.entries.items n) unit)
    → unit_bytes (written_unit input o.major o.entries.items body) ≡ unit_bytes (rewritten first (highest (Some first) + 1) input output unit o)
stamped_unit first input output n unit o place body there p m own text =
    let body_is : body ≡ restamped_body place n output unit o = sym own ∙ ap bytes_of text in
    let whole : restamped_body place n output unit o ≡ restamped_body (place_by (Some first) o.major) (highest (Some first) + 1) output unit o =
    ap (λ (q : Place). restamped_body q n output unit o) (p ∙ place_some first o.major there) ∙ ap (λ (k : ℕ). restamped_body (place_by (Some first) o.major) k output unit o) m in
    let chosen : (if is_some o.major then restamped_body (place_by (Some first) o.major) (highest (Some first) + 1) output unit o else drop o.body unit)
    ≡ restamped_body (place_by (Some first) o.major) (highest (Some first) + 1) output unit o =
    ap (λ (b : Bool). if b then restamped_body (place_by (Some first) o.major) (highest (Some first) + 1) output unit o else drop o.body unit) there in
    ap (λ (xs : List ℕ). unit_bytes (written_unit input o.major o.entries.items xs)) (body_is ∙ whole ∙ sym chosen)
