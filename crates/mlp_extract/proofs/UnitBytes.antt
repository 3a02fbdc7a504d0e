-- What is written of a unit is what the presentation needs of it.
use Rattle.std.proofs.Common.{◌≡◌, ◌↔◌, ℕ, ◌+◌, ◌*◌, ◌<◌, ◌≤◌, List, length, take, drop, Option, Result, Ok, Err, refl, sym, ap, ◌∙◌, arith}
use Rattle.std.specs.Prelude.{option_map, IsErr, OnOk}
use Rattle.mlp_syntax.specs.declared.major.MajorSync.{MajorSync}
use Rattle.mlp_syntax.specs.declared.unit.DirEntry.{DirEntry}
use Rattle.mlp_syntax.specs.declared.unit.Outer.{Outer}
use Rattle.mlp_bits.specs.Bits.{bits_of}
use Rattle.mlp_layout.specs.Layout.{part, sized, marked, tested}
use Rattle.mlp_layout.proofs.CombinedLaws.{times_count}
use Rattle.mlp_major.specs.MajorSync.{smaller}
use Rattle.mlp_major.proofs.SyncWriting.{under_fits}
use Rattle.mlp_unit.specs.Directory.{directory}
use Rattle.mlp_unit.specs.AccessUnit.{AccessUnit, access_unit, in_force, substreams_of, behind_sync, parts, rules}
use Rattle.mlp_unit.specs.Extracted.{extracted}
use Rattle.mlp_unit.specs.Laws.{FewerMeets}
use Rattle.mlp_unit.specs.Shape.{end_at, unit_with}
use Rattle.mlp_unit.specs.Written.{SpellsUnit, Writable, unit_size, unit_text, written_unit}
use Rattle.mlp_unit.proofs.Fewer.{fewer_meets}
use Rattle.mlp_unit.proofs.UnitRules.{fits_text}
use Rattle.mlp_substream.specs.Checks.{bytes_of}
use Rattle.mlp_cut.specs.Cut.{unit_bytes}
use Rattle.mlp_extract.specs.Extract.{extracted_bytes}
use Rattle.mlp_extract.specs.Extractor.{HasSubstream, HoldsPresentation}

entry_count : (first : Option MajorSync) (u : AccessUnit) → (access_unit first).Fits u → length u.entries ≡ substreams_of (in_force first u.major)
unfolding access_unit parts part sized marked behind_sync tested directory
entry_count first u fits = times_count (substreams_of (in_force first u.major)) _ u.entries (under_fits (rules first) (parts first) u fits).1.0.0.1.0

module _ (k : ℕ) (u : AccessUnit) (h : HasSubstream k u) where
  pub fewer : FewerMeets k h.first u
  fewer = fewer_meets k h.first u h.usable h.allowed h.there

  pub written_bytes : (bytes : List ℕ) → bytes_of (bits_of bytes) ≡ bytes → SpellsUnit (extracted k u) bytes → bytes ≡ extracted_bytes k u
  unfolding unit_bytes
  written_bytes bytes own s =
      let first = option_map (smaller k) h.first in
      let fits = fewer.allowed.fits in
      let text : bits_of bytes ≡ unit_text (extracted k u) = (s first (sym (entry_count first (extracted k u) fits))).1 ∙ fits_text first (extracted k u) fits in
      sym own ∙ ap bytes_of text

-- ---- what is written

module _ (k : ℕ) (bytes : List ℕ) (o : Outer) (w : HoldsPresentation k bytes o) (major : Option MajorSync) (entries : List DirEntry) (body : List ℕ)
    (m : major ≡ option_map (smaller k) o.major) (e : entries ≡ take (k + 1) o.entries.items) (b : body ≡ take (2 * end_at o.entries.items k) (drop o.body bytes)) where
  abbrev meets : FewerMeets k w.has.first (unit_with bytes o)
  meets = fewer k (unit_with bytes o) w.has

  pub put_writable : Writable major entries body
  put_writable = rw (m, e, b) meets.writable

  small : unit_size major entries body ≤ 8190
  small = rw (m, e, b) meets.small

  pub put_bytes : {E : Type 0} (r : Result (Unit {0}) E) (out : List ℕ) → bytes_of (bits_of out) ≡ out → IsErr r ↔ (8190 < unit_size major entries body) → OnOk r (SpellsUnit (written_unit o.head.timing major entries body) out)
      → out ≡ extracted_bytes k (unit_with bytes o)
  put_bytes (Ok done) out own long spells = written_bytes k (unit_with bytes o) w.has out own (rw (m, e, b) at spells)
  put_bytes (Err r) out own long spells = absurd (omega (arith, long.0 refl, small))
