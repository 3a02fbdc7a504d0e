-- What the laws of units say.
use Rattle.std.specs.Prelude.{◌≡◌, ◌↔◌, ℕ, ◌+◌, ◌*◌, ◌^◌, ◌<◌, ◌≤◌, Bool, List, length, take, Option, None, Ok, All, option_map}
use Rattle.mlp_syntax.specs.declared.fault.Broken.{Broken}
use Rattle.mlp_syntax.specs.declared.major.MajorSync.{MajorSync}
use Rattle.mlp_syntax.specs.declared.unit.DirEntry.{DirEntry}
use Rattle.mlp_layout.specs.Layout.{Layout, Found}
use Rattle.mlp_major.specs.MajorSync.{Alike, smaller}
use Rattle.mlp_unit.specs.AccessUnit.{AccessUnit, access_unit}
use Rattle.mlp_unit.specs.Shape.{end_at, unit_read}
use Rattle.mlp_unit.specs.Written.{MayFollow, Writable, unit_size, written_unit}
use Rattle.mlp_layout.specs.Allowed.{Allowed}
use Rattle.mlp_unit.specs.Extracted.{extracted}

-- two layouts that say the same
pub record SameLayout {A : Type 0} (l m : Layout A) : Type 0 where
  pub spelling : (x : A) → l.spelling x ≡ m.spelling x
  pub fits : (x : A) → l.Fits x ↔ m.Fits x
  pub meets : (x : A) → l.Meets x ↔ m.Meets x
  pub fails : (all : List Bool) (place : ℕ) (e : Broken) → l.Fails all place e ↔ m.Fails all place e
  pub read : (all : List Bool) (place : ℕ) → l.read all place ≡ m.read all place

abbrev pub AreBytes : List ℕ → Type 0
AreBytes bytes = All (λ (b : ℕ). b < 256) bytes

-- a unit with a major sync could be the stream's first one, and the units behind it wouldn't change
pub record CouldBeFirst (first m : MajorSync) (all : List Bool) (u : AccessUnit) : Type 0 where
  pub found : Found (access_unit None) all 0 u
  pub alike : Alike first m

-- what can be written as the next unit
pub record MayBeNext (first : Option MajorSync) (timing : ℕ)
    (major : Option MajorSync) (entries : List DirEntry) (body : List ℕ) : Type 0 where
  pub writable : Writable major entries body
  pub follows : MayFollow first major entries
  pub clock : timing < 2 ^ 16
  pub bytes : AreBytes body
  pub small : unit_size major entries body ≤ 8190

-- these bytes, all of them, are read as this unit
abbrev pub WasRead : Option MajorSync → List ℕ → AccessUnit → Type 0
WasRead first bytes u = unit_read first bytes ≡ Ok (u, 8 * length bytes)

-- it can be written, and is what is written for its timing, major sync, entries and body
pub record IsRewritten (u : AccessUnit) : Type 0 where
  pub writable : Writable u.major u.entries u.body
  pub same : written_unit u.head.timing u.major u.entries u.body ≡ u

-- a unit with another timing, and another body of as many bytes
pub record RewrittenMeets (first : Option MajorSync) (timing : ℕ) (u : AccessUnit) (body : List ℕ) : Type 0 where
  pub writable : Writable u.major u.entries body
  pub allowed : Allowed (access_unit first) (written_unit timing u.major u.entries body)

-- what an extraction of presentation k makes of a unit
pub record FewerMeets (k : ℕ) (first : Option MajorSync) (u : AccessUnit) : Type 0 where
  pub writable : Writable (option_map (smaller k) u.major)
      (take (k + 1) u.entries) (take (2 * end_at u.entries k) u.body)
  pub small : unit_size (option_map (smaller k) u.major)
      (take (k + 1) u.entries) (take (2 * end_at u.entries k) u.body) ≤ 8190
  pub allowed : Allowed (access_unit (option_map (smaller k) first)) (extracted k u)
