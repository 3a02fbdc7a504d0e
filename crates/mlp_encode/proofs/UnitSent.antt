-- A unit that is written, placed and sent.
use Rattle.std.proofs.Common.{◌≡◌, ℕ, ◌%◌, ◌^◌, ◌<◌, ◌≤◌, Bool, List, length, Option, Some, Result, refl, sym, ap, ◌∙◌, subst, arith}
use Rattle.std.specs.Prelude.{◌↔◌, OnOk, IsErr}
use Rattle.mlp_syntax.specs.declared.major.MajorSync.{MajorSync}
use Rattle.mlp_syntax.specs.declared.unit.DirEntry.{DirEntry}
use Rattle.mlp_bits.specs.Bits.{bits_of}
use Rattle.mlp_substream.specs.Checks.{bytes_of}
use Rattle.mlp_unit.specs.AccessUnit.{in_force}
use Rattle.mlp_unit.specs.AccessUnit.{substreams_of as told_of}
use Rattle.mlp_unit.specs.Written.{SpellsUnit, unit_size, written_unit}
use Rattle.mlp_unit.proofs.UnitRules.{fits_text}
use Rattle.mlp_syntax.specs.declared.major.Kind.TheVariants.{Fba}
use Rattle.mlp_fold.specs.declared.profile.Mix.TheVariants.{Split}
use Rattle.mlp_encode.specs.Sync.{sync_of}
use Rattle.mlp_encode.specs.Unit.{Body, body_size, unit_bytes}
use Rattle.mlp_encode.proofs.SentLength.{ok_is}

-- some first major sync of so many substreams
first_of : ℕ → MajorSync
first_of n = record (sync_of (record { kind = Fba; rate = 48000; channels = 2; depth = 16; mix = Split })) { substreams = n }

as_many : (major : Option MajorSync) (n : ℕ) → told_of (in_force (Some (first_of n)) major) ≡ n
unfolding first_of
as_many major n = refl

module _ (time : ℕ) (body : Body) (out : List ℕ) (small : body_size body ≤ 8190) (own : bytes_of (bits_of out) ≡ out) where
  spelled : SpellsUnit (written_unit (time % 2 ^ 16) body.major body.entries body.bytes) out → out ≡ unit_bytes time body
  spelled s =
      let is = s (Some (first_of (length body.entries))) (as_many body.major (length body.entries)) in
      sym own ∙ ap (λ (bits : List Bool). bytes_of bits) (is.1 ∙ fits_text (Some (first_of (length body.entries))) (written_unit (time % 2 ^ 16) body.major body.entries body.bytes) is.0)

  abbrev Writes : {E : Type 0} → Result (Unit {0}) E → List DirEntry → List ℕ → Type 0
  Writes r entries bytes = (IsErr r ↔ (8190 < unit_size body.major entries bytes)) × OnOk r (SpellsUnit (written_unit (time % 2 ^ 16) body.major entries bytes) out)

  by_parts : {E : Type 0} (r : Result (Unit {0}) E) → Writes r body.entries body.bytes → out ≡ unit_bytes time body
  by_parts r h = spelled (ok_is r (SpellsUnit (written_unit (time % 2 ^ 16) body.major body.entries body.bytes) out) (λ e. let lt = h.0.0 e in omega (arith, lt, small)) h.1)

  pub written_bytes : {E : Type 0} (r : Result (Unit {0}) E) (entries : List DirEntry) (bytes : List ℕ) → entries ≡ body.entries → bytes ≡ body.bytes → IsErr r ↔ (8190 < unit_size body.major entries bytes)
      → OnOk r (SpellsUnit (written_unit (time % 2 ^ 16) body.major entries bytes) out) → out ≡ unit_bytes time body
  written_bytes r entries bytes e b long h = by_parts r (subst (λ (es : List DirEntry). Writes r es body.bytes) e (subst (λ (bs : List ℕ). Writes r entries bs) b (long, h)))
