-- The place of a unit's segments.
use Rattle.std.proofs.Common.{◌≡◌, ℕ, zero, suc, ◌*◌, ◌%◌, ◌^◌, ◌≤◌, leb, eqb, Option, Some, None, arith}
use Rattle.std.specs.Prelude.{IfSome, not}
use Rattle.std.proofs.lemmas.Bool.{leb-true, and_parts}
use Rattle.mlp_syntax.specs.declared.major.MajorSync.{MajorSync}
use Rattle.mlp_major.specs.MajorSync.{rate_of, IsUsable}
use Rattle.mlp_substream.specs.declared.known.Place.{Place}
use Rattle.mlp_substream.specs.Blocks.{IsPlace}
use Rattle.mlp_contents.specs.Units.{frames_in_unit}

doubled : (n : ℕ) → n ≤ 2 → (8 ≤ 40 * 2 ^ n) × (40 * 2 ^ n ≤ 160)
doubled zero le = (omega arith, omega arith)
doubled (suc zero) le = (omega arith, omega arith)
doubled (suc (suc zero)) le = (omega arith, omega arith)
doubled (suc (suc (suc n))) le = absurd (omega arith)

frames_fit : (sync : Option MajorSync) → IfSome sync IsUsable → (8 ≤ frames_in_unit sync) × (frames_in_unit sync ≤ 160)
frames_fit None u = (omega arith, omega arith)
frames_fit (Some m) u =
    let code = rate_of m.format in
    doubled (code % 8) (leb-true _ _ (and_parts (not (eqb code 15)) (leb (code % 8) 2) u.rate).1)

pub place_is : (place : Place) (sync : Option MajorSync) → IfSome sync IsUsable → place.unit_frames ≡ frames_in_unit sync → IsPlace place
place_is place sync u e = let f = frames_fit sync u in record { least = omega (arith, e, f.0); most = omega (arith, e, f.1) }
