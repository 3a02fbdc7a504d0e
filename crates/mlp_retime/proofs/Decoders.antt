-- The decoder before the next unit: that of the highest presentation.
use Rattle.std.proofs.Common.{◌≡◌, ℕ, true, false, Option, Some, None, is_none, refl, sym, ap}
use Rattle.std.specs.Prelude.{is_some, if◌then◌else◌}
use Rattle.mlp_syntax.specs.declared.major.MajorSync.{MajorSync}
use Rattle.mlp_unit.specs.AccessUnit.{AccessUnit, in_force}
use Rattle.mlp_contents.specs.Units.{Unit_of, start, after}
use Rattle.mlp_present.specs.Decoding.{Held, opened, after_unit}
use Rattle.mlp_retime.specs.Top.{highest}

-- by the stream's first major sync before the unit
abbrev pub decoder_by : Option MajorSync → Held → AccessUnit → Held
decoder_by sync held o = if is_none sync then record (opened (highest o.major)) { units = held.units } else held

pub units_by : (sync : Option MajorSync) (held : Held) (o : AccessUnit) → (decoder_by sync held o).units ≡ held.units
units_by None held o = refl
units_by (Some m) held o = refl

pub sync_by : (sync : Option MajorSync) (held : Held) (o : AccessUnit) → held.left.sync ≡ sync → (decoder_by sync held o).left.sync ≡ held.left.sync
sync_by None held o e = sym e
sync_by (Some m) held o e = refl

pub k_by : (sync : Option MajorSync) (held : Held) (o : AccessUnit) → (is_none sync ≡ false → held.k ≡ highest sync) → (decoder_by sync held o).k ≡ highest (in_force sync o.major)
k_by None held o told = refl
k_by (Some m) held o told = told refl

-- what it leaves is what the format leaves
pub left_by : (sync : Option MajorSync) (held : Held) (u : Unit_of) → (is_none sync ≡ false → held.k ≡ highest sync)
    → (after_unit (decoder_by sync held u.outer) u).left ≡ after (highest (in_force sync u.outer.major)) (if is_none sync then start (highest (in_force sync u.outer.major)) else held.left) u
left_by None held u told = refl
left_by (Some m) held u told = ap (λ (k : ℕ). after k held.left u) (told refl)

pub stays_by : (sync : Option MajorSync) (held : Held) (o : AccessUnit) → is_none sync ≡ false → held ≡ decoder_by sync held o
stays_by None held o e = absurd cc
stays_by (Some m) held o e = refl

pub some_none : (sync : Option MajorSync) → is_some sync ≡ true → is_none sync ≡ false
some_none None e = absurd cc
some_none (Some m) e = refl

pub in_force_kept : (sync major : Option MajorSync) → is_none sync ≡ false → in_force sync major ≡ sync
in_force_kept None major e = absurd cc
in_force_kept (Some m) major e = refl
