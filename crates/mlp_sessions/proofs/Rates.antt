-- A stream whose units were taken tells a rate.
use Rattle.std.proofs.Common.{ℕ, List, Option, Some, None, refl, sym, ap, subst, ◌∙◌, ◌≡◌, ℤ}
use Rattle.std.specs.Prelude.{IfSome}
use Rattle.mlp_syntax.specs.declared.major.MajorSync.{MajorSync}
use Rattle.mlp_major.specs.MajorSync.{IsUsable}
use Rattle.mlp_unit.specs.AccessUnit.{AccessUnit, in_force}
use Rattle.mlp_unit.specs.Written.{FirstUsable}
use Rattle.mlp_contents.specs.Units.{Left, Unit_of, after}
use Rattle.mlp_present.specs.Decoding.{Held, GivesUnit}

pub in_force_usable : (first major : Option MajorSync) → FirstUsable first → IfSome major IsUsable → FirstUsable (in_force first major)
in_force_usable (Some f) major usable own = usable
in_force_usable None None usable own = tt
in_force_usable None (Some m) usable own = own

sync_behind : (k : ℕ) (left : Left) (u : Unit_of) → (after k left u).sync ≡ in_force left.sync u.outer.major
unfolding after
sync_behind k left u = refl

-- behind a unit that is given
pub usable_behind : (held new : Held) (next : List ℕ) (size : ℕ) (frames : List (List ℤ)) → GivesUnit held next size frames new → FirstUsable held.left.sync → FirstUsable new.left.sync
usable_behind held new next size frames g usable =
    let major = ap (λ (o : AccessUnit). o.major) g.outer_is in
    let own = subst (λ (m : Option MajorSync). IfSome m IsUsable) (sym major) g.has_outer.usable in
    let same = ap (λ (h : Held). h.left.sync) g.held_is ∙ sync_behind held.k held.left g.unit in
    subst FirstUsable (sym same) (in_force_usable held.left.sync g.unit.outer.major usable own)
