-- The restart header is a layout.
use Rattle.std.proofs.Common.{◌≡◌, ℕ, ◌≤◌, Bool, List, length, Result, Ok, Err, OnOk}
use Rattle.mlp_syntax.specs.declared.major.Kind.{Kind}
use Rattle.mlp_syntax.specs.declared.fault.Broken.{Broken}
use Rattle.mlp_bits.specs.Cursor.{Cursor}
use Rattle.mlp_layout.specs.Reading.{Gives}
use Rattle.mlp_layout.specs.Layout.{Layout, IsLayout}
use Rattle.mlp_layout.proofs.LayoutLaws.{is_found}
use Rattle.mlp_layout.proofs.CombinedLaws.{layouts, checked_is, fixed_is}
use Rattle.mlp_layout.specs.Allowed.{Allowed}
use Rattle.mlp_params.specs.RestartHeader.{restart_fields, restart}

pub restart_fields_is : (format : Kind) → IsLayout (restart_fields format)
unfolding restart_fields
restart_fields_is format = fixed_is _ _ _ (search layouts depth 60)

pub restart_is : (format : Kind) → IsLayout (restart format)
unfolding restart
restart_is format = checked_is _ _ _ (restart_fields_is format)

-- what was read fits and meets the rules
pub allowed : {A : Type 0} {l : Layout A} → IsLayout l → (all : List Bool) (p : ℕ) → p ≤ length all → (x : A) (q : ℕ) → l.read all p ≡ Ok (x, q) → Allowed l x
allowed is all p le x q h = let f = is_found is all p le (x, q) h in record { fits = f.0.fits; meets = f.0.meets }

-- .. in place of what was there
pub allowed_in_place : {A : Type 0} {l : Layout A} → IsLayout l → (old new : Cursor) (value : A) → (result : Result (Unit {0}) Broken) → old.place ≤ length old.all
    → Gives (λ _. value) old new result (l.read old.all old.place) → OnOk result (Allowed l value)
allowed_in_place is old new value (Ok done) le g = allowed is old.all old.place le value new.place g.0
allowed_in_place is old new value (Err e) le g = tt
