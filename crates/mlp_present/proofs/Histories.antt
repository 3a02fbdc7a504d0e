-- What a decoder holds behind units.
use Rattle.std.proofs.Common.{◌≡◌, ℕ, ◌+◌, List, [], ◌∷◌, ◌++◌, length, None, refl, arith}
use Rattle.mlp_layout.specs.Streams.{left_after}
use Rattle.mlp_contents.specs.Units.{Unit_of, whole}
use Rattle.mlp_present.specs.Decoding.{Held, opened, after_unit, after_units}
use Rattle.mlp_present.specs.Laws.{HoldsUnits, GoesOn}

record From (held : Held) (us : List Unit_of) (behind : Held) : Type 0 where
  k_is : behind.k ≡ held.k
  units_are : behind.units ≡ held.units + length us
  left_is : behind.left ≡ left_after (whole held.k) held.left us
  refusal_is : held.refusal ≡ None → behind.refusal ≡ None

from_held : (held : Held) (us : List Unit_of) → From held us (after_units held us)
unfolding after_units
from_held held [] = record { k_is = refl; units_are = omega arith; left_is = refl; refusal_is = λ e. e }
from_held held (u ∷ us) =
    let later = from_held (after_unit held u) us in
    record { k_is = later.k_is; units_are = omega (arith, later.units_are); left_is = later.left_is; refusal_is = λ e. later.refusal_is refl }

pub holds_units : (k : ℕ) (us : List Unit_of) → HoldsUnits k us (after_units (opened k) us)
holds_units k us =
    let f = from_held (opened k) us in
    record { k_is = f.k_is; units_are = omega (arith, f.units_are); left_is = f.left_is; none_refused = f.refusal_is refl }

one_more : (held : Held) (us : List Unit_of) (u : Unit_of) → after_units held (us ++ u ∷ []) ≡ after_unit (after_units held us) u
unfolding after_units
one_more held [] u = refl
one_more held (v ∷ us) u = one_more (after_unit held v) us u

pub goes_on : (k : ℕ) (us : List Unit_of) (u : Unit_of) → GoesOn k us u
goes_on k us u = one_more (opened k) us u
