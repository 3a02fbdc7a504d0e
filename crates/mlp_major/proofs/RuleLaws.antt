-- Rules over a layout: what meets it and them, and which rule fails first.
use Rattle.std.specs.Prelude.{◌&&◌}
use Rattle.std.proofs.Common.{◌≡◌, ℕ, Bool, true, false, List, [], ◌∷◌, Option, Some, None, refl}
use Rattle.mlp_layout.specs.Layout.{Layout, Rule, ruled}
use Rattle.mlp_layout.specs.Combined.{under, first_fault, fault_or}

ruled_meets : {A : Type 0} (rule : Rule A) (l : Layout A) (x : A) → (ruled rule l).Meets x → l.Meets x × (rule.fails x ≡ None)
unfolding ruled
ruled_meets rule l x meets = meets

meets_ruled : {A : Type 0} (rule : Rule A) (l : Layout A) (x : A) → l.Meets x → rule.fails x ≡ None → (ruled rule l).Meets x
unfolding ruled
meets_ruled rule l x meets e = (meets, e)

-- each of these rules holds
abbrev pub Met : {A : Type 0} → List (Rule A) → A → Type 0
Met [] x = Unit {0}
Met (rule ∷ rules) x = (rule.fails x ≡ None) × Met rules x

pub met : {A : Type 0} (rules : List (Rule A)) (l : Layout A) (x : A) → (under rules l).Meets x → l.Meets x × Met rules x
unfolding under
met [] l x meets = (meets, tt)
met (rule ∷ rules) l x meets =
    let later = met rules (ruled rule l) x meets in
    let here = ruled_meets rule l x later.0 in
    (here.0, (here.1, later.1))

pub meets_under : {A : Type 0} (rules : List (Rule A)) (l : Layout A) (x : A) → l.Meets x → Met rules x → (under rules l).Meets x
unfolding under
meets_under [] l x meets met = meets
meets_under (rule ∷ rules) l x meets met = meets_under rules (ruled rule l) x (meets_ruled rule l x meets met.0) met.1

pub first_none : {A : Type 0} (rules : List (Rule A)) (x : A) → Met rules x → first_fault rules x ≡ None
first_none [] x met = refl
first_none (rule ∷ rules) x met = rw met.0 (first_none rules x met.1)

pub none_first : {A : Type 0} (rules : List (Rule A)) (x : A) → first_fault rules x ≡ None → Met rules x
none_first [] x e = tt
none_first (rule ∷ rules) x e = by_case (none_first rules x) (rule.fails x) refl e
  where
    by_case : (first_fault rules x ≡ None → Met rules x) → (o : Option ℕ) → rule.fails x ≡ o → fault_or rule.field o (first_fault rules x) ≡ None → (rule.fails x ≡ None) × Met rules x
    by_case later None is e = (is, later e)
    by_case later (Some at) is e = absurd cc

pub both : (a b : Bool) → (a && b) ≡ true → (a ≡ true) × (b ≡ true)
both true b e = (refl, e)
both false b e = absurd cc
