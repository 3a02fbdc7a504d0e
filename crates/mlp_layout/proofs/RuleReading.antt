-- A value under rules is read, and then the first rule that fails is the fault.
use Rattle.std.proofs.Common.{◌≡◌, ℕ, ◌+◌, Bool, true, false, cond, List, [], ◌∷◌, Option, Some, None, Ok, Err, refl, ap, ◌∙◌}
use Rattle.mlp_syntax.specs.declared.fault.Field.{Field}
use Rattle.mlp_syntax.specs.declared.fault.Broken.{Broken}
use Rattle.mlp_layout.specs.Reading.{Read, broken}
use Rattle.mlp_layout.specs.Layout.{Layout, Rule, ruled}
use Rattle.mlp_layout.specs.Combined.{under, first_fault, fault_or}

-- what a rule that doesn't fail says
pub rule_holds : (b : Bool) (at : ℕ) → cond {A = Option ℕ} b None (Some at) ≡ None → b ≡ true
rule_holds true at e = refl
rule_holds false at e = absurd cc

module _ {A : Type 0} (rule : Rule A) (l : Layout A) (all : List Bool) (p : ℕ) where
  rule_passes : (x : A) (q : ℕ) → l.read all p ≡ Ok (x, q) → rule.fails x ≡ None → (ruled rule l).read all p ≡ Ok (x, q)
  unfolding ruled
  rule_passes x q h e = rw (h, e) refl

  rule_fails : (x : A) (q at : ℕ) → l.read all p ≡ Ok (x, q) → rule.fails x ≡ Some at → (ruled rule l).read all p ≡ Err (broken rule.field (p + at))
  unfolding ruled
  rule_fails x q at h e = rw (h, e) refl

  rule_err : (e : Broken) → l.read all p ≡ Err e → (ruled rule l).read all p ≡ Err e
  unfolding ruled
  rule_err e h = rw h refl

module _ {A : Type 0} (all : List Bool) (p : ℕ) where
  pub under_err : (rules : List (Rule A)) (l : Layout A) (e : Broken) → l.read all p ≡ Err e → (under rules l).read all p ≡ Err e
  unfolding under
  under_err [] l e h = h
  under_err (rule ∷ rules) l e h = under_err rules (ruled rule l) e (rule_err rule l all p e h)

  pub under_ok : (rules : List (Rule A)) (l : Layout A) (x : A) (q : ℕ) → l.read all p ≡ Ok (x, q) → first_fault rules x ≡ None → (under rules l).read all p ≡ Ok (x, q)
  unfolding under
  under_ok [] l x q h ok = h
  under_ok (rule ∷ rules) l x q h ok = by_case (λ e k. under_ok rules (ruled rule l) x q (rule_passes rule l all p x q h e) k) (rule.fails x) refl ok
    where
      by_case : (rule.fails x ≡ None → first_fault rules x ≡ None → (under rules (ruled rule l)).read all p ≡ Ok (x, q)) → (o : Option ℕ)
          → rule.fails x ≡ o → fault_or rule.field o (first_fault rules x) ≡ None → (under rules (ruled rule l)).read all p ≡ Ok (x, q)
      by_case later None e ok = later e ok
      by_case later (Some at) e ok = absurd cc

  pub under_fails : (rules : List (Rule A)) (l : Layout A) (x : A) (q : ℕ) (f : Field) (at : ℕ) → l.read all p ≡ Ok (x, q) → first_fault rules x ≡ Some (f, at) → (under rules l).read all p ≡ Err (broken f (p + at))
  unfolding under
  under_fails [] l x q f at h bad = absurd cc
  under_fails (rule ∷ rules) l x q f at h bad = by_case (λ e k. under_fails rules (ruled rule l) x q f at (rule_passes rule l all p x q h e) k) (rule.fails x) refl bad
    where
      err_at : Field × ℕ → Read A
      err_at b = Err (broken b.0 (p + b.1))

      some_is : (a b : Field × ℕ) → (let o : Option (Field × ℕ) = Some a in o ≡ Some b) → a ≡ b
      some_is a b e = cc

      by_case : (rule.fails x ≡ None → first_fault rules x ≡ Some (f, at) → (under rules (ruled rule l)).read all p ≡ Err (broken f (p + at))) → (o : Option ℕ)
          → rule.fails x ≡ o → fault_or rule.field o (first_fault rules x) ≡ Some (f, at) → (under rules (ruled rule l)).read all p ≡ Err (broken f (p + at))
      by_case later None e bad = later e bad
      by_case later (Some k) e bad = under_err rules (ruled rule l) (broken rule.field (p + k)) (rule_fails rule l all p x q k h e) ∙ ap err_at (some_is (rule.field, k) (f, at) bad)
