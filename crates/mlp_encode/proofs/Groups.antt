-- Groups and lists of values that may be written.
use Rattle.std.proofs.Common.{◌≡◌, ℕ, zero, suc, ◌+◌, ◌<◌, Bool, true, false, cond, List, [], ◌∷◌, drop, map, length, get_or, Option, Some, None, refl, sym, subst, arith}
use Rattle.std.specs.List.{range_with_len}
use Rattle.std.proofs.lemmas.List.{drop_more, drop_all}
use Rattle.mlp_layout.specs.Layout.{Layout, number_of, seen, part, made, item}
use Rattle.mlp_layout.specs.Combined.{flag, chosen, present, group, each}
use Rattle.mlp_layout.specs.Allowed.{Allowed}

pub none_allowed : {A : Type 0} (l : Layout A) → Allowed (group true l) None
unfolding group chosen part present made flag seen number_of
none_allowed l = record { fits = ((omega arith, refl), refl); meets = (tt, tt) }

pub some_allowed : {A : Type 0} (l : Layout A) (x : A) → Allowed l x → Allowed (group true l) (Some x)
unfolding group chosen part present made flag seen number_of
some_allowed l x a = record { fits = ((omega arith, refl), (a.fits, refl)); meets = (tt, a.meets) }

pub holds : (b : Bool) → b ≡ true → cond {A = Option ℕ} b None (Some 0) ≡ None
holds true e = refl
holds false e = absurd cc

-- a value for each item of a list from one on
pub each_over : {S A : Type 0} (l : S → Layout A) (all : List S) (d : S) (f : ℕ → A) (a n : ℕ) → a + n ≡ length all → ((i : ℕ) → i < length all → Allowed (l (get_or all i d)) (f i))
    → Allowed (each l (drop a all)) (map f (range_with_len a n))
unfolding each item made
each_over {S} l all d f a zero e h = subst (λ (ss : List S). Allowed (each l ss) []) (sym (drop_all a all (omega (arith, e)))) (record { fits = refl; meets = tt })
each_over {S} l all d f a (suc n) e h =
    let lt : a < length all = omega (arith, e) in
    let first = h a lt in
    let rest = each_over l all d f (a + 1) n (omega (arith, e)) h in
    subst (λ (ss : List S). Allowed (each l ss) (f a ∷ map f (range_with_len (a + 1) n))) (sym (drop_more all a d lt)) (record { fits = (first.fits, rest.fits); meets = (first.meets, rest.meets) })
