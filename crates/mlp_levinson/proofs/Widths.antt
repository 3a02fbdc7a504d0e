-- Shifts and widths: the tests that compute, and what they say.
use Rattle.std.proofs.Common.{◌≡◌, ℕ, zero, suc, ◌-◌, ◌<◌, ◌≤◌, ◌^◌, List, [], ◌∷◌, ℤ, pos, negsuc, Bool, true, false, arith, refl, sym, ◌∙◌, ap, subst}
use Rattle.std.specs.Prelude.{All, map, if◌then◌else◌}
use Rattle.std.specs.List.{list_all}
use Rattle.std.proofs.Common.{inl, inr}
use Rattle.std.proofs.Math.Nat.{pow-le-pow_right}
use Rattle.std.proofs.lemmas.Int.{ints}
use Rattle.std.proofs.lemmas.Bool.Decides.{eqb_tells, leb_tells}
use Rattle.std.proofs.lemmas.Bool.{ltb-true, lt-ltb, and_parts, and_from}
use Rattle.std.proofs.lemmas.List.Folds.{list_all-map}
use Rattle.std.proofs.lemmas.List.Elements.{All-cons}
use Rattle.mlp_levinson.specs.Computed.{has_bits, rounded, serves, greatest_shift, fewest_bits}
use Rattle.mlp_levinson.specs.Best.{HasBits, IsGreatestShift, IsLeastWidth}

-- ---- one number, and all

bits_from : (w : ℕ) (c : ℤ) → has_bits w c ≡ true → HasBits w c
bits_from w (pos n) e = let h : n < 2 ^ (w - 1) = ltb-true n (2 ^ (w - 1)) e in record { low = omega (arith, ints); high = omega (arith, ints, h) }
bits_from w (negsuc n) e = let h : n < 2 ^ (w - 1) = ltb-true n (2 ^ (w - 1)) e in record { low = omega (arith, ints, h); high = omega (arith, ints) }

bits_to : (w : ℕ) (c : ℤ) → HasBits w c → has_bits w c ≡ true
bits_to w (pos n) h = lt-ltb n (2 ^ (w - 1)) (omega (arith, ints, h.high))
bits_to w (negsuc n) h = lt-ltb n (2 ^ (w - 1)) (omega (arith, ints, h.low))

pub all_from : (w : ℕ) (cs : List ℤ) → list_all (has_bits w) cs ≡ true → All (HasBits w) cs
all_from w [] e = λ i d h. absurd (omega arith)
all_from w (c ∷ cs) e =
    let p = and_parts (has_bits w c) (list_all (has_bits w) cs) e in
    All-cons (HasBits w) c cs (bits_from w c p.0) (all_from w cs p.1)

pub all_to : (w : ℕ) (cs : List ℤ) → All (HasBits w) cs → list_all (has_bits w) cs ≡ true
all_to w [] h = refl
all_to w (c ∷ cs) h =
    and_from (has_bits w c) (list_all (has_bits w) cs) (bits_to w c (h 0 c (omega arith))) (all_to w cs (λ i d l. h (suc i) d (omega arith)))

-- more bits serve too
pub all_more : (v w : ℕ) (cs : List ℤ) → v ≤ w → All (HasBits v) cs → All (HasBits w) cs
all_more v w cs l h = λ i d n.
    let p : 2 ^ (v - 1) ≤ 2 ^ (w - 1) = let m : v - 1 ≤ w - 1 = omega arith in pow-le-pow_right (omega arith) m in
    let b = h i d n in
    record { low = omega (arith, ints, b.low, p); high = omega (arith, ints, b.high, p) }

not_both : (b : Bool) → b ≡ true → b ≡ false → ⊥
not_both true p q = cc
not_both false p q = cc

-- ---- the greatest shift

-- what is found from n down, where 0 serves
record Found (n : ℕ) (ps : List ℤ) (s : ℕ) : Type 0 where
  most : s ≤ n
  fits : serves s ps ≡ true
  none : (t : ℕ) → s < t → t ≤ n → serves t ps ≡ false

found : (n : ℕ) (ps : List ℤ) → serves 0 ps ≡ true → Found n ps (greatest_shift n ps)
found zero ps e = record { most = omega arith; fits = e; none = λ t l m. absurd (omega arith) }
found (suc n) ps e = pick (serves (suc n) ps) refl (found n ps e)
  where
    pick : (b : Bool) → serves (suc n) ps ≡ b → Found n ps (greatest_shift n ps) → Found (suc n) ps (if b then suc n else greatest_shift n ps)
    pick true here below = record { most = omega arith; fits = here; none = λ t l m. absurd (omega arith) }
    pick false here below =
        let P : ℕ → Type 0 = λ t. serves t ps ≡ false in
        record {
          most = omega (arith, below.most);
          fits = below.fits;
          none = λ t l m. elim (eqb_tells t (suc n)) [
            | inl is ↦ subst P (sym is.1) here
            | inr other ↦ below.none t l (omega (arith, other.1))
          ];
        }

pub greatest : (ps : List ℤ) → serves 0 ps ≡ true → IsGreatestShift ps (greatest_shift 15 ps)
greatest ps e =
    let f : Found 15 ps (greatest_shift 15 ps) = found 15 ps e in
    record {
      most = f.most;
      fits = all_from 16 (map (rounded (greatest_shift 15 ps)) ps) (list_all-map (has_bits 16) (rounded (greatest_shift 15 ps)) ps ∙ f.fits);
      greatest = λ t l m h. not_both (serves t ps) (sym (list_all-map (has_bits 16) (rounded t) ps) ∙ all_to 16 (map (rounded t) ps) h) (f.none t l m);
    }

-- ---- the least width

pub least : (w : ℕ) (cs : List ℤ) → All (HasBits w) cs → IsLeastWidth cs (fewest_bits w cs)
least zero cs h = record { some = omega arith; holds = all_more 0 1 cs (omega arith) h; least = λ v l g. l }
least (suc w) cs h = pick (list_all (has_bits w) cs) refl (λ below. least w cs below)
  where
    pick : (b : Bool) → list_all (has_bits w) cs ≡ b → (All (HasBits w) cs → IsLeastWidth cs (fewest_bits w cs)) → IsLeastWidth cs (if b then fewest_bits w cs else suc w)
    pick true here rest = rest (all_from w cs here)
    pick false here rest = record {
      some = omega arith;
      holds = h;
      least = λ v l g. elim (leb_tells v w) [
        | inl less ↦ absurd (not_both (list_all (has_bits w) cs) (all_to w cs (all_more v w cs less.1 g)) here)
        | inr more ↦ omega (arith, more.1)
      ];
    }

-- one width less serves
pub width_below : (n : ℕ) (cs : List ℤ) → 0 < n → list_all (has_bits (n - 1)) cs ≡ true → fewest_bits n cs ≡ fewest_bits (n - 1) cs
width_below zero cs l e = absurd (omega arith)
width_below (suc n) cs l e =
    let k : n ≡ suc n - 1 = omega arith in
    ap (λ b. if b then fewest_bits n cs else suc n) (ap (λ (m : ℕ). list_all (has_bits m) cs) k ∙ e) ∙ ap (λ (m : ℕ). fewest_bits m cs) k
