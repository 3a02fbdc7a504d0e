-- What comes out of a list of units, one after the other.
use Rattle.std.proofs.Common.{◌≡◌, ℕ, zero, suc, ◌+◌, ◌<◌, ◌≤◌, ◌==◌, not, ◌&&◌, cond, leb, ltb, eqb, Bool, true, false, List, [], ◌∷◌, ◌++◌, length, take, drop, Result, Ok, Err, refl, sym, ap, subst, arith, length-append}
use Rattle.std.specs.Prelude.{is_none}
use Rattle.std.specs.List.{flat_map}
use Rattle.std.proofs.lemmas.Bool.{le-leb, lt-leb, lt-ltb, le-ltb, eq-eqb, ne_eqb}
use Rattle.std.proofs.lemmas.List.Concat.{flat_map-cons}
use Rattle.mlp_stream.specs.declared.refusal.Refusal.{Refusal}
use Rattle.mlp_stream.specs.declared.refusal.Refusal.TheVariants.{NoRestart}
use Rattle.mlp_answers.specs.Answers.{Gives}
use Rattle.mlp_cut.specs.Cut.{unit_bytes, cut, piece, lacks_restart, lacks_sync}
use Rattle.mlp_cut.specs.Cutting.{OuterUnit, cutting}

abbrev bytes_at : OuterUnit → List ℕ
bytes_at u = unit_bytes u.outer

abbrev ok_of : List ℕ → Result (List ℕ) Refusal
ok_of xs = Ok xs

module _ (f c : ℕ) where
  -- of units from unit n on
  abbrev pub joined : ℕ → List OuterUnit → List ℕ
  joined n [] = []
  joined n (u ∷ us) = piece f c n (unit_bytes u.outer) ++ joined (n + 1) us

  -- ---- one unit

  in_it : (n : ℕ) (bytes : List ℕ) → f ≤ n → n < f + c → piece f c n bytes ≡ bytes
  in_it n bytes low high =
      let a : leb f n ≡ true = le-leb f n low in
      let b : ltb n (f + c) ≡ true = lt-ltb n (f + c) high in
      rw (a, b) refl

  ahead : (n : ℕ) (bytes : List ℕ) → n < f → piece f c n bytes ≡ []
  ahead n bytes low = let a : leb f n ≡ false = lt-leb f n low in rw a refl

  at_false : (b : Bool) (bytes : List ℕ) → cond (b && false) bytes [] ≡ []
  at_false true bytes = refl
  at_false false bytes = refl

  past : (n : ℕ) (bytes : List ℕ) → f + c ≤ n → piece f c n bytes ≡ []
  past n bytes high = let b : ltb n (f + c) ≡ false = le-ltb n (f + c) high in rw b (at_false (leb f n) bytes)

  -- ---- several

  joined_ahead : (n : ℕ) (us : List OuterUnit) → n + length us ≤ f → joined n us ≡ []
  joined_ahead n [] h = refl
  joined_ahead n (u ∷ us) h = rw (ahead n (unit_bytes u.outer) (omega arith)) (joined_ahead (n + 1) us (omega arith))

  joined_past : (n : ℕ) (us : List OuterUnit) → f + c ≤ n → joined n us ≡ []
  joined_past n [] h = refl
  joined_past n (u ∷ us) h = rw (past n (unit_bytes u.outer) h) (joined_past (n + 1) us (omega arith))

  joined_in : (n k : ℕ) (us : List OuterUnit) → f ≤ n → n + k ≡ f + c → joined n us ≡ flat_map bytes_at (take k us)
  joined_in n zero us low e = joined_past n us (omega arith)
  joined_in n (suc k) [] low e = refl
  joined_in n (suc k) (u ∷ us) low e =
      rw (in_it n (unit_bytes u.outer) low (omega arith), flat_map-cons bytes_at u (take k us)) (ap (λ (xs : List ℕ). unit_bytes u.outer ++ xs) (joined_in (n + 1) k us (omega arith) (omega arith)))

  none_taken : (k : ℕ) → flat_map bytes_at (take k []) ≡ []
  none_taken zero = refl
  none_taken (suc k) = refl

  joined_from : (n j : ℕ) (us : List OuterUnit) → n + j ≡ f → joined n us ≡ cut j c us
  joined_from n zero us e = joined_in n c us (omega arith) (omega arith)
  joined_from n (suc j) [] e = sym (none_taken c)
  joined_from n (suc j) (u ∷ us) e = rw (ahead n (unit_bytes u.outer) (omega arith)) (joined_from (n + 1) j us (omega arith))

  -- ---- no unit refuses

  -- from unit n on none lacks a major sync that it needs
  abbrev pub Free : ℕ → List OuterUnit → Type 0
  Free n [] = Unit {0}
  Free n (u ∷ us) = (lacks_restart f c n u.outer.major ≡ false) × Free (n + 1) us

  other : (n : ℕ) (u : OuterUnit) → (n ≡ f → ⊥) → lacks_restart f c n u.outer.major ≡ false
  other n u ne = let a : eqb n f ≡ false = ne_eqb n f ne in rw a refl

  free_ahead : (n : ℕ) (us : List OuterUnit) → n + length us ≤ f → Free n us
  free_ahead n [] h = tt
  free_ahead n (u ∷ us) h = (other n u (λ e. omega arith), free_ahead (n + 1) us (omega arith))

  free_past : (n : ℕ) (us : List OuterUnit) → f < n → Free n us
  free_past n [] h = tt
  free_past n (u ∷ us) h = (other n u (λ e. omega arith), free_past (n + 1) us (omega arith))

  free_from : (n j : ℕ) (us : List OuterUnit) → n + j ≡ f → lacks_sync c (drop j us) ≡ false → Free n us
  free_from n j [] e h = tt
  free_from n zero (u ∷ us) e h =
      let a : eqb n f ≡ true = eq-eqb n f (omega arith) in
      (rw a h, free_past (n + 1) us (omega arith))
  free_from n (suc j) (u ∷ us) e h = (other n u (λ same. omega arith), free_from (n + 1) j us (omega arith) h)

  -- so each gives its piece
  out_is : (before : List OuterUnit) (u : OuterUnit) → lacks_restart f c (length before) u.outer.major ≡ false → (cutting f c).out before u ≡ Ok (piece f c (length before) (unit_bytes u.outer))
  out_is before u h = ap (λ (b : Bool). cond b (Err (NoRestart f)) (ok_of (piece f c (length before) (unit_bytes u.outer)))) h

  one_more : (before : List OuterUnit) (u : OuterUnit) → length (before ++ u ∷ []) ≡ length before + 1
  one_more before u = omega (arith, length-append before (u ∷ []))

  pub gives_joined : (before us : List OuterUnit) → Free (length before) us → Gives (cutting f c) before us (joined (length before) us)
  unfolding Gives
  gives_joined before [] h = refl
  gives_joined before (u ∷ us) h =
      let n = length before in
      let later : Gives (cutting f c) (before ++ u ∷ []) us (joined (n + 1) us) =
      subst (λ (m : ℕ). Free m us → Gives (cutting f c) (before ++ u ∷ []) us (joined m us)) (one_more before u) (gives_joined (before ++ u ∷ []) us) h.1 in
      (piece f c n (unit_bytes u.outer), joined (n + 1) us, out_is before u h.0, later, refl)

  -- all units of the cut, where it can begin
  pub gives_cut : (us : List OuterUnit) → lacks_sync c (drop f us) ≡ false → Gives (cutting f c) [] us (cut f c us)
  gives_cut us h = subst (Gives (cutting f c) [] us) (joined_from 0 f us (omega arith)) (gives_joined [] us (free_from 0 f us (omega arith) h))

  -- nothing before it
  pub gives_none : (us : List OuterUnit) → length us ≤ f → Gives (cutting f c) [] us []
  gives_none us h = subst (Gives (cutting f c) [] us) (joined_ahead 0 us (omega arith)) (gives_joined [] us (free_ahead 0 us (omega arith)))

  -- the unit at which it can't begin refuses
  pub out_refuses : (before : List OuterUnit) (u : OuterUnit) → length before ≡ f → (not (c == 0) && is_none u.outer.major) ≡ true → (cutting f c).out before u ≡ Err (NoRestart f)
  out_refuses before u at h =
      let a : eqb (length before) f ≡ true = eq-eqb (length before) f at in
      let b : lacks_restart f c (length before) u.outer.major ≡ true = rw a h in
      ap (λ (t : Bool). cond t (Err (NoRestart f)) (ok_of (piece f c (length before) (unit_bytes u.outer)))) b
