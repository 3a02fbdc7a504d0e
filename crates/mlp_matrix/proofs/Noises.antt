-- Frames with their noise, one more, and what holds of all.
use Rattle.std.proofs.Common.{◌≡◌, ℕ, zero, suc, ◌+◌, ◌*◌, ◌<◌, ◌≤◌, ◌^◌, List, [], ◌∷◌, ◌++◌, length, take, drop, get_or, ◌%◌, ℤ, pos, ◌*ℤ◌, FitsSigned, w8, w32, to_z, of_z, arith, refl, sym, ◌∙◌, ap, append_assoc}
use Rattle.std.proofs.Math.ListN.{set}
use Rattle.std.proofs.Math.Seq.{drop-cons}
use Rattle.std.proofs.lemmas.List.{take_more_set, drop-set-lt}
use Rattle.std.proofs.Math.Nat.{mul-le-mul}
use Rattle.std.proofs.Math.Pow.{pow-lt}
use Rattle.std.proofs.lemmas.Int.{ints, unsigned_abs-mul, wrapping_mul_is, int_wrap_fits}
use Rattle.std.specs.Prelude.{unsigned_abs}
use Rattle.mlp_matrix.specs.Noise.{noise_of, noise_values, next_seed, seed_at, noisy, noisy_each, AreNoisy}

-- a noise value shifted by the code
pub shifted_is : (v z : ℤ) (q : ℕ) → FitsSigned w8 v → z ≡ v → q < 16 → to_z w32 (of_z w32 z * 2 ^ q % 4294967296) ≡ v *ℤ pos (2 ^ q)
shifted_is v z q f is l =
    let p : 2 ^ q < 2 ^ 16 = pow-lt l in
    let g : FitsSigned w32 v = omega (arith, ints, f) in
    let small : unsigned_abs v ≤ 128 = omega (arith, ints, f) in
    let few : 2 ^ q ≤ 65536 = omega arith in
    let m : unsigned_abs v * 2 ^ q ≤ 128 * 65536 = mul-le-mul small few in
    let e : unsigned_abs (v *ℤ pos (2 ^ q)) ≡ unsigned_abs v * 2 ^ q = unsigned_abs-mul v (pos (2 ^ q)) in
    let fits : FitsSigned w32 (v *ℤ pos (2 ^ q)) = omega (arith, ints, m, e) in
    ap (λ x. to_z w32 (of_z w32 x * 2 ^ q % 4294967296)) is
    ∙ wrapping_mul_is w32 v (pos (2 ^ q)) g (omega (arith, ints))
    ∙ int_wrap_fits w32 (v *ℤ pos (2 ^ q)) fits

-- two values set are the noise behind the channels
set_both : (i : ℕ) (frame : List ℤ) (a b : ℤ) → suc i < length frame → set (set frame i a) (suc i) b ≡ take i frame ++ a ∷ b ∷ drop (suc (suc i)) frame
set_both i [] a b h = absurd (omega arith)
set_both zero (x ∷ []) a b h = absurd (omega arith)
set_both zero (x ∷ y ∷ frame) a b h = refl
set_both (suc i) (x ∷ frame) a b h = ap (λ ys. x ∷ ys) (set_both i frame a b (omega arith))

pub set_two : (i : ℕ) (frame : List ℤ) (a b : ℤ) → i + 1 < length frame → set (set frame i a) (i + 1) b ≡ take i frame ++ a ∷ b ∷ drop (i + 2) frame
set_two i frame a b h =
    ap (λ (j : ℕ). set (set frame i a) j b) (let e : i + 1 ≡ suc i = omega arith in e)
    ∙ set_both i frame a b (omega arith)
    ∙ ap (λ (j : ℕ). take i frame ++ a ∷ b ∷ drop j frame) (let e : suc (suc i) ≡ i + 2 = omega arith in e)

pub put_is : (shift channels seed place : ℕ) (frame : List ℤ) (a b : ℤ) → length frame ≡ 10 → channels ≤ 8 → place ≡ channels →
    a ≡ (noise_of seed).0 *ℤ pos (2 ^ shift) → b ≡ (noise_of seed).1 *ℤ pos (2 ^ shift) →
    set (set frame place a) (place + 1) b ≡ noisy shift channels seed frame
put_is shift channels seed place frame a b n few is first second =
    ap (λ (p : ℕ). set (set frame p a) (p + 1) b) is
    ∙ set_two channels frame a b (omega arith)
    ∙ ap (λ x. take channels frame ++ x ∷ b ∷ drop (channels + 2) frame) first
    ∙ ap (λ x. take channels frame ++ ((noise_of seed).0 *ℤ pos (2 ^ shift)) ∷ x ∷ drop (channels + 2) frame) second
    ∙ sym (append_assoc (take channels frame) (noise_values shift seed) (drop (channels + 2) frame))

-- the seeds: first steps first
pub seed_at-next : (seed n : ℕ) → seed_at (next_seed seed) n ≡ seed_at seed (suc n)
seed_at-next seed zero = refl
seed_at-next seed (suc n) = ap next_seed (seed_at-next seed n)

pub seed_at-join : (seed m n : ℕ) → seed_at (seed_at seed m) n ≡ seed_at seed (m + n)
seed_at-join seed m zero = ap (seed_at seed) (let e : m ≡ m + 0 = omega arith in e)
seed_at-join seed m (suc n) = ap next_seed (seed_at-join seed m n) ∙ ap (seed_at seed) (let e : suc (m + n) ≡ m + suc n = omega arith in e)

pub seed_at-zero : (n : ℕ) → seed_at 0 n ≡ 0
seed_at-zero zero = refl
seed_at-zero (suc n) = ap next_seed (seed_at-zero n)

-- a seed of 0 gives no noise
pub noise_values-zero : (shift : ℕ) → noise_values shift 0 ≡ pos 0 ∷ pos 0 ∷ []
noise_values-zero shift =
    let none : pos 0 *ℤ pos (2 ^ shift) ≡ pos 0 = omega (arith, ints) in
    ap (λ z. z ∷ z ∷ []) none

-- frame i has the noise of the seed i frames on
pub noisy_each-at : (shift channels seed : ℕ) (frames : List (List ℤ)) → AreNoisy shift channels seed frames
noisy_each-at shift channels seed [] i h = absurd (omega arith)
noisy_each-at shift channels seed (frame ∷ frames) zero h = refl
noisy_each-at shift channels seed (frame ∷ frames) (suc i) h =
    noisy_each-at shift channels (next_seed seed) frames i (omega arith)
    ∙ ap (λ (s : ℕ). noisy shift channels s (get_or frames i [])) (seed_at-next seed i)

-- what `put_each` keeps: the first frames have their noise, the others are to come
pub record Placed (shift channels first : ℕ) (all : List (List ℤ)) (i seed : ℕ) (frames : List (List ℤ)) : Type 0 where
  pub done : take i frames ++ noisy_each shift channels seed (drop i frames) ≡ noisy_each shift channels first all
  pub seeds : seed ≡ seed_at first i
  pub small : seed < 2 ^ 23

-- one frame more
pub put_step : (shift channels first i seed next : ℕ) (all frames : List (List ℤ)) (frame : List ℤ) →
    i < length frames → frame ≡ noisy shift channels seed (get_or frames i []) → next ≡ next_seed seed → next < 2 ^ 23 →
    Placed shift channels first all i seed frames → Placed shift channels first all (i + 1) next (set frames i frame)
put_step shift channels first i seed next all frames frame h is to small p =
    let later : List (List ℤ) = noisy_each shift channels (next_seed seed) (drop (suc i) frames) in
    let rest : noisy_each shift channels next (drop (i + 1) (set frames i frame)) ≡ later =
    ap (noisy_each shift channels next) (drop-set-lt (i + 1) frames i frame (omega arith))
    ∙ ap (λ (n : ℕ). noisy_each shift channels n (drop (i + 1) frames)) to
    ∙ ap (λ (j : ℕ). noisy_each shift channels (next_seed seed) (drop j frames)) (let e : i + 1 ≡ suc i = omega arith in e) in
    let here : noisy_each shift channels seed (drop i frames) ≡ frame ∷ later =
    ap (noisy_each shift channels seed) (drop-cons frames i [] h) ∙ ap (λ f. f ∷ later) (sym is) in
    record {
      done =
          ap (λ front. front ++ noisy_each shift channels next (drop (i + 1) (set frames i frame))) (take_more_set frames i frame h)
          ∙ ap (λ more. (take i frames ++ frame ∷ []) ++ more) rest
          ∙ append_assoc (take i frames) (frame ∷ []) later
          ∙ ap (λ more. take i frames ++ more) (sym here)
          ∙ p.done;
      seeds = to ∙ ap next_seed p.seeds ∙ ap (seed_at first) (let e : suc i ≡ i + 1 = omega arith in e);
      small = small;
    }
