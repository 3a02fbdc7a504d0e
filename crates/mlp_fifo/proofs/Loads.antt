-- What has not been output falls as time goes on, and is a sum of the latest lengths.
use Rattle.std.proofs.Common.{◌≡◌, ℕ, zero, suc, ◌+◌, ◌*◌, ◌<◌, ◌≤◌, arith, refl, ap, cond}
use Rattle.std.specs.Prelude.{nat_lt, if◌then◌else◌}
use Rattle.std.proofs.lemmas.Bool.Decides.{nat_tests}
use Rattle.std.proofs.lemmas.Nat.{mul-le}
use Rattle.mlp_fifo.specs.declared.pace.Pace.{Pace}
use Rattle.mlp_fifo.specs.Schedule.{out_of}
use Rattle.mlp_fifo.specs.Load.{sum_from}

-- the bytes of the first n units that have not been output at a time
abbrev pub load : Pace → (ℕ → ℕ) → ℕ → ℕ → ℕ
load p b zero time = 0
load p b (suc n) time = load p b n time + (if nat_lt time (out_of p n) then b n else 0)

-- later units are output later
pub out_up : (p : Pace) (i j : ℕ) → i ≤ j → out_of p i ≤ out_of p j
unfolding out_of
out_up p i j h = mul-le (p.latency + i) p.unit (p.latency + j) p.unit (omega arith) (omega arith)

pub gone_one : (o b x : ℕ) → o ≤ x → cond (nat_lt x o) b 0 ≡ 0
gone_one o b x h = grind (arith, nat_tests)

here : (o b x : ℕ) → x < o → cond (nat_lt x o) b 0 ≡ b
here o b x h = grind (arith, nat_tests)

at_most : (o b x : ℕ) → cond (nat_lt x o) b 0 ≤ b
at_most o b x = grind (arith, nat_tests)

pub falls_one : (o b x y : ℕ) → x ≤ y → cond (nat_lt y o) b 0 ≤ cond (nat_lt x o) b 0
falls_one o b x y h = grind (arith, nat_tests)

-- a later time has no more
pub load_falls : (p : Pace) (b : ℕ → ℕ) (n x y : ℕ) → x ≤ y → load p b n y ≤ load p b n x
load_falls p b zero x y h = omega arith
load_falls p b (suc n) x y h = omega (arith, load_falls p b n x y h, falls_one (out_of p n) (b n) x y h)

pub none_left : (p : Pace) (b : ℕ → ℕ) (k x : ℕ) → ((i : ℕ) → i < k → out_of p i ≤ x) → load p b k x ≡ 0
none_left p b zero x h = refl
none_left p b (suc k) x h = omega (arith, none_left p b k x (λ i l. h i (omega arith)), gone_one (out_of p k) (b k) x (h k (omega arith)))

-- where the first k units have been output, at most the later ones are left
pub load_late : (p : Pace) (b : ℕ → ℕ) (k m x : ℕ) → ((i : ℕ) → i < k → out_of p i ≤ x) → load p b (k + m) x ≤ sum_from b k m
load_late p b k zero x h = let e : k ≡ k + zero = omega arith in let f = ap (λ n. load p b n x) e in omega (arith, f, none_left p b k x h)
load_late p b k (suc m) x h =
    let e : suc (k + m) ≡ k + suc m = omega arith in
    let f = ap (λ n. load p b n x) e in
    omega (arith, f, load_late p b k m x h, at_most (out_of p (k + m)) (b (k + m)) x)

-- before unit k is output, it and all later ones are left
pub load_early : (p : Pace) (b : ℕ → ℕ) (k m x : ℕ) → x < out_of p k → sum_from b k m ≤ load p b (k + m) x
load_early p b k zero x h = omega arith
load_early p b k (suc m) x h =
    let e : suc (k + m) ≡ k + suc m = omega arith in
    let f = ap (λ n. load p b n x) e in
    omega (arith, f, load_early p b k m x h, here (out_of p (k + m)) (b (k + m)) x (omega (arith, out_up p k (k + m) (omega arith))))

-- a sum's first term
pub sum_front : (b : ℕ → ℕ) (k m : ℕ) → sum_from b k (suc m) ≡ b k + sum_from b (suc k) m
sum_front b k zero = let e : k + zero ≡ k = omega arith in omega (arith, ap b e)
sum_front b k (suc m) =
    let e : k + suc m ≡ suc k + m = omega arith in
    omega (arith, sum_front b k m, ap b e)

-- sums of the same terms
pub sum_same : (b c : ℕ → ℕ) (k j m : ℕ) → ((i : ℕ) → i < m → b (k + i) ≡ c (j + i)) → sum_from b k m ≡ sum_from c j m
sum_same b c k j zero h = refl
sum_same b c k j (suc m) h = omega (arith, sum_same b c k j m (λ i l. h i (omega arith)), h m (omega arith))

-- a sum of terms that are at most a bound
pub sum_most : (b : ℕ → ℕ) (most k m : ℕ) → ((i : ℕ) → i < m → b (k + i) ≤ most) → sum_from b k m ≤ m * most
sum_most b most k zero h = omega arith
sum_most b most k (suc m) h =
    let e : suc m * most ≡ m * most + most = grind arith in
    omega (arith, e, sum_most b most k m (λ i l. h i (omega arith)), h m (omega arith))
