-- Lengths by their number, of which the latest are a list.
use Rattle.std.proofs.Common.{◌≡◌, ℕ, suc, ◌+◌, ◌-◌, ◌<◌, ◌≤◌, List, [], ◌∷◌, ◌++◌, length, get_or, cond, arith, sym, ◌∙◌, ap}
use Rattle.std.specs.Prelude.{nat_lt}
use Rattle.std.proofs.Math.Decide.{dec_lt}
use Rattle.std.proofs.lemmas.List.{get_or_append_left, get_or_push, length_push}
use Rattle.mlp_fifo.specs.declared.pace.Pace.{Pace}
use Rattle.mlp_fifo.specs.Schedule.{out_of}
use Rattle.mlp_fifo.specs.Placed.{load_from, latest_load}
use Rattle.mlp_fifo.proofs.Loads.{load, none_left}

abbrev pub index : List ℕ → ℕ → ℕ
index xs i = get_or xs i 0

-- the latest lengths are those of the units before unit n, of b bytes each
abbrev pub Shows : (ℕ → ℕ) → List ℕ → ℕ → Type 0
Shows b latest n = (i : ℕ) → i < length latest → index latest i ≡ b (n - length latest + i)

-- such lengths: the latest before unit n, and its own
abbrev pub shown_by : List ℕ → ℕ → ℕ → ℕ → ℕ
shown_by latest bytes n i = index (latest ++ bytes ∷ []) (i - (n - length latest))

pub shows : (latest : List ℕ) (bytes n : ℕ) → length latest ≤ n → Shows (shown_by latest bytes n) latest n
shows latest bytes n l i h =
    let e : i ≡ n - length latest + i - (n - length latest) = omega arith in
    sym (get_or_append_left latest (bytes ∷ []) 0 i h) ∙ ap (index (latest ++ bytes ∷ [])) e

pub shows_last : (latest : List ℕ) (bytes n : ℕ) → length latest ≤ n → shown_by latest bytes n n ≡ bytes
shows_last latest bytes n l = get_or_push latest bytes 0 (n - (n - length latest)) (omega arith)

-- the load of the first units and of those that follow
load_split : (p : Pace) (b : ℕ → ℕ) (xs : List ℕ) (k x : ℕ) → ((i : ℕ) → i < length xs → index xs i ≡ b (k + i)) → load p b (k + length xs) x ≡ load p b k x + load_from p k xs x
load_split p b [] k x h =
    let e : k + 0 ≡ k = omega arith in
    omega (arith, ap (λ n. load p b n x) e)
load_split p b (c ∷ cs) k x h =
    let e : k + length (c ∷ cs) ≡ suc k + length cs = omega arith in
    let m = load_split p b cs (suc k) x (λ i l. h (suc i) (omega arith) ∙ ap b (let f : k + suc i ≡ suc k + i = omega arith in f)) in
    let g : c ≡ b k = h 0 (omega arith) ∙ ap b (let f : k + 0 ≡ k = omega arith in f) in
    omega (arith, m, ap (λ n. load p b n x) e, ap (λ z. cond (nat_lt x (out_of p k)) z 0) g)

-- once the units before the latest have been output, the load is that of the latest
pub load_latest : (p : Pace) (b : ℕ → ℕ) (latest : List ℕ) (n bytes x : ℕ) → Shows b latest n → b n ≡ bytes → length latest ≤ n → ((i : ℕ) → i < n - length latest → out_of p i ≤ x)
    → load p b (suc n) x ≡ latest_load p latest n bytes x
load_latest p b latest n bytes x shows here l out =
    let k : ℕ = n - length latest in
    let e : k + length (latest ++ bytes ∷ []) ≡ suc n = omega (arith, length_push latest bytes) in
    let s = load_split p b (latest ++ bytes ∷ []) k x items in
    omega (arith, s, ap (λ m. load p b m x) e, none_left p b k x out)
  where
    items : (i : ℕ) → i < length (latest ++ bytes ∷ []) → index (latest ++ bytes ∷ []) i ≡ b (n - length latest + i)
    items i h = elim (dec_lt i (length latest)) [
      | yes q ↦ get_or_append_left latest (bytes ∷ []) 0 i q ∙ shows i q
      | no q ↦ get_or_push latest bytes 0 i (omega (arith, length_push latest bytes)) ∙ sym here ∙ ap b (let f : n ≡ n - length latest + i = omega (arith, length_push latest bytes) in f)
    ]
