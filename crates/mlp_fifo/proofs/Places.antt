-- What the latest lengths and the finish of a history give for one unit more.
use Rattle.std.proofs.Common.{◌≡◌, ℕ, zero, suc, ◌+◌, ◌-◌, ◌<◌, ◌≤◌, List, [], ◌∷◌, ◌++◌, length, drop, get_or, cond, arith, refl, sym, ◌∙◌, ap, subst}
use Rattle.std.specs.Prelude.{nat_lt}
use Rattle.std.proofs.lemmas.Bool.Decides.{nat_tests}
use Rattle.std.proofs.lemmas.List.{get_or-drop, get_or_append_left, get_or_push, length_push, length-drop, drop-append-le, drop-drop}
use Rattle.circular_buffer.specs.Buffer.{keep_last}
use Rattle.mlp_fifo.specs.declared.pace.Pace.{Pace}
use Rattle.mlp_fifo.specs.Schedule.{out_of, duration_of, IsSchedule, IsEarliest, finish_of}
use Rattle.mlp_fifo.proofs.Shown.{index, Shows}
use Rattle.mlp_fifo.proofs.Schedules.{same_earliest}
use Rattle.mlp_fifo.proofs.Next.{IsNext, next_none, next_earliest}

-- the latest of a history are those of the history and one unit more
pub shown : (lengths latest : List ℕ) (bytes n : ℕ) → latest ≡ keep_last 91 lengths → n ≡ length lengths → Shows (index (lengths ++ bytes ∷ [])) latest n
shown lengths latest bytes n e f i h =
    let l : length latest ≡ length lengths - (length lengths - 91) = ap length e ∙ length-drop (length lengths - 91) lengths in
    let k : n - length latest + i ≡ length lengths - 91 + i = omega arith in
    ap (λ xs. get_or xs i 0) e ∙ get_or-drop (length lengths - 91) lengths i 0
    ∙ sym (get_or_append_left lengths (bytes ∷ []) 0 (length lengths - 91 + i) (omega arith)) ∙ ap (λ j. get_or (lengths ++ bytes ∷ []) j 0) (sym k)

pub last_is : (lengths : List ℕ) (bytes n : ℕ) → n ≡ length lengths → get_or (lengths ++ bytes ∷ []) n 0 ≡ bytes
last_is lengths bytes n e = get_or_push lengths bytes 0 n (sym e)

-- the times of the units before, and that of unit n
abbrev pub with_next : (ℕ → ℕ) → ℕ → ℕ → ℕ → ℕ
with_next t n x i = cond (nat_lt i n) (t i) x

pub with_before : (t : ℕ → ℕ) (n x i : ℕ) → i < n → with_next t n x i ≡ t i
with_before t n x i h = grind (arith, nat_tests)

pub with_last : (t : ℕ → ℕ) (n x : ℕ) → with_next t n x n ≡ x
with_last t n x = grind (arith, nat_tests)

-- when the units before have arrived doesn't depend on later ones
pub finish_same : (p : Pace) (b c t u : ℕ → ℕ) (n : ℕ) → ((i : ℕ) → i < n → c i ≡ b i) → ((i : ℕ) → i < n → u i ≡ t i) → finish_of p c u n ≡ finish_of p b t n
finish_same p b c t u zero g h = refl
finish_same p b c t u (suc n) g h = omega (arith, h n (omega arith), ap (duration_of p) (g n (omega arith)))

-- the latest of the latest and one more
pub kept_push : (xs : List ℕ) (b : ℕ) → keep_last 91 (keep_last 91 xs ++ b ∷ []) ≡ keep_last 91 (xs ++ b ∷ [])
kept_push xs b =
    let k : ℕ = length xs - 91 in
    let e : drop k xs ++ b ∷ [] ≡ drop k (xs ++ b ∷ []) = sym (drop-append-le k xs (b ∷ []) (omega arith)) in
    let l : length (drop k (xs ++ b ∷ [])) ≡ length xs + 1 - k = omega (arith, length-drop k (xs ++ b ∷ []), length_push xs b) in
    ap (keep_last 91) e ∙ drop-drop (length (drop k (xs ++ b ∷ [])) - 91) k (xs ++ b ∷ [])
    ∙ ap (λ m. drop m (xs ++ b ∷ [])) (let m : k + (length (drop k (xs ++ b ∷ [])) - 91) ≡ length (xs ++ b ∷ []) - 91 = omega (arith, l, length_push xs b) in m)

pub count_push : (xs : List ℕ) (b : ℕ) → suc (length xs) ≡ length (xs ++ b ∷ [])
count_push xs b = omega (arith, length_push xs b)

-- what is next after what the history leaves, over the history's own count and finish
next_over : (p : Pace) (lengths : List ℕ) (t : ℕ → ℕ) (bytes n finish x : ℕ) → n ≡ length lengths → finish ≡ finish_of p (index lengths) t (length lengths)
    → IsNext p (index (lengths ++ bytes ∷ [])) n finish x
    → IsNext p (index (lengths ++ bytes ∷ [])) (length lengths) (finish_of p (index (lengths ++ bytes ∷ [])) (with_next t (length lengths) x) (length lengths)) x
next_over p lengths t bytes n finish x e f next =
    let g = finish_same p (index lengths) (index (lengths ++ bytes ∷ [])) t (with_next t (length lengths) x) (length lengths)
    (λ i l. get_or_append_left lengths (bytes ∷ []) 0 i l) (λ i l. with_before t (length lengths) x i l) in
    subst (λ m. IsNext p (index (lengths ++ bytes ∷ [])) (length lengths) m x) (f ∙ sym g)
    (subst (λ m. IsNext p (index (lengths ++ bytes ∷ [])) m finish x) e next)

-- the earliest schedule of the history, over one unit more
pub before_is : (p : Pace) (lengths : List ℕ) (t : ℕ → ℕ) (bytes x : ℕ) → IsEarliest p (index lengths) t (length lengths) → IsEarliest p (index (lengths ++ bytes ∷ [])) (with_next t (length lengths) x) (length lengths)
before_is p lengths t bytes x q = same_earliest p (index lengths) (index (lengths ++ bytes ∷ [])) t (with_next t (length lengths) x) (length lengths)
    (λ i l. get_or_append_left lengths (bytes ∷ []) 0 i l) (λ i l. with_before t (length lengths) x i l) q

-- the unit that begins at the least time, where it is there in time
pub placed_next : (p : Pace) (lengths : List ℕ) (t : ℕ → ℕ) (bytes n finish x : ℕ) → n ≡ length lengths → finish ≡ finish_of p (index lengths) t (length lengths)
    → IsEarliest p (index lengths) t (length lengths) → IsNext p (index (lengths ++ bytes ∷ [])) n finish x → x + duration_of p bytes ≤ out_of p n
    → IsEarliest p (index (lengths ++ bytes ∷ [])) (with_next t (length lengths) x) (length (lengths ++ bytes ∷ []))
placed_next p lengths t bytes n finish x e f q next ends =
    let d = ap (duration_of p) (last_is lengths bytes (length lengths) refl) in
    let o = ap (out_of p) e in
    subst (IsEarliest p (index (lengths ++ bytes ∷ [])) (with_next t (length lengths) x)) (count_push lengths bytes)
    (next_earliest p (index (lengths ++ bytes ∷ [])) (with_next t (length lengths) x) (length lengths) x (before_is p lengths t bytes x q) (with_last t (length lengths) x)
    (next_over p lengths t bytes n finish x e f next) (omega arith))

-- .. and where it isn't
pub refused_next : (p : Pace) (lengths : List ℕ) (t : ℕ → ℕ) (bytes n finish x : ℕ) → n ≡ length lengths → finish ≡ finish_of p (index lengths) t (length lengths)
    → IsEarliest p (index lengths) t (length lengths) → IsNext p (index (lengths ++ bytes ∷ [])) n finish x → out_of p n < x + duration_of p bytes
    → (s : ℕ → ℕ) → IsSchedule p (index (lengths ++ bytes ∷ [])) s (length (lengths ++ bytes ∷ [])) → ⊥
refused_next p lengths t bytes n finish x e f q next late s r =
    let d = ap (duration_of p) (last_is lengths bytes (length lengths) refl) in
    let o = ap (out_of p) e in
    next_none p (index (lengths ++ bytes ∷ [])) (with_next t (length lengths) x) s (length lengths) x (before_is p lengths t bytes x q)
    (next_over p lengths t bytes n finish x e f next) (omega arith) (subst (IsSchedule p (index (lengths ++ bytes ∷ [])) s) (sym (count_push lengths bytes)) r)

-- its time, and when it has arrived
pub last_time : (lengths : List ℕ) (t : ℕ → ℕ) (bytes x : ℕ) → with_next t (length lengths) x (length (lengths ++ bytes ∷ []) - 1) ≡ x
last_time lengths t bytes x = ap (with_next t (length lengths) x) (let e : length (lengths ++ bytes ∷ []) - 1 ≡ length lengths = omega (arith, length_push lengths bytes) in e) ∙ with_last t (length lengths) x

pub last_finish : (p : Pace) (lengths : List ℕ) (t : ℕ → ℕ) (bytes x : ℕ) → x + duration_of p bytes ≡ finish_of p (index (lengths ++ bytes ∷ [])) (with_next t (length lengths) x) (length (lengths ++ bytes ∷ []))
last_finish p lengths t bytes x =
    let d = ap (duration_of p) (last_is lengths bytes (length lengths) refl) in
    let w = with_last t (length lengths) x in
    let e : x + duration_of p bytes ≡ finish_of p (index (lengths ++ bytes ∷ [])) (with_next t (length lengths) x) (suc (length lengths)) = omega arith in
    e ∙ ap (finish_of p (index (lengths ++ bytes ∷ [])) (with_next t (length lengths) x)) (count_push lengths bytes)

pub length_more : (xs : List ℕ) (b : ℕ) → length (xs ++ b ∷ []) ≡ length xs + 1
length_more xs b = length_push xs b
