-- A block in one line with the values before it.
use Rattle.std.proofs.Common.{◌≡◌, ℕ, zero, suc, ◌+◌, ◌-◌, ◌<◌, ◌≤◌, List, [], ◌∷◌, ◌++◌, length, take, drop, get_or, reverse, ℤ, pos, ◌+ℤ◌, ◌-ℤ◌, ◌*ℤ◌, arith, refl, sym, ◌∙◌, ap, append_assoc, replicate}
use Rattle.std.proofs.Math.ListN.{set}
use Rattle.std.proofs.Math.Seq.{drop-cons, take-suc, take-suc-set, set-append_seam}
use Rattle.std.proofs.lemmas.Int.{ints}
use Rattle.std.proofs.lemmas.List.{drop-set-lt, drop-take, take-append-drop, take-replicate, take_at, drop_at, drop-append-le}
use Rattle.std.proofs.lemmas.List.{length-append, length-replicate, length-take-le, length-reverse, length-drop, reverse-append, reverse-reverse, get_or-reverse}
use Rattle.mlp_arith.specs.Words.{wrap}
use Rattle.mlp_predict.specs.Prediction.{dot, Past, Filters, predicted, restored, past_after, outputs_of, past_of, with_zeros}
use Rattle.mlp_predict.specs.Lines.{past_in}
use Rattle.mlp_predict.proofs.Padding.{outputs_of-with_zeros, past_of-with_zeros}

-- ---- values put before a block

pub put_more : (values old line : List ℤ) (i : ℕ) → i < length values → length values ≤ 16 → 16 ≤ length old →
    line ≡ take (16 - i) old ++ reverse (take i values) ++ drop 16 old →
    set line (15 - i) (get_or values i (pos 0)) ≡ take (16 - (i + 1)) old ++ reverse (take (i + 1) values) ++ drop 16 old
put_more values old line i h few room e =
    let v : ℤ = get_or values i (pos 0) in
    let j : ℕ = 15 - i in
    let front : List ℤ = take j old in
    let behind : List ℤ = reverse (take i values) ++ drop 16 old in
    let seam : length front ≡ j = length-take-le j old (omega arith) in
    let more : reverse (take (suc i) values) ≡ v ∷ reverse (take i values) = ap reverse (take-suc values i (pos 0) h) ∙ reverse-append (take i values) (v ∷ []) in
    let k : 16 - i ≡ suc j = omega arith in
    let k2 : 16 - (i + 1) ≡ j = omega arith in
    let k3 : i + 1 ≡ suc i = omega arith in
    ap (λ (ys : List ℤ). set ys j v)
    (e
    ∙ ap (λ (n : ℕ). take n old ++ reverse (take i values) ++ drop 16 old) k
    ∙ ap (λ (ys : List ℤ). ys ++ reverse (take i values) ++ drop 16 old) (take-suc old j (pos 0) (omega arith))
    ∙ append_assoc (front ++ get_or old j (pos 0) ∷ []) (reverse (take i values)) (drop 16 old)
    ∙ append_assoc front (get_or old j (pos 0) ∷ []) behind)
    ∙ ap (λ (n : ℕ). set (front ++ get_or old j (pos 0) ∷ behind) n v) (sym seam)
    ∙ set-append_seam front (get_or old j (pos 0)) behind v
    ∙ sym (append_assoc front (v ∷ reverse (take i values)) (drop 16 old))
    ∙ ap (λ (ys : List ℤ). front ++ ys ++ drop 16 old) (sym more)
    ∙ ap (λ (n : ℕ). take n old ++ reverse (take (suc i) values) ++ drop 16 old) (sym k2)
    ∙ ap (λ (n : ℕ). take (16 - (i + 1)) old ++ reverse (take n values) ++ drop 16 old) (sym k3)

-- ---- sums over a window

dot-behind : (cs vs older : List ℤ) → length cs ≤ length vs → dot cs (vs ++ older) ≡ dot cs vs
dot-behind [] vs older h = refl
dot-behind (c ∷ cs) [] older h = absurd (omega arith)
dot-behind (c ∷ cs) (v ∷ vs) older h = ap (λ z. c *ℤ v +ℤ z) (dot-behind cs vs older (omega arith))

dot-last : (cs vs : List ℤ) (c v : ℤ) → length cs ≡ length vs → dot (cs ++ c ∷ []) (vs ++ v ∷ []) ≡ dot cs vs +ℤ c *ℤ v
dot-last [] [] c v h = omega (arith, ints)
dot-last [] (y ∷ vs) c v h = absurd (omega arith)
dot-last (x ∷ cs) [] c v h = absurd (omega arith)
dot-last (x ∷ cs) (y ∷ vs) c v h = let e = dot-last cs vs c v (omega arith) in omega (arith, ints, e)

dot-reverse : (cs vs : List ℤ) → length cs ≡ length vs → dot (reverse cs) (reverse vs) ≡ dot cs vs
dot-reverse [] [] h = refl
dot-reverse [] (y ∷ vs) h = absurd (omega arith)
dot-reverse (x ∷ cs) [] h = absurd (omega arith)
dot-reverse (x ∷ cs) (y ∷ vs) h =
    let e : dot (reverse cs) (reverse vs) ≡ dot cs vs = dot-reverse cs vs (omega arith) in
    let lengths : length (reverse cs) ≡ length (reverse vs) = omega (arith, length-reverse cs, length-reverse vs) in
    ap (λ (ys : List ℤ). dot ys (reverse (y ∷ vs))) (reverse-append (x ∷ []) cs)
    ∙ ap (λ (ys : List ℤ). dot (reverse cs ++ x ∷ []) ys) (reverse-append (y ∷ []) vs)
    ∙ dot-last (reverse cs) (reverse vs) x y lengths
    ∙ (omega (arith, ints, e))

-- coefficients, the first for the oldest value, over the m values before place n of a line
pub dot-window : (cs xs : List ℤ) (n m : ℕ) → length cs ≡ m → m ≤ n → n ≤ length xs → dot cs (take (n - (n - m)) (drop (n - m) xs)) ≡ dot (reverse cs) (reverse (take n xs))
dot-window cs xs n m h k l =
    let older : List ℤ = take (n - m) (take n xs) in
    let window : List ℤ = take (n - (n - m)) (drop (n - m) xs) in
    let whole : n ≡ n - m + (n - (n - m)) = omega arith in
    let split : take n xs ≡ older ++ window =
    sym (take-append-drop (n - m) (take n xs))
    ∙ ap (λ (ys : List ℤ). older ++ ys) (ap (λ (j : ℕ). drop (n - m) (take j xs)) whole ∙ drop-take (n - m) (n - (n - m)) xs) in
    let count : length window ≡ n - (n - m) = length-take-le (n - (n - m)) (drop (n - m) xs) (omega (arith, length-drop (n - m) xs)) in
    sym (ap (λ (ys : List ℤ). dot (reverse cs) ys) (ap reverse split ∙ reverse-append older window)
    ∙ dot-behind (reverse cs) (reverse window) (reverse older) (omega (arith, length-reverse cs, length-reverse window))
    ∙ dot-reverse cs window (omega arith))

-- ---- one sample more

past_more : (f : Filters) (xs es : List ℤ) (j : ℕ) (x d : ℤ) → j < length xs → j < length es → d ≡ wrap (x -ℤ predicted f (past_in (take j xs) (take j es))) →
    past_in (take (suc j) (set xs j x)) (take (suc j) (set es j d)) ≡ past_after f (past_in (take j xs) (take j es)) x
past_more f xs es j x d h k e =
    let newest : (ys : List ℤ) (y : ℤ) → j < length ys → reverse (take (suc j) (set ys j y)) ≡ y ∷ reverse (take j ys) =
    λ ys y l. ap reverse (take-suc-set ys j y l) ∙ reverse-append (take j ys) (y ∷ []) in
    ap (λ (ys : List ℤ). record { outputs = ys; differences = reverse (take (suc j) (set es j d)) }) (newest xs x h)
    ∙ ap (λ (ys : List ℤ). record { outputs = x ∷ reverse (take j xs); differences = ys }) (newest es d k)
    ∙ ap (λ (y : ℤ). record { outputs = x ∷ reverse (take j xs); differences = y ∷ reverse (take j es) }) e

-- what is left to do behind the first k values of lines
abbrev pub rest_outputs : Filters → ℕ → ℕ → List ℤ → List ℤ → List ℤ
rest_outputs f q k xs es = outputs_of f (past_in (take k xs) (take k es)) q (drop k xs)

rest_more : (f : Filters) (q : ℕ) (xs es : List ℤ) (j : ℕ) (x d : ℤ) → j < length xs → j < length es →
    x ≡ restored f (past_in (take j xs) (take j es)) q (get_or xs j (pos 0)) → d ≡ wrap (x -ℤ predicted f (past_in (take j xs) (take j es))) →
    rest_outputs f q j xs es ≡ x ∷ rest_outputs f q (suc j) (set xs j x) (set es j d)
rest_more f q xs es j x d h k v e =
    let past : Past = past_in (take j xs) (take j es) in
    ap (outputs_of f past q) (drop-cons xs j (pos 0) h)
    ∙ ap (λ z. z ∷ outputs_of f (past_after f past z) q (drop (suc j) xs)) (sym v)
    ∙ ap (λ (p : Past). x ∷ outputs_of f p q (drop (suc j) xs)) (sym (past_more f xs es j x d h k e))
    ∙ ap (λ (ys : List ℤ). x ∷ outputs_of f (past_in (take (suc j) (set xs j x)) (take (suc j) (set es j d))) q ys) (sym (drop-set-lt (suc j) xs j x (omega arith)))

pub line_outputs : (f : Filters) (q : ℕ) (xs es all : List ℤ) (j k : ℕ) (x d : ℤ) → k ≡ suc j → j < length xs → j < length es →
    x ≡ restored f (past_in (take j xs) (take j es)) q (get_or xs j (pos 0)) → d ≡ wrap (x -ℤ predicted f (past_in (take j xs) (take j es))) →
    take j xs ++ rest_outputs f q j xs es ≡ all → take k (set xs j x) ++ rest_outputs f q k (set xs j x) (set es j d) ≡ all
line_outputs f q xs es all j k x d s h l v e a =
    let xs' : List ℤ = set xs j x in
    let es' : List ℤ = set es j d in
    ap (λ (n : ℕ). take n xs' ++ rest_outputs f q n xs' es') s
    ∙ ap (λ (ys : List ℤ). ys ++ rest_outputs f q (suc j) xs' es') (take-suc-set xs j x h)
    ∙ append_assoc (take j xs) (x ∷ []) (rest_outputs f q (suc j) xs' es')
    ∙ ap (λ (ys : List ℤ). take j xs ++ ys) (sym (rest_more f q xs es j x d h l v e))
    ∙ a

pub line_past : (f : Filters) (q : ℕ) (xs es : List ℤ) (all : Past) (j k : ℕ) (x d : ℤ) → k ≡ suc j → j < length xs → j < length es →
    x ≡ restored f (past_in (take j xs) (take j es)) q (get_or xs j (pos 0)) → d ≡ wrap (x -ℤ predicted f (past_in (take j xs) (take j es))) →
    past_of f (past_in (take j xs) (take j es)) (rest_outputs f q j xs es) ≡ all →
    past_of f (past_in (take k (set xs j x)) (take k (set es j d))) (rest_outputs f q k (set xs j x) (set es j d)) ≡ all
line_past f q xs es all j k x d s h l v e a =
    let xs' : List ℤ = set xs j x in
    let es' : List ℤ = set es j d in
    ap (λ (n : ℕ). past_of f (past_in (take n xs') (take n es')) (rest_outputs f q n xs' es')) s
    ∙ ap (λ (p : Past). past_of f p (rest_outputs f q (suc j) xs' es')) (past_more f xs es j x d h l e)
    ∙ ap (past_of f (past_in (take j xs) (take j es))) (sym (rest_more f q xs es j x d h l v e))
    ∙ a

-- ---- a whole block

-- a line before anything is put into it
abbrev pub empty : ℕ → List ℤ
empty room = replicate room (pos 0)

pub reverse-zeros : (n : ℕ) → reverse (replicate n (pos 0)) ≡ replicate n (pos 0)
reverse-zeros zero = refl
reverse-zeros (suc n) = reverse-append (pos 0 ∷ []) (replicate n (pos 0)) ∙ ap (λ (ys : List ℤ). ys ++ pos 0 ∷ []) (reverse-zeros n) ∙ one_more n
  where
    one_more : (k : ℕ) → replicate k (pos 0) ++ pos 0 ∷ [] ≡ pos 0 ∷ replicate k (pos 0)
    one_more zero = refl
    one_more (suc k) = ap (λ (ys : List ℤ). pos 0 ∷ ys) (one_more k)

-- what stands before the block: zeros, and the values behind them
pub front_before : (room : ℕ) (vs line : List ℤ) → 16 ≤ room → length vs ≤ 16
    → line ≡ take (16 - length vs) (empty room) ++ reverse vs ++ drop 16 (empty room) → take 16 line ≡ replicate (16 - length vs) (pos 0) ++ reverse vs
front_before room vs line large few e =
    let k : ℕ = 16 - length vs in
    let front : List ℤ = replicate k (pos 0) ++ reverse vs in
    let here : line ≡ front ++ drop 16 (empty room) = e ∙ ap (λ (ys : List ℤ). ys ++ reverse vs ++ drop 16 (empty room)) (take-replicate k room (pos 0) (omega arith)) in
    let count : length front ≡ 16 = omega (arith, length-append (replicate k (pos 0)) (reverse vs), length-replicate k (pos 0), length-reverse vs) in
    ap (take 16) here ∙ take_at front (drop 16 (empty room)) 16 count

pub front_reversed : (k : ℕ) (vs : List ℤ) → reverse (replicate k (pos 0) ++ reverse vs) ≡ vs ++ replicate k (pos 0)
front_reversed k vs =
    reverse-append (replicate k (pos 0)) (reverse vs)
    ∙ ap (λ (ys : List ℤ). ys ++ reverse (replicate k (pos 0))) (reverse-reverse vs)
    ∙ ap (λ (ys : List ℤ). vs ++ ys) (reverse-zeros k)

-- the latest first: the values, and zeros behind them
values_before : (room : ℕ) (vs line : List ℤ) → 16 ≤ room → length vs ≤ 16
    → line ≡ take (16 - length vs) (empty room) ++ reverse vs ++ drop 16 (empty room) → reverse (take 16 line) ≡ vs ++ replicate (16 - length vs) (pos 0)
values_before room vs line large few e = ap reverse (front_before room vs line large few e) ∙ front_reversed (16 - length vs) vs

-- lines behind a block
pub record BlockDone (f : Filters) (q : ℕ) (first : Past) (block out ds : List ℤ) : Type 0 where
  pub outputs : drop 16 out ≡ outputs_of f first q block
  pub past : past_in out ds ≡ with_zeros (16 - length first.outputs) (16 - length first.differences) (past_of f first (outputs_of f first q block))

pub block_done : (room : ℕ) (f : Filters) (q : ℕ) (past : Past) (block xs es out ds line1 line2 : List ℤ) → 16 ≤ room → length past.outputs ≤ 16 → length past.differences ≤ 16 →
    line1 ≡ take (16 - length past.outputs) (empty room) ++ reverse past.outputs ++ drop 16 (empty room) →
    line2 ≡ take (16 - length past.differences) (empty room) ++ reverse past.differences ++ drop 16 (empty room) →
    length (take 16 line1) ≡ 16 → xs ≡ take 16 line1 ++ block → take 16 es ≡ take 16 line2 →
    out ≡ take 16 xs ++ outputs_of f (past_in (take 16 xs) (take 16 es)) q (drop 16 xs) →
    past_in out ds ≡ past_of f (past_in (take 16 xs) (take 16 es)) (outputs_of f (past_in (take 16 xs) (take 16 es)) q (drop 16 xs)) →
    BlockDone f q past block out ds
block_done room f q past block xs es out ds line1 line2 large few few2 e1 e2 long ex ee eo ep =
    let a : ℕ = 16 - length past.outputs in
    let b : ℕ = 16 - length past.differences in
    let front : take 16 xs ≡ take 16 line1 = ap (take 16) ex ∙ take_at (take 16 line1) block 16 long in
    let behind : drop 16 xs ≡ block = ap (drop 16) ex ∙ drop_at (take 16 line1) block 16 long in
    let before : past_in (take 16 xs) (take 16 es) ≡ with_zeros a b past =
    ap (λ (ys : List ℤ). past_in ys (take 16 es)) front
    ∙ ap (λ (ys : List ℤ). past_in (take 16 line1) ys) ee
    ∙ ap (λ (ys : List ℤ). record { outputs = ys; differences = reverse (take 16 line2) }) (values_before room past.outputs line1 large few e1)
    ∙ ap (λ (ys : List ℤ). record { outputs = past.outputs ++ replicate a (pos 0); differences = ys }) (values_before room past.differences line2 large few2 e2) in
    let all : outputs_of f (past_in (take 16 xs) (take 16 es)) q (drop 16 xs) ≡ outputs_of f past q block =
    ap (λ (p : Past). outputs_of f p q (drop 16 xs)) before
    ∙ ap (outputs_of f (with_zeros a b past) q) behind
    ∙ outputs_of-with_zeros a b f past q block in
    record {
      outputs = ap (drop 16) (eo ∙ ap (λ (ys : List ℤ). ys ++ outputs_of f (past_in (take 16 xs) (take 16 es)) q (drop 16 xs)) front)
          ∙ drop_at (take 16 line1) _ 16 long
          ∙ all;
      past = ep
          ∙ ap (past_of f (past_in (take 16 xs) (take 16 es))) all
          ∙ ap (λ (p : Past). past_of f p (outputs_of f past q block)) before
          ∙ past_of-with_zeros a b f past (outputs_of f past q block);
    }

-- the block in its line
pub block_in : (out rest : List ℤ) (k n : ℕ) → length out ≡ 16 + n → k ≡ n → take k (drop 16 (out ++ rest)) ≡ drop 16 out
block_in out rest k n e h = ap (take k) (drop-append-le 16 out rest (omega arith)) ∙ take_at (drop 16 out) rest k (omega (arith, length-drop 16 out))

-- the last values of a line, put in the place of others
pub last_more : (line old now : List ℤ) (i : ℕ) → i < length line → i < length old → now ≡ take i (reverse line) ++ drop i old →
    set now i (get_or line (length line - 1 - i) (pos 0)) ≡ take (i + 1) (reverse line) ++ drop (i + 1) old
last_more line old now i h k e =
    let back : List ℤ = reverse line in
    let v : ℤ = get_or line (length line - 1 - i) (pos 0) in
    let item : get_or back i (pos 0) ≡ v = get_or-reverse line i (pos 0) h in
    let count : length (take i back) ≡ i = length-take-le i back (omega (arith, length-reverse line)) in
    let n : i + 1 ≡ suc i = omega arith in
    ap (λ (ys : List ℤ). set ys i v) (e ∙ ap (λ (ys : List ℤ). take i back ++ ys) (drop-cons old i (pos 0) k))
    ∙ ap (λ (j : ℕ). set (take i back ++ get_or old i (pos 0) ∷ drop (suc i) old) j v) (sym count)
    ∙ set-append_seam (take i back) (get_or old i (pos 0)) (drop (suc i) old) v
    ∙ sym (append_assoc (take i back) (v ∷ []) (drop (suc i) old))
    ∙ ap (λ (y : ℤ). take i back ++ y ∷ [] ++ drop (suc i) old) (sym item)
    ∙ ap (λ (ys : List ℤ). ys ++ drop (suc i) old) (sym (take-suc back i (pos 0) (omega (arith, length-reverse line))))
    ∙ ap (λ (j : ℕ). take j back ++ drop j old) (sym n)
