-- A block of a channel without an IIR: outputs see outputs alone.
use Rattle.std.proofs.Common.{◌≡◌, ℕ, zero, suc, ◌+◌, ◌-◌, ◌<◌, ◌≤◌, List, [], ◌∷◌, ◌++◌, length, take, drop, get_or, reverse, ℤ, pos, ◌-ℤ◌, arith, refl, sym, ◌∙◌, ap, append_assoc, replicate}
use Rattle.std.proofs.Math.ListN.{set}
use Rattle.std.proofs.Math.Seq.{drop-cons, take-suc, take-suc-set}
use Rattle.std.proofs.lemmas.List.{drop-set-lt, take-take, take_at, drop_at, take-append-le, reverse-append, length-drop, length-append, length-replicate, length-reverse, append-nil}
use Rattle.mlp_arith.specs.Words.{wrap}
use Rattle.mlp_predict.specs.Prediction.{Past, Filters, predicted, restored, past_after, latest, outputs_of, past_of, with_zeros}
use Rattle.mlp_predict.proofs.Blocks.{take_pushed}
use Rattle.mlp_predict.proofs.Padding.{outputs_of-with_zeros, past_of-with_zeros}
use Rattle.mlp_predict.proofs.LineLaws.{empty, front_before, front_reversed}

-- filters without an IIR
abbrev pub fir_alone : List ℤ → ℕ → Filters
fir_alone fs s = record { fir = fs; iir = []; shift = s }

abbrev pub past_by : List ℤ → List ℤ → Past
past_by xs ds = record { outputs = xs; differences = ds }

-- ---- which differences there were changes no output

pub outputs_of-alone : (fs : List ℤ) (s q : ℕ) (xs ds es rs : List ℤ) → outputs_of (fir_alone fs s) (past_by xs ds) q rs ≡ outputs_of (fir_alone fs s) (past_by xs es) q rs
outputs_of-alone fs s q xs ds es [] = refl
outputs_of-alone fs s q xs ds es (r ∷ rs) =
    let x : ℤ = restored (fir_alone fs s) (past_by xs ds) q r in
    let d : ℤ = wrap (x -ℤ predicted (fir_alone fs s) (past_by xs ds)) in
    ap (λ (ys : List ℤ). x ∷ ys) (outputs_of-alone fs s q (x ∷ xs) (d ∷ ds) (d ∷ es) rs)

-- the outputs behind a block
pub past_of-outputs : (f : Filters) (past : Past) (xs : List ℤ) → (past_of f past xs).outputs ≡ reverse xs ++ past.outputs
past_of-outputs f past [] = refl
past_of-outputs f past (x ∷ xs) =
    past_of-outputs f (past_after f past x) xs
    ∙ sym (append_assoc (reverse xs) (x ∷ []) past.outputs)
    ∙ ap (λ (ys : List ℤ). ys ++ past.outputs) (sym (reverse-append (x ∷ []) xs))

-- ---- the latest differences

-- the latest n differences behind a block
abbrev pub newest : ℕ → List ℤ → ℕ → List ℤ → List ℤ → List ℤ → List ℤ
newest n fs s xs ds zs = take n (past_of (fir_alone fs s) (past_by xs ds) zs).differences

-- older ones aren't among them
pub newest_front : (n : ℕ) (fs : List ℤ) (s : ℕ) (xs latest_ds ds es zs : List ℤ) → n ≤ length latest_ds + length zs → newest n fs s xs (latest_ds ++ ds) zs ≡ newest n fs s xs (latest_ds ++ es) zs
newest_front n fs s xs latest_ds ds es [] h = take-append-le n latest_ds ds (omega arith) ∙ sym (take-append-le n latest_ds es (omega arith))
newest_front n fs s xs latest_ds ds es (z ∷ zs) h =
    let d : ℤ = wrap (z -ℤ predicted (fir_alone fs s) (past_by xs latest_ds)) in
    newest_front n fs s (z ∷ xs) (d ∷ latest_ds) ds es zs (omega arith)

take_pair : (n : ℕ) (x : ℤ) (xs : List ℤ) → take n (x ∷ take n xs) ≡ take n (x ∷ xs)
take_pair zero x xs = refl
take_pair (suc n) x xs = ap (λ (ys : List ℤ). x ∷ ys) (take-take n (suc n) xs (omega arith))

-- the latest n of the old ones are enough
pub newest_seen : (n : ℕ) (fs : List ℤ) (s : ℕ) (xs ds zs : List ℤ) → newest n fs s xs (take n ds) zs ≡ newest n fs s xs ds zs
newest_seen n fs s xs ds [] = take-take n n ds (omega arith)
newest_seen n fs s xs ds (z ∷ zs) =
    let d : ℤ = wrap (z -ℤ predicted (fir_alone fs s) (past_by xs ds)) in
    sym (newest_seen n fs s (z ∷ xs) (d ∷ take n ds) zs)
    ∙ ap (λ (es : List ℤ). newest n fs s (z ∷ xs) es zs) (take_pair n d ds)
    ∙ newest_seen n fs s (z ∷ xs) (d ∷ ds) zs

-- what is left to do behind the first j values of a line
abbrev pub newest_in : ℕ → List ℤ → ℕ → List ℤ → ℕ → List ℤ → List ℤ
newest_in n fs s line j ds = newest n fs s (reverse (take j line)) ds (drop j line)

latest_in : (line : List ℤ) (j : ℕ) → j < length line → reverse (take (suc j) line) ≡ get_or line j (pos 0) ∷ reverse (take j line)
latest_in line j h = ap reverse (take-suc line j (pos 0) h) ∙ reverse-append (take j line) (get_or line j (pos 0) ∷ [])

newest_in-next : (n : ℕ) (fs : List ℤ) (s : ℕ) (line : List ℤ) (j : ℕ) (ds : List ℤ) (d : ℤ) → j < length line →
    d ≡ wrap (get_or line j (pos 0) -ℤ predicted (fir_alone fs s) (past_by (reverse (take j line)) [])) →
    newest_in n fs s line j ds ≡ newest_in n fs s line (suc j) (d ∷ ds)
newest_in-next n fs s line j ds d h e =
    let x : ℤ = get_or line j (pos 0) in
    ap (λ (zs : List ℤ). newest n fs s (reverse (take j line)) ds zs) (drop-cons line j (pos 0) h)
    ∙ ap (λ (y : ℤ). newest n fs s (x ∷ reverse (take j line)) (y ∷ ds) (drop (suc j) line)) (sym e)
    ∙ ap (λ (xs : List ℤ). newest n fs s xs (d ∷ ds) (drop (suc j) line)) (sym (latest_in line j h))

-- one more is put in front
pub newest_step : (n : ℕ) (fs : List ℤ) (s : ℕ) (line : List ℤ) (j k : ℕ) (ds all : List ℤ) (d : ℤ) → k ≡ suc j → 0 < n → j < length line →
    d ≡ wrap (get_or line j (pos 0) -ℤ predicted (fir_alone fs s) (past_by (reverse (take j line)) [])) →
    newest_in n fs s line j ds ≡ all → newest_in n fs s line k (d ∷ take (n - 1) ds) ≡ all
newest_step n fs s line j k ds all d e o h v a =
    ap (λ (i : ℕ). newest_in n fs s line i (d ∷ take (n - 1) ds)) e
    ∙ ap (λ (es : List ℤ). newest_in n fs s line (suc j) es) (sym (take_pushed n d ds o))
    ∙ newest_seen n fs s (reverse (take (suc j) line)) (d ∷ ds) (drop (suc j) line)
    ∙ sym (newest_in-next n fs s line j ds d h v)
    ∙ a

-- those of which n more come aren't among them
pub newest_skip : (n : ℕ) (fs : List ℤ) (s : ℕ) (line : List ℤ) (j k i : ℕ) (ds : List ℤ) → i ≡ j + k → i + n ≤ length line → newest_in n fs s line i ds ≡ newest_in n fs s line j ds
newest_skip n fs s line j zero i ds e h = ap (λ (m : ℕ). newest_in n fs s line m ds) (let same : i ≡ j = omega arith in same)
newest_skip n fs s line j (suc k) i ds e h =
    let d : ℤ = wrap (get_or line j (pos 0) -ℤ predicted (fir_alone fs s) (past_by (reverse (take j line)) [])) in
    newest_skip n fs s line (suc j) k i ds (omega arith) h
    ∙ newest_front n fs s (reverse (take (suc j) line)) [] ds (d ∷ ds) (drop (suc j) line) (omega (arith, length-drop (suc j) line))
    ∙ sym (newest_in-next n fs s line j ds d (omega arith) refl)

-- ---- a line of outputs

pub line_alone : (fs : List ℤ) (s q : ℕ) (xs all : List ℤ) (j k : ℕ) (x : ℤ) → k ≡ suc j → j < length xs →
    x ≡ restored (fir_alone fs s) (past_by (reverse (take j xs)) []) q (get_or xs j (pos 0)) →
    take j xs ++ outputs_of (fir_alone fs s) (past_by (reverse (take j xs)) []) q (drop j xs) ≡ all →
    take k (set xs j x) ++ outputs_of (fir_alone fs s) (past_by (reverse (take k (set xs j x))) []) q (drop k (set xs j x)) ≡ all
line_alone fs s q xs all j k x e h v a =
    let f : Filters = fir_alone fs s in
    let line : List ℤ = set xs j x in
    let older : List ℤ = reverse (take j xs) in
    let d : ℤ = wrap (x -ℤ predicted f (past_by older [])) in
    let front : take (suc j) line ≡ take j xs ++ x ∷ [] = take-suc-set xs j x h in
    ap (λ (n : ℕ). take n line ++ outputs_of f (past_by (reverse (take n line)) []) q (drop n line)) e
    ∙ ap (λ (ys : List ℤ). ys ++ outputs_of f (past_by (reverse ys) []) q (drop (suc j) line)) front
    ∙ ap (λ (ys : List ℤ). (take j xs ++ x ∷ []) ++ outputs_of f (past_by ys []) q (drop (suc j) line)) (reverse-append (take j xs) (x ∷ []))
    ∙ ap (λ (ys : List ℤ). (take j xs ++ x ∷ []) ++ outputs_of f (past_by (x ∷ older) []) q ys) (drop-set-lt (suc j) xs j x (omega arith))
    ∙ ap (λ (ys : List ℤ). (take j xs ++ x ∷ []) ++ ys) (outputs_of-alone fs s q (x ∷ older) [] (d ∷ []) (drop (suc j) xs))
    ∙ append_assoc (take j xs) (x ∷ []) (outputs_of f (past_by (x ∷ older) (d ∷ [])) q (drop (suc j) xs))
    ∙ ap (λ (y : ℤ). take j xs ++ y ∷ outputs_of f (past_by (y ∷ older) (wrap (y -ℤ predicted f (past_by older [])) ∷ [])) q (drop (suc j) xs)) v
    ∙ ap (λ (ys : List ℤ). take j xs ++ outputs_of f (past_by older []) q ys) (sym (drop-cons xs j (pos 0) h))
    ∙ a

-- it may begin where only n more come, or at the block's beginning
pub newest_start : (n : ℕ) (fs : List ℤ) (s : ℕ) (line : List ℤ) (i : ℕ) (ds : List ℤ) → 16 ≤ i → (16 < i → i + n ≤ length line) → newest_in n fs s line i ds ≡ newest_in n fs s line 16 ds
newest_start n fs s line i ds h k = from (i - 16) (omega arith)
  where
    from : (m : ℕ) → i ≡ 16 + m → newest_in n fs s line i ds ≡ newest_in n fs s line 16 ds
    from zero e = ap (λ (j : ℕ). newest_in n fs s line j ds) (let same : i ≡ 16 = omega arith in same)
    from (suc m) e = newest_skip n fs s line 16 (suc m) i ds e (k (omega arith))

-- ---- a whole block

-- a line behind a block
pub record AloneDone (fs : List ℤ) (s q : ℕ) (vs block out : List ℤ) : Type 0 where
  pub outputs : drop 16 out ≡ outputs_of (fir_alone fs s) (past_by vs []) q block
  pub line : out ≡ (replicate (16 - length vs) (pos 0) ++ reverse vs) ++ outputs_of (fir_alone fs s) (past_by vs []) q block

pub alone_done : (room : ℕ) (fs : List ℤ) (s q : ℕ) (vs block xs out line : List ℤ) → 16 ≤ room → length vs ≤ 16 →
    line ≡ take (16 - length vs) (empty room) ++ reverse vs ++ drop 16 (empty room) → length (take 16 line) ≡ 16 → xs ≡ take 16 line ++ block →
    out ≡ take 16 xs ++ outputs_of (fir_alone fs s) (past_by (reverse (take 16 xs)) []) q (drop 16 xs) → AloneDone fs s q vs block out
alone_done room fs s q vs block xs out line large few el long ex eo =
    let f : Filters = fir_alone fs s in
    let k : ℕ = 16 - length vs in
    let front : take 16 xs ≡ take 16 line = ap (take 16) ex ∙ take_at (take 16 line) block 16 long in
    let behind : drop 16 xs ≡ block = ap (drop 16) ex ∙ drop_at (take 16 line) block 16 long in
    let is : take 16 line ≡ replicate k (pos 0) ++ reverse vs = front_before room vs line large few el in
    let all : outputs_of f (past_by (reverse (take 16 xs)) []) q (drop 16 xs) ≡ outputs_of f (past_by vs []) q block =
    ap (λ (ys : List ℤ). outputs_of f (past_by (reverse ys) []) q (drop 16 xs)) (front ∙ is)
    ∙ ap (λ (ys : List ℤ). outputs_of f (past_by ys []) q (drop 16 xs)) (front_reversed k vs)
    ∙ ap (outputs_of f (past_by (vs ++ replicate k (pos 0)) []) q) behind
    ∙ outputs_of-with_zeros k 0 f (past_by vs []) q block in
    let whole : out ≡ take 16 line ++ outputs_of f (past_by vs []) q block =
    eo ∙ ap (λ (ys : List ℤ). take 16 xs ++ ys) all ∙ ap (λ (ys : List ℤ). ys ++ outputs_of f (past_by vs []) q block) front in
    record {
      outputs = ap (drop 16) whole ∙ drop_at (take 16 line) _ 16 long;
      line = whole ∙ ap (λ (ys : List ℤ). ys ++ outputs_of f (past_by vs []) q block) is;
    }

-- the past behind a block, in its line
pub past_alone : (fs : List ℤ) (s m n k : ℕ) (vs ds block line : List ℤ) → length vs ≡ m → k + m ≡ 16 → line ≡ (replicate k (pos 0) ++ reverse vs) ++ block →
    past_by (take m (reverse line)) (take n (past_of (fir_alone fs s) (past_by (reverse (take 16 line)) ds) (drop 16 line)).differences) ≡ latest m n (past_of (fir_alone fs s) (past_by vs ds) block)
past_alone fs s m n k vs ds block line few sum e =
    let f : Filters = fir_alone fs s in
    let older : List ℤ = replicate k (pos 0) ++ reverse vs in
    let long : length older ≡ 16 = omega (arith, length-append (replicate k (pos 0)) (reverse vs), length-replicate k (pos 0), length-reverse vs) in
    let after : Past = past_of f (past_by vs ds) block in
    let front : reverse (take 16 line) ≡ vs ++ replicate k (pos 0) = ap reverse (ap (take 16) e ∙ take_at older block 16 long) ∙ front_reversed k vs in
    let behind : drop 16 line ≡ block = ap (drop 16) e ∙ drop_at older block 16 long in
    let zeros_behind : past_of f (past_by (vs ++ replicate k (pos 0)) ds) block ≡ with_zeros k 0 after =
    ap (λ (es : List ℤ). past_of f (past_by (vs ++ replicate k (pos 0)) es) block) (sym (append-nil ds)) ∙ past_of-with_zeros k 0 f (past_by vs ds) block in
    let differences : (past_of f (past_by (reverse (take 16 line)) ds) (drop 16 line)).differences ≡ after.differences =
    ap (λ (ys : List ℤ). (past_of f (past_by ys ds) (drop 16 line)).differences) front
    ∙ ap (λ (ys : List ℤ). (past_of f (past_by (vs ++ replicate k (pos 0)) ds) ys).differences) behind
    ∙ ap (λ (p : Past). p.differences) zeros_behind
    ∙ append-nil after.differences in
    let outputs : reverse line ≡ after.outputs ++ replicate k (pos 0) =
    ap reverse e ∙ reverse-append older block ∙ ap (λ (ys : List ℤ). reverse block ++ ys) (front_reversed k vs)
    ∙ sym (append_assoc (reverse block) vs (replicate k (pos 0)))
    ∙ ap (λ (ys : List ℤ). ys ++ replicate k (pos 0)) (sym (past_of-outputs f (past_by vs ds) block)) in
    let enough : m ≤ length after.outputs = omega (arith, ap length (past_of-outputs f (past_by vs ds) block), length-append (reverse block) vs) in
    ap (λ (ys : List ℤ). past_by (take m ys) (take n (past_of f (past_by (reverse (take 16 line)) ds) (drop 16 line)).differences)) outputs
    ∙ ap (λ (ys : List ℤ). past_by ys (take n (past_of f (past_by (reverse (take 16 line)) ds) (drop 16 line)).differences)) (take-append-le m after.outputs (replicate k (pos 0)) enough)
    ∙ ap (λ (ys : List ℤ). past_by (take m after.outputs) (take n ys)) differences

-- an empty list
pub none_there : {A : Type 0} (xs : List A) → length xs ≡ 0 → [] ≡ xs
none_there [] h = refl
none_there (x ∷ xs) h = absurd (omega arith)
