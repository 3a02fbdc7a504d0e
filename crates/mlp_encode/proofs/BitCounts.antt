-- How many bits the parts of a block take.
use Rattle.std.proofs.Common.{◌≡◌, ℕ, zero, suc, ◌+◌, ◌*◌, ◌<◌, ◌≤◌, Bool, true, false, List, [], ◌∷◌, ◌++◌, drop, map, length, get_or, Option, Some, None, refl, sym, ap, ◌∙◌, arith}
use Rattle.std.specs.Prelude.{is_some}
use Rattle.std.specs.List.{range_with_len}
use Rattle.std.proofs.lemmas.List.{length-append, drop_more, drop_all}
use Rattle.mlp_syntax.specs.declared.major.Kind.{Kind}
use Rattle.mlp_syntax.specs.declared.restart.Restart.{Restart}
use Rattle.mlp_syntax.specs.declared.segment.Code.{Code}
use Rattle.mlp_bits.specs.Bits.{bits}
use Rattle.mlp_bits.specs.Checks.{restart_check_of}
use Rattle.mlp_bits.proofs.BitLists.{length-bits}
use Rattle.mlp_layout.specs.Layout.{Layout, number_of, seen, ruled, part, made, item}
use Rattle.mlp_layout.specs.Combined.{under, fixed, checked, flag, chosen, present, times, each, series}
use Rattle.mlp_params.specs.RestartHeader.{assigned, restart_fields, restart}
use Rattle.mlp_params.specs.Matrices.{rows}
use Rattle.mlp_residual.specs.Frames.{bypass_bit, bypass_bits, code, code_at, no_code, unpacked}
use Rattle.mlp_residual.specs.declared.frames.ChannelCode.{ChannelCode}
use Rattle.mlp_substream.specs.Restarts.{flags}
use Rattle.mlp_encode.proofs.Sums.{sums}

pub flag_long : (b : Bool) → length (flag.spelling b) ≡ 1
unfolding flag seen number_of
flag_long true = length-bits 1 1
flag_long false = length-bits 1 0

-- ---- values that are there or not

pub there_most : {A : Type 0} (l : Layout A) (o : Option A) (m : ℕ) → ((x : A) → o ≡ Some x → length (l.spelling x) ≤ m) → length ((present (is_some o) l).spelling o) ≤ m
unfolding present chosen seen made
there_most l None m h = omega arith
there_most l (Some x) m h = h x refl

second_most : (given b : Bool) → length ((chosen given flag (made false)).spelling b) ≤ 1
unfolding chosen made
second_most true b = omega (arith, flag_long b)
second_most false b = omega arith

pub flags_most : (due : Bool) (f : Bool × Bool) → length ((flags due).spelling f) ≤ 2
unfolding flags under ruled part made
flags_most due f =
    omega (arith, flag_long f.0, second_most f.0 f.1, length-append (flag.spelling f.0) ((chosen f.0 flag (made false)).spelling f.1 ++ []), length-append ((chosen f.0 flag (made false)).spelling f.1) [])

-- ---- lists

pub series_most : {A : Type 0} (l : List A → Layout A) (b : ℕ) → ((before : List A) (x : A) → length ((l before).spelling x) ≤ b) → (n : ℕ) (before xs : List A) → length ((series l n before).spelling xs) ≤ n * b
unfolding series item made
series_most l b h zero before xs = omega arith
series_most l b h (suc n) before [] = omega arith
series_most l b h (suc n) before (x ∷ xs) =
    let rest = series_most l b h n (before ++ x ∷ []) xs in
    omega (arith, rest, h before x, length-append ((l before).spelling x) ((series l n (before ++ x ∷ [])).spelling xs))

pub times_most : {A : Type 0} (l : Layout A) (b : ℕ) → ((x : A) → length (l.spelling x) ≤ b) → (n : ℕ) (xs : List A) → length ((times n l).spelling xs) ≤ n * b
unfolding times item made
times_most l b h zero xs = omega arith
times_most l b h (suc n) [] = omega arith
times_most l b h (suc n) (x ∷ xs) =
    let rest = times_most l b h n xs in
    omega (arith, rest, h x, length-append (l.spelling x) ((times n l).spelling xs))

pub each_long : {S A : Type 0} (l : S → Layout A) (all : List S) (d : S) (f : ℕ → A) (a n : ℕ) → a + n ≡ length all
    → length ((each l (drop a all)).spelling (map f (range_with_len a n))) ≡ sums (λ c. length ((l (get_or all c d)).spelling (f c))) a n
unfolding each item made
each_long {S} l all d f a zero e = ap (λ (ss : List S). length ((each l ss).spelling [])) (drop_all a all (omega (arith, e)))
each_long {S} l all d f a (suc n) e =
    let lt : a < length all = omega (arith, e) in
    let rest = each_long l all d f (a + 1) n (omega (arith, e)) in
    let here = ap (λ (ss : List S). length ((each l ss).spelling (f a ∷ map f (range_with_len (a + 1) n)))) (drop_more all a d lt) in
    omega (arith, here, rest, length-append ((l (get_or all a d)).spelling (f a)) ((each l (drop (a + 1) all)).spelling (map f (range_with_len (a + 1) n))))

pub codes_long : (k : ℕ → ChannelCode) (f : ℕ → Code) (channels : List ChannelCode) (a n m : ℕ) (before : List Code) → length before ≡ m → ((i : ℕ) → i < n → get_or channels (m + i) no_code ≡ k (a + i))
    → length ((series (code_at channels) n before).spelling (map f (range_with_len a n))) ≡ sums (λ c. length ((code (k c)).spelling (f c))) a n
unfolding series item made
codes_long k f channels a zero m before e same = refl
codes_long k f channels a (suc n) m before e same =
    let z : m + 0 ≡ length before = omega (arith, e) in
    let y : a + 0 ≡ a = omega arith in
    let here : get_or channels (length before) no_code ≡ k a = ap (λ (i : ℕ). get_or channels i no_code) (sym z) ∙ same 0 (omega arith) ∙ ap k y in
    let first = ap (λ (c : ChannelCode). length ((code c).spelling (f a))) here in
    let rest = codes_long k f channels (a + 1) n (m + 1) (before ++ f a ∷ []) (omega (arith, e, length-append before (f a ∷ [])))
    (λ i lt. let p : m + 1 + i ≡ m + (i + 1) = omega arith in let q : a + (i + 1) ≡ a + 1 + i = omega arith in ap (λ (n : ℕ). get_or channels n no_code) p ∙ same (i + 1) (omega (arith, lt)) ∙ ap k q) in
    omega (arith, first, rest, length-append ((code (get_or channels (length before) no_code)).spelling (f a)) ((series (code_at channels) n (before ++ f a ∷ [])).spelling (map f (range_with_len (a + 1) n))))

-- ---- bypassed bits

pub bypass_most : (rows : List Bool) (n : ℕ) → length ((bypass_bits rows).spelling n) ≤ length rows
unfolding bypass_bits seen
bypass_most rows n =
    let all = series_most (bypass_bit rows) 1 (λ before b. second_most (get_or rows (length before) false) b) (length rows) [] (unpacked (length rows) n) in
    omega (arith, all)

-- ---- a restart header

pub put : (w v : ℕ) (rest : List Bool) (n : ℕ) → length rest ≤ n → length (bits w v ++ rest) ≤ w + n
put w v rest n h = omega (arith, h, length-bits w v, length-append (bits w v) rest)

assigned_most : (mm : ℕ) (xs : List ℕ) → length ((series (assigned mm) (mm + 1) []).spelling xs) ≤ 6 * (mm + 1)
unfolding ruled number_of
assigned_most mm xs =
    let all = series_most (assigned mm) 6 (λ before x. let e = length-bits 6 x in omega (arith, e)) (mm + 1) [] xs in
    omega (arith, all)

fields_most : (format : Kind) (r : Restart) → length ((restart_fields format).spelling r) ≤ 13 + (1 + (16 + (4 + (4 + (4 + (4 + (23 + (19 + (1 + (8 + (16 + (6 * (r.max_matrix + 1)))))))))))))
unfolding restart_fields fixed part ruled number_of made
fields_most format r =
    let assign = (series (assigned r.max_matrix) (r.max_matrix + 1) []).spelling r.assign.items in
    let end : length (assign ++ []) ≤ 6 * (r.max_matrix + 1) = omega (arith, length-append assign [], assigned_most r.max_matrix r.assign.items) in
    let checks = put 8 r.lossless (bits 16 r.carried_b ++ (assign ++ [])) (16 + 6 * (r.max_matrix + 1)) (put 16 r.carried_b (assign ++ []) (6 * (r.max_matrix + 1)) end) in
    let flagged : length (flag.spelling r.data_check ++ (bits 8 r.lossless ++ (bits 16 r.carried_b ++ (assign ++ [])))) ≤ 1 + (8 + (16 + 6 * (r.max_matrix + 1))) =
    omega (arith, checks, flag_long r.data_check, length-append (flag.spelling r.data_check) (bits 8 r.lossless ++ (bits 16 r.carried_b ++ (assign ++ [])))) in
    put 13 0x18F5 _ _ (put 1 r.kind _ _ (put 16 r.output_timing _ _ (put 4 r.min _ _ (put 4 r.max _ _ (put 4 r.max_matrix _ _ (put 4 r.noise_shift _ _ (put 23 r.seed _ _ (put 19 r.carried_a _ _ flagged))))))))

pub restart_most : (format : Kind) (r : Restart) → length ((restart format).spelling r) ≤ 121 + 6 * (r.max_matrix + 1)
unfolding restart checked fixed part ruled number_of made
restart_most format r =
    let text = (restart_fields format).spelling r in
    let sum = restart_check_of text in
    omega (arith, fields_most format r, length-append text (bits 8 sum ++ []), length-append (bits 8 sum) [], length-bits 8 sum)
