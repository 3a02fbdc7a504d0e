-- The frames are layouts.
use Rattle.std.proofs.Common.{◌≡◌, ℕ, zero, suc, ◌+◌, ◌*◌, ◌-◌, ◌/◌, ◌%◌, ◌^◌, ◌<◌, Bool, true, false, cond, eqb, List, [], ◌∷◌, ◌++◌, length, Option, Some, Result, Ok, Err, refl, sym, ap, ◌∙◌, ◌≤◌, append_assoc, take, drop, arith, pow-suc}
use Rattle.mlp_syntax.specs.declared.fault.Broken.{Broken}
use Rattle.mlp_layout.specs.Reading.{Read, ◌>>=◌, with_front, Gives}
use Rattle.mlp_layout.specs.Layout.{Layout, IsLayout, part, item, made}
use Rattle.arrayvec.specs.ArrayVec.{ArrayVec, array_vec_len}
use Rattle.mlp_bits.specs.Cursor.{Cursor}
use Rattle.std.proofs.Math.Seq.{take-append-add}
use Rattle.std.proofs.lemmas.List.{length-append, length-take-le, length-take, length-drop, take_at, take-take}
use Rattle.std.proofs.lemmas.Slice.{take-put_mid}
use borrow.Rule.Slice.PartMut.{put_mid}
use Rattle.mlp_layout.specs.Combined.{series, listed}
use Rattle.mlp_layout.specs.Allowed.{Allowed}
use Rattle.mlp_layout.proofs.LayoutLaws.{seen_is}
use Rattle.mlp_layout.proofs.CombinedLaws.{layouts, times_count}
use Rattle.mlp_layout.proofs.Loops.{SeriesContinues}
use Rattle.mlp_books.proofs.SymbolLaws.{symbol_in_is}
use Rattle.mlp_params.specs.declared.state.State.{State}
use Rattle.mlp_residual.specs.declared.frames.ChannelCode.{ChannelCode}
use Rattle.mlp_residual.specs.declared.frames.Coding.{Coding}
use Rattle.mlp_residual.specs.Frames.{packed, unpacked, bypass_bit, bypass_bits, code, frame, coded_frames, frames_of, GivesBehind}
use Rattle.mlp_layout.proofs.Repeated.{no_front}

abbrev ok_of : {A : Type 0} → A → Result A Broken
ok_of x = Ok x

abbrev some_of : {A : Type 0} → A → Option A
some_of x = Some x

-- a series that fits has as many values
pub series-length : {A : Type 0} (l : List A → Layout A) (n : ℕ) (before xs : List A) → (series l n before).Fits xs → length xs ≡ n
unfolding series item made
series-length l zero before xs fits = ap (λ ys. length ys) fits
series-length l (suc n) before [] fits = absurd fits
series-length l (suc n) before (x ∷ xs) fits = ap suc (series-length l n (before ++ x ∷ []) xs fits.1)

-- ---- bypass bits

odd : (b : Bool) (n : ℕ) → (eqb ((cond b 1 0 + 2 * n) % 2) 1 ≡ b) × ((cond b 1 0 + 2 * n) / 2 ≡ n)
odd true n = let e : (1 + 2 * n) % 2 ≡ 1 = omega arith in (rw e refl, omega arith)
odd false n = let e : (0 + 2 * n) % 2 ≡ 0 = omega arith in (rw e refl, omega arith)

pub unpacked-packed : (bs : List Bool) → unpacked (length bs) (packed bs) ≡ bs
unfolding packed unpacked
unpacked-packed [] = refl
unpacked-packed (b ∷ bs) = let o = odd b (packed bs) in rw (o.0, o.1, unpacked-packed bs) refl

bypass_back : (rows bits : List Bool) → (series (bypass_bit rows) (length rows) []).Fits bits → some_of (unpacked (length rows) (packed bits)) ≡ Some bits
bypass_back rows bits fits = ap some_of (rw (← series-length (bypass_bit rows) (length rows) [] bits fits) (unpacked-packed bits))

pub bypass_bits_is : (rows : List Bool) → IsLayout (bypass_bits rows)
unfolding bypass_bits
bypass_bits_is rows = seen_is packed (λ n. Some (unpacked (length rows) n)) {l = series (bypass_bit rows) (length rows) []} (search layouts depth 20) (λ bits fits meets. bypass_back rows bits fits)

pub packed-unpacked : (i n : ℕ) → n < 2 ^ i → packed (unpacked i n) ≡ n
unfolding packed unpacked
packed-unpacked zero n h = omega arith
packed-unpacked (suc i) n h =
    let half : n / 2 < 2 ^ i = omega (arith, pow-suc 2 i) in
    rw (packed-unpacked i (n / 2) half) (bit_and_rest n)
  where
    bit_and_rest : (n : ℕ) → cond (eqb (n % 2) 1) 1 0 + 2 * (n / 2) ≡ n
    bit_and_rest n = grind arith

pub length-unpacked : (i n : ℕ) → length (unpacked i n) ≡ i
unfolding unpacked
length-unpacked zero n = refl
length-unpacked (suc i) n = ap suc (length-unpacked i (n / 2))

-- one more bit
pub unpacked-more : (i n : ℕ) (b : Bool) → n < 2 ^ i → unpacked (suc i) (n + cond b (2 ^ i) 0) ≡ unpacked i n ++ b ∷ []
unfolding unpacked
unpacked-more zero n true h = let z : n ≡ 0 = omega arith in rw z refl
unpacked-more zero n false h = let z : n ≡ 0 = omega arith in rw z refl
unpacked-more (suc i) n b h =
    let half : n / 2 < 2 ^ i = omega (arith, pow-suc 2 i) in
    let low : (n + cond b (2 ^ suc i) 0) % 2 ≡ n % 2 = parity b in
    let high : (n + cond b (2 ^ suc i) 0) / 2 ≡ n / 2 + cond b (2 ^ i) 0 = halved b in
    let more : eqb (n / 2 % 2) 1 ∷ unpacked i (n / 2 / 2) ≡ eqb (n / 2 % 2) 1 ∷ unpacked i (n / 2 / 2) = refl in
    rw (low, high) (ap (λ (t : List Bool). eqb (n % 2) 1 ∷ t) (unpacked-more i (n / 2) b half))
  where
    parity : (b : Bool) → (n + cond b (2 ^ suc i) 0) % 2 ≡ n % 2
    parity true = rw (pow-suc 2 i) (omega arith)
    parity false = omega arith

    halved : (b : Bool) → (n + cond b (2 ^ suc i) 0) / 2 ≡ n / 2 + cond b (2 ^ i) 0
    halved true = rw (pow-suc 2 i) (omega arith)
    halved false = omega arith

-- ---- codes and frames

pub code_is : (c : ChannelCode) → IsLayout (code c)
unfolding code
code_is c = search (layouts, symbol_in_is) depth 20

pub frame_is : (k : Coding) → IsLayout (frame k)
unfolding frame
frame_is k = search (layouts, bypass_bits_is, code_is) depth 20

pub coded_frames_is : (k : Coding) (count : ℕ) → IsLayout (coded_frames k count)
unfolding coded_frames
coded_frames_is k count = search (layouts, frame_is) depth 20

pub frames_of_is : (s : State) (count : ℕ) → IsLayout (frames_of s count)
unfolding frames_of
frames_of_is s count = coded_frames_is _ count

-- ---- reading in a loop

-- where a series begins
pub starts : {A : Type 0} (l : List A → Layout A) (n : ℕ) (all : List Bool) (p : ℕ) → SeriesContinues l (n - 0) [] all p ((series l n []).read all p)
starts l n all p = let e : n - 0 ≡ n = omega arith in rw e (no_front ((series l n []).read all p))

-- each is read as the others are
same_before : {A : Type 0} (l : Layout A) (n : ℕ) (a b : List A) (all : List Bool) (p : ℕ) → (series (λ _. l) n a).read all p ≡ (series (λ _. l) n b).read all p
unfolding series item made
same_before l zero a b all p = refl
same_before l (suc n) a b all p = go (l.read all p) (λ x. same_before l n (a ++ x.0 ∷ []) (b ++ x.0 ∷ []) all x.1)
  where
    go : (r : Read _) → ((x : _ × ℕ) → (series (λ _. l) n (a ++ x.0 ∷ [])).read all x.1 ≡ (series (λ _. l) n (b ++ x.0 ∷ [])).read all x.1)
        → (r >>= λ x. (series (λ _. l) n (a ++ x.0 ∷ [])).read all x.1 >>= λ xs. ok_of (x.0 ∷ xs.0, xs.1)) ≡ (r >>= λ x. (series (λ _. l) n (b ++ x.0 ∷ [])).read all x.1 >>= λ xs. ok_of (x.0 ∷ xs.0, xs.1))
    go (Ok x) h = ap (λ (r : Read _). r >>= λ xs. ok_of (x.0 ∷ xs.0, xs.1)) (h x)
    go (Err e) h = refl

pub listed-length : {A : Type 0} (l : Layout A) (n : ℕ) (v : ArrayVec A) → Allowed (listed n l) v → array_vec_len v ≡ n
unfolding listed part
listed-length l n v h = times_count n l v.items h.fits.0

-- ---- some values after others

-- with one value before
abbrev one_before : {A : Type 0} → A × ℕ → Read (List A) → Read (List A)
one_before x read = read >>= λ xs. ok_of (x.0 ∷ xs.0, xs.1)

one_in_front : {A : Type 0} (x : A × ℕ) (ys : List A) (read : Read (List A)) → one_before x (with_front ys read) ≡ with_front (x.0 ∷ ys) read
one_in_front x ys (Ok z) = refl
one_in_front x ys (Err e) = refl

-- so many values, and then others
in_two : {A : Type 0} (l : Layout A) (n k : ℕ) (all : List Bool) (p : ℕ) → (series (λ _. l) (n + k) []).read all p ≡ ((series (λ _. l) n []).read all p >>= λ xs. with_front xs.0 ((series (λ _. l) k []).read all xs.1))
unfolding series item made
in_two l zero k all p =
    let z : 0 + k ≡ k = omega arith in
    ap (λ (i : ℕ). (series (λ _. l) i []).read all p) z ∙ sym (no_front ((series (λ _. l) k []).read all p))
in_two l (suc n) k all p =
    let s : suc n + k ≡ suc (n + k) = omega arith in
    ap (λ (i : ℕ). (series (λ _. l) i []).read all p) s ∙ go (l.read all p) (λ q. in_two l n k all q)
  where
    later : (x : _ × ℕ) (s : Read (List _)) → one_before x (s >>= λ ys. with_front ys.0 ((series (λ _. l) k []).read all ys.1)) ≡ (one_before x s >>= λ ys. with_front ys.0 ((series (λ _. l) k []).read all ys.1))
    later x (Ok ys) = one_in_front x ys.0 ((series (λ _. l) k []).read all ys.1)
    later x (Err e) = refl

    go : (r : Read _) → ((q : ℕ) → (series (λ _. l) (n + k) []).read all q ≡ ((series (λ _. l) n []).read all q >>= λ xs. with_front xs.0 ((series (λ _. l) k []).read all xs.1)))
        → (r >>= λ x. one_before x ((series (λ _. l) (n + k) (x.0 ∷ [])).read all x.1))
        ≡ ((r >>= λ x. one_before x ((series (λ _. l) n (x.0 ∷ [])).read all x.1)) >>= λ ys. with_front ys.0 ((series (λ _. l) k []).read all ys.1))
    go (Ok x) more =
        let whole : (series (λ _. l) (n + k) (x.0 ∷ [])).read all x.1 ≡ ((series (λ _. l) n []).read all x.1 >>= λ xs. with_front xs.0 ((series (λ _. l) k []).read all xs.1)) =
        same_before l (n + k) (x.0 ∷ []) [] all x.1 ∙ more x.1 in
        let some = same_before l n (x.0 ∷ []) [] all x.1 in
        ap (one_before x) whole ∙ (later x ((series (λ _. l) n []).read all x.1) ∙ ap (λ (r : Read (List _)). one_before x r >>= λ ys. with_front ys.0 ((series (λ _. l) k []).read all ys.1)) (sym some))
    go (Err e) more = refl

fronts : {A : Type 0} (front xs : List A) (read : Read (List A)) → with_front front (with_front xs read) ≡ with_front (front ++ xs) read
fronts front xs (Ok ys) = ap (λ (zs : List _). ok_of (zs, ys.1)) (sym (append_assoc front xs ys.0))
fronts front xs (Err e) = refl

-- a loop reads several at once
pub series_appends : {A : Type 0} (l : Layout A) (n m : ℕ) (front xs : List A) (all : List Bool) (p q : ℕ) (total : Read (List A)) → n ≤ m → (series (λ _. l) n []).read all p ≡ Ok (xs, q)
    → SeriesContinues (λ _. l) m front all p total → SeriesContinues (λ _. l) (m - n) (front ++ xs) all q total
series_appends l n m front xs all p q total le h so_far =
    let k : m ≡ n + (m - n) = omega arith in
    let rest = (series (λ _. l) (m - n) []).read all q in
    let two : (series (λ _. l) (n + (m - n)) []).read all p ≡ with_front xs rest = in_two l n (m - n) all p ∙ rw h refl in
    let whole : (series (λ _. l) m front).read all p ≡ with_front xs rest = same_before l m front [] all p ∙ (ap (λ (i : ℕ). (series (λ _. l) i []).read all p) k ∙ two) in
    ap (with_front (front ++ xs)) (same_before l (m - n) (front ++ xs) [] all q) ∙ (sym (fronts front xs rest) ∙ (ap (with_front front) (sym whole) ∙ so_far))

-- .. or finds a fault among them
pub series_breaks : {A : Type 0} (l : Layout A) (n m : ℕ) (front : List A) (all : List Bool) (p : ℕ) (e : Broken) (total : Read (List A)) → n ≤ m → (series (λ _. l) n []).read all p ≡ Err e
    → SeriesContinues (λ _. l) m front all p total → total ≡ Err e
series_breaks l n m front all p e total le h so_far =
    let k : m ≡ n + (m - n) = omega arith in
    let two : (series (λ _. l) (n + (m - n)) []).read all p ≡ Err e = in_two l n (m - n) all p ∙ rw h refl in
    let whole : (series (λ _. l) m front).read all p ≡ Err e = same_before l m front [] all p ∙ (ap (λ (i : ℕ). (series (λ _. l) i []).read all p) k ∙ two) in
    sym so_far ∙ ap (with_front front) whole

-- one value alone
pub one_is_read : {A : Type 0} (l : Layout A) (x : A) (all : List Bool) (p q : ℕ) → l.read all p ≡ Ok (x, q) → (series (λ _. l) 1 []).read all p ≡ Ok (x ∷ [], q)
unfolding series item made
one_is_read l x all p q h = rw h refl

-- the first of several fails
pub first_fails : {A : Type 0} (l : Layout A) (n : ℕ) (all : List Bool) (p : ℕ) (e : Broken) → 0 < n → l.read all p ≡ Err e → (series (λ _. l) n []).read all p ≡ Err e
unfolding series item
first_fails l zero all p e h fails = absurd (omega arith)
first_fails l (suc n) all p e h fails = rw fails refl

-- ---- values in place of others

-- the first of a part that was written behind the values before it
pub some_in_place : {A : Type 0} (a k n : ℕ) (xs ys : List A) → a ≤ length xs → n ≤ length ys → take (a + n) (put_mid a k xs ys) ≡ take a xs ++ take n ys
some_in_place a k n xs ys le few =
    let count : length (take a xs) ≡ a = length-take-le a xs le in
    let inner : take (a + n) (take (a + length ys) (put_mid a k xs ys)) ≡ take (a + n) (put_mid a k xs ys) = take-take (a + n) (a + length ys) (put_mid a k xs ys) (omega arith) in
    let whole : take (a + length ys) (put_mid a k xs ys) ≡ take a xs ++ ys = take-put_mid a k xs ys (a + length ys) refl le in
    let some : take (length (take a xs) + n) (take a xs ++ ys) ≡ take a xs ++ take n ys = take-append-add (take a xs) ys n in
    sym inner ∙ (ap (take (a + n)) whole ∙ (ap (λ (i : ℕ). take (i + n) (take a xs ++ ys)) (sym count) ∙ some))

-- a part written into a list leaves its length
pub length_in_place : {A : Type 0} (a k : ℕ) (xs ys : List A) → a + k ≤ length xs → length ys ≡ k → length (put_mid a k xs ys) ≡ length xs
length_in_place a k xs ys le count = simp (length-append, length-drop, length-take) (omega arith)

-- a list that was written back into one as long
pub written_back : {A : Type 0} (xs ys : List A) → length ys ≡ length xs → take (length xs) (ys ++ drop (length ys) xs) ≡ ys
written_back xs ys h = take_at ys (drop (length ys) xs) (length xs) h

-- what was read in place of others stands behind those before them
pub stands_behind : {A : Type 0} (front xs after : List A) (n m : ℕ) (l : ℕ → Layout (List A)) (old new : Cursor) (r : Result (Unit {0}) Broken) → n ≡ m → after ≡ front ++ xs
    → Gives (λ _. xs) old new r ((l n).read old.all old.place) → GivesBehind front after old new r ((l m).read old.all old.place)
stands_behind front xs after n m l old new (Ok x) same is gives =
    let read : (l m).read old.all old.place ≡ Ok (xs, new.place) = ap (λ (i : ℕ). (l i).read old.all old.place) (sym same) ∙ gives.0 in
    (ap (with_front front) read ∙ ap (λ (ys : List _). ok_of (ys, new.place)) (sym is), gives.1, gives.2)
stands_behind front xs after n m l old new (Err e) same is gives = ap (λ (i : ℕ). (l i).read old.all old.place) (sym same) ∙ gives
