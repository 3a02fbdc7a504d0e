-- Codes read from words.
use Rattle.std.proofs.Common.{◌≡◌, ℕ, zero, suc, ◌+◌, ◌*◌, ◌-◌, ◌/◌, ◌%◌, ◌^◌, ◌<◌, ◌≤◌, Bool, List, [], ◌∷◌, ◌++◌, length, get_or, take}
use Rattle.std.proofs.Common.{drop, Ok, Err, refl, sym, ap, subst, ◌∙◌, arith, append_assoc, append-nil, drop-cons, add-one, max, w64}
use Rattle.std.specs.Int.{rotate_left}
use Rattle.std.specs.Int.Bits.{bit_and, bit_or}
use lib.Bits.{or_step}
use Rattle.std.proofs.lemmas.List.{take_at, drop-drop, drop-append-le}
use Rattle.std.proofs.lemmas.Bool.{le-leb}
use Rattle.std.proofs.lemmas.Nat.{and_mask, or_shifted, mod-pow-add, pow-add}
use Rattle.std.proofs.Math.Nat.{mod-lt, mod-eq_of_lt, mul-mod_left, mul-div_left, mul-add-div_right, mul-le-mul_right, add-mul-mod_self_right, div-eq_of_lt, div-div-eq-div-mul, div-lt_iff_lt-mul}
use Rattle.std.proofs.Math.Pow.{pow_pos, mod-mod-pow}
use Rattle.mlp_syntax.specs.declared.fault.Broken.{Broken}
use Rattle.mlp_bits.specs.Bits.{bits, number}
use Rattle.mlp_bits.proofs.BitLists.{bits-split, bits-drop, number-bits, length-bits}
use Rattle.mlp_layout.specs.Layout.{part, made, number_of}
use Rattle.mlp_layout.specs.Reading.{number_at}
use Rattle.mlp_books.specs.Books.{symbol_in, meaning_in, longest_in}
use Rattle.mlp_books.proofs.SymbolLaws.{Ahead, symbol_ahead}
use Rattle.mlp_residual.specs.declared.frames.ChannelCode.{ChannelCode}
use Rattle.mlp_residual.specs.declared.ahead.Lookup.{Lookup}
use Rattle.mlp_residual.specs.Lookups.{most_of, most_in, bits_for, IsLookup, IsWindow, Planned}
use Rattle.mlp_residual.specs.Frames.{code}

-- ---- fields of words

-- a field of a word, counted from its front
pub word_field : (all rest : List Bool) (p o w n : ℕ) → drop p all ≡ bits 64 n ++ rest → o + w ≤ 64 → n / 2 ^ (64 - o - w) % 2 ^ w ≡ number (take w (drop (p + o) all))
word_field all rest p o w n is le =
    let e : 64 ≡ o + (64 - o) = omega arith in
    let f : 64 - o ≡ w + (64 - o - w) = omega arith in
    let s : bits 64 n ≡ bits (o + (64 - o)) n = ap (λ (k : ℕ). bits k n) e in
    let d : drop o (bits 64 n) ≡ bits (64 - o) n = ap (drop o) s ∙ bits-drop o (64 - o) n in
    let g : bits (64 - o) n ≡ bits w (n / 2 ^ (64 - o - w)) ++ bits (64 - o - w) n = ap (λ (k : ℕ). bits k n) f ∙ bits-split w (64 - o - w) n in
    let t : take w ((bits w (n / 2 ^ (64 - o - w)) ++ bits (64 - o - w) n) ++ rest) ≡ bits w (n / 2 ^ (64 - o - w)) = ap (take w) (append_assoc (bits w (n / 2 ^ (64 - o - w))) (bits (64 - o - w) n) rest)
    ∙ take_at _ _ w (length-bits w (n / 2 ^ (64 - o - w))) in
    rw (← drop-drop o p all, is, drop-append-le o (bits 64 n) rest (omega (arith, length-bits 64 n)), d, g, t, number-bits w (n / 2 ^ (64 - o - w))) refl

-- a word moved up by o bits, then down so that w are left
pub moved_field : (n o w d : ℕ) → o + w + d ≡ 64 → n * 2 ^ o % 2 ^ 64 / 2 ^ (d + o) ≡ n / 2 ^ d % 2 ^ w
moved_field n o w d e =
    let field = n / 2 ^ d % 2 ^ w in
    let rest = n % 2 ^ d in
    let sixty-four : 64 ≡ (w + d) + o = omega (arith, e) in
    let up : n * 2 ^ o % 2 ^ ((w + d) + o) ≡ (n * 2 ^ o / 2 ^ o % 2 ^ (w + d)) * 2 ^ o + n * 2 ^ o % 2 ^ o = mod-pow-add (n * 2 ^ o) (w + d) o in
    let low : n * 2 ^ o % 2 ^ o ≡ 0 = mul-mod_left n (2 ^ o) in
    let back : n * 2 ^ o / 2 ^ o ≡ n = mul-div_left n (pow_pos o) in
    let split : n % 2 ^ (w + d) ≡ field * 2 ^ d + rest = mod-pow-add n w d in
    let inner : (n * 2 ^ o / 2 ^ o % 2 ^ (w + d)) * 2 ^ o + n * 2 ^ o % 2 ^ o ≡ (field * 2 ^ d + rest) * 2 ^ o + 0 = rw (low, back, split) refl in
    let whole : n * 2 ^ o % 2 ^ 64 ≡ (field * 2 ^ d + rest) * 2 ^ o + 0 = ap (λ (k : ℕ). n * 2 ^ o % 2 ^ k) sixty-four ∙ up ∙ inner in
    let none : (field * 2 ^ d + rest) * 2 ^ o + 0 ≡ (field * 2 ^ d + rest) * 2 ^ o = omega arith in
    let swap : d + o ≡ o + d = omega arith in
    let two : 2 ^ (d + o) ≡ 2 ^ o * 2 ^ d = ap (λ (k : ℕ). 2 ^ k) swap ∙ pow-add 2 o d in
    let above : (field * 2 ^ d + rest) * 2 ^ o / 2 ^ o ≡ field * 2 ^ d + rest = mul-div_left (field * 2 ^ d + rest) (pow_pos o) in
    let beside : (field * 2 ^ d + rest) / 2 ^ d ≡ field + rest / 2 ^ d = mul-add-div_right (pow_pos d) field rest in
    let gone : rest / 2 ^ d ≡ 0 = div-eq_of_lt (mod-lt n (pow_pos d)) in
    let end : field + rest / 2 ^ d ≡ field = omega (arith, gone) in
    ap (λ (k : ℕ). k / 2 ^ (d + o)) (whole ∙ none)
    ∙ ap (λ (k : ℕ). (field * 2 ^ d + rest) * 2 ^ o / k) two
    ∙ sym (div-div-eq-div-mul ((field * 2 ^ d + rest) * 2 ^ o) (2 ^ o) (2 ^ d))
    ∙ ap (λ (k : ℕ). k / 2 ^ d) above ∙ beside ∙ end

-- ---- windows

-- a word moved up to a place within it
pub window_at : (all rest : List Bool) (p s n : ℕ) → drop p all ≡ bits 64 n ++ rest → s ≤ 63 → IsWindow (n * 2 ^ s % 2 ^ 64) (64 - s) all (p + s)
window_at all rest p s n is le = record {
  word = mod-lt (n * 2 ^ s) (pow_pos 64);
  most = omega arith;
  field = λ o w h.
      let d = 64 - (s + o) - w in
      let down : 64 - o - w ≡ d + s = omega arith in
      let moved : n * 2 ^ s % 2 ^ 64 / 2 ^ (d + s) ≡ n / 2 ^ d % 2 ^ (o + w) = moved_field n s (o + w) d (omega arith) in
      let there : p + (s + o) ≡ p + s + o = omega arith in
      ap (λ (k : ℕ). n * 2 ^ s % 2 ^ 64 / 2 ^ k % 2 ^ w) down
      ∙ ap (λ (k : ℕ). k % 2 ^ w) moved ∙ mod-mod-pow (n / 2 ^ d) o w
      ∙ word_field all rest p (s + o) w n is (omega arith)
      ∙ ap (λ (k : ℕ). number (take w (drop k all))) there;
}

-- fewer bits of a window
pub narrower : (window left count : ℕ) (all : List Bool) (p : ℕ) → count ≤ left → IsWindow window left all p → IsWindow window count all p
narrower window left count all p le is = record { word = is.word; most = omega (arith, le, is.most); field = λ o w h. is.field o w (omega (arith, le, h)) }

or_self_below : (k n : ℕ) → n < 2 ^ k → bit_or n n ≡ n
or_self_below zero n h = let none : n ≡ 0 = omega arith in rw none refl
or_self_below (suc k) n h =
    let half : n / 2 < 2 ^ k = omega (arith, pow-add 2 1 k) in
    let low : max (n % 2) (n % 2) ≡ n % 2 = omega arith in
    let back : n / 2 * 2 + n % 2 ≡ n = omega arith in
    or_step n n ∙ ap (λ (m : ℕ). m * 2 + max (n % 2) (n % 2)) (or_self_below k (n / 2) half) ∙ ap (λ (m : ℕ). n / 2 * 2 + m) low ∙ back

-- a word that was turned by t bits
pub turned : (n t : ℕ) → n < 2 ^ 64 → t < 64 → rotate_left w64 n t ≡ (n % 2 ^ (64 - t)) * 2 ^ t + n / 2 ^ (64 - t)
turned n zero lt le =
    let all : n * 2 ^ 0 % 2 ^ 64 ≡ n = ap (λ (m : ℕ). m % 2 ^ 64) (let one : n * 2 ^ 0 ≡ n = omega arith in one) ∙ mod-eq_of_lt lt in
    let whole : n / 2 ^ 0 ≡ n = omega arith in
    let left : (n % 2 ^ 64) * 2 ^ 0 + n / 2 ^ 64 ≡ n = let gone : n / 2 ^ 64 ≡ 0 = div-eq_of_lt lt in let kept : n % 2 ^ 64 ≡ n = mod-eq_of_lt lt in omega (arith, gone, kept) in
    ap (λ (m : ℕ). bit_or m (n / 2 ^ 0)) all ∙ ap (bit_or n) whole ∙ or_self_below 64 n lt ∙ sym left
turned n (suc u) lt le =
    let t = suc u in
    let same : t % 64 ≡ t = mod-eq_of_lt le in
    let other : (64 - t) % 64 ≡ 64 - t = mod-eq_of_lt (omega arith) in
    let sixty-four : 64 ≡ (64 - t) + t = omega arith in
    let low : n * 2 ^ t % 2 ^ t ≡ 0 = mul-mod_left n (2 ^ t) in
    let back : n * 2 ^ t / 2 ^ t ≡ n = mul-div_left n (pow_pos t) in
    let up : n * 2 ^ t % 2 ^ 64 ≡ (n % 2 ^ (64 - t)) * 2 ^ t = ap (λ (k : ℕ). n * 2 ^ t % 2 ^ k) sixty-four ∙ mod-pow-add (n * 2 ^ t) (64 - t) t
    ∙ rw (low, back) (let none : (n % 2 ^ (64 - t)) * 2 ^ t + 0 ≡ (n % 2 ^ (64 - t)) * 2 ^ t = omega arith in none) in
    let small : n / 2 ^ (64 - t) < 2 ^ t = (div-lt_iff_lt-mul (pow_pos (64 - t))).1 (rw (← pow-add 2 t (64 - t)) (ap_lt sixty-four)) in
    rw (same, other, up) (or_shifted (n % 2 ^ (64 - t)) t (n / 2 ^ (64 - t)) small)
  where
    ap_lt : 64 ≡ (64 - suc u) + suc u → n < 2 ^ (suc u + (64 - suc u))
    ap_lt e = let f : suc u + (64 - suc u) ≡ 64 = omega arith in rw f lt

-- two parts of a number
upper : (a b t d : ℕ) → b < 2 ^ t → (a * 2 ^ t + b) / 2 ^ (d + t) ≡ a / 2 ^ d
upper a b t d lt =
    let swap : d + t ≡ t + d = omega arith in
    let two : 2 ^ (d + t) ≡ 2 ^ t * 2 ^ d = ap (λ (k : ℕ). 2 ^ k) swap ∙ pow-add 2 t d in
    let beside : (a * 2 ^ t + b) / 2 ^ t ≡ a + b / 2 ^ t = mul-add-div_right (pow_pos t) a b in
    let gone : b / 2 ^ t ≡ 0 = div-eq_of_lt lt in
    let end : a + b / 2 ^ t ≡ a = omega (arith, gone) in
    ap (λ (k : ℕ). (a * 2 ^ t + b) / k) two ∙ sym (div-div-eq-div-mul (a * 2 ^ t + b) (2 ^ t) (2 ^ d)) ∙ ap (λ (k : ℕ). k / 2 ^ d) (beside ∙ end)

lower : (a b t l : ℕ) → l ≤ t → (a * 2 ^ t + b) % 2 ^ l ≡ b % 2 ^ l
lower a b t l le =
    let e : t ≡ (t - l) + l = omega arith in
    let two : 2 ^ t ≡ 2 ^ (t - l) * 2 ^ l = ap (λ (k : ℕ). 2 ^ k) e ∙ pow-add 2 (t - l) l in
    let whole : a * 2 ^ t + b ≡ b + a * 2 ^ (t - l) * 2 ^ l = rw two (omega arith) in
    ap (λ (k : ℕ). k % 2 ^ l) whole ∙ add-mul-mod_self_right b (a * 2 ^ (t - l)) (2 ^ l)

-- a field of what was cut to so many bits
cut_field : (n d o w : ℕ) → n % 2 ^ ((o + w) + d) / 2 ^ d % 2 ^ w ≡ n / 2 ^ d % 2 ^ w
cut_field n d o w =
    let split : n % 2 ^ ((o + w) + d) ≡ (n / 2 ^ d % 2 ^ (o + w)) * 2 ^ d + n % 2 ^ d = mod-pow-add n (o + w) d in
    let high : ((n / 2 ^ d % 2 ^ (o + w)) * 2 ^ d + n % 2 ^ d) / 2 ^ (0 + d) ≡ (n / 2 ^ d % 2 ^ (o + w)) / 2 ^ 0 = upper (n / 2 ^ d % 2 ^ (o + w)) (n % 2 ^ d) d 0 (mod-lt n (pow_pos d)) in
    let zero-d : d ≡ 0 + d = omega arith in
    let whole : (n / 2 ^ d % 2 ^ (o + w)) / 2 ^ 0 ≡ n / 2 ^ d % 2 ^ (o + w) = omega arith in
    ap (λ (k : ℕ). k / 2 ^ d % 2 ^ w) split
    ∙ ap (λ (k : ℕ). ((n / 2 ^ d % 2 ^ (o + w)) * 2 ^ d + n % 2 ^ d) / 2 ^ k % 2 ^ w) zero-d
    ∙ ap (λ (k : ℕ). k % 2 ^ w) (high ∙ whole) ∙ mod-mod-pow (n / 2 ^ d) o w

-- what is left of a window that was turned
pub turned_window : (n t left rest : ℕ) (all : List Bool) (p : ℕ) → t < 64 → rest + t ≤ left → IsWindow n left all p → IsWindow (rotate_left w64 n t) rest all (p + t)
turned_window n t left rest all p le fits is =
    let high = n % 2 ^ (64 - t) in
    let low = n / 2 ^ (64 - t) in
    let parts : rotate_left w64 n t ≡ high * 2 ^ t + low = turned n t is.word le in
    let sixty-four : 64 ≡ t + (64 - t) = omega arith in
    let word-in : n < 2 ^ (t + (64 - t)) = subst (λ (k : ℕ). n < 2 ^ k) sixty-four is.word in
    let small : low < 2 ^ t = (div-lt_iff_lt-mul (pow_pos (64 - t))).1 (rw (← pow-add 2 t (64 - t)) word-in) in
    let below : high < 2 ^ (64 - t) = mod-lt n (pow_pos (64 - t)) in
    let bound : suc high * 2 ^ t ≤ 2 ^ (64 - t) * 2 ^ t = mul-le-mul_right (2 ^ t) below in
    let product : 2 ^ (64 - t) * 2 ^ t ≡ 2 ^ 64 = sym (pow-add 2 (64 - t) t) ∙ ap (λ (k : ℕ). 2 ^ k) (let back : (64 - t) + t ≡ 64 = omega arith in back) in
    record {
      word = rw parts (omega (arith, bound, product, small));
      most = omega (arith, is.most);
      field = λ o w h.
          let d = 64 - (t + o) - w in
          let most = is.most in
          let down : 64 - o - w ≡ d + t = omega (arith, most) in
          let width : 64 - t ≡ (o + w) + d = omega (arith, most) in
          let there : p + (t + o) ≡ p + t + o = omega arith in
          ap (λ (k : ℕ). k / 2 ^ (64 - o - w) % 2 ^ w) parts
          ∙ ap (λ (k : ℕ). (high * 2 ^ t + low) / 2 ^ k % 2 ^ w) down
          ∙ ap (λ (k : ℕ). k % 2 ^ w) (upper high low t d small)
          ∙ ap (λ (k : ℕ). n % 2 ^ k / 2 ^ d % 2 ^ w) width
          ∙ cut_field n d o w
          ∙ is.field (t + o) w (omega arith)
          ∙ ap (λ (k : ℕ). number (take w (drop k all))) there;
    }

-- the bits that were turned to the end
pub turned_field : (n t left l : ℕ) (all : List Bool) (p : ℕ) → t < 64 → l ≤ t → t ≤ left → IsWindow n left all p → rotate_left w64 n t % 2 ^ l ≡ number (take l (drop (p + (t - l)) all))
turned_field n t left l all p le low fits is =
    let same : 64 - (t - l) - l ≡ 64 - t = omega (arith, is.most) in
    ap (λ (k : ℕ). k % 2 ^ l) (turned n t is.word le)
    ∙ lower (n % 2 ^ (64 - t)) (n / 2 ^ (64 - t)) t l low
    ∙ sym (ap (λ (k : ℕ). n / 2 ^ k % 2 ^ l) same)
    ∙ is.field (t - l) l (omega arith)

-- low bits, by ones in their places
pub masked : (n l mask : ℕ) → l ≤ 31 → mask ≡ 2 ^ l - 1 → bit_and (n % 2 ^ 32) mask ≡ n % 2 ^ l
masked n l mask le is =
    let e : 32 ≡ (32 - l) + l = omega arith in
    ap (bit_and (n % 2 ^ 32)) is ∙ and_mask (n % 2 ^ 32) l
    ∙ ap (λ (k : ℕ). n % 2 ^ k % 2 ^ l) e ∙ mod-mod-pow n (32 - l) l

-- ---- codes

-- what nine bits of a window say
pub meaning_ahead : (book first p nine n window left : ℕ) (all : List Bool) (meanings : List ℕ) → book ≤ 3 → first ≡ 512 * book → p + longest_in book ≤ length all → longest_in book ≤ left
    → IsWindow window left all p
    → nine ≡ window / 2 ^ 55
    → ((b k : ℕ) → b ≤ 3 → k < 2 ^ 9 → get_or meanings (512 * b + k) 0 ≡ meaning_in b k)
    → n ≡ get_or meanings (first + nine) 0 → Ahead book n all p
meaning_ahead book first p nine n window left all meanings le first-is room enough is nine-is each n-is =
    let there : p + 0 ≡ p = omega arith in
    let few : nine < 2 ^ 9 = nine_bits window nine is.word nine-is in
    let cut : window / 2 ^ 55 % 2 ^ 9 ≡ nine = ap (λ (k : ℕ). k % 2 ^ 9) (sym nine-is) ∙ mod-eq_of_lt few in
    let spelled : 0 < book → nine ≡ number (take 9 (drop p all)) = λ some. sym cut ∙ is.field 0 9 (nine_of book left some enough) ∙ ap (λ (k : ℕ). number (take 9 (drop k all))) there in
    symbol_ahead book all p nine n room spelled (n-is ∙ ap (λ (k : ℕ). get_or meanings (k + nine) 0) first-is ∙ each book nine le few)
  where
    nine_bits : (window nine : ℕ) → window < 2 ^ 64 → nine ≡ window / 2 ^ 55 → nine < 2 ^ 9
    nine_bits window nine lt e = rw e ((div-lt_iff_lt-mul (pow_pos 55)).1 (rw (← pow-add 2 9 55) lt))

    nine_of : (book left : ℕ) → 0 < book → longest_in book ≤ left → 0 + 9 ≤ left
    nine_of zero left some enough = absurd (omega (arith, some))
    nine_of (suc book) left some enough = omega (arith, enough)

pub code_reads : (c : ChannelCode) (all : List Bool) (p q s n : ℕ) → (symbol_in c.book).read all p ≡ Ok (s, q) → q + c.low ≤ length all → n ≡ number (take c.low (drop q all))
    → (code c).read all p ≡ Ok (record { symbol = s; low = n }, q + c.low)
unfolding code part made number_of number_at
code_reads c all p q s n h le is = rw (h, le-leb (q + c.low) (length all) le, is) refl

pub code_fails : (c : ChannelCode) (all : List Bool) (p : ℕ) (e : Broken) → (symbol_in c.book).read all p ≡ Err e → (code c).read all p ≡ Err e
unfolding code part
code_fails c all p e h = rw h refl

longest : (book : ℕ) → longest_in book ≤ 9
longest zero = omega arith
longest (suc book) = omega arith

-- the code at the front of a window, whose width and low bits are turned to its end
pub code_at_front : (c : ChannelCode) (n window left low taken : ℕ) (all : List Bool) (p : ℕ) → Ahead c.book n all p → n < 65535 → c.low ≤ 31
    → longest_in c.book + c.low ≤ left → IsWindow window left all p → p + (longest_in c.book + c.low) ≤ length all
    → taken ≡ n % 256 + c.low → low ≡ rotate_left w64 window taken % 2 ^ c.low
    → ((code c).read all p ≡ Ok (record { symbol = n / 256; low = low }, p + taken)) × IsWindow (rotate_left w64 window taken) (left - (longest_in c.book + c.low)) all (p + taken) × (taken ≤ longest_in c.book + c.low)
code_at_front c n window left low taken all p ahead lt few fits is room taken-is low-is =
    let width : n % 256 ≤ longest_in c.book = ahead.few lt in
    let nine = longest c.book in
    let most : taken ≤ longest_in c.book + c.low = omega arith in
    let rest : left - (longest_in c.book + c.low) + taken ≤ left = omega arith in
    let back : taken - c.low ≡ n % 256 = omega arith in
    let behind : p + n % 256 + c.low ≡ p + taken = omega arith in
    let field : low ≡ number (take c.low (drop (p + n % 256) all)) =
    low-is ∙ turned_field window taken left c.low all p (omega arith) (omega arith) (omega arith) is ∙ ap (λ (k : ℕ). number (take c.low (drop (p + k) all))) back in
    let read : (code c).read all p ≡ Ok (record { symbol = n / 256; low = low }, p + n % 256 + c.low) =
    code_reads c all p (p + n % 256) (n / 256) low (ahead.some lt) (omega arith) field in
    (read ∙ ap (λ (q : ℕ). Ok (record { symbol = n / 256; low = low }, q)) behind, turned_window window taken left (left - (longest_in c.book + c.low)) all p (omega arith) rest is, most)

-- ---- the windows of a frame

-- one more code is planned
pub planned_more : (left rest : ℕ) (lookups : List Lookup) (l : Lookup) → ((ls : List Lookup) → Planned left ls → Planned 57 (lookups ++ ls)) → most_of l ≤ bits_for l left → rest ≡ bits_for l left - most_of l
    → (ls : List Lookup) → Planned rest ls → Planned 57 ((lookups ++ l ∷ []) ++ ls)
unfolding Planned
planned_more left rest lookups l so_far enough rest-is ls h =
    let here : Planned left (l ∷ ls) = (enough, subst (λ (k : ℕ). Planned k ls) rest-is h) in
    subst (λ (ks : List Lookup). Planned 57 ks) (sym (append_assoc lookups (l ∷ []) ls)) (so_far (l ∷ ls) here)

pub planned_all : (left : ℕ) (lookups : List Lookup) → ((ls : List Lookup) → Planned left ls → Planned 57 (lookups ++ ls)) → Planned 57 lookups
unfolding Planned
planned_all left lookups so_far = subst (λ (ks : List Lookup). Planned 57 ks) (append-nil lookups) (so_far [] tt)

-- what is planned for the next code and for those behind it
pub record Next (left : ℕ) (l : Lookup) (ls : List Lookup) : Type 0 where
  pub enough : most_of l ≤ bits_for l left
  pub rest : Planned (bits_for l left - most_of l) ls

pub planned_next : (left i : ℕ) (lookups : List Lookup) (d : Lookup) → i < length lookups → Planned left (drop i lookups) → Next left (get_or lookups i d) (drop (i + 1) lookups)
unfolding Planned
planned_next left i lookups d lt h = split (subst (λ (ls : List Lookup). Planned left ls) (drop-cons lookups i d lt ∙ ap (λ (k : ℕ). get_or lookups i d ∷ drop k lookups) (sym (add-one i))) h)
  where
    split : Planned left (get_or lookups i d ∷ drop (i + 1) lookups) → Next left (get_or lookups i d) (drop (i + 1) lookups)
    split p = record { enough = p.0; rest = p.1 }

-- ---- how many bits the codes of a frame take

pub most_next : (i : ℕ) (lookups : List Lookup) (d : Lookup) → i < length lookups → most_in (drop i lookups) ≡ most_of (get_or lookups i d) + most_in (drop (i + 1) lookups)
most_next i lookups d lt = ap most_in (drop-cons lookups i d lt ∙ ap (λ (k : ℕ). get_or lookups i d ∷ drop k lookups) (sym (add-one i)))

pub most_more : (lookups : List Lookup) (l : Lookup) → most_in (lookups ++ l ∷ []) ≡ most_in lookups + most_of l
most_more [] l = omega arith
most_more (k ∷ ks) l = ap (λ (n : ℕ). most_of k + n) (most_more ks l) ∙ (let e : most_of k + (most_in ks + most_of l) ≡ most_of k + most_in ks + most_of l = omega arith in e)

pub looked_up_few : (l : Lookup) → IsLookup l → most_of l ≤ 40
looked_up_few l is = omega (arith, longest (l.table_start / 512), is.low)
