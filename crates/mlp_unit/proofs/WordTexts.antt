-- Words of 16 bits, and entries, as texts.
use Rattle.std.proofs.Common.{◌≡◌, ℕ, suc, ◌+◌, ◌-◌, ◌*◌, ◌/◌, ◌%◌, ◌^◌, ◌<◌, ◌≤◌, Bool, true, false, List, [], ◌∷◌, ◌++◌, length, get_or, drop, Option, Some, None, refl, sym, ap, subst, ◌∙◌, append_assoc, arith}
use Rattle.std.proofs.lemmas.List.{append-nil, drop_more}
use Rattle.std.specs.Prelude.{bit_xor, is_some}
use lib.Pow.{high}
use lib.Bits.{xor_assoc, xor_zero_r}
use Rattle.mlp_syntax.specs.declared.unit.DirEntry.{DirEntry}
use Rattle.mlp_bits.specs.Bits.{bits, digit, bits_of}
use Rattle.mlp_bits.proofs.BitLists.{bits-split}
use Rattle.mlp_bits.proofs.Words.{bits-low, bits_of-append}
use Rattle.mlp_bits.proofs.Writing.{bits_of-one}
use Rattle.mlp_layout.specs.Layout.{number_of, seen, ruled, whole, part, made, item}
use Rattle.mlp_layout.specs.Combined.{flag, chosen, present, times}
use Rattle.mlp_unit.specs.Directory.{entry, entry_size, directory, directory_size}
use Rattle.mlp_unit.specs.AccessUnit.{head, head_fields, half_byte_sum, SumIs, parity_of}
use Rattle.mlp_unit.proofs.ParityLaws.{one_byte}

-- a number made of two
pub bits-join : (k w h v : ℕ) → v < 2 ^ w → bits (k + w) (h * 2 ^ w + v) ≡ bits k h ++ bits w v
bits-join k w h v lt = bits-split k w (h * 2 ^ w + v) ∙ rw (high h w lt, bits-low w w h v (omega arith)) refl

-- ---- entries

digit_small : (b : Bool) → digit b < 2
digit_small true = omega arith
digit_small false = omega arith

abbrev pub word_of : DirEntry → ℕ
word_of e = (((digit (is_some e.extra) * 2 + digit e.restart_absent) * 2 + digit e.checked) * 2 + digit e.reserved) * 4096 + e.end

word_text : (e : DirEntry) → e.end < 4096 → bits 16 (word_of e) ≡ bits 1 (digit (is_some e.extra)) ++ (bits 1 (digit e.restart_absent) ++ (bits 1 (digit e.checked) ++ (bits 1 (digit e.reserved) ++ bits 12 e.end)))
word_text e lt =
    let a = digit (is_some e.extra) in
    let b = digit e.restart_absent in
    let c = digit e.checked in
    let d = digit e.reserved in
    let one = bits-join 4 12 (((a * 2 + b) * 2 + c) * 2 + d) e.end lt in
    let two = bits-join 3 1 ((a * 2 + b) * 2 + c) d (digit_small e.reserved) in
    let three = bits-join 2 1 (a * 2 + b) c (digit_small e.checked) in
    let four = bits-join 1 1 a b (digit_small e.restart_absent) in
    one ∙ ap (λ (t : List Bool). t ++ bits 12 e.end) (two ∙ ap (λ (t : List Bool). t ++ bits 1 d) (three ∙ ap (λ (t : List Bool). t ++ bits 1 c) four)) ∙ simp append_assoc

pub entry_text : (e : DirEntry) (word : ℕ) → e.end < 4096 → word ≡ word_of e → entry.spelling e ≡ bits 16 word ++ (present (is_some e.extra) (number_of 16)).spelling e.extra
unfolding entry part made flag seen number_of
entry_text e word lt is = rw (is, word_text e lt) (simp (append_assoc, append-nil))

-- ---- words

pub word_bytes : (word : ℕ) → word < 65536 → bits 16 word ≡ bits 8 (word / 256) ++ bits 8 (word % 256)
word_bytes word lt =
    let e : word / 256 * 2 ^ 8 + word % 256 ≡ word = omega arith in
    ap (bits 16) (sym e) ∙ bits-join 8 8 (word / 256) (word % 256) (omega arith)

pub pushed_word : (old : List ℕ) (word : ℕ) → word < 65536 → bits_of ((old ++ word / 256 ∷ []) ++ word % 256 ∷ []) ≡ bits_of old ++ bits 16 word
pushed_word old word lt = rw (bits_of-append (old ++ word / 256 ∷ []) (word % 256 ∷ []), bits_of-append old (word / 256 ∷ []), bits_of-one (word / 256), bits_of-one (word % 256), word_bytes word lt)
    (append_assoc (bits_of old) (bits 8 (word / 256)) (bits 8 (word % 256)))

pub nibbles_sum : (word : ℕ) (rest : List Bool) → word < 65536
    → half_byte_sum (bits 16 word ++ rest) ≡ bit_xor (bit_xor (bit_xor (word / 256 / 16) (word / 256 % 16)) (bit_xor (word % 256 / 16) (word % 256 % 16))) (half_byte_sum rest)
nibbles_sum word rest lt =
    rw (word_bytes word lt, append_assoc (bits 8 (word / 256)) (bits 8 (word % 256)) rest, one_byte (word / 256) (bits 8 (word % 256) ++ rest) (omega arith), one_byte (word % 256) rest (omega arith)) (simp xor_assoc)

-- ---- a directory, as a loop writes it

abbrev pub entries_left : List DirEntry → ℕ → List Bool
entries_left es i = (directory (length es - i)).spelling (drop i es)

abbrev pub EntriesFit : List DirEntry → ℕ → Type 0
EntriesFit es i = (directory (length es - i)).Fits (drop i es)

module _ (es : List DirEntry) (i : ℕ) (d : DirEntry) (lt : i < length es) where
  more_is : drop i es ≡ get_or es i d ∷ drop (i + 1) es
  more_is = drop_more es i d lt

  count_is : length es - i ≡ suc (length es - (i + 1))
  count_is = omega arith

  pub entries_go_on : entries_left es i ≡ entry.spelling (get_or es i d) ++ entries_left es (i + 1)
  unfolding directory times item whole
  entries_go_on =
      let k = length es - (i + 1) in
      let one : (directory (suc k)).spelling (get_or es i d ∷ drop (i + 1) es) ≡ entry.spelling (get_or es i d) ++ (directory k).spelling (drop (i + 1) es) = refl in
      ap (λ (n : ℕ). (directory n).spelling (drop i es)) count_is ∙ ap (λ (xs : List DirEntry). (directory (suc k)).spelling xs) more_is ∙ one

  pub entries_fit : EntriesFit es i → entry.Fits (get_or es i d) × EntriesFit es (i + 1)
  unfolding directory times item whole
  entries_fit fits =
      let k = length es - (i + 1) in
      let here : (directory (suc k)).Fits (get_or es i d ∷ drop (i + 1) es) = subst (λ (n : ℕ). (directory n).Fits (get_or es i d ∷ drop (i + 1) es)) count_is
      (subst (λ (xs : List DirEntry). (directory (length es - i)).Fits xs) more_is fits) in
      (here.0, here.1)

  pub sizes_go_on : directory_size (drop i es) ≡ entry_size (get_or es i d) + directory_size (drop (i + 1) es)
  sizes_go_on = rw more_is refl

pub entries_done : (es : List DirEntry) (i : ℕ) → length es ≤ i → entries_left es i ≡ []
unfolding directory times made
entries_done es i le = let k : length es - i ≡ 0 = omega arith in ap (λ (n : ℕ). (directory n).spelling (drop i es)) k

pub end_small : (e : DirEntry) → entry.Fits e → e.end < 4096
unfolding entry part number_of
end_small e fits = fits.1.1.1.1.0

-- an entry's extra word
abbrev pub extra_text : Option ℕ → List Bool
extra_text None = []
extra_text (Some x) = bits 16 x

pub present_text : (o : Option ℕ) → (present (is_some o) (number_of 16)).spelling o ≡ extra_text o
unfolding present chosen seen made number_of
present_text None = refl
present_text (Some x) = refl

-- by whether the entry has one
module _ (e : DirEntry) (word : ℕ) (text : entry.spelling e ≡ bits 16 word ++ (present (is_some e.extra) (number_of 16)).spelling e.extra) where
  pub text_none : e.extra ≡ None → entry.spelling e ≡ bits 16 word
  text_none is = text ∙ ap (λ (t : List Bool). bits 16 word ++ t) (present_text e.extra ∙ ap extra_text is) ∙ append-nil (bits 16 word)

  pub text_some : (x : ℕ) → e.extra ≡ Some x → entry.spelling e ≡ bits 16 word ++ bits 16 x
  text_some x is = text ∙ ap (λ (t : List Bool). bits 16 word ++ t) (present_text e.extra ∙ ap extra_text is)

-- sums of half bytes

pub sum_both : (a b : List Bool) (m n : ℕ) → SumIs a m → SumIs b n → SumIs (a ++ b) (bit_xor m n)
sum_both a b m n h k rest = ap half_byte_sum (append_assoc a b rest) ∙ h (b ++ rest) ∙ ap (bit_xor m) (k rest) ∙ sym (xor_assoc m n (half_byte_sum rest))

pub sum_as : (a b : List Bool) (n : ℕ) → a ≡ b → SumIs b n → SumIs a n
sum_as a b n e h rest = ap (λ (t : List Bool). half_byte_sum (t ++ rest)) e ∙ h rest

-- ---- the head

pub head_text : (check words timing : ℕ) → words < 4096 → head.spelling (record { check = check; words = words; timing = timing }) ≡ bits 16 (check * 4096 + words) ++ bits 16 timing
unfolding head head_fields ruled whole part made number_of
head_text check words timing lt = rw (bits-join 4 12 check words lt) (simp (append_assoc, append-nil))

-- ---- the loop of the parity

pub sum_starts : (words timing a b : ℕ) (es : List DirEntry) → words < 4096 → SumIs (bits 16 words) a → SumIs (bits 16 timing) b
    → bit_xor (bit_xor a b) (half_byte_sum (entries_left es 0)) ≡ parity_of (record { check = 0; words = words; timing = timing }) es
sum_starts words timing a b es lt one two =
    let zero-check : 0 * 4096 + words ≡ words = omega arith in
    let none : length es - 0 ≡ length es = omega arith in
    let text = (directory (length es)).spelling es in
    ap (λ (n : ℕ). bit_xor (bit_xor a b) (half_byte_sum ((directory n).spelling es))) none
    ∙ sym (sum_both (bits 16 words) (bits 16 timing) a b one two text)
    ∙ ap (λ (t : List Bool). half_byte_sum (t ++ text)) (ap (λ (n : ℕ). bits 16 n ++ bits 16 timing) (sym zero-check) ∙ sym (head_text 0 words timing lt))

pub sum_goes_on : (s n total : ℕ) (es : List DirEntry) (i : ℕ) (d : DirEntry) → i < length es → SumIs (entry.spelling (get_or es i d)) n
    → bit_xor s (half_byte_sum (entries_left es i)) ≡ total → bit_xor (bit_xor s n) (half_byte_sum (entries_left es (i + 1))) ≡ total
sum_goes_on s n total es i d lt h so_far =
    xor_assoc s n (half_byte_sum (entries_left es (i + 1))) ∙ ap (bit_xor s) (sym (h (entries_left es (i + 1))) ∙ ap half_byte_sum (sym (entries_go_on es i d lt))) ∙ so_far

pub sum_ends : (s total : ℕ) (es : List DirEntry) (i : ℕ) → length es ≤ i → bit_xor s (half_byte_sum (entries_left es i)) ≡ total → s ≡ total
unfolding half_byte_sum
sum_ends s total es i le so_far = sym (xor_zero_r s) ∙ ap (λ (t : List Bool). bit_xor s (half_byte_sum t)) (sym (entries_done es i le)) ∙ so_far

-- an entry that isn't there
abbrev pub no_entry : DirEntry
no_entry = record { extra = None; restart_absent = false; checked = false; reserved = false; end = 0 }
