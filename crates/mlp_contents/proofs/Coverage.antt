-- The channels that segments code, as the bits of a number.
use Rattle.std.proofs.Common.{◌≡◌, ℕ, zero, suc, ◌+◌, ◌*◌, ◌/◌, ◌%◌, ◌^◌, ◌<◌, Bool, true, false, cond, eqb, List, [], ◌∷◌, ◌++◌, length, get_or, map, Option, Some, None, refl, sym, ap, ◌∙◌, arith, pow-suc}
use Rattle.std.specs.Prelude.{nat_le, ◌&&◌, ◌||◌}
use Rattle.std.specs.List.{list_any, range_with_len}
use Rattle.std.proofs.Math.Nat.{div-div-eq-div-mul}
use Rattle.std.proofs.lemmas.List.Folds.{list_any-append}
use Rattle.std.proofs.lemmas.List.FromFn.{length-map-range_with_len, get_or-map-range_with_len, map-range_with_len_more}
use Rattle.std.proofs.lemmas.List.{same_lists}
use Rattle.mlp_syntax.specs.declared.restart.Restart.{Restart}
use Rattle.mlp_syntax.specs.declared.segment.Segment.{Segment}
use Rattle.mlp_bits.specs.Bits.{bit}
use Rattle.mlp_residual.specs.Frames.{packed, unpacked}
use Rattle.mlp_residual.proofs.FrameLaws.{packed-unpacked, unpacked-more}
use Rattle.mlp_contents.specs.Known.{first_restart, has_channel, covered_by}

low_bit : (b : Bool) (n : ℕ) → bit (cond b 1 0 + 2 * n) 0 ≡ b
low_bit true n = let e : (1 + 2 * n) / 2 ^ 0 % 2 ≡ 1 = omega arith in rw e refl
low_bit false n = let e : (0 + 2 * n) / 2 ^ 0 % 2 ≡ 0 = omega arith in rw e refl

half : (b : Bool) (n : ℕ) → (cond b 1 0 + 2 * n) / 2 ≡ n
half true n = omega arith
half false n = omega arith

high_bit : (b : Bool) (n i : ℕ) → bit (cond b 1 0 + 2 * n) (suc i) ≡ bit n i
high_bit b n i =
    let v = cond b 1 0 + 2 * n in
    let e : v / 2 ^ suc i ≡ n / 2 ^ i = ap (λ (k : ℕ). v / k) (pow-suc 2 i ∙ omega arith) ∙ sym (div-div-eq-div-mul v 2 (2 ^ i)) ∙ ap (λ (k : ℕ). k / 2 ^ i) (half b n) in
    ap (λ (k : ℕ). eqb (k % 2) 1) e

pub bit_packed : (bs : List Bool) (i : ℕ) → i < length bs → bit (packed bs) i ≡ get_or bs i false
unfolding packed
bit_packed [] i lt = absurd (omega arith)
bit_packed (b ∷ bs) zero lt = low_bit b (packed bs)
bit_packed (b ∷ bs) (suc i) lt = high_bit b (packed bs) i ∙ bit_packed bs i (omega arith)

-- ---- the channels of segments

abbrev pub has_any : List Segment → ℕ → Bool
has_any ss c = list_any (λ s. has_channel c (first_restart s.blocks.items)) ss

pub bit_covered : (ss : List Segment) (c : ℕ) → c < 8 → bit (covered_by ss) c ≡ has_any ss c
bit_covered ss c lt =
    bit_packed (map (has_any ss) (range_with_len 0 8)) c (omega (arith, length-map-range_with_len (has_any ss) 0 8))
    ∙ get_or-map-range_with_len (has_any ss) 0 8 c c false lt (omega arith)

pub any_more : (before : List Segment) (s : Segment) (c : ℕ) → has_any (before ++ s ∷ []) c ≡ (has_any before c || has_channel c (first_restart s.blocks.items))
any_more before s c = list_any-append (λ (t : Segment). has_channel c (first_restart t.blocks.items)) before (s ∷ []) ∙ ap (λ (b : Bool). has_any before c || b) (or_false (has_channel c (first_restart s.blocks.items)))
  where
    or_false : (b : Bool) → (b || false) ≡ b
    or_false true = refl
    or_false false = refl

same_below : (f g : ℕ → Bool) → ((c : ℕ) → c < 8 → f c ≡ g c) → map f (range_with_len 0 8) ≡ map g (range_with_len 0 8)
same_below f g h =
    same_lists (map f (range_with_len 0 8)) (map g (range_with_len 0 8)) (length-map-range_with_len f 0 8 ∙ sym (length-map-range_with_len g 0 8))
    (λ k d lt. let small : k < 8 = omega (arith, length-map-range_with_len f 0 8) in
    get_or-map-range_with_len f 0 8 k k d small (omega arith) ∙ h k small ∙ sym (get_or-map-range_with_len g 0 8 k k d small (omega arith)))

-- without a restart
pub covered_same : (before : List Segment) (s : Segment) → first_restart s.blocks.items ≡ None → covered_by before ≡ covered_by (before ++ s ∷ [])
covered_same before s none =
    ap packed (same_below (has_any before) (has_any (before ++ s ∷ [])) (λ c lt. sym (any_more before s c ∙ ap (λ (r : Option Restart). has_any before c || has_channel c r) none ∙ or_no (has_any before c))))
  where
    or_no : (b : Bool) → (b || false) ≡ b
    or_no true = refl
    or_no false = refl

-- with one
pub covered_more : (before : List Segment) (s : Segment) (r : Restart) (covered : ℕ) → covered ≡ covered_by before → first_restart s.blocks.items ≡ Some r
    → packed (map (λ c. bit covered c || (nat_le r.min c && nat_le c r.max)) (range_with_len 0 8)) ≡ covered_by (before ++ s ∷ [])
covered_more before s r covered is some =
    ap packed (same_below (λ c. bit covered c || (nat_le r.min c && nat_le c r.max)) (has_any (before ++ s ∷ []))
    (λ c lt. ap (λ (n : ℕ). bit n c || (nat_le r.min c && nat_le c r.max)) is
    ∙ ap (λ (b : Bool). b || (nat_le r.min c && nat_le c r.max)) (bit_covered before c lt)
    ∙ sym (any_more before s c ∙ ap (λ (o : Option Restart). has_any before c || has_channel c o) some)))

-- ---- bits one after the other

-- one more bit
pub bits_more : (f : ℕ → Bool) (n c : ℕ) → n < 2 ^ c → unpacked c n ≡ map f (range_with_len 0 c) → unpacked (c + 1) (n + cond (f c) (2 ^ c) 0) ≡ map f (range_with_len 0 (c + 1))
bits_more f n c small e =
    let one : c + 1 ≡ suc c = omega arith in
    let more : unpacked (c + 1) (n + cond (f c) (2 ^ c) 0) ≡ unpacked c n ++ f c ∷ [] = ap (λ (k : ℕ). unpacked k (n + cond (f c) (2 ^ c) 0)) one ∙ unpacked-more c n (f c) small in
    more ∙ ap (λ (bs : List Bool). bs ++ f c ∷ []) e ∙ sym (map-range_with_len_more f 0 c c (omega arith))

pub bits_done : (f : ℕ → Bool) (n : ℕ) → n < 2 ^ 8 → unpacked 8 n ≡ map f (range_with_len 0 8) → n ≡ packed (map f (range_with_len 0 8))
bits_done f n small e = sym (packed-unpacked 8 n small) ∙ ap packed e
