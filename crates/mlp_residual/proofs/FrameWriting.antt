-- Frames are written as they are spelled.
use Rattle.std.proofs.Common.{◌≡◌, ℕ, zero, suc, ◌+◌, ◌-◌, ◌/◌, ◌%◌, ◌^◌, ◌<◌, ◌≤◌, Bool, eqb, bit_and, List, [], ◌∷◌, ◌++◌, length, take, get_or, refl, sym, ap, subst, ◌∙◌, arith}
use Rattle.std.proofs.lemmas.Nat.Bits.{shr_and_one}
use Rattle.std.proofs.Math.Nat.{div-div-eq-div-mul}
use Rattle.std.proofs.lemmas.List.{append-nil}
use Rattle.mlp_syntax.specs.declared.segment.Code.{Code}
use Rattle.mlp_syntax.specs.declared.segment.FrameCode.{FrameCode}
use Rattle.mlp_layout.specs.Layout.{Layout, part, made, number_of}
use Rattle.mlp_books.specs.Books.{symbol_in}
use Rattle.mlp_residual.specs.declared.frames.ChannelCode.{ChannelCode}
use Rattle.mlp_residual.specs.declared.frames.Coding.{Coding}
use Rattle.mlp_layout.specs.Combined.{series}
use Rattle.mlp_layout.specs.Writing.{room, Wrote, Filled}
use Rattle.mlp_layout.proofs.WritingLaws.{SoFar, so_far_begins, so_far_goes_on, so_far_stops, so_far_ends, left_of, LeftFits, left_goes_on, left_done}
use Rattle.mlp_residual.specs.Frames.{unpacked, bypass_bits, code, code_at, frame}
use Rattle.std.proofs.Common.{pow-suc}

-- the text of a series
abbrev pub series_text : {A : Type 0} → (List A → Layout A) → ℕ → List A → List Bool
series_text l n xs = (series l n []).spelling xs

whole_left : {A : Type 0} (l : List A → Layout A) (n : ℕ) (xs : List A) → length xs ≡ n → left_of l xs 0 ≡ series_text l n xs
whole_left l n xs len = let e : length xs - 0 ≡ n = omega arith in ap (λ (k : ℕ). (series l k []).spelling xs) e

pub series_begins : {A : Type 0} (l : List A → Layout A) (n : ℕ) (xs : List A) (old : List Bool) → length xs ≡ n → length old ≤ room → SoFar old old (left_of l xs 0) (series_text l n xs)
series_begins l n xs old len le = subst (λ (t : List Bool). SoFar old old t (series_text l n xs)) (sym (whole_left l n xs len)) (so_far_begins old (series_text l n xs) le)

pub fits_begin : {A : Type 0} (l : List A → Layout A) (n : ℕ) (xs : List A) → length xs ≡ n → (series l n []).Fits xs → LeftFits l xs 0
fits_begin l n xs len h = let e : n ≡ length xs - 0 = omega arith in subst (λ (k : ℕ). (series l k []).Fits xs) e h

module _ {A : Type 0} (l : List A → Layout A) (xs : List A) (i : ℕ) (x : A) (h : i < length xs) (at : x ≡ get_or xs i x) (old now next text : List Bool) (so_far : SoFar old now (left_of l xs i) text) where
  pub series_wrote : Wrote now next ((l (take i xs)).spelling x) → SoFar old next (left_of l xs (i + 1)) text
  series_wrote w = so_far_goes_on old now next ((l (take i xs)).spelling x) (left_of l xs (i + 1)) text (subst (λ (t : List Bool). SoFar old now t text) (left_goes_on l xs i x h at) so_far) w

  pub series_filled : Filled now next ((l (take i xs)).spelling x) → Filled old next text
  series_filled w = so_far_stops old now next ((l (take i xs)).spelling x) (left_of l xs (i + 1)) text (subst (λ (t : List Bool). SoFar old now t text) (left_goes_on l xs i x h at) so_far) w

pub series_written : {A : Type 0} (l : List A → Layout A) (xs : List A) (i : ℕ) (old now text : List Bool) → length xs ≤ i → SoFar old now (left_of l xs i) text → Wrote old now text
series_written l xs i old now text le s = so_far_ends old now text (subst (λ (t : List Bool). SoFar old now t text) (left_done l xs i le) s)

-- an item that is there doesn't depend on what stands for none
pub get_or-same : {A : Type 0} (xs : List A) (i : ℕ) (d : A) → i < length xs → get_or xs i d ≡ get_or xs i (get_or xs i d)
get_or-same [] i d lt = absurd (omega arith)
get_or-same (x ∷ xs) zero d lt = refl
get_or-same (x ∷ xs) (suc i) d lt = get_or-same xs i d (omega arith)

-- the bit of a matrix
pub unpacked-at : (count i v : ℕ) (d : Bool) → i < count → get_or (unpacked count v) i d ≡ eqb (bit_and (v / 2 ^ i) 1) 1
unfolding unpacked
unpacked-at zero i v d lt = absurd (omega arith)
unpacked-at (suc count) zero v d lt = let e : v / 2 ^ 0 ≡ v = omega arith in rw (e, shr_zero v) refl
  where
    shr_zero : (v : ℕ) → bit_and v 1 ≡ v % 2
    shr_zero v = let z : v / 2 ^ 0 ≡ v = omega arith in rw z at (shr_and_one v 0)
unpacked-at (suc count) (suc i) v d lt =
    let e : v / 2 / 2 ^ i ≡ v / 2 ^ suc i = div-div-eq-div-mul v 2 (2 ^ i) ∙ ap (λ (k : ℕ). v / k) (sym (pow-suc 2 i ∙ omega arith)) in
    unpacked-at count i (v / 2) d (omega arith) ∙ ap (λ (k : ℕ). eqb (bit_and k 1) 1) e

-- ---- the texts of codes and frames

pub code_text : (c : ChannelCode) (k : Code) → (symbol_in c.book).spelling k.symbol ++ (number_of c.low).spelling k.low ≡ (code c).spelling k
unfolding code part made
code_text c k = ap (λ (t : List Bool). (symbol_in c.book).spelling k.symbol ++ t) (sym (append-nil ((number_of c.low).spelling k.low)))

pub code_fits : (c : ChannelCode) (k : Code) → (code c).Fits k → (symbol_in c.book).Fits k.symbol × (number_of c.low).Fits k.low
unfolding code part
code_fits c k fits = (fits.0, fits.1.0)

pub frame_text : (k : Coding) (f : FrameCode) → (bypass_bits k.bypass.items).spelling f.bypass ++ (series (code_at k.channels.items) (length k.channels.items) []).spelling f.codes.items ≡ (frame k).spelling f
unfolding frame part made
frame_text k f = ap (λ (t : List Bool). (bypass_bits k.bypass.items).spelling f.bypass ++ t) (sym (append-nil ((series (code_at k.channels.items) (length k.channels.items) []).spelling f.codes.items)))

pub frame_fits : (k : Coding) (f : FrameCode) → (frame k).Fits f → (series (code_at k.channels.items) (length k.channels.items) []).Fits f.codes.items
unfolding frame part
frame_fits k f fits = fits.1.0
