-- One channel of frames that stand side by side.
use Rattle.std.proofs.Common.{◌≡◌, ◌≢◌, ℕ, ◌+◌, ◌<◌, ◌≤◌, List, [], ◌∷◌, ◌++◌, length, take, drop, get_or, ℤ, pos, All, refl, sym, ap, ◌∙◌, arith}
use Rattle.std.proofs.lemmas.List.{map-append, take-map, get_or-set_same, get_or-set_other, take-append-drop}
use Rattle.std.proofs.lemmas.List.Elements.{All-head, All-tail}
use Rattle.std.proofs.lemmas.Slice.{take-put_mid}
use borrow.Rule.Slice.PartMut.{put_mid}
use Rattle.mlp_channels.specs.Channels.{column}
use Rattle.mlp_channels.specs.Columns.{with_column}

pub column-append : (c : ℕ) (xs ys : List (List ℤ)) → column c (xs ++ ys) ≡ column c xs ++ column c ys
column-append c xs ys = map-append (λ (frame : List ℤ). get_or frame c (pos 0)) xs ys

pub take-column : (c n : ℕ) (frames : List (List ℤ)) → take n (column c frames) ≡ column c (take n frames)
take-column c n frames = take-map (λ (frame : List ℤ). get_or frame c (pos 0)) n frames

-- ---- the values of a channel put beside the others

-- they are that channel
pub column-with_column : (c : ℕ) (values : List ℤ) (frames : List (List ℤ)) → length values ≡ length frames → All (λ (frame : List ℤ). c < length frame) frames → column c (with_column c values frames) ≡ values
column-with_column c [] [] e wide = refl
column-with_column c [] (frame ∷ frames) e wide = absurd (omega arith)
column-with_column c (v ∷ values) [] e wide = absurd (omega arith)
column-with_column c (v ∷ values) (frame ∷ frames) e wide =
    let P : List ℤ → Type 0 = λ f. c < length f in
    ap (λ (x : ℤ). x ∷ column c (with_column c values frames)) (get_or-set_same frame c v (pos 0) (All-head P frame frames wide))
    ∙ ap (λ (xs : List ℤ). v ∷ xs) (column-with_column c values frames (omega arith) (All-tail P frame frames wide))

-- .. and the others stay
pub column-with_other : (c d : ℕ) (values : List ℤ) (frames : List (List ℤ)) → d ≢ c → column d (with_column c values frames) ≡ column d frames
column-with_other c d [] frames ne = refl
column-with_other c d (v ∷ values) [] ne = refl
column-with_other c d (v ∷ values) (frame ∷ frames) ne =
    ap (λ (x : ℤ). x ∷ column d (with_column c values frames)) (get_or-set_other frame c d v (pos 0) ne)
    ∙ ap (λ (xs : List ℤ). get_or frame d (pos 0) ∷ xs) (column-with_other c d values frames ne)

-- ---- frames put in the place of some

-- a channel that is the same in them stays
pub column-put_same : (c a k : ℕ) (frames part : List (List ℤ)) → column c part ≡ column c (take k (drop a frames)) → column c (put_mid a k frames part) ≡ column c frames
column-put_same c a k frames part e =
    let front = take a frames in
    let rest = drop a frames in
    column-append c front (part ++ drop k rest)
    ∙ ap (λ (xs : List ℤ). column c front ++ xs) (column-append c part (drop k rest) ∙ ap (λ (xs : List ℤ). xs ++ column c (drop k rest)) e
    ∙ sym (column-append c (take k rest) (drop k rest)) ∙ ap (column c) (take-append-drop k rest))
    ∙ sym (column-append c front rest)
    ∙ ap (column c) (take-append-drop a frames)

-- up to their end a channel is what it was before them, and then theirs
pub column-put_mid : (c a k n : ℕ) (frames part : List (List ℤ)) → n ≡ a + length part → a ≤ length frames → take n (column c (put_mid a k frames part)) ≡ take a (column c frames) ++ column c part
column-put_mid c a k n frames part e le =
    take-column c n (put_mid a k frames part)
    ∙ ap (column c) (take-put_mid a k frames part n e le)
    ∙ column-append c (take a frames) part
    ∙ ap (λ (xs : List ℤ). xs ++ column c part) (sym (take-column c a frames))
