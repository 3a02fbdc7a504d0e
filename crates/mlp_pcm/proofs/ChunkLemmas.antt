-- One chunk more.
use Rattle.std.proofs.Common.{◌≡◌, ℕ, suc, ◌+◌, ◌<◌, ◌≤◌, min, cond, Bool, true, false, List, [], ◌++◌, length, take, drop, codes, Option, Some, None, Ok, Err, inr, nat_eq, nat_lt, arith, refl, sym, ◌∙◌, ap}
use Rattle.std.specs.Prelude.{◌&&◌, is_none, is_some}
use Rattle.std.specs.List.{starts_with}
use Rattle.std.proofs.lemmas.Bool.Decides.{nat_tests}
use Rattle.std.proofs.lemmas.List.{take_at, drop_at, append_assoc, length-append, append-nil}
use Rattle.mlp_syntax.specs.declared.refusal.WaveField.{WaveField}
use Rattle.mlp_syntax.specs.declared.refusal.WaveField.TheVariants.{Chunk, FmtMissing, Riff}
use Rattle.mlp_pcm.specs.declared.wave_format.Format.{Format}
use Rattle.mlp_pcm.specs.declared.wave_bytes.WaveRefusal.{WaveRefusal}
use Rattle.mlp_pcm.specs.declared.wave_bytes.WaveRefusal.TheVariants.{Read, Header, TooLong}
use Rattle.mlp_pcm.specs.WaveBytes.{Stops}
use Rattle.mlp_pcm.specs.WaveHeader.{padded}
use Rattle.mlp_pcm.specs.WaveFormat.{number_at, judged}
use Rattle.mlp_pcm.specs.WaveScan.{Answer, refused, unfinished, begins, chunk, chunks, at_data, after_format, Ends, ContentSays, header, is_riff}

less : (a b : ℕ) → a < b → nat_lt a b ≡ true
less a b h = grind (arith, nat_tests)

pub not_less : (a b : ℕ) → b ≤ a → nat_lt a b ≡ false
not_less a b h = grind (arith, nat_tests)

pub at_false : (b : Bool) (x y : Answer) → b ≡ false → cond b x y ≡ y
at_false b x y h = ap (λ t. cond t x y) h

pub at_true : (b : Bool) (x y : Answer) → b ≡ true → cond b x y ≡ x
at_true b x y h = ap (λ t. cond t x y) h

pub chunk_short : (go : Option Format → List ℕ → Answer) (seen : Option Format) (head xs : List ℕ)
    → starts_with nat_eq head (codes "data") ≡ false → length xs < padded (number_at 4 4 head) → chunk go seen head xs ≡ unfinished Chunk
unfolding chunk
chunk_short go seen head xs h l =
    at_false (starts_with nat_eq head (codes "data")) (at_data seen (number_at 4 4 head) xs) _ h
    ∙ at_true (nat_lt (length xs) (padded (number_at 4 4 head))) (unfinished Chunk) _ (less (length xs) (padded (number_at 4 4 head)) l)

pub chunk_open : (go : Option Format → List ℕ → Answer) (seen : Option Format) (head xs rest : List ℕ) → starts_with nat_eq head (codes "data") ≡ false → length xs ≡ padded (number_at 4 4 head)
    → chunk go seen head (xs ++ rest) ≡ cond (starts_with nat_eq head (codes "fmt ") && is_none seen) (after_format go (judged (number_at 4 4 head) (take (min (padded (number_at 4 4 head)) 40) (xs ++ rest))) rest) (go seen rest)
unfolding chunk
chunk_open go seen head xs rest h l =
    let p : ℕ = padded (number_at 4 4 head) in
    at_false (starts_with nat_eq head (codes "data")) (at_data seen (number_at 4 4 head) (xs ++ rest)) _ h
    ∙ at_false (nat_lt (length (xs ++ rest)) p) (unfinished Chunk) _ (not_less (length (xs ++ rest)) p (omega (arith, length-append xs rest)))
    ∙ ap (λ w. cond (starts_with nat_eq head (codes "fmt ") && is_none seen) (after_format go (judged (number_at 4 4 head) (take (min p 40) (xs ++ rest))) w) (go seen w)) (drop_at xs rest p l)

-- a chunk's head
pub head_short : (n : ℕ) (seen : Option Format) (xs : List ℕ) → length xs < 8 → chunks (suc n) seen xs ≡ unfinished Chunk
unfolding chunks
head_short n seen xs h = at_true (nat_lt (length xs) 8) (unfinished Chunk) _ (less (length xs) 8 h)

pub head_then : (n : ℕ) (seen : Option Format) (head rest : List ℕ) → length head ≡ 8 → chunks (suc n) seen (head ++ rest) ≡ chunk (chunks n) seen head rest
unfolding chunks
head_then n seen head rest l =
    at_false (nat_lt (length (head ++ rest)) 8) (unfinished Chunk) _ (not_less (length (head ++ rest)) 8 (omega (arith, length-append head rest)))
    ∙ ap (λ h. chunk (chunks n) seen h (drop 8 (head ++ rest))) (take_at head rest 8 l) ∙ ap (chunk (chunks n) seen head) (drop_at head rest 8 l)

-- why a chunk's content didn't come whole
pub content_ends : (a b : Option (List ℕ)) (taken count : ℕ) (seen : Option Format) (head : List ℕ) (e : WaveRefusal) → starts_with nat_eq head (codes "data") ≡ false
    → count ≡ padded (number_at 4 4 head) → Stops a b taken count Chunk e → Ends a b taken (ContentSays seen head) e
content_ends a b taken count seen head Read h l (xs, k, small, within) =
    (xs, k, within, Chunk, λ n. chunk_short (chunks n) seen head xs h (omega arith))
content_ends a b taken count seen head (Header field) h l (f, (xs, k, q, small, within)) =
    (xs, k, within, inr ((λ n. chunk_short (chunks n) seen head xs h (omega arith) ∙ ap unfinished (sym f)), q))
content_ends a b taken count seen head TooLong h l (xs, x, k, small, all) =
    (xs, x, k, all, Chunk, λ n. chunk_short (chunks n) seen head xs h (omega arith))

-- a chunk that is passed over
pub chunk_other : (n : ℕ) (seen : Option Format) (head xs rest : List ℕ) → starts_with nat_eq head (codes "data") ≡ false → length xs ≡ padded (number_at 4 4 head)
    → (starts_with nat_eq head (codes "fmt ") && is_none seen) ≡ false → chunk (chunks n) seen head (xs ++ rest) ≡ chunks n seen rest
chunk_other n seen head xs rest h l f = chunk_open (chunks n) seen head xs rest h l
    ∙ ap (λ t. cond t (after_format (chunks n) (judged (number_at 4 4 head) (take (min (padded (number_at 4 4 head)) 40) (xs ++ rest))) rest) (chunks n seen rest)) f

-- the first fmt chunk
chunk_fmt : (n : ℕ) (head first xs rest : List ℕ) → starts_with nat_eq head (codes "data") ≡ false → length first ≡ min (padded (number_at 4 4 head)) 40
    → length first + length xs ≡ padded (number_at 4 4 head) → starts_with nat_eq head (codes "fmt ") ≡ true
    → chunk (chunks n) None head ((first ++ xs) ++ rest) ≡ after_format (chunks n) (judged (number_at 4 4 head) first) rest
chunk_fmt n head first xs rest h l k f =
    let p : ℕ = padded (number_at 4 4 head) in
    chunk_open (chunks n) None head (first ++ xs) rest h (omega (arith, length-append first xs))
    ∙ ap (λ t. cond (t && true) (after_format (chunks n) (judged (number_at 4 4 head) (take (min p 40) ((first ++ xs) ++ rest))) rest) (chunks n None rest)) f
    ∙ ap (λ w. after_format (chunks n) (judged (number_at 4 4 head) w) rest)
    (ap (take (min p 40)) (append_assoc first xs rest) ∙ take_at first (xs ++ rest) (min p 40) l)

pub fmt_right : (n : ℕ) (head first xs rest : List ℕ) (format : Format) → starts_with nat_eq head (codes "data") ≡ false → length first ≡ min (padded (number_at 4 4 head)) 40
    → length first + length xs ≡ padded (number_at 4 4 head) → starts_with nat_eq head (codes "fmt ") ≡ true
    → judged (number_at 4 4 head) first ≡ Ok format → chunk (chunks n) None head ((first ++ xs) ++ rest) ≡ chunks n (Some format) rest
unfolding after_format
fmt_right n head first xs rest format h l k f e = chunk_fmt n head first xs rest h l k f ∙ ap (λ r. after_format (chunks n) r rest) e

pub fmt_wrong : (n : ℕ) (head first xs : List ℕ) (field : WaveField) → starts_with nat_eq head (codes "data") ≡ false → length first ≡ min (padded (number_at 4 4 head)) 40
    → length first + length xs ≡ padded (number_at 4 4 head) → starts_with nat_eq head (codes "fmt ") ≡ true
    → judged (number_at 4 4 head) first ≡ Err field → chunk (chunks n) None head (first ++ xs) ≡ refused field
unfolding after_format
fmt_wrong n head first xs field h l k f e =
    ap (chunk (chunks n) None head) (sym (append-nil (first ++ xs))) ∙ chunk_fmt n head first xs [] h l k f ∙ ap (λ r. after_format (chunks n) r []) e

-- the data chunk
pub data_begins : (n : ℕ) (format : Format) (head rest : List ℕ) → length head ≡ 8 → starts_with nat_eq head (codes "data") ≡ true → chunks (suc n) (Some format) (head ++ rest) ≡ begins format (number_at 4 4 head) rest
unfolding chunk at_data
data_begins n format head rest l h = head_then n (Some format) head rest l ∙ at_true (starts_with nat_eq head (codes "data")) (at_data (Some format) (number_at 4 4 head) rest) _ h

pub data_missing : (n : ℕ) (head rest : List ℕ) → length head ≡ 8 → starts_with nat_eq head (codes "data") ≡ true → chunks (suc n) None (head ++ rest) ≡ refused FmtMissing
unfolding chunk at_data
data_missing n head rest l h = head_then n None head rest l ∙ at_true (starts_with nat_eq head (codes "data")) (at_data None (number_at 4 4 head) rest) _ h

pub some_is : (seen : Option Format) (b : Bool) → true ≡ is_some seen → (b && is_none seen) ≡ false
some_is None b h = cc
some_is (Some format) true h = refl
some_is (Some format) false h = refl

pub none_is : (seen : Option Format) → false ≡ is_some seen → seen ≡ None
none_is None h = refl
none_is (Some format) h = cc

-- the first 12 bytes
pub header_short : (n : ℕ) (xs : List ℕ) → length xs < 12 → header n xs ≡ unfinished Riff
unfolding header
header_short n xs h = at_true (nat_lt (length xs) 12) (unfinished Riff) _ (less (length xs) 12 h)

pub header_then : (n : ℕ) (riff rest : List ℕ) → length riff ≡ 12 → header n (riff ++ rest) ≡ cond (is_riff riff) (chunks n None rest) (refused Riff)
unfolding header
header_then n riff rest l =
    at_false (nat_lt (length (riff ++ rest)) 12) (unfinished Riff) _ (not_less (length (riff ++ rest)) 12 (omega (arith, length-append riff rest)))
    ∙ ap (λ h. cond (is_riff h) (chunks n None (drop 12 (riff ++ rest))) (refused Riff)) (take_at riff rest 12 l)
    ∙ ap (λ w. cond (is_riff riff) (chunks n None w) (refused Riff)) (drop_at riff rest 12 l)

pub riff_right : (n : ℕ) (riff rest : List ℕ) → length riff ≡ 12 → starts_with nat_eq riff (codes "RIFF") ≡ true → starts_with nat_eq (drop 8 riff) (codes "WAVE") ≡ true → header n (riff ++ rest) ≡ chunks n None rest
riff_right n riff rest l e f = header_then n riff rest l
    ∙ at_true (is_riff riff) (chunks n None rest) (refused Riff) (ap (λ t. t && starts_with nat_eq (drop 8 riff) (codes "WAVE")) e ∙ ap (λ t. true && t) f)

pub riff_wrong : (n : ℕ) (riff : List ℕ) → length riff ≡ 12 → is_riff riff ≡ false → header n riff ≡ refused Riff
riff_wrong n riff l e = ap (header n) (sym (append-nil riff)) ∙ header_then n riff [] l ∙ at_false (is_riff riff) (chunks n None []) (refused Riff) e
