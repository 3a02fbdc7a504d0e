-- What the bytes behind a chunk's head are.
use Rattle.std.proofs.Common.{◌≡◌, ℕ, suc, ◌<◌, ◌≤◌, min, cond, Bool, true, false, List, ◌++◌, length, take, drop, codes, Option, Some, None, Ok, Err, Result, inl, inr, nat_eq, nat_lt, arith, refl, ◌∙◌, ap}
use Rattle.std.specs.Prelude.{◌&&◌, ◌⊎◌, is_none}
use Rattle.std.specs.List.{starts_with}
use Rattle.std.proofs.lemmas.Bool.Decides.{nat_tests}
use Rattle.std.proofs.lemmas.List.{length-append, take-append-le, drop-append-le}
use Rattle.mlp_syntax.specs.declared.refusal.WaveField.{WaveField}
use Rattle.mlp_syntax.specs.declared.refusal.WaveField.TheVariants.{Chunk, Riff}
use Rattle.mlp_pcm.specs.declared.wave_format.Format.{Format}
use Rattle.mlp_pcm.specs.WaveHeader.{padded}
use Rattle.mlp_pcm.specs.WaveFormat.{number_at, judged}
use Rattle.mlp_pcm.proofs.ChunkLemmas.{at_true, at_false, not_less}
use Rattle.mlp_pcm.specs.WaveScan.{Answer, refused, unfinished, chunk, chunks, at_data, after_format, header, is_riff}

pub either : (b : Bool) → (b ≡ true) ⊎ (b ≡ false)
either true = inl refl
either false = inr refl

abbrev pub Next : Type 0
Next = Option Format → List ℕ → Answer

pub data View (seen : Option Format) (head xs : List ℕ) : Type 0 where
  is_data : starts_with nat_eq head (codes "data") ≡ true → ((go : Next) → chunk go seen head xs ≡ at_data seen (number_at 4 4 head) xs) → View seen head xs
  is_short : length xs < padded (number_at 4 4 head) → ((go : Next) → chunk go seen head xs ≡ unfinished Chunk) → View seen head xs
  is_wrong : starts_with nat_eq head (codes "data") ≡ false → padded (number_at 4 4 head) ≤ length xs → (field : WaveField) → (starts_with nat_eq head (codes "fmt ") && is_none seen) ≡ true
      → judged (number_at 4 4 head) (take (min (padded (number_at 4 4 head)) 40) xs) ≡ Err field
      → ((go : Next) → chunk go seen head xs ≡ refused field) → View seen head xs
  is_format : starts_with nat_eq head (codes "data") ≡ false → padded (number_at 4 4 head) ≤ length xs → (format : Format) → (starts_with nat_eq head (codes "fmt ") && is_none seen) ≡ true
      → judged (number_at 4 4 head) (take (min (padded (number_at 4 4 head)) 40) xs) ≡ Ok format
      → ((go : Next) → chunk go seen head xs ≡ go (Some format) (drop (padded (number_at 4 4 head)) xs)) → View seen head xs
  is_passed : starts_with nat_eq head (codes "data") ≡ false → padded (number_at 4 4 head) ≤ length xs → (starts_with nat_eq head (codes "fmt ") && is_none seen) ≡ false
      → ((go : Next) → chunk go seen head xs ≡ go seen (drop (padded (number_at 4 4 head)) xs)) → View seen head xs

less_than : (a b : ℕ) → nat_lt a b ≡ true → a < b
less_than a b h = grind (arith, nat_tests)

at_least : (a b : ℕ) → nat_lt a b ≡ false → b ≤ a
at_least a b h = grind (arith, nat_tests)

pub left_true : (a b : Bool) → (a && b) ≡ true → a ≡ true
left_true true b h = refl
left_true false b h = cc

pub right_true : (a b : Bool) → (a && b) ≡ true → b ≡ true
right_true true b h = h
right_true false b h = cc

pub right_none : (a : Bool) (seen : Option Format) → (a && is_none seen) ≡ true → seen ≡ None
right_none a None h = refl
right_none true (Some f) h = cc
right_none false (Some f) h = cc

module _ (seen : Option Format) (head xs : List ℕ) (other : starts_with nat_eq head (codes "data") ≡ false) (long : nat_lt (length xs) (padded (number_at 4 4 head)) ≡ false) where
  open_chunk : (go : Next) → chunk go seen head xs
      ≡ cond (starts_with nat_eq head (codes "fmt ") && is_none seen)
      (after_format go (judged (number_at 4 4 head) (take (min (padded (number_at 4 4 head)) 40) xs)) (drop (padded (number_at 4 4 head)) xs)) (go seen (drop (padded (number_at 4 4 head)) xs))
  unfolding chunk
  open_chunk go = at_false (starts_with nat_eq head (codes "data")) (at_data seen (number_at 4 4 head) xs) _ other ∙ at_false (nat_lt (length xs) (padded (number_at 4 4 head))) (unfinished Chunk) _ long

  view_format : (fmt : (starts_with nat_eq head (codes "fmt ") && is_none seen) ≡ true) (r : Result Format WaveField) → judged (number_at 4 4 head) (take (min (padded (number_at 4 4 head)) 40) xs) ≡ r → View seen head xs
  unfolding after_format
  view_format fmt (Ok format) e =
      is_format other (at_least _ _ long) format fmt e
      (λ go. open_chunk go ∙ at_true _ _ (go seen (drop (padded (number_at 4 4 head)) xs)) fmt ∙ ap (λ r. after_format go r (drop (padded (number_at 4 4 head)) xs)) e)
  view_format fmt (Err field) e =
      is_wrong other (at_least _ _ long) field fmt e (λ go. open_chunk go ∙ at_true _ _ (go seen (drop (padded (number_at 4 4 head)) xs)) fmt ∙ ap (λ r. after_format go r (drop (padded (number_at 4 4 head)) xs)) e)

  view_long : View seen head xs
  view_long = elim (either (starts_with nat_eq head (codes "fmt ") && is_none seen)) as (λ _. View seen head xs) [
    | inl fmt ↦ view_format fmt (judged (number_at 4 4 head) (take (min (padded (number_at 4 4 head)) 40) xs)) refl
    | inr fmt ↦ is_passed other (at_least _ _ long) fmt (λ go. open_chunk go ∙ at_false (starts_with nat_eq head (codes "fmt ") && is_none seen) _ (go seen (drop (padded (number_at 4 4 head)) xs)) fmt)
  ]

view_other : (seen : Option Format) (head xs : List ℕ) → starts_with nat_eq head (codes "data") ≡ false → View seen head xs
unfolding chunk
view_other seen head xs other = elim (either (nat_lt (length xs) (padded (number_at 4 4 head)))) as (λ _. View seen head xs) [
  | inl short ↦ is_short (less_than _ _ short) (λ go. at_false (starts_with nat_eq head (codes "data")) (at_data seen (number_at 4 4 head) xs) _ other ∙ at_true _ (unfinished Chunk) _ short)
  | inr long ↦ view_long seen head xs other long
]

pub view : (seen : Option Format) (head xs : List ℕ) → View seen head xs
unfolding chunk
view seen head xs = elim (either (starts_with nat_eq head (codes "data"))) as (λ _. View seen head xs) [
  | inl d ↦ is_data d (λ go. at_true (starts_with nat_eq head (codes "data")) (at_data seen (number_at 4 4 head) xs) _ d)
  | inr d ↦ view_other seen head xs d
]

-- a whole chunk before more bytes
module _ (seen : Option Format) (head xs more : List ℕ) (other : starts_with nat_eq head (codes "data") ≡ false) (long : padded (number_at 4 4 head) ≤ length xs) where
  open_more : (go : Next) → chunk go seen head (xs ++ more)
      ≡ cond (starts_with nat_eq head (codes "fmt ") && is_none seen)
      (after_format go (judged (number_at 4 4 head) (take (min (padded (number_at 4 4 head)) 40) xs)) (drop (padded (number_at 4 4 head)) xs ++ more)) (go seen (drop (padded (number_at 4 4 head)) xs ++ more))
  open_more go =
      let p : ℕ = padded (number_at 4 4 head) in
      let fmt = starts_with nat_eq head (codes "fmt ") && is_none seen in
      open_chunk seen head (xs ++ more) other (not_less (length (xs ++ more)) p (omega (arith, length-append xs more))) go
      ∙ ap (λ ys. cond fmt (after_format go (judged (number_at 4 4 head) ys) (drop p (xs ++ more))) (go seen (drop p (xs ++ more)))) (take-append-le (min p 40) xs more (omega arith))
      ∙ ap (λ ys. cond fmt (after_format go (judged (number_at 4 4 head) (take (min p 40) xs)) ys) (go seen ys)) (drop-append-le p xs more long)

  pub wrong_more : (go : Next) (field : WaveField) → (starts_with nat_eq head (codes "fmt ") && is_none seen) ≡ true
      → judged (number_at 4 4 head) (take (min (padded (number_at 4 4 head)) 40) xs) ≡ Err field → chunk go seen head (xs ++ more) ≡ refused field
  unfolding after_format
  wrong_more go field fmt e =
      open_more go ∙ at_true _ _ (go seen (drop (padded (number_at 4 4 head)) xs ++ more)) fmt ∙ ap (λ r. after_format go r (drop (padded (number_at 4 4 head)) xs ++ more)) e

  pub format_more : (go : Next) (format : Format) → (starts_with nat_eq head (codes "fmt ") && is_none seen) ≡ true → judged (number_at 4 4 head) (take (min (padded (number_at 4 4 head)) 40) xs) ≡ Ok format
      → chunk go seen head (xs ++ more) ≡ go (Some format) (drop (padded (number_at 4 4 head)) xs ++ more)
  unfolding after_format
  format_more go format fmt e =
      open_more go ∙ at_true _ _ (go seen (drop (padded (number_at 4 4 head)) xs ++ more)) fmt ∙ ap (λ r. after_format go r (drop (padded (number_at 4 4 head)) xs ++ more)) e

  pub passed_more : (go : Next) → (starts_with nat_eq head (codes "fmt ") && is_none seen) ≡ false → chunk go seen head (xs ++ more) ≡ go seen (drop (padded (number_at 4 4 head)) xs ++ more)
  passed_more go fmt = open_more go ∙ at_false (starts_with nat_eq head (codes "fmt ") && is_none seen) _ (go seen (drop (padded (number_at 4 4 head)) xs ++ more)) fmt

pub data_more : (seen : Option Format) (head xs : List ℕ) → starts_with nat_eq head (codes "data") ≡ true → (go : Next) → chunk go seen head xs ≡ at_data seen (number_at 4 4 head) xs
unfolding chunk
data_more seen head xs d go = at_true (starts_with nat_eq head (codes "data")) (at_data seen (number_at 4 4 head) xs) _ d

-- the chunks from here on, where a whole head is there or not
pub data ViewAll (seen : Option Format) (bytes : List ℕ) : Type 0 where
  no_head : length bytes < 8 → ((n : ℕ) → chunks (suc n) seen bytes ≡ unfinished Chunk) → ViewAll seen bytes
  one_head : 8 ≤ length bytes → ((n : ℕ) → chunks (suc n) seen bytes ≡ chunk (chunks n) seen (take 8 bytes) (drop 8 bytes)) → ViewAll seen bytes

pub view_all : (seen : Option Format) (bytes : List ℕ) → ViewAll seen bytes
unfolding chunks
view_all seen bytes = elim (either (nat_lt (length bytes) 8)) as (λ _. ViewAll seen bytes) [
  | inl short ↦ no_head (less_than _ _ short) (λ n. at_true (nat_lt (length bytes) 8) (unfinished Chunk) _ short)
  | inr long ↦ one_head (at_least _ _ long) (λ n. at_false (nat_lt (length bytes) 8) (unfinished Chunk) _ long)
]

-- the first 12 bytes
pub data ViewHeader (bytes : List ℕ) : Type 0 where
  no_riff : length bytes < 12 → ((n : ℕ) → header n bytes ≡ unfinished Riff) → ViewHeader bytes
  wrong_riff : 12 ≤ length bytes → is_riff (take 12 bytes) ≡ false → ((n : ℕ) → header n bytes ≡ refused Riff) → ViewHeader bytes
  right_riff : 12 ≤ length bytes → is_riff (take 12 bytes) ≡ true → ((n : ℕ) → header n bytes ≡ chunks n None (drop 12 bytes)) → ViewHeader bytes

view_riff : (bytes : List ℕ) → nat_lt (length bytes) 12 ≡ false → ViewHeader bytes
unfolding header
view_riff bytes long = elim (either (is_riff (take 12 bytes))) as (λ _. ViewHeader bytes) [
  | inl r ↦ right_riff (at_least _ _ long) r (λ n. at_false (nat_lt (length bytes) 12) (unfinished Riff) _ long ∙ at_true (is_riff (take 12 bytes)) (chunks n None (drop 12 bytes)) (refused Riff) r)
  | inr r ↦ wrong_riff (at_least _ _ long) r (λ n. at_false (nat_lt (length bytes) 12) (unfinished Riff) _ long ∙ at_false (is_riff (take 12 bytes)) (chunks n None (drop 12 bytes)) (refused Riff) r)
]

pub view_header : (bytes : List ℕ) → ViewHeader bytes
unfolding header
view_header bytes = elim (either (nat_lt (length bytes) 12)) as (λ _. ViewHeader bytes) [
  | inl short ↦ no_riff (less_than _ _ short) (λ n. at_true (nat_lt (length bytes) 12) (unfinished Riff) _ short)
  | inr long ↦ view_riff bytes long
]
