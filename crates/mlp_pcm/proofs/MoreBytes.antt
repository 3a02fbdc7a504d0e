-- Bytes behind a header, or behind a wrong field.
use Rattle.std.proofs.Common.{◌≡◌, ℕ, zero, suc, ◌≤◌, List, ◌++◌, length, take, drop, Option, Some, None, refl, sym, ◌∙◌, ap, subst}
use Rattle.std.proofs.lemmas.List.{take-append-drop, append_assoc, length-take-le}
use Rattle.mlp_syntax.specs.declared.refusal.WaveField.{WaveField}
use Rattle.mlp_syntax.specs.declared.refusal.WaveField.TheVariants.{Riff}
use Rattle.mlp_pcm.specs.declared.wave_format.Format.{Format}
use Rattle.mlp_pcm.specs.WaveScan.{Answer, refused, unfinished, begins, unknown, chunk, chunks, at_data, header, is_riff, Says}
use Rattle.mlp_pcm.proofs.ChunkViews.{Next, is_data, is_short, is_wrong, is_format, is_passed, view, no_head, one_head, view_all, no_riff, wrong_riff, right_riff, view_header, wrong_more, format_more, passed_more, data_more}
use Rattle.mlp_pcm.proofs.ChunkLemmas.{head_then, header_then, at_true, at_false}

record IsSettled (a : Answer) : Type 0 where
  known : a ≡ unknown → ⊥
  finished : (field : WaveField) → a ≡ unfinished field → ⊥

abbrev extended : Answer → List ℕ → Answer
extended (begins format size rest) more = begins format size (rest ++ more)
extended (refused field) more = refused field
extended (unfinished field) more = unfinished field
extended unknown more = unknown

data_extended : (seen : Option Format) (size : ℕ) (rest more : List ℕ) → at_data seen size (rest ++ more) ≡ extended (at_data seen size rest) more
unfolding at_data
data_extended None size rest more = refl
data_extended (Some format) size rest more = refl

abbrev Extends : Next → List ℕ → Type 0
Extends go more = (t : Option Format) (ys : List ℕ) → IsSettled (go t ys) → go t (ys ++ more) ≡ extended (go t ys) more

chunk_extended : (go : Next) (seen : Option Format) (head xs more : List ℕ) → Extends go more → IsSettled (chunk go seen head xs) → chunk go seen head (xs ++ more) ≡ extended (chunk go seen head xs) more
chunk_extended go seen head xs more step settled = elim (view seen head xs) as (λ _. chunk go seen head (xs ++ more) ≡ extended (chunk go seen head xs) more) [
  | is_data d e ↦ data_more seen head (xs ++ more) d go ∙ data_extended seen _ xs more ∙ ap (λ a. extended a more) (sym (e go))
  | is_short l e ↦ absurd (settled.finished _ (e go))
  | is_wrong o l field f j e ↦ wrong_more seen head xs more o l go field f j ∙ ap (λ a. extended a more) (sym (e go))
  | is_format o l format f j e ↦ format_more seen head xs more o l go format f j ∙ step (Some format) _ (subst IsSettled (e go) settled) ∙ ap (λ a. extended a more) (sym (e go))
  | is_passed o l f e ↦ passed_more seen head xs more o l go f ∙ step seen _ (subst IsSettled (e go) settled) ∙ ap (λ a. extended a more) (sym (e go))
]

whole_then : (n : ℕ) (bytes more : List ℕ) → n ≤ length bytes → bytes ++ more ≡ take n bytes ++ (drop n bytes ++ more)
whole_then n bytes more l = ap (λ ys. ys ++ more) (sym (take-append-drop n bytes)) ∙ append_assoc (take n bytes) (drop n bytes) more

chunks_extended : (n : ℕ) (more : List ℕ) → Extends (chunks n) more
unfolding chunks
chunks_extended zero more seen bytes settled = absurd (settled.known refl)
chunks_extended (suc n) more seen bytes settled = elim (view_all seen bytes) as (λ _. chunks (suc n) seen (bytes ++ more) ≡ extended (chunks (suc n) seen bytes) more) [
  | no_head l e ↦ absurd (settled.finished _ (e n))
  | one_head l e ↦ ap (chunks (suc n) seen) (whole_then 8 bytes more l) ∙ head_then n seen (take 8 bytes) (drop 8 bytes ++ more) (length-take-le 8 bytes l)
      ∙ chunk_extended (chunks n) seen (take 8 bytes) (drop 8 bytes) more (chunks_extended n more) (subst IsSettled (e n) settled) ∙ ap (λ a. extended a more) (sym (e n))
]

header_extended : (n : ℕ) (bytes more : List ℕ) → IsSettled (header n bytes) → header n (bytes ++ more) ≡ extended (header n bytes) more
header_extended n bytes more settled = elim (view_header bytes) as (λ _. header n (bytes ++ more) ≡ extended (header n bytes) more) [
  | no_riff l e ↦ absurd (settled.finished _ (e n))
  | wrong_riff l r e ↦ ap (header n) (whole_then 12 bytes more l) ∙ header_then n (take 12 bytes) (drop 12 bytes ++ more) (length-take-le 12 bytes l)
      ∙ at_false (is_riff (take 12 bytes)) (chunks n None (drop 12 bytes ++ more)) (refused Riff) r ∙ ap (λ a. extended a more) (sym (e n))
  | right_riff l r e ↦ ap (header n) (whole_then 12 bytes more l) ∙ header_then n (take 12 bytes) (drop 12 bytes ++ more) (length-take-le 12 bytes l)
      ∙ at_true (is_riff (take 12 bytes)) (chunks n None (drop 12 bytes ++ more)) (refused Riff) r ∙ chunks_extended n more None (drop 12 bytes) (subst IsSettled (e n) settled) ∙ ap (λ a. extended a more) (sym (e n))
]

begins_settled : (format : Format) (size : ℕ) (rest : List ℕ) → IsSettled (begins format size rest)
begins_settled format size rest = record { known = λ e. cc; finished = λ field e. cc }

refused_settled : (field : WaveField) → IsSettled (refused field)
refused_settled field = record { known = λ e. cc; finished = λ other e. cc }

pub begins_more : (bytes more : List ℕ) (format : Format) (size : ℕ) (rest : List ℕ) → Says bytes (begins format size rest) → Says (bytes ++ more) (begins format size (rest ++ more))
begins_more bytes more format size rest (n, e) = (n, header_extended n bytes more (subst IsSettled (sym e) (begins_settled format size rest)) ∙ ap (λ a. extended a more) e)

pub refused_more : (bytes more : List ℕ) (field : WaveField) → Says bytes (refused field) → Says (bytes ++ more) (refused field)
refused_more bytes more field (n, e) = (n, header_extended n bytes more (subst IsSettled (sym e) (refused_settled field)) ∙ ap (λ a. extended a more) e)
