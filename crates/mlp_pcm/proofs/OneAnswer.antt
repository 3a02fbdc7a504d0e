-- Bytes have one answer.
use Rattle.std.proofs.Common.{◌≡◌, ℕ, zero, suc, ◌+◌, ◌<◌, ◌≤◌, List, length, take, drop, Option, Some, None, arith, refl, sym, ◌∙◌, ap}
use Rattle.std.proofs.lemmas.List.{length-drop}
use Rattle.mlp_pcm.specs.declared.wave_format.Format.{Format}
use Rattle.mlp_pcm.specs.WaveScan.{Answer, unknown, chunk, chunks, at_data, header, Says}
use Rattle.mlp_pcm.proofs.ChunkViews.{Next, is_data, is_short, is_wrong, is_format, is_passed, view, no_head, one_head, view_all, no_riff, wrong_riff, right_riff, view_header}

data_known : (seen : Option Format) (size : ℕ) (rest : List ℕ) → at_data seen size rest ≡ unknown → ⊥
unfolding at_data
data_known None size rest h = cc
data_known (Some format) size rest h = cc

-- enough chunks were looked at
chunk_known : (go : Next) (seen : Option Format) (head xs : List ℕ) → ((t : Option Format) (ys : List ℕ) → length ys ≤ length xs → go t ys ≡ unknown → ⊥) → chunk go seen head xs ≡ unknown → ⊥
chunk_known go seen head xs known h = elim (view seen head xs) as (λ _. ⊥) [
  | is_data d e ↦ data_known seen _ xs (sym (e go) ∙ h)
  | is_short l e ↦ cc (e go, h)
  | is_wrong o l field f j e ↦ cc (e go, h)
  | is_format o l format f j e ↦ known (Some format) _ (omega (arith, length-drop {A = ℕ})) (sym (e go) ∙ h)
  | is_passed o l f e ↦ known seen _ (omega (arith, length-drop {A = ℕ})) (sym (e go) ∙ h)
]

chunks_known : (n : ℕ) (seen : Option Format) (bytes : List ℕ) → length bytes < n → chunks n seen bytes ≡ unknown → ⊥
chunks_known zero seen bytes l h = absurd (omega arith)
chunks_known (suc n) seen bytes l h = elim (view_all seen bytes) as (λ _. ⊥) [
  | no_head s e ↦ cc (e n, h)
  | one_head s e ↦ chunk_known (chunks n) seen (take 8 bytes) (drop 8 bytes) (λ t ys k. chunks_known n t ys (omega (arith, length-drop 8 bytes))) (sym (e n) ∙ h)
]

pub header_known : (bytes : List ℕ) → header (length bytes) bytes ≡ unknown → ⊥
header_known bytes h = elim (view_header bytes) as (λ _. ⊥) [
  | no_riff l e ↦ cc (e (length bytes), h)
  | wrong_riff l r e ↦ cc (e (length bytes), h)
  | right_riff l r e ↦ chunks_known (length bytes) None (drop 12 bytes) (omega (arith, length-drop 12 bytes)) (sym (e (length bytes)) ∙ h)
]

-- more chunks that are looked at change nothing
chunk_more : (g h : Next) (seen : Option Format) (head xs : List ℕ) → ((t : Option Format) (ys : List ℕ) → (h t ys ≡ unknown → ⊥) → g t ys ≡ h t ys)
    → (chunk h seen head xs ≡ unknown → ⊥) → chunk g seen head xs ≡ chunk h seen head xs
chunk_more g h seen head xs same known = elim (view seen head xs) as (λ _. chunk g seen head xs ≡ chunk h seen head xs) [
  | is_data d e ↦ e g ∙ sym (e h)
  | is_short l e ↦ e g ∙ sym (e h)
  | is_wrong o l field f j e ↦ e g ∙ sym (e h)
  | is_format o l format f j e ↦ e g ∙ same (Some format) _ (λ q. known (e h ∙ q)) ∙ sym (e h)
  | is_passed o l f e ↦ e g ∙ same seen _ (λ q. known (e h ∙ q)) ∙ sym (e h)
]

chunks_more : (n k : ℕ) (seen : Option Format) (bytes : List ℕ) → (chunks n seen bytes ≡ unknown → ⊥) → chunks (n + k) seen bytes ≡ chunks n seen bytes
unfolding chunks
chunks_more zero k seen bytes known = absurd (known refl)
chunks_more (suc n) k seen bytes known =
    let s : suc n + k ≡ suc (n + k) = omega arith in
    ap (λ m. chunks m seen bytes) s ∙ (elim (view_all seen bytes) as (λ _. chunks (suc (n + k)) seen bytes ≡ chunks (suc n) seen bytes) [
      | no_head l e ↦ e (n + k) ∙ sym (e n)
      | one_head l e ↦ e (n + k) ∙ chunk_more (chunks (n + k)) (chunks n) seen (take 8 bytes) (drop 8 bytes) (λ t ys q. chunks_more n k t ys q) (λ q. known (e n ∙ q)) ∙ sym (e n)
    ])

header_more : (n k : ℕ) (bytes : List ℕ) → (header n bytes ≡ unknown → ⊥) → header (n + k) bytes ≡ header n bytes
header_more n k bytes known = elim (view_header bytes) as (λ _. header (n + k) bytes ≡ header n bytes) [
  | no_riff l e ↦ e (n + k) ∙ sym (e n)
  | wrong_riff l r e ↦ e (n + k) ∙ sym (e n)
  | right_riff l r e ↦ e (n + k) ∙ chunks_more n k None (drop 12 bytes) (λ q. known (e n ∙ q)) ∙ sym (e n)
]

pub same_answer : (bytes : List ℕ) (a b : Answer) → Says bytes a → Says bytes b → (a ≡ unknown → ⊥) → (b ≡ unknown → ⊥) → a ≡ b
same_answer bytes a b (n, p) (m, q) s t =
    sym p ∙ sym (header_more n m bytes (λ u. s (sym p ∙ u))) ∙ ap (λ k. header k bytes) (let e : n + m ≡ m + n = omega arith in e) ∙ header_more m n bytes (λ u. t (sym q ∙ u)) ∙ q
