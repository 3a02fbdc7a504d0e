-- Where bytes are cut that are no header so far.
use Rattle.std.proofs.Common.{◌≡◌, ℕ, zero, suc, ◌<◌, ◌≤◌, List, length, take, drop, Option, Some, None, arith, sym, ◌∙◌}
use Rattle.mlp_syntax.specs.declared.refusal.WaveField.{WaveField}
use Rattle.mlp_syntax.specs.declared.refusal.WaveField.TheVariants.{Riff, Chunk}
use Rattle.mlp_pcm.specs.declared.wave_format.Format.{Format}
use Rattle.mlp_pcm.specs.WaveScan.{unfinished, chunk, chunks, at_data, Says, UnfinishedWhereCut}
use Rattle.mlp_pcm.proofs.ChunkViews.{Next, is_data, is_short, is_wrong, is_format, is_passed, view, no_head, one_head, view_all, no_riff, wrong_riff, right_riff, view_header}

at_data_whole : (seen : Option Format) (size : ℕ) (rest : List ℕ) (field : WaveField) → at_data seen size rest ≡ unfinished field → field ≡ Chunk
unfolding at_data
at_data_whole None size rest field h = cc
at_data_whole (Some format) size rest field h = cc

chunk_cut : (go : Next) (seen : Option Format) (head xs : List ℕ) (field : WaveField) → ((t : Option Format) (ys : List ℕ) → go t ys ≡ unfinished field → field ≡ Chunk)
    → chunk go seen head xs ≡ unfinished field → field ≡ Chunk
chunk_cut go seen head xs field behind h = elim (view seen head xs) as (λ _. field ≡ Chunk) [
  | is_data d e ↦ at_data_whole seen _ xs field (sym (e go) ∙ h)
  | is_short l e ↦ cc (e go, h)
  | is_wrong o l wrong f j e ↦ cc (e go, h)
  | is_format o l format f j e ↦ behind (Some format) _ (sym (e go) ∙ h)
  | is_passed o l f e ↦ behind seen _ (sym (e go) ∙ h)
]

chunks_cut : (n : ℕ) (seen : Option Format) (bytes : List ℕ) (field : WaveField) → chunks n seen bytes ≡ unfinished field → field ≡ Chunk
unfolding chunks
chunks_cut zero seen bytes field h = cc
chunks_cut (suc n) seen bytes field h = elim (view_all seen bytes) as (λ _. field ≡ Chunk) [
  | no_head s e ↦ cc (e n, h)
  | one_head s e ↦ chunk_cut (chunks n) seen (take 8 bytes) (drop 8 bytes) field (λ t ys q. chunks_cut n t ys field q) (sym (e n) ∙ h)
]

riff_cut : (bytes : List ℕ) → Says bytes (unfinished Riff) → length bytes < 12
riff_cut bytes (n, h) = elim (view_header bytes) as (λ _. length bytes < 12) [
  | no_riff l e ↦ l
  | wrong_riff l r e ↦ cc (e n, h)
  | right_riff l r e ↦ let same : Riff ≡ Chunk = chunks_cut n None (drop 12 bytes) Riff (sym (e n) ∙ h) in cc
]

short_riff : (bytes : List ℕ) → length bytes < 12 → Says bytes (unfinished Riff)
short_riff bytes few = elim (view_header bytes) as (λ _. Says bytes (unfinished Riff)) [
  | no_riff l e ↦ (0, e 0)
  | wrong_riff l r e ↦ absurd (omega arith)
  | right_riff l r e ↦ absurd (omega arith)
]

behind_riff_cut : (bytes : List ℕ) (field : WaveField) → Says bytes (unfinished field) → 12 ≤ length bytes → field ≡ Chunk
behind_riff_cut bytes field (n, h) long = elim (view_header bytes) as (λ _. field ≡ Chunk) [
  | no_riff l e ↦ absurd (omega arith)
  | wrong_riff l r e ↦ cc (e n, h)
  | right_riff l r e ↦ chunks_cut n None (drop 12 bytes) field (sym (e n) ∙ h)
]

pub cut_where : (bytes : List ℕ) → UnfinishedWhereCut bytes
cut_where bytes = record { riff = (riff_cut bytes, short_riff bytes); chunk = behind_riff_cut bytes }
