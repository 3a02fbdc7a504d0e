-- A header and its chunks.
use Rattle.std.proofs.Common.{◌≡◌, ℕ, zero, suc, ◌+◌, ◌≤◌, min, Bool, true, false, List, [], ◌∷◌, ◌++◌, length, take, drop, codes, Option, Some, None, Ok, inl, inr, nat_eq, arith, refl, sym, ◌∙◌, ap}
use Rattle.std.specs.Prelude.{◌&&◌, is_none, All}
use Rattle.std.specs.List.{starts_with, flat_map}
use Rattle.std.proofs.lemmas.Bool.{cases_lt}
use Rattle.std.proofs.lemmas.List.{take-append-drop, append_assoc, length-take, length-take-le, length-drop, take-take, take_all}
use Rattle.std.proofs.lemmas.List.Elements.{All-nil, All-cons, All-head, All-tail}
use Rattle.mlp_pcm.specs.declared.wave_format.Format.{Format}
use Rattle.mlp_pcm.specs.WaveHeader.{padded}
use Rattle.mlp_pcm.specs.WaveFormat.{number_at, judged}
use Rattle.mlp_pcm.specs.WaveScan.{begins, chunk, chunks, at_data, header, Says}
use Rattle.mlp_pcm.specs.WaveFile.{Chunk, is_named, bytes_of, IsChunk, IsExtra, SaysFormat, AreBehindFormat, AreBehindRiff, IsWave}
use Rattle.mlp_pcm.proofs.ChunkViews.{is_data, is_short, is_wrong, is_format, is_passed, view, no_head, one_head, view_all, no_riff, wrong_riff, right_riff, view_header, right_none, left_true, right_true}
use Rattle.mlp_pcm.proofs.ChunkLemmas.{head_then, chunk_other, fmt_right, data_begins, riff_right}

-- the first bytes of a content
pub first_of : (p : ℕ) (xs : List ℕ) → take 40 (take p xs) ≡ take (min p 40) xs
first_of p xs = elim (cases_lt p 40) as (λ _. take 40 (take p xs) ≡ take (min p 40) xs) [
  | inl l ↦ take_all 40 (take p xs) (omega (arith, length-take p xs)) ∙ ap (λ n. take n xs) (let e : p ≡ min p 40 = omega arith in e)
  | inr l ↦ take-take 40 p xs (omega arith) ∙ ap (λ n. take n xs) (let e : 40 ≡ min p 40 = omega arith in e)
]

pub right_false : (a : Bool) → (a && true) ≡ false → a ≡ false
right_false true h = h
right_false false h = refl

-- a chunk in front
pub in_front : (bytes : List ℕ) (p : ℕ) (more : List ℕ) → drop p (drop 8 bytes) ≡ more → bytes ≡ (take 8 bytes ++ take p (drop 8 bytes)) ++ more
in_front bytes p more e =
    sym (take-append-drop 8 bytes) ∙ ap (λ ys. take 8 bytes ++ ys) (sym (take-append-drop p (drop 8 bytes)))
    ∙ sym (append_assoc (take 8 bytes) (take p (drop 8 bytes)) (drop p (drop 8 bytes))) ∙ ap (λ ys. (take 8 bytes ++ take p (drop 8 bytes)) ++ ys) e

abbrev pub front_chunk : List ℕ → Chunk
front_chunk bytes = record { head = take 8 bytes; content = take (padded (number_at 4 4 (take 8 bytes))) (drop 8 bytes) }

pub front_is : (bytes : List ℕ) → 8 ≤ length bytes → starts_with nat_eq (take 8 bytes) (codes "data") ≡ false → padded (number_at 4 4 (take 8 bytes)) ≤ length (drop 8 bytes) → IsChunk (front_chunk bytes)
front_is bytes l o k = record { head = length-take-le 8 bytes l; content = length-take-le (padded (number_at 4 4 (take 8 bytes))) (drop 8 bytes) k; other = o }

-- what is behind the format
behind_format : (n : ℕ) (seen format : Format) (bytes : List ℕ) (size : ℕ) (rest : List ℕ) → chunks n (Some seen) bytes ≡ begins format size rest → (seen ≡ format) × AreBehindFormat bytes size rest
unfolding chunks at_data
behind_format zero seen format bytes size rest h = cc
behind_format (suc n) seen format bytes size rest h = elim (view_all (Some seen) bytes) as (λ _. (seen ≡ format) × AreBehindFormat bytes size rest) [
  | no_head l e ↦ cc (e n)
  | one_head l e ↦ elim (view (Some seen) (take 8 bytes) (drop 8 bytes)) as (λ _. (seen ≡ format) × AreBehindFormat bytes size rest) [
    | is_data d q ↦
        let b : begins seen (number_at 4 4 (take 8 bytes)) (drop 8 bytes) ≡ begins format size rest = sym (q (chunks n)) ∙ sym (e n) ∙ h in
        let f : seen ≡ format = cc in
        let s : number_at 4 4 (take 8 bytes) ≡ size = cc in
        let r : drop 8 bytes ≡ rest = cc in
        (f, record { chunks = []; head = take 8 bytes; are = sym (take-append-drop 8 bytes) ∙ ap (λ ys. take 8 bytes ++ ys) r; passed = All-nil IsChunk; eight = length-take-le 8 bytes l; name = d; states = s })
    | is_short k q ↦ cc (e n, q (chunks n))
    | is_wrong o k field f j q ↦ cc (e n, q (chunks n))
    | is_format o k other f j q ↦ let none : Some seen ≡ None = right_none _ (Some seen) f in cc
    | is_passed o k f q ↦
        let p : ℕ = padded (number_at 4 4 (take 8 bytes)) in
        let b = behind_format n seen format (drop p (drop 8 bytes)) size rest (sym (q (chunks n)) ∙ sym (e n) ∙ h) in
        let r = b.1 in (
          b.0,
          record {
            chunks = front_chunk bytes ∷ r.chunks;
            head = r.head;
            are = in_front bytes p _ r.are ∙ sym (append_assoc (bytes_of (front_chunk bytes)) (flat_map bytes_of r.chunks) (r.head ++ rest));
            passed = All-cons IsChunk (front_chunk bytes) r.chunks (front_is bytes l o k) r.passed;
            eight = r.eight;
            name = r.name;
            states = r.states;
          },
        )
  ]
]

-- what is behind RIFF
behind_riff : (n : ℕ) (format : Format) (bytes : List ℕ) (size : ℕ) (rest : List ℕ) → chunks n None bytes ≡ begins format size rest → AreBehindRiff bytes format size rest
unfolding chunks at_data
behind_riff zero format bytes size rest h = cc
behind_riff (suc n) format bytes size rest h = elim (view_all None bytes) as (λ _. AreBehindRiff bytes format size rest) [
  | no_head l e ↦ cc (e n)
  | one_head l e ↦ elim (view None (take 8 bytes) (drop 8 bytes)) as (λ _. AreBehindRiff bytes format size rest) [
    | is_data d q ↦ cc (e n, q (chunks n))
    | is_short k q ↦ cc (e n, q (chunks n))
    | is_wrong o k field f j q ↦ cc (e n, q (chunks n))
    | is_format o k seen f j q ↦
        let p : ℕ = padded (number_at 4 4 (take 8 bytes)) in
        let b = behind_format n seen format (drop p (drop 8 bytes)) size rest (sym (q (chunks n)) ∙ sym (e n) ∙ h) in
        record {
          chunks = [];
          fmt = front_chunk bytes;
          behind = drop p (drop 8 bytes);
          are = in_front bytes p _ refl;
          passed = All-nil IsExtra;
          says = record {
            chunk = front_is bytes l o k;
            name = left_true _ _ f;
            judged = ap (judged (number_at 4 4 (take 8 bytes))) (first_of p (drop 8 bytes)) ∙ j ∙ ap (λ (g : Format). Ok g) b.0;
          };
          data_behind = b.1;
        }
    | is_passed o k f q ↦
        let p : ℕ = padded (number_at 4 4 (take 8 bytes)) in
        let r = behind_riff n format (drop p (drop 8 bytes)) size rest (sym (q (chunks n)) ∙ sym (e n) ∙ h) in
        record {
          chunks = front_chunk bytes ∷ r.chunks;
          fmt = r.fmt;
          behind = r.behind;
          are = in_front bytes p _ r.are ∙ sym (append_assoc (bytes_of (front_chunk bytes)) (flat_map bytes_of r.chunks) (bytes_of r.fmt ++ r.behind));
          passed = All-cons IsExtra (front_chunk bytes) r.chunks (record { chunk = front_is bytes l o k; other = right_false _ f }) r.passed;
          says = r.says;
          data_behind = r.data_behind;
        }
  ]
]

pub wave_from_says : (bytes : List ℕ) (format : Format) (size : ℕ) (rest : List ℕ) → Says bytes (begins format size rest) → IsWave bytes format size rest
wave_from_says bytes format size rest (n, h) = elim (view_header bytes) as (λ _. IsWave bytes format size rest) [
  | no_riff l e ↦ cc (e n)
  | wrong_riff l r e ↦ cc (e n)
  | right_riff l r e ↦ record { riff = take 12 bytes; behind = drop 12 bytes; are = sym (take-append-drop 12 bytes); twelve = length-take-le 12 bytes l; name = r; chunks = behind_riff n format (drop 12 bytes) size rest (sym (e n) ∙ h) }
]

-- and back
and_false : (a : Bool) → (a && false) ≡ false
and_false true = refl
and_false false = refl

pub and_true : (a : Bool) → a ≡ false → (a && true) ≡ false
and_true true h = h
and_true false h = refl

abbrev IsSkipped : Option Format → Chunk → Type 0
IsSkipped seen c = (is_named (codes "fmt ") c.head && is_none seen) ≡ false

pub passed_over : (seen : Option Format) (cs : List Chunk) (k : ℕ) (rest : List ℕ) → All IsChunk cs → All (IsSkipped seen) cs → chunks (length cs + k) seen (flat_map bytes_of cs ++ rest) ≡ chunks k seen rest
passed_over seen [] k rest are skip = ap (λ m. chunks m seen rest) (let e : 0 + k ≡ k = omega arith in e)
passed_over seen (c ∷ cs) k rest are skip =
    let n : ℕ = length cs + k in
    let more : List ℕ = flat_map bytes_of cs ++ rest in
    let i = All-head IsChunk c cs are in
    ap (λ m. chunks m seen ((bytes_of c ++ flat_map bytes_of cs) ++ rest)) (let e : suc (length cs) + k ≡ suc (length cs + k) = omega arith in e)
    ∙ ap (chunks (suc n) seen) (append_assoc (bytes_of c) (flat_map bytes_of cs) rest ∙ append_assoc c.head c.content more)
    ∙ head_then n seen c.head (c.content ++ more) i.head
    ∙ chunk_other n seen c.head c.content more i.other i.content (All-head (IsSkipped seen) c cs skip)
    ∙ passed_over seen cs k rest (All-tail IsChunk c cs are) (All-tail (IsSkipped seen) c cs skip)

format_read : (m : ℕ) (c : Chunk) (format : Format) (rest : List ℕ) → SaysFormat c format → chunks (suc m) None (bytes_of c ++ rest) ≡ chunks m (Some format) rest
format_read m c format rest s =
    let l = s.chunk.content in
    ap (chunks (suc m) None) (append_assoc c.head c.content rest)
    ∙ head_then m None c.head (c.content ++ rest) s.chunk.head
    ∙ ap (λ ys. chunk (chunks m) None c.head (ys ++ rest)) (sym (take-append-drop 40 c.content))
    ∙ fmt_right m c.head (take 40 c.content) (drop 40 c.content) rest format s.chunk.other (omega (arith, length-take 40 c.content, l)) (omega (arith, length-take 40 c.content, length-drop 40 c.content, l)) s.name s.judged

pub says_from_wave : (bytes : List ℕ) (format : Format) (size : ℕ) (rest : List ℕ) → IsWave bytes format size rest → Says bytes (begins format size rest)
says_from_wave bytes format size rest w =
    let r = w.chunks in
    let d = r.data_behind in
    let m : ℕ = length d.chunks + suc 0 in
    let n : ℕ = length r.chunks + suc m in (
      n,
      ap (header n) w.are
          ∙ riff_right n w.riff w.behind w.twelve (left_true _ _ w.name) (right_true (starts_with nat_eq w.riff (codes "RIFF")) _ w.name)
          ∙ ap (chunks n None) r.are
          ∙ passed_over None r.chunks (suc m) (bytes_of r.fmt ++ r.behind) (λ k e h. (r.passed k e h).chunk) (λ k e h. and_true _ (r.passed k e h).other)
          ∙ format_read m r.fmt format r.behind r.says
          ∙ ap (chunks m (Some format)) d.are
          ∙ passed_over (Some format) d.chunks (suc 0) (d.head ++ rest) d.passed (λ k e h. and_false _)
          ∙ data_begins 0 format d.head rest d.eight d.name
          ∙ ap (λ s. begins format s rest) d.states,
    )
