-- A header with a wrong field.
use Rattle.std.proofs.Common.{◌≡◌, ℕ, zero, suc, ◌+◌, min, true, List, [], ◌∷◌, ◌++◌, length, take, drop, codes, Some, None, Err, inl, inr, nat_eq, arith, refl, sym, ◌∙◌, ap}
use Rattle.std.specs.Prelude.{◌&&◌, ◌⊎◌}
use Rattle.std.specs.List.{starts_with, flat_map}
use Rattle.std.proofs.lemmas.List.{take-append-drop, append_assoc, length-take-le, take_min}
use Rattle.std.proofs.lemmas.List.Elements.{All-nil, All-cons}
use Rattle.mlp_syntax.specs.declared.refusal.WaveField.{WaveField}
use Rattle.mlp_syntax.specs.declared.refusal.WaveField.TheVariants.{Riff, FmtMissing}
use Rattle.mlp_pcm.specs.declared.wave_format.Format.{Format}
use Rattle.mlp_pcm.specs.WaveHeader.{padded}
use Rattle.mlp_pcm.specs.WaveFormat.{number_at, judged}
use Rattle.mlp_pcm.specs.WaveScan.{refused, begins, chunks, at_data, header, is_riff, Says}
use Rattle.mlp_pcm.specs.WaveFile.{size_in, bytes_of, IsExtra, LacksFormat, RefusesFormat, IsWrongBehindRiff, IsWrongInside, IsWrongRiff}
use Rattle.mlp_pcm.proofs.ChunkViews.{is_data, is_short, is_wrong, is_format, is_passed, view, no_head, one_head, view_all, no_riff, wrong_riff, right_riff, view_header, right_none, left_true, wrong_more, right_true}
use Rattle.mlp_pcm.proofs.ChunkLemmas.{head_then, data_missing, riff_right, header_then, at_false}
use Rattle.mlp_pcm.proofs.WaveGrammar.{front_chunk, front_is, in_front, first_of, right_false, and_true, passed_over}

-- behind a format no field is wrong
never_refused : (n : ℕ) (seen : Format) (bytes : List ℕ) (field : WaveField) → chunks n (Some seen) bytes ≡ refused field → ⊥
unfolding chunks at_data
never_refused zero seen bytes field h = cc
never_refused (suc n) seen bytes field h = elim (view_all (Some seen) bytes) as (λ _. ⊥) [
  | no_head l e ↦ cc (e n, h)
  | one_head l e ↦ elim (view (Some seen) (take 8 bytes) (drop 8 bytes)) as (λ _. ⊥) [
    | is_data d q ↦ let b : begins seen (number_at 4 4 (take 8 bytes)) (drop 8 bytes) ≡ refused field = sym (q (chunks n)) ∙ sym (e n) ∙ h in cc
    | is_short k q ↦ cc (e n, q (chunks n), h)
    | is_wrong o k other f j q ↦ let none : Some seen ≡ None = right_none _ (Some seen) f in cc
    | is_format o k other f j q ↦ let none : Some seen ≡ None = right_none _ (Some seen) f in cc
    | is_passed o k f q ↦ never_refused n seen (drop (padded (number_at 4 4 (take 8 bytes))) (drop 8 bytes)) field (sym (q (chunks n)) ∙ sym (e n) ∙ h)
  ]
]

wrong_behind_riff : (n : ℕ) (bytes : List ℕ) (field : WaveField) → chunks n None bytes ≡ refused field → IsWrongBehindRiff bytes field
unfolding chunks at_data
wrong_behind_riff zero bytes field h = cc
wrong_behind_riff (suc n) bytes field h = elim (view_all None bytes) as (λ _. IsWrongBehindRiff bytes field) [
  | no_head l e ↦ cc (e n)
  | one_head l e ↦ elim (view None (take 8 bytes) (drop 8 bytes)) as (λ _. IsWrongBehindRiff bytes field) [
    | is_data d q ↦
        let b : refused FmtMissing ≡ refused field = sym (q (chunks n)) ∙ sym (e n) ∙ h in
        let i : field ≡ FmtMissing = cc in
        record {
          chunks = [];
          behind = bytes;
          are = refl;
          passed = All-nil IsExtra;
          stops = inl (record { head = take 8 bytes; rest = drop 8 bytes; are = sym (take-append-drop 8 bytes); eight = length-take-le 8 bytes l; name = d; is = i });
        }
    | is_short k q ↦ cc (e n, q (chunks n))
    | is_wrong o k other f j q ↦
        let p : ℕ = padded (number_at 4 4 (take 8 bytes)) in
        let b : refused other ≡ refused field = sym (q (chunks n)) ∙ sym (e n) ∙ h in
        let i : other ≡ field = cc in
        record {
          chunks = [];
          behind = bytes;
          are = refl;
          passed = All-nil IsExtra;
          stops = inr (record {
            fmt = front_chunk bytes;
            rest = drop p (drop 8 bytes);
            are = in_front bytes p _ refl;
            chunk = front_is bytes l o k;
            name = left_true _ _ f;
            judged = ap (judged (number_at 4 4 (take 8 bytes))) (first_of p (drop 8 bytes)) ∙ j ∙ ap (λ (g : WaveField). Err g) i;
          });
        }
    | is_format o k seen f j q ↦ absurd (never_refused n seen _ field (sym (q (chunks n)) ∙ sym (e n) ∙ h))
    | is_passed o k f q ↦
        let p : ℕ = padded (number_at 4 4 (take 8 bytes)) in
        let r = wrong_behind_riff n (drop p (drop 8 bytes)) field (sym (q (chunks n)) ∙ sym (e n) ∙ h) in
        record {
          chunks = front_chunk bytes ∷ r.chunks;
          behind = r.behind;
          are = in_front bytes p _ r.are ∙ sym (append_assoc (bytes_of (front_chunk bytes)) (flat_map bytes_of r.chunks) r.behind);
          passed = All-cons IsExtra (front_chunk bytes) r.chunks (record { chunk = front_is bytes l o k; other = right_false _ f }) r.passed;
          stops = r.stops;
        }
  ]
]

pub wrong_from_says : (bytes : List ℕ) (field : WaveField) → Says bytes (refused field) → IsWrongRiff bytes field ⊎ IsWrongInside bytes field
wrong_from_says bytes field (n, h) = elim (view_header bytes) as (λ _. IsWrongRiff bytes field ⊎ IsWrongInside bytes field) [
  | no_riff l e ↦ cc (e n)
  | wrong_riff l r e ↦ let b : refused Riff ≡ refused field = sym (e n) ∙ h in let i : field ≡ Riff = cc in inl (record { long = l; name = r; is = i })
  | right_riff l r e ↦ inr
      (record { riff = take 12 bytes; behind = drop 12 bytes; are = sym (take-append-drop 12 bytes); twelve = length-take-le 12 bytes l; name = r; chunks = wrong_behind_riff n (drop 12 bytes) field (sym (e n) ∙ h) })
]

-- and back
stops_there : (bytes : List ℕ) (field : WaveField) → LacksFormat bytes field ⊎ RefusesFormat bytes field → chunks (suc 0) None bytes ≡ refused field
stops_there bytes field (inl s) = ap (chunks (suc 0) None) s.are ∙ data_missing 0 s.head s.rest s.eight s.name ∙ ap refused (sym s.is)
stops_there bytes field (inr s) =
    let c = s.fmt in
    ap (chunks (suc 0) None) (s.are ∙ append_assoc c.head c.content s.rest) ∙ head_then 0 None c.head (c.content ++ s.rest) s.chunk.head
    ∙ wrong_more None c.head c.content s.rest s.chunk.other (omega (arith, s.chunk.content)) (chunks 0) field (ap (λ b. b && true) s.name)
    (ap (judged (size_in c.head)) (ap (λ n. take n c.content) (let e : min (padded (size_in c.head)) 40 ≡ min 40 (length c.content) = omega (arith, s.chunk.content) in e) ∙ take_min 40 c.content) ∙ s.judged)

pub says_from_wrong : (bytes : List ℕ) (field : WaveField) → IsWrongRiff bytes field ⊎ IsWrongInside bytes field → Says bytes (refused field)
says_from_wrong bytes field (inl w) = (
  0,
  ap (header 0) (sym (take-append-drop 12 bytes)) ∙ header_then 0 (take 12 bytes) (drop 12 bytes) (length-take-le 12 bytes w.long)
      ∙ at_false (is_riff (take 12 bytes)) (chunks 0 None (drop 12 bytes)) (refused Riff) w.name ∙ ap refused (sym w.is),
)
says_from_wrong bytes field (inr w) =
    let r = w.chunks in
    let n : ℕ = length r.chunks + suc 0 in (
      n,
      ap (header n) w.are
          ∙ riff_right n w.riff w.behind w.twelve (left_true _ _ w.name) (right_true (starts_with nat_eq w.riff (codes "RIFF")) _ w.name)
          ∙ ap (chunks n None) r.are
          ∙ passed_over None r.chunks (suc 0) r.behind (λ k e h. (r.passed k e h).chunk) (λ k e h. and_true _ (r.passed k e h).other)
          ∙ stops_there r.behind field r.stops,
    )
