-- A written header is read back.
use Rattle.std.proofs.Common.{◌≡◌, ℕ, ◌+◌, ◌*◌, ◌/◌, ◌^◌, ◌<◌, Bool, true, false, List, [], ◌++◌, drop, codes, Ok, inl, inr, nat_lt, cond, arith, refl, ◌∙◌, ap}
use Rattle.std.specs.Prelude.{◌⊎◌, ◌||◌, ◌==◌}
use Rattle.std.specs.Int.{div_ceil}
use Rattle.std.proofs.lemmas.Bool.Decides.{nat_tests}
use Rattle.std.proofs.lemmas.List.Elements.{All-nil}
use Rattle.byteorder.specs.Endian.{little_bytes}
use Rattle.byteorder.specs.Numbers.{little_number-reads_back}
use Rattle.mlp_pcm.specs.declared.wave_format.Format.{Format}
use Rattle.mlp_pcm.specs.WaveHeader.{padded, align_of, wave_header, extensible, pcm_identifier}
use Rattle.mlp_pcm.specs.WaveFormat.{number_at, judged, too_small, pcm, wrong_bits, aligned, described, bits_of, width_of, depth_of}
use Rattle.mlp_pcm.specs.WaveScan.{begins, Says}
use Rattle.mlp_pcm.specs.WaveFile.{Chunk, IsChunk, IsExtra, IsWritable}
use Rattle.mlp_pcm.proofs.WaveGrammar.{says_from_wave}

not_wrong : (bits : ℕ) → (bits ≡ 16) ⊎ (bits ≡ 24) → ((bits == 0) || nat_lt 32 bits) ≡ false
not_wrong bits (inl b) = rw b refl
not_wrong bits (inr b) = rw b refl

either_same : (b : Bool) (n : ℕ) → cond b n n ≡ n
either_same true n = refl
either_same false n = refl

module _ (channels rate bits size : ℕ) (rest : List ℕ) (w : IsWritable channels rate bits size) where
  abbrev content : List ℕ
  content =
      little_bytes 2 extensible ++ little_bytes 2 channels ++ little_bytes 4 rate ++ little_bytes 4 (rate * align_of channels bits)
      ++ little_bytes 2 (align_of channels bits) ++ little_bytes 2 bits
      ++ little_bytes 2 22 ++ little_bytes 2 bits ++ little_bytes 4 0 ++ pcm_identifier

  abbrev format : Format
  format = record { channels = channels; rate = rate; depth = bits; width = bits / 8 }

  abbrev fmt : Chunk
  fmt = record { head = codes "fmt " ++ little_bytes 4 40; content = content }

  bits_small : bits < 2 ^ 16
  bits_small = omega (arith, w.depth)

  channels_at : number_at 2 2 content ≡ channels
  channels_at = little_number-reads_back 2 channels (drop 4 content) (omega (arith, w.few))

  rate_at : number_at 4 4 content ≡ rate
  rate_at = little_number-reads_back 4 rate (drop 8 content) (omega (arith, w.slow))

  align_at : number_at 2 12 content ≡ align_of channels bits
  align_at = little_number-reads_back 2 (align_of channels bits) (drop 14 content) (omega (arith, w.align))

  bits_at : number_at 2 14 content ≡ bits
  bits_at = little_number-reads_back 2 bits (drop 16 content) (omega (arith, bits_small))

  valid_at : number_at 2 18 content ≡ bits
  valid_at = little_number-reads_back 2 bits (drop 20 content) (omega (arith, bits_small))

  large : too_small 40 content ≡ false
  unfolding too_small
  large = refl

  is_pcm : pcm content ≡ true
  unfolding pcm
  is_pcm = refl

  right_bits : wrong_bits content ≡ false
  unfolding wrong_bits
  right_bits = rw bits_at (not_wrong bits w.depth)

  width_is : width_of content ≡ bits / 8
  width_is = ap (λ n. div_ceil n 8) bits_at ∙ (elim w.depth as (λ _. div_ceil bits 8 ≡ bits / 8) [ inl b ↦ rw b refl | inr b ↦ rw b refl ])

  is_aligned : aligned content ≡ true
  unfolding aligned
  is_aligned = rw (align_at, channels_at, width_is) (grind (arith, nat_tests))

  bits_are : bits_of content ≡ bits
  unfolding bits_of
  bits_are = rw valid_at (either_same _ bits)

  depth_is : depth_of (bits / 8) bits ≡ bits
  depth_is = elim w.depth as (λ _. depth_of (bits / 8) bits ≡ bits) [ inl b ↦ rw b refl | inr b ↦ rw b refl ]

  is_described : described content ≡ format
  unfolding described
  is_described = rw (channels_at, rate_at, bits_are, width_is, depth_is) refl

  is_judged : judged 40 content ≡ Ok format
  unfolding judged
  is_judged = rw (large, is_pcm, right_bits, is_aligned, is_described) refl

  size_small : size < 2 ^ 32
  size_small = omega (arith, w.small)

  pub written_says : Says (wave_header channels rate bits size ++ rest) (begins format size rest)
  written_says = says_from_wave (wave_header channels rate bits size ++ rest) format size rest (record {
    riff = codes "RIFF" ++ little_bytes 4 (60 + padded size) ++ codes "WAVE";
    behind = codes "fmt " ++ little_bytes 4 40 ++ content ++ codes "data" ++ little_bytes 4 size ++ rest;
    are = refl;
    twelve = refl;
    name = refl;
    chunks = record {
      chunks = [];
      fmt = fmt;
      behind = codes "data" ++ little_bytes 4 size ++ rest;
      are = refl;
      passed = All-nil IsExtra;
      says = record { chunk = record { head = refl; content = refl; other = refl }; name = refl; judged = is_judged };
      data_behind = record { chunks = []; head = codes "data" ++ little_bytes 4 size; are = refl; passed = All-nil IsChunk; eight = refl; name = refl; states = little_number-reads_back 4 size [] (omega (arith, size_small)) };
    };
  })
