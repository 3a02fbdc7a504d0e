-- What a presentation gave so far, and what is extracted for it.
use Rattle.std.specs.Prelude.{◌≡◌, ℕ, ◌+◌, ◌*◌, ◌%◌, ◌^◌, ◌<◌, ◌≤◌, List, length, slice_index_or, sum, IfOk, IsOk, ℤ}
use Rattle.mlp_contents.specs.Units.{Unit_of, frames_out}
use Rattle.mlp_fold.specs.Mix.{channels_of}
use Rattle.mlp_pcm.specs.Samples.{packed}
use Rattle.mlp_present.specs.Decoding.{Held, opened, after_unit, next_unit}
use Rattle.mlp_extract.specs.Extract.{extracted_bytes}
use Rattle.mlp_gen.specs.declared.report.Shown.{Shown}

-- a decoder, the number of frames that it gave, the sum of the bytes of their samples, and the number of bytes extracted
pub record Played : Type 0 where
  pub held : Held
  pub frames : ℕ
  pub sum : ℕ
  pub extracted : ℕ

abbrev pub unplayed : ℕ → Played
unplayed k = record { held = opened k; frames = 0; sum = 0; extracted = 0 }

-- a sum with that of the samples of frames for presentation k, three bytes a sample
abbrev pub sum_with : ℕ → ℕ → List (List ℤ) → ℕ
sum_with k so_far frames = (so_far + sum (packed 24 (channels_of k) frames)) % 2 ^ 32

-- behind one more unit
abbrev pub after_played : Played → Unit_of → Played
after_played x u = record {
  held = after_unit x.held u;
  frames = x.frames + length (frames_out x.held.k x.held.left u);
  sum = sum_with x.held.k x.sum (frames_out x.held.k x.held.left u);
  extracted = x.extracted + length (extracted_bytes x.held.k u.outer);
}

abbrev pub shown_by : Played → Shown
shown_by x = record { frames = x.frames; sum = x.sum; extracted = x.extracted }

-- bytes begin with the next unit
abbrev pub CanTake : List ℕ → Played → Type 0
CanTake bytes x = IsOk (next_unit x.held bytes) × (x.held.units < 2 ^ 40)

abbrev pub Took : List ℕ → Played → Played → Type 0
Took bytes old new = IfOk (next_unit old.held bytes) (λ t. new ≡ after_played old t.unit)

abbrev pub player_at : List Played → ℕ → Played
player_at players k = slice_index_or players k (unplayed 0)

-- between its calls a player of presentation k has a decoder, and an extractor that knows the same
pub record IsPlaying (k : ℕ) (held other : Held) (frames extracted : ℕ) : Type 0 where
  pub same : other ≡ held
  pub k_is : held.k ≡ k
  pub most : k ≤ 2
  pub few_frames : frames ≤ 160 * held.units
  pub few_bytes : extracted ≤ 8190 * held.units
