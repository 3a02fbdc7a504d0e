-- What decoding presentation k of a stream writes.
use Rattle.std.specs.Prelude.{◌≡◌, ℕ, ◌+◌, List, Option, Some, None, Result}
use Rattle.mlp_syntax.specs.declared.restart.Restart.{Restart}
use Rattle.mlp_stream.specs.declared.stop.Stop.{Stop}
use Rattle.mlp_answers.specs.Answers.{Answer}
use Rattle.mlp_pcm.specs.Samples.{packed}
use Rattle.mlp_contents.specs.Known.{first_restart}
use Rattle.mlp_contents.specs.Units.{Unit_of}
use Rattle.mlp_samples.specs.Samples.{blocks_in, samples}
use Rattle.mlp_sessions.specs.Playing.{places, playing}

-- a restart has the channels 0 to its greatest matrix channel
abbrev pub channels_in : Option Restart → ℕ
channels_in None = 0
channels_in (Some r) = r.max_matrix + 1

-- presentation k has the channels of the first restart of substream k, as many of them as a frame has places for
abbrev pub channels : ℕ → List Unit_of → ℕ
channels k us = places (channels_in (first_restart (blocks_in k us)))

-- the samples of the presentation, frame by frame, in as many channels
abbrev pub decoded : ℕ → ℕ → List Unit_of → List ℕ
decoded k bits us = packed bits (channels k us) (samples k us)

-- the command ends so and writes this output of these bytes, and there is no other answer
pub record Writes (k bits : ℕ) (bytes : List ℕ) (end : Result Unit Stop) (output : List ℕ) : Type 0 where
  pub is : Answer (playing k bits) bytes end output
  pub only :
      (other_end : Result Unit Stop) (other : List ℕ) → Answer (playing k bits) bytes other_end other
      → (other_end ≡ end) × (other ≡ output)
