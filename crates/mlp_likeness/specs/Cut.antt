-- A cut of a stream, and the frames of its units.
use Rattle.std.specs.Prelude.{◌≡◌, ℕ, ◌+◌, List, [], ◌∷◌, ◌++◌, take, drop, ℤ}
use Rattle.mlp_bits.specs.Bits.{bits_of}
use Rattle.mlp_layout.specs.Streams.{Stream}
use Rattle.mlp_contents.specs.Units.{Left, Unit_of, start, frames_out, after, whole}
use Rattle.mlp_samples.specs.Samples.{samples}
use Rattle.mlp_cut.specs.Cut.{cut}

-- the frames of presentation k that each of these units gives, behind what those before them left
abbrev pub frames_from : ℕ → Left → List Unit_of → List (List (List ℤ))
frames_from k left [] = []
frames_from k left (u ∷ us) = frames_out k left u ∷ frames_from k (after k left u) us

-- .. of a whole stream
abbrev pub frames_by_unit : ℕ → List Unit_of → List (List (List ℤ))
frames_by_unit k us = frames_from k (start k) us

-- the c units from unit f on are a stream for presentation k by themselves, each gives the frames that it gives in the whole,
-- and so their samples are those that the whole has behind the ones of its first f units
pub record PlaysAlike (k f c : ℕ) (us : List Unit_of) : Type 0 where
  pub stream : Stream (whole k) (start k) k (bits_of (cut f c us)) (take c (drop f us))
  pub frames : frames_by_unit k (take c (drop f us)) ≡ take c (drop f (frames_by_unit k us))
  pub samples : samples k (take (f + c) us) ≡ samples k (take f us) ++ samples k (take c (drop f us))
