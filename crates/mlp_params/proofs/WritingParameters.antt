-- The text of a block's parameters.
use Rattle.std.proofs.Common.{◌≡◌, ℕ, zero, suc, ◌+◌, ◌<◌, ◌^◌, Bool, true, List, [], ◌∷◌, ◌++◌, drop, refl, ap}
use Rattle.mlp_layout.specs.Layout.{Layout, number_of, ruled, part, made, item}
use Rattle.mlp_layout.specs.Combined.{group, times, listed, each}
use Rattle.arrayvec.specs.ArrayVec.{ArrayVec}
use Rattle.mlp_syntax.specs.declared.params.Params.{Params}
use Rattle.mlp_params.specs.declared.state.State.{State}
use Rattle.mlp_bits.specs.Bits.{bit}
use Rattle.mlp_params.specs.Matrices.{rows}
use Rattle.mlp_params.specs.Parameters.{block_size_of, output_shift, channel}

pub size_fits : (unit_frames n : ℕ) → (block_size_of unit_frames).Fits n → n < 2 ^ 9
unfolding ruled number_of
size_fits unit_frames n h = h

-- the rule on shifts doesn't show in the text
pub shifts_fit : (n : ℕ) (xs : List ℕ) → (times n output_shift).Fits xs → (times n (number_of 4)).Fits xs
unfolding times item made ruled
shifts_fit zero xs h = h
shifts_fit (suc n) [] h = absurd h
shifts_fit (suc n) (x ∷ xs) h = (h.0, shifts_fit n xs h.1)

pub shifts_text : (n : ℕ) (xs : List ℕ) → (times n (number_of 4)).spelling xs ≡ (times n output_shift).spelling xs
unfolding times item made ruled
shifts_text zero xs = refl
shifts_text (suc n) [] = refl
shifts_text (suc n) (x ∷ xs) = ap (λ (t : List _). (number_of 4).spelling x ++ t) (shifts_text n xs)

pub listed_fits : {A : Type 0} (n : ℕ) (l : Layout A) (v : ArrayVec A) → (listed n l).Fits v → (times n l).Fits v.items
unfolding listed part
listed_fits n l v h = h.0

pub listed_text : {A : Type 0} (n : ℕ) (l : Layout A) (v : ArrayVec A) → (times n l).spelling v.items ++ [] ≡ (listed n l).spelling v
unfolding listed part made
listed_text n l v = refl

-- the texts of the groups, under these presence flags
module _ (s : State) (p : Params) (flags : ℕ) where
  abbrev pub matrices_text : List Bool
  matrices_text = (group (bit flags 6) (rows s.format s.restart)).spelling p.matrices

  abbrev pub shifts_group : List Bool
  shifts_group = (group (bit flags 5) (listed (s.restart.max_matrix + 1) output_shift)).spelling p.shifts

  abbrev pub steps_group : List Bool
  steps_group = (group (bit flags 4) (listed (s.restart.max + 1) (number_of 4))).spelling p.steps

  abbrev pub channels_group : List Bool
  channels_group = (each (λ c. group true (channel flags c)) (drop s.restart.min s.channels.items)).spelling p.channels.items
