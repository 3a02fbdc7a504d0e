-- The first frames, in the place of the rows that there is room for.
use Rattle.std.proofs.Common.{◌≡◌, ℕ, ◌≤◌, List, ◌++◌, length, take, drop, map, ℤ, sym, ap, ◌∙◌}
use Rattle.std.proofs.lemmas.List.{length-map, length-take-le, take-map, take_at}
use Rattle.mlp_params.specs.declared.state.State.{State}
use Rattle.mlp_output.specs.Output.{samples_of, placed, placed_each}

module _ (s : State) (kept : ℕ) (frames heard : List (List ℤ)) (shifts assign : List ℕ) (is : map (samples_of s.shifts.items) frames ≡ heard) (same : shifts ≡ s.shifts.items) where
  pub heard_front : map (samples_of shifts) (take kept frames) ≡ take kept heard
  heard_front =
      ap (λ (xs : List ℕ). map (samples_of xs) (take kept frames)) same
      ∙ sym (take-map (samples_of s.shifts.items) kept frames)
      ∙ ap (λ (xs : List (List ℤ)). take kept xs) is

  pub rows_in_place : (rows room : List (List ℤ)) → assign ≡ s.restart.assign.items → rows ≡ map (placed assign) (map (samples_of shifts) (take kept frames)) → kept ≤ length frames → length room ≡ kept
      → take (length room) (rows ++ drop (length rows) room) ≡ placed_each s (take kept heard)
  rows_in_place rows room places e le count =
      let front : List (List ℤ) = take kept frames in
      let long : length rows ≡ kept =
      ap (λ (xs : List (List ℤ)). length xs) e ∙ length-map (map (samples_of shifts) front) (placed assign) ∙ length-map front (samples_of shifts) ∙ length-take-le kept frames le in
      take_at rows (drop (length rows) room) (length room) (long ∙ sym count)
      ∙ e
      ∙ ap (λ (xs : List ℕ). map (placed xs) (map (samples_of shifts) front)) places
      ∙ ap (λ (xs : List (List ℤ)). map (placed s.restart.assign.items) xs) heard_front
