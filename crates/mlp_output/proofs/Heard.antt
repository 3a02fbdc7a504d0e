-- Frames in ten places, with their noise and behind the rows, have the samples that are heard.
use Rattle.std.proofs.Common.{◌≡◌, ℕ, zero, suc, ◌+◌, ◌≤◌, Bool, true, false, eqb, List, [], ◌∷◌, ◌++◌, length, take, drop, map, ℤ, refl, sym, ap, ◌∙◌, arith, cond}
use Rattle.std.specs.Prelude.{All}
use Rattle.std.proofs.lemmas.List.{append-nil, length-append, length-take-le, take_at}
use Rattle.std.proofs.lemmas.List.Elements.{All-head, All-tail}
use Rattle.mlp_syntax.specs.declared.params.MatrixRow.{MatrixRow}
use Rattle.mlp_syntax.specs.declared.restart.Restart.{Restart}
use Rattle.mlp_params.specs.declared.state.State.{State}
use Rattle.mlp_params.specs.Matrices.{sources}
use Rattle.mlp_matrix.specs.Matrix.{applied, applied_each}
use Rattle.mlp_matrix.specs.Noise.{noise_values, next_seed, noisy, noisy_each}
use Rattle.mlp_matrix.specs.Front.{AreWithin}
use Rattle.mlp_matrix.proofs.Fronts.{take-applied}
use Rattle.mlp_output.specs.Output.{noise_in, matrixed, sample, samples_of, heard}
use Rattle.mlp_output.specs.Frames.{with_noise, HearNone}
use Rattle.mlp_output.proofs.Ready.{IsReady}
use Rattle.mlp_output.proofs.Unheard.{take-unheard}

-- ---- samples look at as many places as there are shifts

samples_of-take : (shifts : List ℕ) (n : ℕ) (frame : List ℤ) → length shifts ≤ n → samples_of shifts (take n frame) ≡ samples_of shifts frame
samples_of-take [] n frame le = refl
samples_of-take (shift ∷ shifts) zero frame le = absurd (omega arith)
samples_of-take (shift ∷ shifts) (suc n) [] le = refl
samples_of-take (shift ∷ shifts) (suc n) (x ∷ frame) le = ap (λ (ys : List ℤ). sample shift x ∷ ys) (samples_of-take shifts n frame (omega arith))

-- .. so the rows may be applied to the places that they look at alone
samples_in_front : (rows : List MatrixRow) (steps shifts : List ℕ) (m bypass : ℕ) (frame front : List ℤ) → AreWithin m rows → length shifts ≤ m → take m frame ≡ front →
    samples_of shifts (applied rows steps bypass frame) ≡ samples_of shifts (applied rows steps bypass front)
samples_in_front rows steps shifts m bypass frame front within few is =
    sym (samples_of-take shifts m (applied rows steps bypass frame) few)
    ∙ ap (samples_of shifts) (take-applied m rows within steps bypass frame ∙ ap (applied rows steps bypass) is)

-- ---- one frame

noise_in-some : (r : Restart) (seed : ℕ) → eqb r.kind 0 ≡ true → noise_in r seed ≡ noise_values r.noise_shift seed
noise_in-some r seed e = rw e refl

noise_in-none : (r : Restart) (seed : ℕ) → eqb r.kind 0 ≡ false → noise_in r seed ≡ []
noise_in-none r seed e = rw e refl

sources-some : (r : Restart) → eqb r.kind 0 ≡ true → sources r ≡ r.max_matrix + 1 + 2
sources-some r e = rw e refl

sources-none : (r : Restart) → eqb r.kind 0 ≡ false → sources r ≡ r.max_matrix + 1 + 0
sources-none r e = rw e refl

front_noisy : (shift n seed : ℕ) (frame : List ℤ) → n ≤ length frame → take (n + 2) (noisy shift n seed frame) ≡ take n frame ++ noise_values shift seed
front_noisy shift n seed frame le =
    let front : List ℤ = take n frame ++ noise_values shift seed in
    let count : length front ≡ n + 2 = omega (arith, length-append (take n frame) (noise_values shift seed), length-take-le n frame le) in
    take_at front (drop (n + 2) frame) (n + 2) count

module _ (s : State) (h : IsReady s) where
  abbrev channels : ℕ
  channels = s.restart.max_matrix + 1

  noisy_frame : (seed bypass : ℕ) (frame : List ℤ) → eqb s.restart.kind 0 ≡ true → length frame ≡ 10 →
      samples_of s.shifts.items (applied s.rows.items s.steps.items bypass (noisy s.restart.noise_shift channels seed frame)) ≡ samples_of s.shifts.items (matrixed s seed bypass (take channels frame))
  noisy_frame seed bypass frame e ten =
      let some : sources s.restart ≡ channels + 2 = sources-some s.restart e in
      let front = ap (λ (m : ℕ). take m (noisy s.restart.noise_shift channels seed frame)) some
      ∙ front_noisy s.restart.noise_shift channels seed frame (omega (arith, h.most, ten))
      ∙ ap (λ (ys : List ℤ). take channels frame ++ ys) (sym (noise_in-some s.restart seed e)) in
      samples_in_front s.rows.items s.steps.items s.shifts.items (sources s.restart) bypass _ _ h.within (omega (arith, h.shift_count, some)) front

  silent_frame : (seed bypass : ℕ) (frame : List ℤ) → eqb s.restart.kind 0 ≡ false →
      samples_of s.shifts.items (applied s.rows.items s.steps.items bypass frame) ≡ samples_of s.shifts.items (matrixed s seed bypass (take channels frame))
  silent_frame seed bypass frame e =
      let some : sources s.restart ≡ channels = sources-none s.restart e ∙ omega arith in
      let front = ap (λ (m : ℕ). take m frame) some
      ∙ sym (append-nil (take channels frame))
      ∙ ap (λ (ys : List ℤ). take channels frame ++ ys) (sym (noise_in-none s.restart seed e)) in
      samples_in_front s.rows.items s.steps.items s.shifts.items (sources s.restart) bypass _ _ h.within (omega (arith, h.shift_count, some)) front

  plain_frame : (seed bypass : ℕ) (frame : List ℤ) → s.rows.items ≡ [] → length frame ≡ 10 →
      samples_of s.shifts.items frame ≡ samples_of s.shifts.items (matrixed s seed bypass (take channels frame))
  plain_frame seed bypass frame none ten =
      let front : List ℤ = take channels frame in
      let count : length front ≡ channels = length-take-le channels frame (omega (arith, h.most, ten)) in
      sym (samples_of-take s.shifts.items channels frame (omega (arith, h.shift_count)))
      ∙ ap (samples_of s.shifts.items) (sym (take_at front (noise_in s.restart seed) channels count))
      ∙ samples_of-take s.shifts.items channels (front ++ noise_in s.restart seed) (omega (arith, h.shift_count))
      ∙ ap (λ (rows : List MatrixRow). samples_of s.shifts.items (applied rows s.steps.items bypass (front ++ noise_in s.restart seed))) (sym none)

  -- ---- many frames

  -- with noise
  noisy_frames : (seed : ℕ) (bypass : List ℕ) (frames : List (List ℤ)) → eqb s.restart.kind 0 ≡ true → length bypass ≡ length frames → All (λ frame. length frame ≡ 10) frames →
      map (samples_of s.shifts.items) (applied_each s.rows.items s.steps.items bypass (noisy_each s.restart.noise_shift channels seed frames)) ≡ heard s seed bypass (map (take channels) frames)
  noisy_frames seed [] [] e same ten = refl
  noisy_frames seed [] (frame ∷ frames) e same ten = absurd (omega arith)
  noisy_frames seed (b ∷ bypass) [] e same ten = absurd (omega arith)
  noisy_frames seed (b ∷ bypass) (frame ∷ frames) e same ten =
      ap (λ (ys : List ℤ). ys ∷ map (samples_of s.shifts.items) (applied_each s.rows.items s.steps.items bypass (noisy_each s.restart.noise_shift channels (next_seed seed) frames)))
      (noisy_frame seed b frame e (All-head (λ ys. length ys ≡ 10) frame frames ten))
      ∙ ap (λ (yss : List (List ℤ)). samples_of s.shifts.items (matrixed s seed b (take channels frame)) ∷ yss)
      (noisy_frames (next_seed seed) bypass frames e (omega arith) (All-tail (λ ys. length ys ≡ 10) frame frames ten))

  -- without noise
  silent_frames : (seed : ℕ) (bypass : List ℕ) (frames : List (List ℤ)) → eqb s.restart.kind 0 ≡ false → length bypass ≡ length frames →
      map (samples_of s.shifts.items) (applied_each s.rows.items s.steps.items bypass frames) ≡ heard s seed bypass (map (take channels) frames)
  silent_frames seed [] [] e same = refl
  silent_frames seed [] (frame ∷ frames) e same = absurd (omega arith)
  silent_frames seed (b ∷ bypass) [] e same = absurd (omega arith)
  silent_frames seed (b ∷ bypass) (frame ∷ frames) e same =
      ap (λ (ys : List ℤ). ys ∷ map (samples_of s.shifts.items) (applied_each s.rows.items s.steps.items bypass frames)) (silent_frame seed b frame e)
      ∙ ap (λ (yss : List (List ℤ)). samples_of s.shifts.items (matrixed s seed b (take channels frame)) ∷ yss) (silent_frames (next_seed seed) bypass frames e (omega arith))

  -- by the noise kind
  rows_heard : (seed : ℕ) (bypass : List ℕ) (frames : List (List ℤ)) → length bypass ≡ length frames → All (λ frame. length frame ≡ 10) frames →
      map (samples_of s.shifts.items) (applied_each s.rows.items s.steps.items bypass (with_noise s.restart seed frames)) ≡ heard s seed bypass (map (take channels) frames)
  rows_heard seed bypass frames same ten = by_kind (eqb s.restart.kind 0) refl
    where
      by_kind : (b : Bool) → eqb s.restart.kind 0 ≡ b
          → map (samples_of s.shifts.items) (applied_each s.rows.items s.steps.items bypass (cond b (noisy_each s.restart.noise_shift channels seed frames) frames)) ≡ heard s seed bypass (map (take channels) frames)
      by_kind true e = noisy_frames seed bypass frames e same ten
      by_kind false e = silent_frames seed bypass frames e same

  -- without rows
  pub plain_heard : (seed : ℕ) (bypass : List ℕ) (frames : List (List ℤ)) → s.rows.items ≡ [] → length bypass ≡ length frames → All (λ frame. length frame ≡ 10) frames →
      map (samples_of s.shifts.items) frames ≡ heard s seed bypass (map (take channels) frames)
  plain_heard seed [] [] none same ten = refl
  plain_heard seed [] (frame ∷ frames) none same ten = absurd (omega arith)
  plain_heard seed (b ∷ bypass) [] none same ten = absurd (omega arith)
  plain_heard seed (b ∷ bypass) (frame ∷ frames) none same ten =
      ap (λ (ys : List ℤ). ys ∷ map (samples_of s.shifts.items) frames) (plain_frame seed b frame none (All-head (λ ys. length ys ≡ 10) frame frames ten))
      ∙ ap (λ (yss : List (List ℤ)). samples_of s.shifts.items (matrixed s seed b (take channels frame)) ∷ yss)
      (plain_heard (next_seed seed) bypass frames none (omega arith) (All-tail (λ ys. length ys ≡ 10) frame frames ten))

  -- where no row hears the noise
  unheard_frame : (seed bypass : ℕ) (frame : List ℤ) → HearNone channels s.rows.items → length frame ≡ 10 →
      samples_of s.shifts.items (applied s.rows.items s.steps.items bypass frame) ≡ samples_of s.shifts.items (matrixed s seed bypass (take channels frame))
  unheard_frame seed bypass frame none ten =
      let front : List ℤ = take channels frame in
      let count : length front ≡ channels = length-take-le channels frame (omega (arith, h.most, ten)) in
      let few : length s.shifts.items ≤ channels = omega (arith, h.shift_count) in
      sym (samples_of-take s.shifts.items channels (applied s.rows.items s.steps.items bypass frame) few)
      ∙ ap (samples_of s.shifts.items)
      (take-unheard channels s.rows.items s.steps.items bypass frame none
      ∙ ap (applied s.rows.items s.steps.items bypass) (sym (take_at front (noise_in s.restart seed) channels count))
      ∙ sym (take-unheard channels s.rows.items s.steps.items bypass (front ++ noise_in s.restart seed) none))
      ∙ samples_of-take s.shifts.items channels (matrixed s seed bypass front) few

  unheard_frames : (seed : ℕ) (bypass : List ℕ) (frames : List (List ℤ)) → HearNone channels s.rows.items → length bypass ≡ length frames → All (λ frame. length frame ≡ 10) frames →
      map (samples_of s.shifts.items) (applied_each s.rows.items s.steps.items bypass frames) ≡ heard s seed bypass (map (take channels) frames)
  unheard_frames seed [] [] none same ten = refl
  unheard_frames seed [] (frame ∷ frames) none same ten = absurd (omega arith)
  unheard_frames seed (b ∷ bypass) [] none same ten = absurd (omega arith)
  unheard_frames seed (b ∷ bypass) (frame ∷ frames) none same ten =
      ap (λ (ys : List ℤ). ys ∷ map (samples_of s.shifts.items) (applied_each s.rows.items s.steps.items bypass frames)) (unheard_frame seed b frame none (All-head (λ ys. length ys ≡ 10) frame frames ten))
      ∙ ap (λ (yss : List (List ℤ)). samples_of s.shifts.items (matrixed s seed b (take channels frame)) ∷ yss)
      (unheard_frames (next_seed seed) bypass frames none (omega arith) (All-tail (λ ys. length ys ≡ 10) frame frames ten))

  -- with the noise, or without it where no row hears it
  pub rows_heard_by : (hears : Bool) (seed : ℕ) (bypass : List ℕ) (frames : List (List ℤ)) → (hears ≡ false → HearNone channels s.rows.items) →
      length bypass ≡ length frames → All (λ frame. length frame ≡ 10) frames →
      map (samples_of s.shifts.items) (applied_each s.rows.items s.steps.items bypass (cond hears (with_noise s.restart seed frames) frames)) ≡ heard s seed bypass (map (take channels) frames)
  rows_heard_by true seed bypass frames none same ten = rows_heard seed bypass frames same ten
  rows_heard_by false seed bypass frames none same ten = unheard_frames seed bypass frames (none refl) same ten
