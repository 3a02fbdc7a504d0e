-- The sequences of a channel: there are some, no others, and steps over the latest values give them.
use Rattle.std.proofs.Common.{◌≡◌, ℕ, zero, suc, ◌≤◌, List, [], ◌∷◌, length, take, ℤ, pos, ◌+ℤ◌, ◌-ℤ◌, arith, refl, sym, ◌∙◌, ap, replicate, All, FitsSigned, w32}
use Rattle.std.proofs.lemmas.List.{take-replicate}
use Rattle.mlp_arith.specs.Words.{floor_by, clear, wrap}
use Rattle.mlp_arith.proofs.Residues.{clear_back}
use Rattle.mlp_predict.specs.Prediction.{dot, Filters, Past, predicted, restored, reduced, replaced, past_after, with_state, latest, with_zeros, outputs_of, residuals_of}
use Rattle.mlp_predict.specs.Outputs.{Frame, before, left_by, seen, AreOutputs, output_after, step_after, steps_after, IsWithin, AreWithin, past_at, outputs_at, predictions_at, differences_at}
use Rattle.mlp_predict.proofs.Blocks.{predicted-latest, latest_after}
use Rattle.mlp_predict.proofs.Padding.{predicted-with_zeros, past_after-with_zeros, with_state-latest, with_state-with_zeros}

-- ---- residuals give back the samples

pub outputs_of-residuals_of : (f : Filters) (past : Past) (q : ℕ) (xs : List ℤ) → All (λ x. clear q x ≡ x) xs → All (FitsSigned w32) xs → outputs_of f past q (residuals_of f past q xs) ≡ xs
outputs_of-residuals_of f past q [] c h = refl
outputs_of-residuals_of f past q (x ∷ xs) c h =
    let here : restored f past q (reduced f past q x) ≡ x = clear_back q (predicted f past) x (c 0 (pos 0) (omega arith)) (h 0 (pos 0) (omega arith)) in
    ap (λ y. y ∷ outputs_of f (past_after f past y) q (residuals_of f (past_after f past x) q xs)) here
    ∙ ap (λ ys. x ∷ ys) (outputs_of-residuals_of f (past_after f past x) q xs (λ k d l. c (suc k) d (omega arith)) (λ k d l. h (suc k) d (omega arith)))

-- ---- there are sequences

past_at-outputs : (frames : ℕ → Frame) (i : ℕ) → (past_at frames i).outputs ≡ before (outputs_at frames) i
past_at-outputs frames zero = refl
past_at-outputs frames (suc i) = ap (λ xs. outputs_at frames i ∷ xs) (past_at-outputs frames i)

past_at-differences : (frames : ℕ → Frame) (i : ℕ) → (past_at frames i).differences ≡ left_by frames (differences_at frames) i
past_at-differences frames zero = refl
past_at-differences frames (suc i) = ap (λ es. differences_at frames i ∷ replaced (frames i).state es) (past_at-differences frames i)

pub outputs_there : (frames : ℕ → Frame) → AreOutputs frames (outputs_at frames) (differences_at frames) (predictions_at frames)
outputs_there frames = record {
  predicted = λ i. ap (λ xs. floor_by (frames i).filters.shift (dot (frames i).filters.fir xs +ℤ dot (frames i).filters.iir (with_state (frames i).state (past_at frames i)).differences)) (past_at-outputs frames i)
      ∙ ap (λ es. floor_by (frames i).filters.shift (dot (frames i).filters.fir (before (outputs_at frames) i) +ℤ dot (frames i).filters.iir (replaced (frames i).state es))) (past_at-differences frames i);
  output = λ i. refl;
  difference = λ i. refl;
}

-- ---- .. and no others

record Agree (frames : ℕ → Frame) (x e x' e' : ℕ → ℤ) (i : ℕ) : Type 0 where
  outputs : before x i ≡ before x' i
  differences : left_by frames e i ≡ left_by frames e' i

same_prediction : (frames : ℕ → Frame) (x e p x' e' p' : ℕ → ℤ) (i : ℕ) → AreOutputs frames x e p → AreOutputs frames x' e' p' → Agree frames x e x' e' i → p i ≡ p' i
same_prediction frames x e p x' e' p' i a b h =
    a.predicted i
    ∙ ap (λ xs. floor_by (frames i).filters.shift (dot (frames i).filters.fir xs +ℤ dot (frames i).filters.iir (seen frames e i))) h.outputs
    ∙ ap (λ es. floor_by (frames i).filters.shift (dot (frames i).filters.fir (before x' i) +ℤ dot (frames i).filters.iir (replaced (frames i).state es))) h.differences
    ∙ sym (b.predicted i)

same_output : (frames : ℕ → Frame) (x e p x' e' p' : ℕ → ℤ) (i : ℕ) → AreOutputs frames x e p → AreOutputs frames x' e' p' → p i ≡ p' i → x i ≡ x' i
same_output frames x e p x' e' p' i a b h = a.output i ∙ ap (λ z. wrap (clear (frames i).step (z +ℤ (frames i).residual))) h ∙ sym (b.output i)

same_difference : (frames : ℕ → Frame) (x e p x' e' p' : ℕ → ℤ) (i : ℕ) → AreOutputs frames x e p → AreOutputs frames x' e' p' → p i ≡ p' i → x i ≡ x' i → e i ≡ e' i
same_difference frames x e p x' e' p' i a b h k = a.difference i ∙ ap (λ z. wrap (z -ℤ p i)) k ∙ ap (λ z. wrap (x' i -ℤ z)) h ∙ sym (b.difference i)

agree : (frames : ℕ → Frame) (x e p x' e' p' : ℕ → ℤ) (i : ℕ) → AreOutputs frames x e p → AreOutputs frames x' e' p' → Agree frames x e x' e' i
agree frames x e p x' e' p' zero a b = record { outputs = refl; differences = refl }
agree frames x e p x' e' p' (suc i) a b =
    let h : Agree frames x e x' e' i = agree frames x e p x' e' p' i a b in
    let k : p i ≡ p' i = same_prediction frames x e p x' e' p' i a b h in
    let y : x i ≡ x' i = same_output frames x e p x' e' p' i a b k in
    let d : e i ≡ e' i = same_difference frames x e p x' e' p' i a b k y in
    record {
      outputs = ap (λ z. z ∷ before x i) y ∙ ap (λ xs. x' i ∷ xs) h.outputs;
      differences = ap (λ z. z ∷ seen frames e i) d ∙ ap (λ es. e' i ∷ replaced (frames i).state es) h.differences;
    }

pub outputs_only : (frames : ℕ → Frame) (x e p x' e' p' : ℕ → ℤ) → AreOutputs frames x e p → AreOutputs frames x' e' p' → (i : ℕ) → (x i ≡ x' i) × (e i ≡ e' i) × (p i ≡ p' i)
outputs_only frames x e p x' e' p' a b i =
    let k : p i ≡ p' i = same_prediction frames x e p x' e' p' i a b (agree frames x e p x' e' p' i a b) in
    let y : x i ≡ x' i = same_output frames x e p x' e' p' i a b k in
    (y, same_difference frames x e p x' e' p' i a b k y, k)

-- ---- steps over the latest values

-- a past as steps keep it
abbrev kept : ℕ → ℕ → Past → Past
kept m n past = latest m n (with_zeros m n past)

with_state-kept : (m n : ℕ) (state : List ℤ) (past : Past) → length state ≤ n → with_state state (kept m n past) ≡ kept m n (with_state state past)
with_state-kept m n state past l = with_state-latest m n state (with_zeros m n past) l ∙ with_state-with_zeros m n state past l

predicted-kept : (m n : ℕ) (f : Filters) (past : Past) → length f.fir ≤ m → length f.iir ≤ n → predicted f (kept m n past) ≡ predicted f past
predicted-kept m n f past a b = predicted-latest m n f (with_zeros m n past) a b ∙ predicted-with_zeros m n f past

output_after-kept : (m n : ℕ) (frame : Frame) (past : Past) → IsWithin m n frame → output_after (kept m n past) frame ≡ output_after past frame
output_after-kept m n frame past w =
    ap (λ (p : Past). restored frame.filters p frame.step frame.residual) (with_state-kept m n frame.state past w.state)
    ∙ ap (λ z. wrap (clear frame.step (z +ℤ frame.residual))) (predicted-kept m n frame.filters (with_state frame.state past) w.fir w.iir)

step_after-kept : (m n : ℕ) (frame : Frame) (past : Past) → IsWithin m n frame →
    step_after m n (kept m n past) frame ≡ kept m n (past_after frame.filters (with_state frame.state past) (output_after past frame))
step_after-kept m n frame past w =
    let x : ℤ = output_after past frame in
    let given : Past = with_state frame.state past in
    ap (λ (y : ℤ). latest m n (past_after frame.filters (with_state frame.state (kept m n past)) y)) (output_after-kept m n frame past w)
    ∙ ap (λ (p : Past). latest m n (past_after frame.filters p x)) (with_state-kept m n frame.state past w.state)
    ∙ latest_after m n frame.filters (with_zeros m n given) x w.fir w.iir
    ∙ ap (latest m n) (past_after-with_zeros m n frame.filters given x)

-- what steps over i frames leave is what there is in all, as far as it is kept
pub steps_keep : (m n : ℕ) (frames : ℕ → Frame) (i : ℕ) → AreWithin m n frames → steps_after m n frames i ≡ kept m n (past_at frames i)
steps_keep m n frames zero w = sym
    (ap (λ (xs : List ℤ). record { outputs = xs; differences = take n (replicate n (pos 0)) }) (take-replicate m m (pos 0) (omega arith))
    ∙ ap (λ (es : List ℤ). record { outputs = replicate m (pos 0); differences = es }) (take-replicate n n (pos 0) (omega arith)))
steps_keep m n frames (suc i) w =
    ap (λ (p : Past). step_after m n p (frames i)) (steps_keep m n frames i w)
    ∙ step_after-kept m n (frames i) (past_at frames i) (w i)

pub outputs_at-steps : (m n : ℕ) (frames : ℕ → Frame) (i : ℕ) → AreWithin m n frames → output_after (steps_after m n frames i) (frames i) ≡ outputs_at frames i
outputs_at-steps m n frames i w =
    ap (λ (p : Past). output_after p (frames i)) (steps_keep m n frames i w)
    ∙ output_after-kept m n (frames i) (past_at frames i) (w i)

pub steps_give : (m n : ℕ) (frames : ℕ → Frame) (x e p : ℕ → ℤ) → AreWithin m n frames → AreOutputs frames x e p → (i : ℕ) → output_after (steps_after m n frames i) (frames i) ≡ x i
steps_give m n frames x e p w a i =
    outputs_at-steps m n frames i w
    ∙ (outputs_only frames (outputs_at frames) (differences_at frames) (predictions_at frames) x e p (outputs_there frames) a i).0

pub steps_leave : (m n : ℕ) (frames : ℕ → Frame) (x e p : ℕ → ℤ) → AreWithin m n frames → AreOutputs frames x e p → (i : ℕ) →
    steps_after m n frames i ≡ latest m n (with_zeros m n (record { outputs = before x i; differences = left_by frames e i }))
steps_leave m n frames x e p w a i =
    let same = agree frames (outputs_at frames) (differences_at frames) (predictions_at frames) x e p i (outputs_there frames) a in
    steps_keep m n frames i w
    ∙ ap (λ (xs : List ℤ). kept m n (record { outputs = xs; differences = (past_at frames i).differences })) (past_at-outputs frames i ∙ same.outputs)
    ∙ ap (λ (es : List ℤ). kept m n (record { outputs = before x i; differences = es })) (past_at-differences frames i ∙ same.differences)
