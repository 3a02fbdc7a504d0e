-- Frames in a list, from a past on: joined, of one block, and as a whole sequence.
use Rattle.std.proofs.Common.{◌≡◌, ℕ, zero, suc, ◌+◌, ◌<◌, ◌≤◌, List, [], ◌∷◌, ◌++◌, length, take, get_or, ℤ, refl, sym, ap, ◌∙◌, arith, All}
use Rattle.std.proofs.lemmas.List.{take-take}
use Rattle.mlp_predict.specs.Prediction.{Past, Filters, restored, past_after, latest, with_state, with_zeros, zeros, outputs_of, past_of}
use Rattle.mlp_predict.specs.Outputs.{Frame, IsWithin, AreWithin, output_after, step_after, steps_after, outputs_at, past_at, outputs_from, past_from, silence, frame_at, block_of, with_state_first}
use Rattle.mlp_predict.proofs.Blocks.{outputs_of-latest, latest_after}
use Rattle.mlp_predict.proofs.Sequences.{steps_keep, outputs_at-steps}

pub length-outputs_from : (m n : ℕ) (past : Past) (fs : List Frame) → length (outputs_from m n past fs) ≡ length fs
length-outputs_from m n past [] = refl
length-outputs_from m n past (f ∷ fs) = ap suc (length-outputs_from m n (step_after m n past f) fs)

pub outputs_from-append : (m n : ℕ) (past : Past) (fs gs : List Frame) → outputs_from m n past (fs ++ gs) ≡ outputs_from m n past fs ++ outputs_from m n (past_from m n past fs) gs
outputs_from-append m n past [] gs = refl
outputs_from-append m n past (f ∷ fs) gs = ap (λ (xs : List ℤ). output_after past f ∷ xs) (outputs_from-append m n (step_after m n past f) fs gs)

pub past_from-append : (m n : ℕ) (past : Past) (fs gs : List Frame) → past_from m n past (fs ++ gs) ≡ past_from m n (past_from m n past fs) gs
past_from-append m n past [] gs = refl
past_from-append m n past (f ∷ fs) gs = past_from-append m n (step_after m n past f) fs gs

-- ---- one block

pub latest-latest : (m n : ℕ) (past : Past) → latest m n (latest m n past) ≡ latest m n past
latest-latest m n past =
    ap (λ (xs : List ℤ). record { outputs = xs; differences = take n (take n past.differences) }) (take-take m m past.outputs (omega arith))
    ∙ ap (λ (es : List ℤ). record { outputs = take m past.outputs; differences = es }) (take-take n n past.differences (omega arith))

pub past_of-latest : (m n : ℕ) (f : Filters) (past : Past) (xs : List ℤ) → length f.fir ≤ m → length f.iir ≤ n → latest m n (past_of f (latest m n past) xs) ≡ latest m n (past_of f past xs)
past_of-latest m n f past [] a b = latest-latest m n past
past_of-latest m n f past (x ∷ xs) a b =
    sym (past_of-latest m n f (past_after f (latest m n past) x) xs a b)
    ∙ ap (λ (p : Past). latest m n (past_of f p xs)) (latest_after m n f past x a b)
    ∙ past_of-latest m n f (past_after f past x) xs a b

block_outputs : (m n : ℕ) (f : Filters) (past : Past) (q : ℕ) (rs : List ℤ) → length f.fir ≤ m → length f.iir ≤ n → outputs_from m n past (block_of f q rs) ≡ outputs_of f past q rs
block_outputs m n f past q [] a b = refl
block_outputs m n f past q (r ∷ rs) a b =
    let x : ℤ = restored f past q r in
    ap (λ (xs : List ℤ). x ∷ xs) (block_outputs m n f (latest m n (past_after f past x)) q rs a b ∙ outputs_of-latest m n f (past_after f past x) q rs a b)

block_past : (m n : ℕ) (f : Filters) (past : Past) (q : ℕ) (rs : List ℤ) → length f.fir ≤ m → length f.iir ≤ n
    → past ≡ latest m n past → past_from m n past (block_of f q rs) ≡ latest m n (past_of f past (outputs_of f past q rs))
block_past m n f past q [] a b e = e
block_past m n f past q (r ∷ rs) a b e =
    let x : ℤ = restored f past q r in
    let after : Past = past_after f past x in
    block_past m n f (latest m n after) q rs a b (sym (latest-latest m n after))
    ∙ ap (λ (xs : List ℤ). latest m n (past_of f (latest m n after) xs)) (outputs_of-latest m n f after q rs a b)
    ∙ past_of-latest m n f after (outputs_of f after q rs) a b

-- with a state before the first frame
pub state_outputs : (m n : ℕ) (f : Filters) (past : Past) (q : ℕ) (state rs : List ℤ) → length f.fir ≤ m → length f.iir ≤ n
    → outputs_from m n past (with_state_first state (block_of f q rs)) ≡ outputs_of f (with_state state past) q rs
state_outputs m n f past q state [] a b = refl
state_outputs m n f past q state (r ∷ rs) a b =
    let p : Past = with_state state past in
    let x : ℤ = restored f p q r in
    ap (λ (xs : List ℤ). x ∷ xs) (block_outputs m n f (latest m n (past_after f p x)) q rs a b ∙ outputs_of-latest m n f (past_after f p x) q rs a b)

pub state_past : (m n : ℕ) (f : Filters) (past : Past) (q : ℕ) (state rs : List ℤ) → length f.fir ≤ m → length f.iir ≤ n → 0 < length rs →
    past_from m n past (with_state_first state (block_of f q rs)) ≡ latest m n (past_of f (with_state state past) (outputs_of f (with_state state past) q rs))
state_past m n f past q state [] a b l = absurd (omega arith)
state_past m n f past q state (r ∷ rs) a b l =
    let p : Past = with_state state past in
    let x : ℤ = restored f p q r in
    let after : Past = past_after f p x in
    block_past m n f (latest m n after) q rs a b (sym (latest-latest m n after))
    ∙ ap (λ (xs : List ℤ). latest m n (past_of f (latest m n after) xs)) (outputs_of-latest m n f after q rs a b)
    ∙ past_of-latest m n f after (outputs_of f after q rs) a b

-- ---- the whole sequence

-- the frames of a list are those of a sequence from k on
abbrev Continues : (ℕ → Frame) → ℕ → List Frame → Type 0
Continues frames k fs = (i : ℕ) (d : Frame) → i < length fs → get_or fs i d ≡ frames (k + i)

continues_behind : (frames : ℕ → Frame) (k : ℕ) (f : Frame) (fs : List Frame) → Continues frames k (f ∷ fs) → Continues frames (suc k) fs
continues_behind frames k f fs same i d l = same (suc i) d (omega arith) ∙ ap frames (let e : k + suc i ≡ suc k + i = omega arith in e)

first_is : (frames : ℕ → Frame) (k : ℕ) (f : Frame) (fs : List Frame) → Continues frames k (f ∷ fs) → f ≡ frames k
first_is frames k f fs same = same 0 f (omega arith) ∙ ap frames (let e : k + 0 ≡ k = omega arith in e)

get_or-outputs_from : (m n : ℕ) (frames : ℕ → Frame) (k : ℕ) (fs : List Frame) → Continues frames k fs → (i : ℕ) (d : ℤ) → i < length fs →
    get_or (outputs_from m n (steps_after m n frames k) fs) i d ≡ output_after (steps_after m n frames (k + i)) (frames (k + i))
get_or-outputs_from m n frames k [] same i d l = absurd (omega arith)
get_or-outputs_from m n frames k (f ∷ fs) same zero d l =
    let at : k ≡ k + 0 = omega arith in
    ap (λ (g : Frame). output_after (steps_after m n frames k) g) (first_is frames k f fs same) ∙ ap (λ (j : ℕ). output_after (steps_after m n frames j) (frames j)) at
get_or-outputs_from m n frames k (f ∷ fs) same (suc i) d l =
    let at : suc k + i ≡ k + suc i = omega arith in
    ap (λ (g : Frame). get_or (outputs_from m n (step_after m n (steps_after m n frames k) g) fs) i d) (first_is frames k f fs same)
    ∙ get_or-outputs_from m n frames (suc k) fs (continues_behind frames k f fs same) i d (omega arith)
    ∙ ap (λ (j : ℕ). output_after (steps_after m n frames j) (frames j)) at

past_from-steps : (m n : ℕ) (frames : ℕ → Frame) (k : ℕ) (fs : List Frame) → Continues frames k fs → past_from m n (steps_after m n frames k) fs ≡ steps_after m n frames (k + length fs)
past_from-steps m n frames k [] same = ap (steps_after m n frames) (let e : k ≡ k + 0 = omega arith in e)
past_from-steps m n frames k (f ∷ fs) same =
    ap (λ (g : Frame). past_from m n (step_after m n (steps_after m n frames k) g) fs) (first_is frames k f fs same)
    ∙ past_from-steps m n frames (suc k) fs (continues_behind frames k f fs same)
    ∙ ap (steps_after m n frames) (let e : suc k + length fs ≡ k + suc (length fs) = omega arith in e)

-- whatever is read behind the end, what is read within is one
same_item : (fs : List Frame) (i : ℕ) (d e : Frame) → i < length fs → get_or fs i d ≡ get_or fs i e
same_item [] i d e l = absurd (omega arith)
same_item (f ∷ fs) zero d e l = refl
same_item (f ∷ fs) (suc i) d e l = same_item fs i d e (omega arith)

whole : (fs : List Frame) → Continues (frame_at fs) 0 fs
whole fs i d l = same_item fs i d silence l ∙ ap (frame_at fs) (let e : i ≡ 0 + i = omega arith in e)

silence_within : (m n : ℕ) → IsWithin m n silence
silence_within m n = record { fir = omega arith; iir = omega arith; state = omega arith }

all_within : (m n : ℕ) (fs : List Frame) → All (IsWithin m n) fs → AreWithin m n (frame_at fs)
all_within m n [] w i = silence_within m n
all_within m n (f ∷ fs) w zero = w 0 silence (omega arith)
all_within m n (f ∷ fs) w (suc i) = all_within m n fs (λ j d l. w (suc j) d (omega arith)) i

pub frames_give : (m n : ℕ) (fs : List Frame) → All (IsWithin m n) fs → (i : ℕ) (d : ℤ) → i < length fs → get_or (outputs_from m n (zeros m n) fs) i d ≡ outputs_at (frame_at fs) i
frames_give m n fs w i d l =
    get_or-outputs_from m n (frame_at fs) 0 fs (whole fs) i d l
    ∙ ap (λ (j : ℕ). output_after (steps_after m n (frame_at fs) j) (frame_at fs j)) (let e : 0 + i ≡ i = omega arith in e)
    ∙ outputs_at-steps m n (frame_at fs) i (all_within m n fs w)

pub frames_leave : (m n : ℕ) (fs : List Frame) → All (IsWithin m n) fs → past_from m n (zeros m n) fs ≡ latest m n (with_zeros m n (past_at (frame_at fs) (length fs)))
frames_leave m n fs w =
    past_from-steps m n (frame_at fs) 0 fs (whole fs)
    ∙ ap (steps_after m n (frame_at fs)) (let e : 0 + length fs ≡ length fs = omega arith in e)
    ∙ steps_keep m n (frame_at fs) (length fs) (all_within m n fs w)
