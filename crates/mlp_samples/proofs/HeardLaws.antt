-- What is heard of frames, by their numbers.
use Rattle.std.proofs.Common.{◌≡◌, ℕ, zero, suc, ◌+◌, ◌<◌, ◌≤◌, List, [], ◌∷◌, length, take, map, get_or, ℤ, pos, refl, ap, ◌∙◌, arith}
use Rattle.std.specs.List.{range_with_len}
use Rattle.std.proofs.lemmas.List.FromFn.{take-map-range_with_len, length-map-range_with_len, get_or-map-range_with_len}
use Rattle.mlp_params.specs.declared.state.State.{State}
use Rattle.mlp_matrix.specs.Noise.{next_seed, seed_at}
use Rattle.mlp_output.specs.Output.{samples_of, matrixed, heard}
use Rattle.mlp_contents.specs.Frames.{frames_of}

-- functions that agree on a range make one list of it
pub same_on_range : {A : Type 0} (f g : ℕ → A) (a n : ℕ) → ((i : ℕ) → a ≤ i → i < a + n → f i ≡ g i) → map f (range_with_len a n) ≡ map g (range_with_len a n)
same_on_range f g a zero same = refl
same_on_range f g a (suc n) same =
    ap (λ (x : _). x ∷ map f (range_with_len (a + 1) n)) (same a (omega arith) (omega arith))
    ∙ ap (λ (xs : List _). g a ∷ xs) (same_on_range f g (a + 1) n (λ i le lt. same i (omega arith) (omega arith)))

-- frame i of what is heard
abbrev pub heard_at : State → ℕ → (ℕ → ℕ) → (ℕ → List ℤ) → ℕ → List ℤ
heard_at s first bypass frame i = samples_of s.shifts.items (matrixed s (seed_at first i) (bypass i) (frame i))

heard_range : (s : State) (start : ℕ) (b : ℕ → ℕ) (f : ℕ → List ℤ) (first seed : ℕ) (bypass : List ℕ) (frames : List (List ℤ)) (n : ℕ) →
    length bypass ≡ n → length frames ≡ n → seed ≡ seed_at start first →
    ((i : ℕ) → i < n → get_or bypass i 0 ≡ b (first + i)) → ((i : ℕ) → i < n → get_or frames i [] ≡ f (first + i)) →
    heard s seed bypass frames ≡ map (heard_at s start b f) (range_with_len first n)
heard_range s start b f first seed [] frames zero e1 e2 is bits fs = refl
heard_range s start b f first seed (x ∷ bypass) frames zero e1 e2 is bits fs = absurd (omega arith)
heard_range s start b f first seed [] frames (suc n) e1 e2 is bits fs = absurd (omega arith)
heard_range s start b f first seed (x ∷ bypass) [] (suc n) e1 e2 is bits fs = absurd (omega arith)
heard_range s start b f first seed (x ∷ bypass) (y ∷ frames) (suc n) e1 e2 is bits fs =
    let here : first + 0 ≡ first = omega arith in
    let bit : x ≡ b first = bits 0 (omega arith) ∙ ap b here in
    let frame : y ≡ f first = fs 0 (omega arith) ∙ ap f here in
    let step : next_seed seed ≡ seed_at start (first + 1) = ap next_seed is ∙ ap (seed_at start) (let e : suc first ≡ first + 1 = omega arith in e) in
    let head : samples_of s.shifts.items (matrixed s seed x y) ≡ heard_at s start b f first = rw (is, bit, frame) refl in
    ap (λ (z : List ℤ). z ∷ heard s (next_seed seed) bypass frames) head
    ∙ ap (λ (zs : List (List ℤ)). heard_at s start b f first ∷ zs)
    (heard_range s start b f (first + 1) (next_seed seed) bypass frames n (omega arith) (omega arith) step
    (λ i lt. bits (suc i) (omega arith) ∙ ap b (let e : first + suc i ≡ first + 1 + i = omega arith in e))
    (λ i lt. fs (suc i) (omega arith) ∙ ap f (let e : first + suc i ≡ first + 1 + i = omega arith in e)))

-- .. of the first of them
pub heard_first : (s : State) (start : ℕ) (b : ℕ → ℕ) (f : ℕ → List ℤ) (first seed : ℕ) (bypass : List ℕ) (frames : List (List ℤ)) (n count : ℕ) →
    length bypass ≡ n → length frames ≡ n → seed ≡ seed_at start first → count ≤ n →
    ((i : ℕ) → i < n → get_or bypass i 0 ≡ b (first + i)) → ((i : ℕ) → i < n → get_or frames i [] ≡ f (first + i)) →
    take count (heard s seed bypass frames) ≡ map (heard_at s start b f) (range_with_len first count)
heard_first s start b f first seed bypass frames n count e1 e2 is le bits fs =
    ap (λ (zs : List (List ℤ)). take count zs) (heard_range s start b f first seed bypass frames n e1 e2 is bits fs)
    ∙ take-map-range_with_len (heard_at s start b f) first n count le

-- frames made of channels
pub length-frames_of : (channels : ℕ → List ℤ) (m n : ℕ) → length (frames_of channels m n) ≡ n
length-frames_of channels m n = length-map-range_with_len (λ i. map (λ c. get_or (channels c) i (pos 0)) (range_with_len 0 (m + 1))) 0 n

pub frames_of-at : (channels : ℕ → List ℤ) (m n i : ℕ) → i < n → get_or (frames_of channels m n) i [] ≡ map (λ c. get_or (channels c) i (pos 0)) (range_with_len 0 (m + 1))
frames_of-at channels m n i lt = get_or-map-range_with_len (λ j. map (λ c. get_or (channels c) j (pos 0)) (range_with_len 0 (m + 1))) 0 n i i [] lt (omega arith)
