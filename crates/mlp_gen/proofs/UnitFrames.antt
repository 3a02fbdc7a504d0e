-- The units of the generator can be sent.
use Rattle.std.proofs.Common.{◌≡◌, ℕ, zero, suc, ◌+◌, ◌*◌, ◌<◌, ◌≤◌, List, [], ◌∷◌, ◌++◌, map, length, get_or, ℤ, Bool, true, false, Ok, sym, ap, ◌∙◌, arith, append_assoc, suc-mul}
use Rattle.std.specs.Prelude.{nat_le, ◌==◌, if◌then◌else◌}
use Rattle.std.specs.List.{range_with_len}
use Rattle.std.proofs.lemmas.List.{append-nil, length-append, map-append}
use Rattle.std.proofs.lemmas.List.Elements.{All-map, All-from_get_or}
use Rattle.std.proofs.lemmas.List.FromFn.{length-map-range_with_len, map-range_with_len_more}
use Rattle.mlp_fifo.specs.Pace.{unit_of}
use Rattle.mlp_fold.specs.declared.profile.Profile.{Profile}
use Rattle.mlp_fold.specs.Profile.{checked}
use Rattle.mlp_fold.specs.Mix.{AreSamples}
use Rattle.mlp_encode.specs.Numbers.{low_zeros}
use Rattle.mlp_encode.specs.Left.{Left, going}
use Rattle.mlp_encode.specs.Unit.{AreNext, joined}
use Rattle.mlp_encode.specs.Sent.{sent}
use Rattle.mlp_encode.proofs.SyncAllowed.{passes}
use Rattle.mlp_encode.proofs.SentStarts.{mixed_there}
use Rattle.mlp_lossless.specs.Streams.{all_frames, AreUnits, IsSent}
use Rattle.mlp_gen.specs.Generator.{state_after, frame_at, unit_at, generated}
use Rattle.mlp_gen.proofs.Samples.{frame_samples}

pub unit_long : (p : Profile) (seed n : ℕ) → length (unit_at p seed n) ≡ unit_of p.rate
unit_long p seed n = length-map-range_with_len (frame_at p seed) (n * unit_of p.rate) (unit_of p.rate)

unit_some : (rate : ℕ) → 0 < unit_of rate
unfolding unit_of
unit_some rate = pick (nat_le rate 48000) (nat_le rate 96000)
  where
    pick : (a b : Bool) → 0 < (if a then 40 else (if b then 80 else 160))
    pick true b = omega arith
    pick false true = omega arith
    pick false false = omega arith

pub unit_is : (p : Profile) (seed n : ℕ) (last : Bool) → checked p ≡ Ok tt → AreNext p (unit_at p seed n) last
unit_is p seed n last is =
    let m = mixed_there p (passes p is) in
    record {
      some = omega (arith, unit_long p seed n, unit_some p.rate);
      most = omega (arith, unit_long p seed n);
      whole = λ e. unit_long p seed n;
      filled_up = λ e. unit_long p seed n;
      samples = All-map (AreSamples (low_zeros p.depth) p.channels) (frame_at p seed) (range_with_len (n * unit_of p.rate) (unit_of p.rate))
          (All-from_get_or (λ i. AreSamples (low_zeros p.depth) p.channels (frame_at p seed i)) (range_with_len (n * unit_of p.rate) (unit_of p.rate)) 0
          (λ i lt. frame_samples (low_zeros p.depth) p.channels (state_after seed (get_or (range_with_len (n * unit_of p.rate) (unit_of p.rate)) i 0 * p.channels)) _ (omega (arith, m.depth_least))));
    }

-- ---- all of them

are_units : (p : Profile) (seed a n : ℕ) → checked p ≡ Ok tt → AreUnits p (map (unit_at p seed) (range_with_len a n))
are_units p seed a zero is = tt
are_units p seed a (suc n) is = (unit_is p seed a (length (map (unit_at p seed) (range_with_len (a + 1) n)) == 0) is, are_units p seed (a + 1) n is)

pub is_sent : (p : Profile) (seed count : ℕ) (units : List (List ℕ)) (left : Left) → checked p ≡ Ok tt → 1 ≤ count → sent true (Ok (going p)) (generated p seed count) ≡ record { units = units; end = Ok left }
    → IsSent p (generated p seed count) units left
is_sent p seed count units left is some sent_is = record { profile = is; some = omega (arith, some, length-map-range_with_len (unit_at p seed) 0 count); frames_are = are_units p seed 0 count is; sent_is = sent_is }

pub frames_more : (units : List (List (List ℤ))) (frames : List (List ℤ)) → all_frames (units ++ frames ∷ []) ≡ all_frames units ++ frames
frames_more [] frames = append-nil frames
frames_more (u ∷ units) frames = ap (λ (xs : List (List ℤ)). u ++ xs) (frames_more units frames) ∙ sym (append_assoc u (all_frames units) frames)

pub joined_more : (units : List (List ℕ)) (bytes : List ℕ) → joined (units ++ bytes ∷ []) ≡ joined units ++ bytes
joined_more [] bytes = append-nil bytes
joined_more (u ∷ units) bytes = ap (λ (xs : List ℕ). u ++ xs) (joined_more units bytes) ∙ sym (append_assoc u (joined units) bytes)

pub generated_more : (p : Profile) (seed n : ℕ) → generated p seed (n + 1) ≡ generated p seed n ++ unit_at p seed n ∷ []
generated_more p seed n = map-range_with_len_more (unit_at p seed) 0 n n (omega arith)

range_split : (a n m : ℕ) → range_with_len a (n + m) ≡ range_with_len a n ++ range_with_len (a + n) m
range_split a zero m =
    let n : 0 + m ≡ m = omega arith in
    let z : a ≡ a + 0 = omega arith in
    ap (range_with_len a) n ∙ ap (λ (k : ℕ). range_with_len k m) z
range_split a (suc n) m =
    let s : suc n + m ≡ suc (n + m) = omega arith in
    let z : a + 1 + n ≡ a + suc n = omega arith in
    ap (range_with_len a) s
    ∙ ap (λ (ks : List ℕ). a ∷ ks) (range_split (a + 1) n m ∙ ap (λ (k : ℕ). range_with_len (a + 1) n ++ range_with_len k m) z)

-- the rest of them, from one on
pub rest_of : (p : Profile) (seed n m : ℕ) → generated p seed (n + suc m) ≡ generated p seed n ++ map (unit_at p seed) (range_with_len n (suc m))
rest_of p seed n m =
    let z : 0 + n ≡ n = omega arith in
    ap (map (unit_at p seed)) (range_split 0 n (suc m) ∙ ap (λ (k : ℕ). range_with_len 0 n ++ range_with_len k (suc m)) z)
    ∙ map-append (unit_at p seed) (range_with_len 0 n) (range_with_len n (suc m))

pub frames_long : (p : Profile) (seed a n : ℕ) → length (all_frames (map (unit_at p seed) (range_with_len a n))) ≡ n * unit_of p.rate
frames_long p seed a zero = omega arith
frames_long p seed a (suc n) =
    let u : ℕ = unit_of p.rate in
    let rest = frames_long p seed (a + 1) n in
    length-append (unit_at p seed a) (all_frames (map (unit_at p seed) (range_with_len (a + 1) n)))
    ∙ ap (λ (m : ℕ). m + length (all_frames (map (unit_at p seed) (range_with_len (a + 1) n)))) (unit_long p seed a)
    ∙ ap (λ (m : ℕ). unit_of p.rate + m) rest
    ∙ (let z : u + n * u ≡ n * u + u = omega arith in z) ∙ sym (suc-mul n u)

-- ---- as they are counted

pub rows_are : (p : Profile) (seed number first count : ℕ) (rows : List (List ℤ)) → first ≡ number * unit_of p.rate → count ≡ unit_of p.rate → rows ≡ map (frame_at p seed) (range_with_len first count) → rows ≡ unit_at p seed number
rows_are p seed number first count rows f n e =
    e ∙ ap (λ (a : ℕ). map (frame_at p seed) (range_with_len a count)) f ∙ ap (λ (m : ℕ). map (frame_at p seed) (range_with_len (number * unit_of p.rate) m)) n

pub first_next : (number first count unit : ℕ) → first ≡ number * unit → count ≡ unit → first + count ≡ (number + 1) * unit
first_next number first count unit f n =
    let one : suc number ≡ number + 1 = omega arith in
    let z : first + count ≡ number * unit + unit = omega (arith, f, n) in
    z ∙ sym (suc-mul number unit) ∙ ap (λ (m : ℕ). m * unit) one
