-- PCM that is encoded to its end was sent, unit by unit.
use Rattle.std.proofs.Common.{◌≡◌, ℕ, zero, suc, ◌+◌, ◌*◌, ◌/◌, ◌%◌, ◌<◌, ◌≤◌, ◌++◌, Bool, true, false, List, [], ◌∷◌, length, map, drop, Option, Some, Result, Ok, Err, ℤ, refl}
use Rattle.std.proofs.Common.{sym, ap, subst, ◌∙◌, arith, append_assoc, length-append, length-drop}
use Rattle.std.specs.Prelude.{All, ◌==◌}
use Rattle.std.proofs.lemmas.Nat.{div-add-mod', div-mul-add, mod_below}
use Rattle.std.proofs.lemmas.Bool.{ne_eqb}
use Rattle.std.proofs.lemmas.List.{append-nil, nil_from_length, take-append-le, drop-append-le}
use Rattle.std.proofs.lemmas.List.Elements.{All-head, All-tail, All-take}
use Rattle.mlp_syntax.specs.declared.major.Kind.{Kind}
use Rattle.mlp_syntax.specs.declared.refusal.NoRoom.{NoRoom}
use Rattle.mlp_stream.specs.declared.stop.Stop.{Stop}
use Rattle.mlp_pcm.specs.declared.wave_format.Format.{Format}
use Rattle.mlp_pcm.specs.Samples.{pieces, row_in}
use Rattle.mlp_pcm.specs.WaveScan.{begins, Says}
use Rattle.mlp_pcm.proofs.OneAnswer.{same_answer}
use Rattle.mlp_fold.specs.declared.profile.Mix.{Mix}
use Rattle.mlp_fold.specs.declared.profile.Profile.{Profile}
use Rattle.mlp_fold.specs.Profile.{checked}
use Rattle.mlp_fold.specs.Substreams.{substreams_of}
use Rattle.mlp_encode.specs.Left.{Left, going}
use Rattle.mlp_encode.specs.Unit.{joined, AreNext}
use Rattle.mlp_encode.specs.Sent.{Stream, sent}
use Rattle.mlp_lossless.specs.Streams.{all_frames, AreUnits}
use Rattle.mlp_lossless.specs.Lossless.{GivesBack}
use Rattle.mlp_lossless.proofs.Owed.{all_given_back, all_arrive, all_in_time, all_chosen}
use Rattle.mlp_encoding.specs.Pcm.{sample_size, frame_size, frames_in, data_in, is_seen, IsFull, IsLastUnit, AreFull, Ends, whole, empty, padded, cut_frame, cut_unit, unfinished as goes_on}
use Rattle.mlp_encoding.specs.Encoding.{fault_by}
use Rattle.mlp_encoding.specs.Encoded.{end_by, Encoded}
use Rattle.mlp_encoding.specs.Sizes.{AreSizes, sizes}
use Rattle.mlp_encoding.specs.Wave.{profile_in, WaveEncoded, encoded, unfit, wrong, cut, waits}
use Rattle.mlp_encoding.proofs.Parts.{IsRead, row_front, next_frames}
use Rattle.mlp_encoding.proofs.Outcomes.{cut_none}
use Rattle.mlp_unit.specs.Laws.{AreBytes}
use Rattle.mlp_encoded.proofs.Bytes.{front_bytes, back_bytes}
use Rattle.mlp_encoded.specs.Encoded.{IsStreamOf, IsLossless}

-- ---- frames of bytes one behind the other

read_first : {A : Type 0} (value : List ℕ → A) (size : ℕ) (u b : List ℕ) → IsRead value size → size ≤ length u → value (u ++ b) ≡ value u
read_first value size u b reads le =
    sym (reads size (u ++ b) (omega arith)) ∙ ap value (take-append-le size u b le) ∙ reads size u (omega arith)

pieces_append : {A : Type 0} (value : List ℕ → A) (size k m n : ℕ) (u b : List ℕ) → IsRead value size → length u ≡ k * size → n ≡ k + m → pieces value size n (u ++ b) ≡ pieces value size k u ++ pieces value size m b
unfolding pieces
pieces_append value size zero m n u b reads long e =
    let none : 0 * size ≡ 0 = grind arith in
    let nil : u ≡ [] = nil_from_length u (omega (arith, long, none)) in
    let same : n ≡ m = omega (arith, e) in
    ap (λ (xs : List ℕ). pieces value size n (xs ++ b)) nil ∙ ap (λ (j : ℕ). pieces value size j b) same
pieces_append {A = A} value size (suc k) m n u b reads long e =
    let one : suc k * size ≡ k * size + size = grind arith in
    let more : n ≡ suc (k + m) = omega (arith, e) in
    let fits : size ≤ length u = omega (arith, long, one) in
    ap (λ (j : ℕ). pieces value size j (u ++ b)) more
    ∙ ap (λ (x : A). x ∷ pieces value size (k + m) (drop size (u ++ b))) (read_first value size u b reads fits)
    ∙ ap (λ (xs : List ℕ). value u ∷ pieces value size (k + m) xs) (drop-append-le size u b fits)
    ∙ ap (λ (xs : List A). value u ∷ xs) (pieces_append value size k m (k + m) (drop size u) b reads (omega (arith, long, one, length-drop size u)) refl)

module _ (p : Profile) (ok : checked p ≡ Ok tt) where
  is : AreSizes p
  is = sizes p ok

  frames_append : (k : ℕ) (u b : List ℕ) → length u ≡ k * frame_size p → frames_in p (u ++ b) ≡ frames_in p u ++ frames_in p b
  frames_append k u b long =
      let f : ℕ = frame_size p in
      let here : length u / f ≡ k = ap (λ (n : ℕ). n / f) (let z : length u ≡ k * f + 0 = omega (arith, long) in z) ∙ div-mul-add k f 0 is.frame_some in
      let sum : length (u ++ b) ≡ (k + length b / f) * f + length b % f =
      (let dist : (k + length b / f) * f ≡ k * f + length b / f * f = grind arith in omega (arith, length-append u b, long, dist, div-add-mod' (length b) f)) in
      let count : length (u ++ b) / f ≡ k + length b / f = ap (λ (n : ℕ). n / f) sum ∙ div-mul-add (k + length b / f) f (length b % f) (mod_below (length b) f is.frame_some) in
      pieces_append (row_in (sample_size p.depth) p.channels) f k (length b / f) (length (u ++ b) / f) u b (row_front (sample_size p.depth) p.depth p.channels is.form) long count
      ∙ ap (λ (n : ℕ). pieces (row_in (sample_size p.depth) p.channels) f n u ++ frames_in p b) (sym here)

  -- ---- the frames of all units

  abbrev all_of : List (List ℕ) → List ℕ → List (List (List ℤ))
  all_of units rest = map (frames_in p) units ++ frames_in p rest ∷ []

  all_are : (units : List (List ℕ)) (rest : List ℕ) → All (IsFull p) units → all_frames (all_of units rest) ≡ frames_in p (joined units ++ rest)
  all_are [] rest full = append-nil (frames_in p rest)
  all_are (u ∷ units) rest full =
      let first = All-head (IsFull p) u units full in
      ap (λ (xs : List (List ℤ)). frames_in p u ++ xs) (all_are units rest (All-tail (IsFull p) u units full))
      ∙ sym (frames_append _ u (joined units ++ rest) first.size)
      ∙ ap (frames_in p) (sym (append_assoc u (joined units) rest))

  units_are : (units : List (List ℕ)) (rest : List ℕ) → All (IsFull p) units → IsLastUnit p rest → AreBytes (joined units ++ rest) → AreUnits p (all_of units rest)
  units_are [] rest full l bytes =
      (next_frames p 0 rest true ok bytes l.some l.most (λ e. absurd cc) (ap (fault_by p 0 rest true) l.clear ∙ cut_none p ok rest l), tt)
  units_are (u ∷ units) rest full l bytes =
      let first = All-head (IsFull p) u units full in
      let split = subst AreBytes (append_assoc u (joined units) rest) bytes in
      let later : (length (all_of units rest) == 0) ≡ false = ne_eqb (length (all_of units rest)) 0 (λ z. omega (arith, z, length-append (map (frames_in p) units) (frames_in p rest ∷ []))) in
      let next = next_frames p 0 u false ok (front_bytes u (joined units ++ rest) split) (omega (arith, first.size, is.full_some)) (omega (arith, first.size)) (λ e. first.size) (ap (fault_by p 0 u false) first.clear) in
      (subst (λ (b : Bool). AreNext p (frames_in p u) b) (sym later) next, units_are units rest (All-tail (IsFull p) u units full) l (back_bytes u (joined units ++ rest) split))

  -- ---- what an end that isn't refused tells

  abbrev fine : Result Unit Stop
  fine = Ok tt

  stops : (e : Stop) (r : Result Left NoRoom) → fine ≡ end_by (Err e) r → ⊥
  stops e (Ok left) h = cc
  stops e (Err x) h = cc

  left_of : (end : Result Unit Stop) (r : Result Left NoRoom) → fine ≡ end_by end r → (left : Left) × (r ≡ Ok left)
  left_of end (Ok left) h = (left, refl)
  left_of end (Err e) h = absurd cc

  stream_by : (st : Stream) (left : Left) → st.end ≡ Ok left → st ≡ record { units = st.units; end = Ok left }
  stream_by st left e = ap (λ (r : Result Left NoRoom). let q : Stream = record { units = st.units; end = r } in q) e

  module _ (pcm output : List ℕ) (bytes : AreBytes pcm) (units : List (List ℕ)) (rest : List ℕ) (full : AreFull p pcm units rest) where
    of_whole : IsLastUnit p rest → (end : Result Unit Stop) → fine ≡ end_by end (sent true (Ok (going p)) (all_of units rest)).end → output ≡ joined (sent true (Ok (going p)) (all_of units rest)).units → IsStreamOf p pcm output
    of_whole l end h out =
        let st = sent true (Ok (going p)) (all_of units rest) in
        let left = left_of end st.end h in
        record {
          frames = all_of units rest;
          units = st.units;
          left = left.0;
          sent = record {
            profile = ok;
            some = omega (arith, length-append (map (frames_in p) units) (frames_in p rest ∷ []));
            frames_are = units_are units rest full.full l (subst AreBytes full.are bytes);
            sent_is = stream_by st left.0 left.1;
          };
          all = all_are units rest full.full ∙ ap (frames_in p) (sym full.are);
          stream_is = out;
        }

    of_ends : (ended seen : Bool) (more : List (List (List ℤ))) (last : Bool) (end : Result Unit Stop) → Ends p (length units) ended seen rest more last end
        → fine ≡ end_by end (sent last (Ok (going p)) (map (frames_in p) units ++ more)).end → output ≡ joined (sent last (Ok (going p)) (map (frames_in p) units ++ more)).units → IsStreamOf p pcm output
    of_ends ended seen more last end (whole s l) h out = of_whole l end h out
    of_ends ended seen more last end (empty s z r) h out = absurd (stops _ _ h)
    of_ends ended seen more last end (padded frame d e) h out = absurd (stops _ _ h)
    of_ends ended seen more last end (cut_frame s lt e ne) h out = absurd (stops _ _ h)
    of_ends ended seen more last end (cut_unit s k there lt e w) h out = absurd (stops _ _ h)
    of_ends ended seen more last end (goes_on s d le c) h out = absurd (stops _ _ h)

  pub whole_stream : (size : Option ℕ) (ended : Bool) (bytes output : List ℕ) → AreBytes (data_in size bytes) → Encoded p size ended bytes (Ok tt) output → IsStreamOf p (data_in size bytes) output
  whole_stream size ended bytes output are x =
      let i = x.pcm in
      let st = λ (fs : List (List (List ℤ))). sent x.last (Ok (going p)) fs in
      of_ends (data_in size bytes) output are i.units i.rest i.full ended (is_seen size ended bytes) i.more x.last x.pcm_end i.ends
      (x.end_is ∙ ap (λ (fs : List (List (List ℤ))). end_by x.pcm_end (st fs).end) i.frames_are)
      (x.output_is ∙ ap (λ (fs : List (List (List ℤ))). joined (st fs).units) i.frames_are)

-- ---- WAVE files

data_bytes : (size : ℕ) (rest : List ℕ) → AreBytes rest → AreBytes (data_in (Some size) rest)
data_bytes size rest h = All-take (λ (b : ℕ). b < 256) size rest h

module _ (kind : Kind) (mix : Mix) (bytes : List ℕ) (format : Format) (size : ℕ) (rest : List ℕ) (says : Says bytes (begins format size rest)) (are : AreBytes rest) where
  by_answer : (output : List ℕ) (f : Format) (n : ℕ) (more : List ℕ) → begins f n more ≡ begins format size rest → checked (profile_in kind mix f) ≡ Ok tt → Encoded (profile_in kind mix f) (Some n) true more (Ok tt) output
      → IsStreamOf (profile_in kind mix format) (data_in (Some size) rest) output
  by_answer output f n more same ok x =
      let f_is : f ≡ format = cc in
      let n_is : n ≡ size = cc in
      let more_is : more ≡ rest = cc in
      subst (λ (g : Format). IsStreamOf (profile_in kind mix g) (data_in (Some size) rest) output) f_is
      (subst (λ (k : ℕ). IsStreamOf (profile_in kind mix f) (data_in (Some k) rest) output) n_is
      (subst (λ (ys : List ℕ). IsStreamOf (profile_in kind mix f) (data_in (Some n) ys) output) more_is
      (whole_stream (profile_in kind mix f) ok (Some n) true more output (data_bytes n more (subst AreBytes (sym more_is) are)) x)))

  pub wave_stream : (end : Result Unit Stop) (output : List ℕ) → end ≡ Ok tt → WaveEncoded kind mix true bytes end output → IsStreamOf (profile_in kind mix format) (data_in (Some size) rest) output
  wave_stream end output e (encoded f n more says_it ok x) =
      by_answer output f n more (same_answer bytes (begins f n more) (begins format size rest) says_it says (λ z. cc) (λ z. cc)) ok
      (subst (λ (r : Result Unit Stop). Encoded (profile_in kind mix f) (Some n) true more r output) e x)
  wave_stream end output e (unfit f n more fault says_it bad) = absurd cc
  wave_stream end output e (wrong field says_it) = absurd cc
  wave_stream end output e (cut field over says_it) = absurd cc
  wave_stream end output e (waits field over says_it) = absurd cc

-- ---- a stream that is sent

pub lossless : (p : Profile) (pcm stream : List ℕ) (j : ℕ) (is : IsStreamOf p pcm stream) → j < substreams_of p.channels → IsLossless p j pcm stream is.units
lossless p pcm stream j is lt = record {
  back = subst (λ (xs : List ℕ). GivesBack p j (frames_in p pcm) xs) (sym is.stream_is)
      (subst (λ (fs : List (List ℤ)). GivesBack p j fs (joined is.units)) is.all (all_given_back p is.frames is.units is.left j is.sent lt));
  earliest = all_arrive p is.frames is.units is.left j is.sent lt;
  in_time = all_in_time p is.frames is.units is.left j is.sent lt;
  chosen = all_chosen p is.frames is.units is.left j is.sent lt;
}
