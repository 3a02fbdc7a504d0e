-- A whole stream that is sent is a stream of each presentation, with the samples of the presentation.
use Rattle.std.proofs.Common.{◌≡◌, ℕ, ◌+◌, ◌*◌, ◌%◌, ◌^◌, ◌<◌, ℤ, Bool, true, false, List, [], ◌∷◌, ◌++◌, map, length, drop, Result, Ok, Err, refl, sym, ap, ◌∙◌, subst, arith}
use Rattle.std.specs.Prelude.{All, ◌==◌}
use Rattle.std.proofs.Math.Seq.{drop-append_seam}
use Rattle.std.proofs.lemmas.Bool.{ne_eqb}
use Rattle.std.proofs.lemmas.List.{map-append}
use Rattle.mlp_syntax.specs.declared.refusal.NoRoom.{NoRoom}
use Rattle.mlp_bits.specs.Bits.{bits_of}
use Rattle.mlp_bits.proofs.Words.{bits_of-append}
use Rattle.mlp_layout.specs.Streams.{Begins, IsNext, rest_of}
use Rattle.mlp_fifo.specs.LeftFifo.{LeftFifo}
use Rattle.mlp_fifo.specs.Placed.{placed, placed_all, with_time}
use Rattle.mlp_contents.specs.Units.{Unit_of, after, whole}
use Rattle.mlp_contents.specs.Units.{Left as Decoded}
use Rattle.mlp_samples.specs.Samples.{frames_by_steps, first_sync}
use Rattle.mlp_fold.specs.declared.profile.Profile.{Profile}
use Rattle.mlp_fold.specs.Mix.{presented_of}
use Rattle.mlp_fold.specs.Substreams.{substreams_of}
use Rattle.mlp_encode.specs.Numbers.{low_zeros}
use Rattle.mlp_encode.specs.Left.{Going, Left}
use Rattle.mlp_encode.specs.Unit.{output_timing, unit_sent, major_of, body_of, body_size, unit_bytes, behind, sent_at, next_sent, joined}
use Rattle.mlp_encode.specs.Sent.{Stream, with_unit, sent}
use Rattle.mlp_lossless.specs.Streams.{all_frames}
use Rattle.mlp_lossless.specs.Following.{Follows}
use Rattle.mlp_lossless.specs.Timings.{output_timings}
use Rattle.mlp_lossless.specs.Chosen.{IsChosen, AreChosen}
use Rattle.mlp_lossless.proofs.Steps.{CanSendUnit, unit, sized, words_are, outputs_are, unit_chosen, next, spelled, frames_given, follows_on}

no_bits : bits_of [] ≡ []
unfolding bits_of
no_bits = refl

-- ---- a unit that was sent

pub record WasSent (e : Going) (frames : List (List ℤ)) (last : Bool) (bytes : List ℕ) (left : Left) : Type 0 where
  pub time : ℕ
  pub fifo : LeftFifo
  pub bytes_are : bytes ≡ unit_bytes time (body_of e (unit_sent e frames last))
  pub left_is : left ≡ Ok (behind e frames (unit_sent e frames last) fifo)
  pub placed_is : placed e.fifo (body_size (body_of e (unit_sent e frames last))) ≡ Ok (time, fifo)

pub was_sent : (e : Going) (frames : List (List ℤ)) (last : Bool) (x : List ℕ × Left) → next_sent (Ok e) frames last ≡ Ok x → WasSent e frames last x.0 x.1
was_sent e frames last x eq = pick (placed e.fifo (body_size (body_of e (unit_sent e frames last)))) refl eq
  where
    pick : (r : Result (ℕ × LeftFifo) NoRoom) → placed e.fifo (body_size (body_of e (unit_sent e frames last))) ≡ r → sent_at e frames (unit_sent e frames last) (body_of e (unit_sent e frames last)) r ≡ Ok x → WasSent e frames last x.0 x.1
    pick (Err d) is eq = absurd cc
    pick (Ok y) is eq =
        let b : unit_bytes y.0 (body_of e (unit_sent e frames last)) ≡ x.0 = cc in
        let l : Ok (behind e frames (unit_sent e frames last) y.1) ≡ x.1 = cc in
        record { time = y.0; fifo = y.1; bytes_are = sym b; left_is = sym l; placed_is = is }

-- ---- all units

-- of the frames of each unit, what is owed of the unit behind those before it
unfoldable pub AllCanSend : Left → List (List (List ℤ)) → Type 0
AllCanSend left [] = Unit {0}
AllCanSend (Err d) (frames ∷ more) = ⊥
AllCanSend (Ok e) (frames ∷ more) =
    CanSendUnit e frames (length more == 0) × ((x : List ℕ × Left) → next_sent (Ok e) frames (length more == 0) ≡ Ok x → AllCanSend x.1 more)

-- the output timings of units from a number on are those of when they are output
unfoldable pub AreOutput : Profile → ℕ → List Unit_of → Type 0
AreOutput p n [] = Unit {0}
AreOutput p n (u ∷ us) = All (λ o. o ≡ output_timing p n) (output_timings u.contents) × AreOutput p (n + 1) us

-- the units, as a decoder takes them
pub record IsTaken (j : ℕ) (p : Profile) (e : Going) (d : Decoded) (pcm : List (List (List ℤ))) (bytes : List (List ℕ)) : Type 0 where
  pub us : List Unit_of
  pub begins : Begins (whole j) d (bits_of (joined bytes)) us []
  pub frames : frames_by_steps j d us ≡ map (presented_of p.mix (low_zeros p.depth) p.channels j) (all_frames pcm)
  pub major : first_sync us ≡ major_of e
  -- the times at which they are placed, which their input timings tell
  pub times : List ℕ
  pub fifo : LeftFifo
  pub placed_are : placed_all (map (λ b. length b) bytes) e.fifo ≡ Ok (times, fifo)
  pub inputs : map (λ u. u.outer.head.timing) us ≡ map (λ t. t % 2 ^ 16) times
  pub lengths : map (λ u. 2 * u.outer.head.words) us ≡ map (λ b. length b) bytes
  pub outputs : AreOutput p e.units us
  pub chosen : AreChosen p j e.units d us

-- a stream that was sent begins with a unit
pub record Begun (frames : List (List ℤ)) (more : List (List (List ℤ))) (left after : Left) (units : List (List ℕ)) : Type 0 where
  pub x : List ℕ × Left
  pub first : next_sent left frames (length more == 0) ≡ Ok x
  pub rest : List (List ℕ)
  pub units_are : units ≡ x.0 ∷ rest
  pub later : sent true x.1 more ≡ record { units = rest; end = Ok after }

pub begun : (frames : List (List ℤ)) (more : List (List (List ℤ))) (left after : Left) (units : List (List ℕ)) → sent true left (frames ∷ more) ≡ record { units = units; end = Ok after } → Begun frames more left after units
begun frames more left after units eq = pick (next_sent left frames (length more == 0)) refl eq
  where
    pick : (r : Result (List ℕ × Left) NoRoom) → next_sent left frames (length more == 0) ≡ r
        → elim r as (λ r. Stream) [ Ok x ↦ with_unit x.0 (sent true x.1 more) | Err d ↦ record { units = []; end = Err d } ] ≡ record { units = units; end = Ok after } → Begun frames more left after units
    pick (Err d) is eq = absurd (let z : Err d ≡ Ok after = ap (λ (s : Stream). s.end) eq in cc)
    pick (Ok x) is eq =
        let s : Stream = sent true x.1 more in
        let us : x.0 ∷ s.units ≡ units = ap (λ (s : Stream). s.units) eq in
        let end : s.end ≡ Ok after = ap (λ (s : Stream). s.end) eq in
        record { x = x; first = is; rest = s.units; units_are = sym us; later = ap (λ (r : Result Left NoRoom). let z : Stream = record { units = s.units; end = r } in z) end }

first_placed : (left : LeftFifo) (b : ℕ) (bs : List ℕ) (time : ℕ) (fifo : LeftFifo) → placed left b ≡ Ok (time, fifo) → placed_all (b ∷ bs) left ≡ with_time time (placed_all bs fifo)
first_placed left b bs time fifo eq = ap (λ (r : Result (ℕ × LeftFifo) NoRoom). elim r as (λ r. Result (List ℕ × LeftFifo) NoRoom) [ Ok r ↦ with_time r.0 (placed_all bs r.1) | Err e ↦ Err e ]) eq

module _ (j : ℕ) (p : Profile) (some : j < substreams_of p.channels) where
  -- the rest behind a unit
  rest_is : (e : Going) (d : Decoded) (frames : List (List ℤ)) (last : Bool) (time : ℕ) (can : CanSendUnit e frames last) (h : Follows j e d) (some : j < substreams_of e.profile.channels) (rest : List Bool)
      → rest_of (whole j) d (bits_of (unit_bytes time (body_of e (unit_sent e frames last))) ++ rest) (unit j e d frames last time can h some) ≡ rest
  rest_is e d frames last time can h some rest =
      let bs : List Bool = bits_of (unit_bytes time (body_of e (unit_sent e frames last))) in
      ap (λ (text : List Bool). drop (length text) (bs ++ rest)) (spelled j e d frames last time can h some) ∙ drop-append_seam bs rest

  pub all_taken : (pcm : List (List (List ℤ))) (e : Going) (d : Decoded) (units : List (List ℕ)) (left : Left) → e.profile ≡ p → 0 < length pcm → AllCanSend (Ok e) pcm → Follows j e d
      → sent true (Ok e) pcm ≡ record { units = units; end = Ok left }
      → IsTaken j p e d pcm units
  unfolding AllCanSend Begins AreOutput AreChosen
  all_taken [] e d units left same lt can h eq = absurd (omega arith)
  all_taken (frames ∷ []) e d units left same lt can h eq =
      let b = begun frames [] (Ok e) left units eq in
      let w = was_sent e frames true b.x b.first in
      let there : j < substreams_of e.profile.channels = subst (λ (p : Profile). j < substreams_of p.channels) (sym same) some in
      let u : Unit_of = unit j e d frames true w.time can.0 h there in
      let none : b.rest ≡ [] = sym (ap (λ (s : Stream). s.units) b.later) in
      let all : units ≡ unit_bytes w.time (body_of e (unit_sent e frames true)) ∷ [] = b.units_are ∙ ap (λ (xs : List (List ℕ)). b.x.0 ∷ xs) none ∙ ap (λ (x : List ℕ). x ∷ []) w.bytes_are in
      let bytes : List ℕ = unit_bytes w.time (body_of e (unit_sent e frames true)) in
      let text : bits_of (joined units) ≡ bits_of bytes ++ [] = ap (λ (xs : List (List ℕ)). bits_of (joined xs)) all ∙ bits_of-append bytes [] ∙ ap (λ (b : List Bool). bits_of bytes ++ b) no_bits in
      record {
        us = u ∷ [];
        begins = subst (λ (t : List Bool). IsNext (whole j) d t u × (rest_of (whole j) d t u ≡ [])) (sym text) (next j e d frames true w.time can.0 h there [], rest_is e d frames true w.time can.0 h there []);
        frames = ap (λ (fs : List (List ℤ)). fs ++ []) (frames_given j e d frames true w.time can.0 h there)
            ∙ sym (map-append (presented_of e.profile.mix (low_zeros e.profile.depth) e.profile.channels j) frames [])
            ∙ ap (λ (p : Profile). map (presented_of p.mix (low_zeros p.depth) p.channels j) (frames ++ [])) same;
        major = refl;
        times = w.time ∷ [];
        fifo = w.fifo;
        placed_are = ap (λ (xs : List (List ℕ)). placed_all (map (λ b. length b) xs) e.fifo) all ∙ first_placed e.fifo (length bytes) [] w.time w.fifo
            (ap (placed e.fifo) (sized j e d frames true w.time can.0 h there) ∙ w.placed_is);
        inputs = refl;
        lengths = ap (λ (n : ℕ). n ∷ []) (words_are j e d frames true w.time can.0 h there) ∙ sym (ap (λ (xs : List (List ℕ)). map (λ (b : List ℕ). length b) xs) all);
        outputs = (subst (λ (p : Profile). All (λ o. o ≡ output_timing p e.units) (output_timings u.contents)) same (outputs_are j e d frames true w.time can.0 h there), tt);
        chosen = (subst (λ (p : Profile). IsChosen p j e.units d u) same (unit_chosen j e d frames true w.time can.0 h there), tt);
      }
  all_taken (frames ∷ more ∷ others) e d units left same lt can h eq =
      let b = begun frames (more ∷ others) (Ok e) left units eq in
      let w = was_sent e frames (length (more ∷ others) == 0) b.x b.first in
      let going : (length (more ∷ others) == 0) ≡ false = ne_eqb (length (more ∷ others)) 0 (λ z. absurd (omega (arith, z))) in
      let there : j < substreams_of e.profile.channels = subst (λ (p : Profile). j < substreams_of p.channels) (sym same) some in
      let u : Unit_of = unit j e d frames (length (more ∷ others) == 0) w.time can.0 h there in
      let e' : Going = behind e frames (unit_sent e frames (length (more ∷ others) == 0)) w.fifo in
      let rest = all_taken (more ∷ others) e' (after j d u) b.rest left same (omega arith) (subst (λ (l : Left). AllCanSend l (more ∷ others)) w.left_is (can.1 b.x b.first))
      (follows_on j e d frames (length (more ∷ others) == 0) w.time can.0 h there w.fifo going)
      (ap (λ (l : Left). sent true l (more ∷ others)) (sym w.left_is) ∙ b.later) in
      let bytes : List ℕ = unit_bytes w.time (body_of e (unit_sent e frames (length (more ∷ others) == 0))) in
      let text : bits_of (joined units) ≡ bits_of bytes ++ bits_of (joined b.rest) =
      ap (λ (xs : List (List ℕ)). bits_of (joined xs)) (b.units_are ∙ ap (λ (x : List ℕ). x ∷ b.rest) w.bytes_are) ∙ bits_of-append bytes (joined b.rest) in
      record {
        us = u ∷ rest.us;
        begins = subst (λ (t : List Bool). IsNext (whole j) d t u × Begins (whole j) (after j d u) (rest_of (whole j) d t u) rest.us []) (sym text) (
          next j e d frames (length (more ∷ others) == 0) w.time can.0 h there (bits_of (joined b.rest)),
          subst (λ (t : List Bool). Begins (whole j) (after j d u) t rest.us []) (sym (rest_is e d frames (length (more ∷ others) == 0) w.time can.0 h there (bits_of (joined b.rest)))) rest.begins,
        );
        frames = ap (λ (fs : List (List ℤ)). fs ++ frames_by_steps j (after j d u) rest.us) (frames_given j e d frames (length (more ∷ others) == 0) w.time can.0 h there)
            ∙ ap (λ (p : Profile). map (presented_of p.mix (low_zeros p.depth) p.channels j) frames ++ frames_by_steps j (after j d u) rest.us) same
            ∙ ap (λ (fs : List (List ℤ)). map (presented_of p.mix (low_zeros p.depth) p.channels j) frames ++ fs) rest.frames
            ∙ sym (map-append (presented_of p.mix (low_zeros p.depth) p.channels j) frames (all_frames (more ∷ others)));
        major = refl;
        times = w.time ∷ rest.times;
        fifo = rest.fifo;
        placed_are = ap (λ (xs : List (List ℕ)). placed_all (map (λ b. length b) xs) e.fifo) (b.units_are ∙ ap (λ (x : List ℕ). x ∷ b.rest) w.bytes_are)
            ∙ first_placed e.fifo (length bytes) (map (λ b. length b) b.rest) w.time w.fifo (ap (placed e.fifo) (sized j e d frames (length (more ∷ others) == 0) w.time can.0 h there) ∙ w.placed_is)
            ∙ ap (with_time w.time) rest.placed_are;
        inputs = ap (λ (ts : List ℕ). w.time % 2 ^ 16 ∷ ts) rest.inputs;
        lengths = ap (λ (n : ℕ). n ∷ map (λ u. 2 * u.outer.head.words) rest.us) (words_are j e d frames (length (more ∷ others) == 0) w.time can.0 h there)
            ∙ ap (λ (ns : List ℕ). length bytes ∷ ns) rest.lengths
            ∙ sym (ap (λ (xs : List (List ℕ)). map (λ (b : List ℕ). length b) xs) (b.units_are ∙ ap (λ (x : List ℕ). x ∷ b.rest) w.bytes_are));
        outputs = (subst (λ (p : Profile). All (λ o. o ≡ output_timing p e.units) (output_timings u.contents)) same (outputs_are j e d frames (length (more ∷ others) == 0) w.time can.0 h there), rest.outputs);
        chosen = (subst (λ (p : Profile). IsChosen p j e.units d u) same (unit_chosen j e d frames (length (more ∷ others) == 0) w.time can.0 h there), rest.chosen);
      }
