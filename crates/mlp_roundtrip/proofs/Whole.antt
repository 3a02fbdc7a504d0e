-- What is encoded well is raw PCM of whole frames.
use Rattle.std.proofs.Common.{◌≡◌, ℕ, ◌%◌, ◌<◌, Bool, true, List, [], ◌∷◌, ◌++◌, length, Option, Result, Ok, Err, ℤ, sym, ap, subst, ◌∙◌, arith}
use Rattle.std.specs.Prelude.{All}
use Rattle.std.proofs.lemmas.List.{length-append, append_assoc}
use Rattle.std.proofs.lemmas.List.Elements.{All-nil, All-cons, All-head, All-tail}
use Rattle.mlp_syntax.specs.declared.refusal.NoRoom.{NoRoom}
use Rattle.mlp_stream.specs.declared.stop.Stop.{Stop}
use Rattle.mlp_fold.specs.declared.profile.Profile.{Profile}
use Rattle.mlp_fold.specs.Profile.{checked}
use Rattle.mlp_encode.specs.Left.{Left, going}
use Rattle.mlp_encode.specs.Unit.{joined}
use Rattle.mlp_encode.specs.Sent.{sent}
use Rattle.mlp_encoding.specs.Pcm.{frame_size, first_padded, data_in, is_seen, IsFull, IsLastUnit, Ends, whole, empty, padded, cut_frame, cut_unit, unfinished, IsPcm}
use Rattle.mlp_encoding.specs.Encoded.{Encoded, end_by}
use Rattle.mlp_encoding.specs.Sizes.{AreSizes, sizes}
use Rattle.mlp_unit.specs.Laws.{AreBytes}
use Rattle.mlp_encoded.proofs.Bytes.{front_bytes, back_bytes}
use Rattle.mlp_roundtrip.specs.Kept.{IsPcmOf}
use Rattle.mlp_roundtrip.proofs.Parts.{IsPart, full_part, last_part, are_frames, joined_clear, joined_push}

-- PCM that ends with an end well ended well itself
pub ended_by : (end : Result Unit Stop) (r : Result Left NoRoom) → Ok tt ≡ end_by end r → end ≡ Ok tt
ended_by end (Ok left) e = sym e
ended_by end (Err x) e = absurd cc

module _ (p : Profile) (ok : checked p ≡ Ok tt) where
  abbrev is : AreSizes p
  is = sizes p ok

  all_parts : (units : List (List ℕ)) (rest : List ℕ) → AreBytes (joined units ++ rest) → All (IsFull p) units → IsLastUnit p rest → All (IsPart p is) (units ++ rest ∷ [])
  all_parts [] rest small full last = All-cons (IsPart p is) rest [] (last_part p is rest small last) (All-nil (IsPart p is))
  all_parts (unit ∷ units) rest small full last =
      let parted = subst (AreBytes) (append_assoc unit (joined units) rest) small in
      All-cons (IsPart p is) unit (units ++ rest ∷ [])
      (full_part p is unit (front_bytes unit (joined units ++ rest) parted) (All-head (IsFull p) unit units full))
      (all_parts units rest (back_bytes unit (joined units ++ rest) parted) (All-tail (IsFull p) unit units full) last)

  -- the last unit is there
  last_there : (n : ℕ) (ended seen : Bool) (rest : List ℕ) (more : List (List (List ℤ))) (last : Bool) (end : Result Unit Stop) → Ends p n ended seen rest more last end → end ≡ Ok tt → IsLastUnit p rest
  last_there n ended seen rest more last end (whole s u) e = u
  last_there n ended seen rest more last end (empty s z r) e = absurd cc
  last_there n ended seen rest more last end (padded f s z) e = absurd cc
  last_there n ended seen rest more last end (cut_frame s l c w) e = absurd cc
  last_there n ended seen rest more last end (cut_unit s k l m c w) e = absurd cc
  last_there n ended seen rest more last end (unfinished s l m c) e = absurd cc

  whole_pcm : (pcm : List ℕ) (ended seen : Bool) (frames : List (List (List ℤ))) (last : Bool) (end : Result Unit Stop) → AreBytes pcm → IsPcm p ended seen pcm frames last end → end ≡ Ok tt → IsPcmOf p pcm
  whole_pcm pcm ended seen frames last end small i well =
      let there = last_there (length i.units) ended seen i.rest i.more last end i.ends well in
      let parts = i.units ++ i.rest ∷ [] in
      let are = all_parts i.units i.rest (subst AreBytes i.full.are small) i.full.full there in
      let all : joined parts ≡ pcm = joined_push p is i.units i.rest ∙ sym i.full.are in
      record {
        some = subst (λ (xs : List ℕ). 0 < length xs) (sym i.full.are) (omega (arith, length-append (joined i.units) i.rest, there.some));
        whole = subst (λ (xs : List ℕ). length xs % frame_size p ≡ 0) all (are_frames p is parts are).whole;
        clear = ap (first_padded p) (sym all) ∙ joined_clear p is parts are;
      }

  pub pcm_of : (size : Option ℕ) (all output : List ℕ) → AreBytes (data_in size all) → Encoded p size true all (Ok tt) output → IsPcmOf p (data_in size all)
  pcm_of size all output small e =
      whole_pcm (data_in size all) true (is_seen size true all) e.frames e.last e.pcm_end small e.pcm (ended_by e.pcm_end (sent e.last (Ok (going p)) e.frames).end e.end_is)
