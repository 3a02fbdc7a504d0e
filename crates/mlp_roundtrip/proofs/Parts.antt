-- The frames of the parts of PCM are those of all of it.
use Rattle.std.proofs.Common.{◌≡◌, ℕ, ◌*◌, ◌%◌, IsTrue, List, [], ◌∷◌, ◌++◌, map, None, ℤ, refl, sym, ap, subst, ◌∙◌}
use Rattle.std.specs.Prelude.{All}
use Rattle.std.specs.List.{list_all}
use Rattle.std.proofs.Math.Nat.{mul-mod_left}
use Rattle.std.proofs.lemmas.List.{append_assoc, append-nil}
use Rattle.std.proofs.lemmas.List.Concat.{flat_map-append}
use Rattle.std.proofs.lemmas.List.Elements.{All-nil, All-head, All-tail, All-append}
use Rattle.mlp_pcm.specs.Samples.{row_bytes, packed, are_clear, first_failing, AreFrames, IsRow}
use Rattle.mlp_pcm.proofs.FirstFailing.{first_failing_is}
use Rattle.mlp_pcm.proofs.PackedBack.{packed_back, unpacked_are_rows, unpacked_back, packed_frames, all_clear}
use Rattle.mlp_fifo.specs.Pace.{unit_of}
use Rattle.mlp_fold.specs.declared.profile.Profile.{Profile}
use Rattle.mlp_encode.specs.Unit.{joined}
use Rattle.mlp_encoding.specs.Pcm.{sample_size, frame_size, frames_in, first_padded, IsFull, IsLastUnit}
use Rattle.mlp_encoding.specs.Sizes.{AreSizes}
use Rattle.mlp_lossless.specs.Streams.{all_frames}
use Rattle.mlp_unit.specs.Laws.{AreBytes}

module _ (p : Profile) (is : AreSizes p) where
  -- whole frames of samples of the profile's depth
  pub record IsPart (part : List ℕ) : Type 0 where
    pub frames : AreFrames (sample_size p.depth) p.channels part
    pub clear : IsTrue (list_all (are_clear p.depth) (frames_in p part))

  clear_by : (part : List ℕ) → first_padded p part ≡ None → IsTrue (list_all (are_clear p.depth) (frames_in p part))
  clear_by part e = (first_failing_is (are_clear p.depth) (frames_in p part)).none.0 e

  pub full_part : (part : List ℕ) → AreBytes part → IsFull p part → IsPart part
  full_part part small h = record {
    frames = record { small = small; whole = ap (λ (n : ℕ). n % frame_size p) h.size ∙ mul-mod_left (unit_of p.rate) (frame_size p) };
    clear = clear_by part h.clear;
  }

  pub last_part : (part : List ℕ) → AreBytes part → IsLastUnit p part → IsPart part
  last_part part small h = record { frames = record { small = small; whole = h.whole }; clear = clear_by part h.clear }

  abbrev pub frames_of : List (List ℕ) → List (List ℤ)
  frames_of parts = all_frames (map (frames_in p) parts)

  part_rows : (part : List ℕ) → IsPart part → All (IsRow p.depth p.channels) (frames_in p part)
  part_rows part h = unpacked_are_rows (sample_size p.depth) p.depth p.channels is.form is.some_channels is.few_channels part h.frames h.clear

  pub all_rows : (parts : List (List ℕ)) → All IsPart parts → All (IsRow p.depth p.channels) (frames_of parts)
  all_rows [] h = All-nil (IsRow p.depth p.channels)
  all_rows (part ∷ parts) h =
      All-append (IsRow p.depth p.channels) (frames_in p part) (frames_of parts) (part_rows part (All-head IsPart part parts h)) (all_rows parts (All-tail IsPart part parts h))

  abbrev pub bytes_of : List (List ℤ) → List ℕ
  bytes_of rows = packed (8 * sample_size p.depth) p.channels rows

  all_packed : (parts : List (List ℕ)) → All IsPart parts → bytes_of (frames_of parts) ≡ joined parts
  all_packed [] h = refl
  all_packed (part ∷ parts) h =
      flat_map-append (row_bytes (8 * sample_size p.depth) p.channels) (frames_in p part) (frames_of parts)
      ∙ ap (λ (xs : List ℕ). xs ++ bytes_of (frames_of parts)) (packed_back (sample_size p.depth) p.depth p.channels is.form is.some_channels is.few_channels part (All-head IsPart part parts h).frames)
      ∙ ap (λ (xs : List ℕ). part ++ xs) (all_packed parts (All-tail IsPart part parts h))

  -- ---- all of it

  module _ (parts : List (List ℕ)) (h : All IsPart parts) where
    rows : All (IsRow p.depth p.channels) (frames_of parts)
    rows = all_rows parts h

    pub frames_joined : frames_in p (joined parts) ≡ frames_of parts
    frames_joined =
        ap (frames_in p) (sym (all_packed parts h))
        ∙ unpacked_back (sample_size p.depth) p.depth p.channels is.form is.some_channels is.few_channels (frames_of parts) rows

    pub are_frames : AreFrames (sample_size p.depth) p.channels (joined parts)
    are_frames =
        subst (AreFrames (sample_size p.depth) p.channels) (all_packed parts h)
        (packed_frames (sample_size p.depth) p.depth p.channels is.form is.some_channels is.few_channels (frames_of parts) rows)

    pub joined_clear : first_padded p (joined parts) ≡ None
    joined_clear =
        ap (first_failing (are_clear p.depth)) frames_joined
        ∙ (first_failing_is (are_clear p.depth) (frames_of parts)).none.1
        (all_clear (sample_size p.depth) p.depth p.channels is.form is.some_channels is.few_channels (frames_of parts) rows)

  pub joined_push : (parts : List (List ℕ)) (part : List ℕ) → joined (parts ++ part ∷ []) ≡ joined parts ++ part
  joined_push [] part = append-nil part
  joined_push (first ∷ parts) part = ap (λ (xs : List ℕ). first ++ xs) (joined_push parts part) ∙ sym (append_assoc first (joined parts) part)
