-- A file that is written part by part.
use Rattle.std.proofs.Common.{◌≡◌, ℕ, zero, suc, ◌+◌, ◌≤◌, false, List, [], ◌∷◌, ◌++◌, length, take, replicate, Result, Ok, Err, OnOk, IfErr, Option, inl, inr, refl, sym, ap, subst, ◌∙◌, arith}
use Rattle.std.proofs.lemmas.Bool.{cases_lt, false≢true}
use Rattle.std.proofs.lemmas.List.{take_all, take-append-le}
use Rattle.std.proofs.Math.Seq.{take-append_seam, take-append-add}
use Rattle.std.specs.Io.KnownBytes.{Appends}
use Rattle.mlp_io.proofs.Bytes.{Appends-append}
use Rattle.mlp_stream.specs.declared.stop.Stop.{Stop}
use Rattle.mlp_stream.specs.declared.stop.Stop.TheVariants.{Refused, ReadFault, WriteFault, TooLong}
use Rattle.mlp_stream.specs.Sides.{Side}
use Rattle.mlp_stream.specs.Pumped.{is_write_fault}
use Rattle.mlp_stream.specs.Gathers.{IsWriteStop}
use Rattle.mlp_pcm.specs.WaveHeader.{padded}
use Rattle.mlp_wave.specs.WaveFile.{most_of_samples, PutFile}

-- the front of the first part is the front of both
front_of : (n : ℕ) (xs ys : List ℕ) → (m : ℕ) × (take m (xs ++ ys) ≡ take n xs)
front_of n xs ys = elim (cases_lt (length xs) n) [
  | inl more ↦ (length xs, take-append_seam xs ys ∙ sym (take_all n xs (omega arith)))
  | inr most ↦ (n, take-append-le n xs ys most)
]

-- a write failed in the first part
pub in_first : (output : Side) (xs ys : List ℕ) (stop : Stop) → IsWriteStop output xs stop → IsWriteStop output (xs ++ ys) stop
in_first output xs ys stop w =
    let front = front_of w.1.0 xs ys in
    (w.0, (front.0, subst (Appends output.before output.behind) (sym front.1) w.1.1))

-- .. or in the second
pub in_second : (a b c : Option (List ℕ)) (xs ys : List ℕ) (stop : Stop) → Appends a b xs → IsWriteStop (record { before = b; behind = c }) ys stop → IsWriteStop (record { before = a; behind = c }) (xs ++ ys) stop
in_second a b c xs ys stop first w =
    let n = w.1.0 in
    (w.0, (length xs + n, subst (Appends a c) (sym (take-append-add xs ys n)) (Appends-append a b c xs (take n ys) first w.1.1)))

-- ---- a file of three parts

module _ (xs ys zs : List ℕ) where
  pub fails_in_first : (output : Side) (r : Result Unit Stop) (stop : Stop) → r ≡ Err stop → IsWriteStop output xs stop → IfErr r (λ s. IsWriteStop output (xs ++ ys ++ zs) s)
  fails_in_first output r stop e w =
      subst (λ (q : Result Unit Stop). IfErr q (λ s. IsWriteStop output (xs ++ ys ++ zs) s)) (sym e) (in_first output (xs ++ ys) zs stop (in_first output xs ys stop w))

  pub fails_in_second : (a b c : Option (List ℕ)) (r : Result Unit Stop) (stop : Stop) → r ≡ Err stop → Appends a b xs → IsWriteStop (record { before = b; behind = c }) ys stop
      → IfErr r (λ s. IsWriteStop (record { before = a; behind = c }) (xs ++ ys ++ zs) s)
  fails_in_second a b c r stop e first w =
      let output : Side = record { before = a; behind = c } in
      subst (λ (q : Result Unit Stop). IfErr q (λ s. IsWriteStop output (xs ++ ys ++ zs) s)) (sym e) (in_first output (xs ++ ys) zs stop (in_second a b c xs ys stop first w))

  pub fails_in_third : (a b c d : Option (List ℕ)) (r : Result Unit Stop) → Appends a b xs → Appends b c ys → IfErr r (λ s. IsWriteStop (record { before = c; behind = d }) zs s)
      → IfErr r (λ s. IsWriteStop (record { before = a; behind = d }) (xs ++ ys ++ zs) s)
  fails_in_third a b c d (Ok x) first second w = tt
  fails_in_third a b c d (Err stop) first second w = in_second a c d (xs ++ ys) zs stop (Appends-append a b c xs ys first second) w

-- ---- a file

not_write_fault : (stop : Stop) → is_write_fault (Err stop) ≡ false → stop ≡ WriteFault → ⊥
not_write_fault stop other e = false≢true (sym other ∙ ap (λ (s : Stop). is_write_fault (Err s)) e)

pub put_file : (samples file : List ℕ) (output : Side) (r : Result Unit Stop) → padded (length samples) ≤ most_of_samples
    → OnOk r (Appends output.before output.behind file) → IfErr r (λ stop. IsWriteStop output file stop) → PutFile samples file output r
put_file samples file output (Ok x) few ok err = (few, ok)
put_file samples file output (Err (Refused r)) few ok err = absurd (not_write_fault (Refused r) refl err.0)
put_file samples file output (Err ReadFault) few ok err = absurd (not_write_fault ReadFault refl err.0)
put_file samples file output (Err WriteFault) few ok err = (few, err)
put_file samples file output (Err TooLong) few ok err = absurd (not_write_fault TooLong refl err.0)

pub padding_is : (n : ℕ) → n ≤ 1 → take {A = ℕ} n (0 ∷ []) ≡ replicate {A = ℕ} n 0
padding_is zero le = refl
padding_is (suc zero) le = refl
padding_is (suc (suc n)) le = absurd (omega arith)
