-- Bytes that were taken, and then more.
use Rattle.std.proofs.Common.{◌≡◌, ℕ, ◌+◌, ◌<◌, ◌≤◌, List, [], ◌∷◌, ◌++◌, length, take, get_or, Option, Ok, Err, IfErr, Result, arith, sym, ◌∙◌, subst}
use Rattle.std.proofs.lemmas.List.{append_assoc, length-append, take_more, take_all, length-take-le}
use Rattle.std.specs.Io.KnownBytes.{Consumes}
use Rattle.mlp_io.proofs.Bytes.{Consumes-append}
use Rattle.mlp_syntax.specs.declared.refusal.WaveField.{WaveField}
use Rattle.mlp_pcm.specs.declared.wave_bytes.WaveRefusal.{WaveRefusal}
use Rattle.mlp_pcm.specs.declared.wave_bytes.WaveRefusal.TheVariants.{Read, Header, TooLong}
use Rattle.mlp_io.specs.Limit.{limit}
use Rattle.mlp_pcm.specs.WaveBytes.{Stops}

-- the last of so many bytes
pub with_last : (ys : List ℕ) (room : ℕ) → length ys ≡ room + 1 → take room ys ++ get_or ys room 0 ∷ [] ≡ ys
with_last ys room h = sym (take_more ys room 0 (omega arith)) ∙ take_all (room + 1) ys (omega arith)

pub stops_after : (a b c : Option (List ℕ)) (xs : List ℕ) (taken at count m : ℕ) (short : WaveField) (e : WaveRefusal) → Consumes a b xs → at ≡ taken + length xs → length xs + m ≤ count
    → Stops b c at m short e → Stops a c taken count short e
stops_after a b c xs taken at count m short Read h n l (ys, k, small, within) =
    (xs ++ ys, Consumes-append a b c xs ys h k, omega (arith, length-append xs ys), omega (arith, length-append xs ys))
stops_after a b c xs taken at count m short (Header field) h n l (f, (ys, k, q, small, within)) =
    (f, (xs ++ ys, Consumes-append a b c xs ys h k, q, omega (arith, length-append xs ys), omega (arith, length-append xs ys)))
stops_after a b c xs taken at count m short TooLong h n l (ys, y, k, small, all) =
    (xs ++ ys, y, subst (Consumes a c) (sym (append_assoc xs ys (y ∷ []))) (Consumes-append a b c xs (ys ++ y ∷ []) h k), omega (arith, length-append xs ys), omega (arith, length-append xs ys))

-- the limit came and one byte more
pub past : (a b : Option (List ℕ)) (taken room count : ℕ) (short : WaveField) (ys : List ℕ) → Consumes a b ys → length ys ≡ room + 1 → taken + room ≡ limit → room < count → Stops a b taken count short TooLong
past a b taken room count short ys h l t r =
    let n = length-take-le room ys (omega arith) in
    (take room ys, get_or ys room 0, subst (Consumes a b) (sym (with_last ys room l)) h, omega (arith, n), omega (arith, n))

pub stops_result : (a b c : Option (List ℕ)) (xs : List ℕ) (taken at count m : ℕ) (short : WaveField) (r : Result ℕ WaveRefusal) → Consumes a b xs → at ≡ taken + length xs → length xs + m ≤ count
    → IfErr r (Stops b c at m short) → IfErr r (Stops a c taken count short)
stops_result a b c xs taken at count m short (Ok n) h e l s = tt
stops_result a b c xs taken at count m short (Err f) h e l s = stops_after a b c xs taken at count m short f h e l s
