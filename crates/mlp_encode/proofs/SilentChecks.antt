-- Frames that fill up a unit don't change its running checks.
use Rattle.std.proofs.Common.{◌≡◌, ℕ, zero, suc, ◌-◌, ◌++◌, ℤ, pos, ◌-ℤ◌, get_or, sym, Bool, true, false, List, [], ◌∷◌, map, length, replicate, bit_xor, refl, ap, ◌∙◌}
use Rattle.std.specs.Prelude.{◌==◌, if◌then◌else◌}
use lib.Bits.{xor_zero_r}
use Rattle.mlp_arith.proofs.Residues.{clear_zero}
use Rattle.mlp_output.specs.Output.{check_from, check_of}
use Rattle.mlp_fifo.specs.Pace.{unit_of}
use Rattle.mlp_fold.specs.declared.profile.Mix.{Mix}
use Rattle.mlp_fold.specs.declared.profile.Mix.TheVariants.{Split, Fold, Bypass, Side}
use Rattle.mlp_fold.specs.declared.profile.Profile.{Profile}
use Rattle.mlp_fold.specs.Mix.{channels_of, lowered, stereo, shown, presented_of, presented_fold6, presented_fold8}
use Rattle.mlp_encode.specs.Numbers.{low_zeros}
use Rattle.mlp_encode.specs.Unit.{filled, check_with}

abbrev silence : List ℤ
silence = replicate 8 (pos 0)

silent_shown : (k : ℕ) → shown (channels_of k) silence ≡ silence
silent_shown zero = refl
silent_shown (suc zero) = refl
silent_shown (suc (suc k)) = refl

silent_stereo : (q : ℕ) → stereo q (lowered q (pos 0) (pos 0)) ≡ pos 0
silent_stereo q = ap (λ (z : ℤ). stereo q (pos 0 -ℤ z)) (clear_zero q) ∙ clear_zero q

silent_fold : (t : Bool) (q k : ℕ) → (if t then presented_fold6 q k silence else presented_fold8 q k silence) ≡ silence
silent_fold true q zero = ap (λ (z : ℤ). z ∷ z ∷ replicate 6 (pos 0)) (silent_stereo q)
silent_fold true q (suc k) = refl
silent_fold false q zero = ap (λ (z : ℤ). z ∷ z ∷ replicate 6 (pos 0)) (silent_stereo q)
silent_fold false q (suc zero) = ap (λ (z : ℤ). pos 0 ∷ pos 0 ∷ pos 0 ∷ pos 0 ∷ z ∷ z ∷ pos 0 ∷ pos 0 ∷ []) (clear_zero q)
silent_fold false q (suc (suc k)) = refl

silent : (mix : Mix) (q channels k : ℕ) → presented_of mix q channels k silence ≡ silence
silent Split q channels k = silent_shown k
silent Fold q channels k = silent_fold (channels == 6) q k
silent Bypass q channels k = silent_shown k
silent Side q channels k = silent_shown k

silent_behind : (f : List ℤ → List ℤ) → f silence ≡ silence → (running : ℕ) (rows : List (List ℤ)) (n : ℕ)
    → check_of running (map f rows) ≡ check_of running (map f (rows ++ replicate n silence))
silent_behind f same running [] zero = refl
silent_behind f same running [] (suc n) =
    silent_behind f same running [] n
    ∙ ap (λ (r : ℕ). check_of r (map f (replicate n silence))) (sym (xor_zero_r running))
    ∙ ap (λ (x : List ℤ). check_of (bit_xor running (check_from 0 x)) (map f (replicate n silence))) (sym same)
silent_behind f same running (x ∷ rows) n = silent_behind f same (bit_xor running (check_from 0 (f x))) rows n

pub checks_filled : (p : Profile) (sync : Bool) (checks : List ℕ) (rows : List (List ℤ)) (k : ℕ) → check_with p sync checks rows k ≡ check_with p sync checks (filled p rows) k
checks_filled p sync checks rows k =
    let f : List ℤ → List ℤ = presented_of p.mix (low_zeros p.depth) p.channels k in
    silent_behind f (silent p.mix (low_zeros p.depth) p.channels k) (if sync then 0 else get_or checks k 0) rows (unit_of p.rate - length rows)
