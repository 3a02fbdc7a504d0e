-- Bytes are bytes at their front and at their back.
use Rattle.std.proofs.Common.{ℕ, ◌<◌, List, ◌++◌, length, refl, subst, ◌∙◌, arith}
use Rattle.std.proofs.lemmas.List.{take-append-le, take_all, drop_at}
use Rattle.std.proofs.lemmas.List.Elements.{All-take, All-drop}
use Rattle.mlp_unit.specs.Laws.{AreBytes}

pub front_bytes : (xs ys : List ℕ) → AreBytes (xs ++ ys) → AreBytes xs
front_bytes xs ys h =
    subst AreBytes (take-append-le (length xs) xs ys (omega arith) ∙ take_all (length xs) xs (omega arith))
    (All-take (λ (b : ℕ). b < 256) (length xs) (xs ++ ys) h)

pub back_bytes : (xs ys : List ℕ) → AreBytes (xs ++ ys) → AreBytes ys
back_bytes xs ys h =
    subst AreBytes (drop_at xs ys (length xs) refl) (All-drop (λ (b : ℕ). b < 256) (length xs) (xs ++ ys) h)
