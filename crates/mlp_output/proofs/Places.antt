-- Where samples stand.
use Rattle.std.proofs.Common.{◌≡◌, ℕ, zero, suc, ◌<◌, ◌≤◌, List, [], ◌∷◌, length, get_or, replicate, ℤ, pos, refl, sym, ◌∙◌, arith}
use Rattle.std.proofs.lemmas.List.{length-set, get_or-set_same, get_or-set_other}
use Rattle.std.proofs.lemmas.List.Elements.{All-tail}
use Rattle.mlp_output.specs.Output.{placed}
use Rattle.mlp_output.specs.Places.{IsAssignment, IsUnassigned}

pub length-placed : (assign : List ℕ) (samples : List ℤ) → length (placed assign samples) ≡ 8
length-placed [] samples = refl
length-placed (a ∷ assign) [] = refl
length-placed (a ∷ assign) (v ∷ samples) = length-set (placed assign samples) a v ∙ length-placed assign samples

zeros_at : (n a : ℕ) → get_or (replicate n (pos 0)) a (pos 0) ≡ pos 0
zeros_at zero a = refl
zeros_at (suc n) zero = refl
zeros_at (suc n) (suc a) = zeros_at n a

tail_assigned : (a : ℕ) (assign : List ℕ) → IsAssignment (a ∷ assign) → IsAssignment assign
tail_assigned a assign h = record {
  few = All-tail (λ b. b ≤ 7) a assign h.few;
  own = λ b c lt in_range. h.own (suc b) (suc c) (omega arith) (omega arith);
}

pub placed-at : (assign : List ℕ) (samples : List ℤ) (c : ℕ) → IsAssignment assign → c < length assign → c < length samples → get_or (placed assign samples) (get_or assign c 0) (pos 0) ≡ get_or samples c (pos 0)
placed-at [] samples c h lt there = absurd (omega arith)
placed-at (a ∷ assign) [] c h lt there = absurd (omega arith)
placed-at (a ∷ assign) (v ∷ samples) zero h lt there =
    let few : a ≤ 7 = h.few 0 a (omega arith) in
    get_or-set_same (placed assign samples) a v (pos 0) (omega (arith, length-placed assign samples))
placed-at (a ∷ assign) (v ∷ samples) (suc c) h lt there =
    get_or-set_other (placed assign samples) a (get_or assign c 0) v (pos 0) (λ same. h.own 0 (suc c) (omega arith) (omega arith) (sym same))
    ∙ placed-at assign samples c (tail_assigned a assign h) (omega arith) (omega arith)

pub placed-others : (assign : List ℕ) (samples : List ℤ) (a : ℕ) → IsUnassigned assign a → get_or (placed assign samples) a (pos 0) ≡ pos 0
placed-others [] samples a none = zeros_at 8 a
placed-others (b ∷ assign) [] a none = zeros_at 8 a
placed-others (b ∷ assign) (v ∷ samples) a none =
    get_or-set_other (placed assign samples) b a v (pos 0) (λ same. none 0 (omega arith) (sym same))
    ∙ placed-others assign samples a (λ c lt. none (suc c) (omega arith))
