-- The head is known from the first bytes.
use Rattle.std.proofs.Common.{◌≡◌, ℕ, ◌≤◌, Bool, List, ◌++◌, length, take, drop, min, Ok, sym, ap, ◌∙◌, arith, inl, inr}
use Rattle.std.proofs.lemmas.Bool.{cases_lt}
use Rattle.std.proofs.lemmas.List.{take-append-drop, take_all, length-take}
use Rattle.mlp_bits.specs.Bits.{bits_of}
use Rattle.mlp_bits.proofs.BitLists.{length-bits, length-bits_of}
use Rattle.mlp_bits.proofs.Words.{bits_of-append}
use Rattle.mlp_syntax.specs.declared.unit.UnitHead.{UnitHead}
use Rattle.mlp_layout.specs.Layout.{number_of}
use Rattle.mlp_layout.proofs.LayoutLaws.{number_of_is, is_found}
use Rattle.mlp_layout.proofs.Settled.{Settled, number_settled, ruled_settled, whole_settled, part_settled, made_settled}
use Rattle.mlp_unit.specs.AccessUnit.{head, head_fields}
use Rattle.mlp_unit.proofs.UnitLaws.{head_is, head_takes}

pub head_settled : (all : List Bool) → 32 ≤ length all → Settled head all 0
unfolding head head_fields number_of
head_settled all le =
    ruled_settled _ _ all 0 (whole_settled _ _ all 0
    (part_settled _ _ _ all 0 (number_of_is 4) (omega arith) (number_settled 4 all 0 (omega arith)) (λ a f.
    part_settled _ _ _ all _ (number_of_is 12) (omega (arith, length-bits 4 a)) (number_settled 12 all _ (omega (arith, length-bits 4 a))) (λ b g.
    part_settled _ _ _ all _ (number_of_is 16) (omega (arith, length-bits 4 a, length-bits 12 b)) (number_settled 16 all _ (omega (arith, length-bits 4 a, length-bits 12 b))) (λ c h.
    made_settled _ all _)))))

-- bytes are their first ones and the others
pub bits_split : (n : ℕ) (bytes : List ℕ) → bits_of (take n bytes) ++ bits_of (drop n bytes) ≡ bits_of bytes
bits_split n bytes = sym (bits_of-append (take n bytes) (drop n bytes)) ∙ ap bits_of (take-append-drop n bytes)

pub first_eight : (next : List ℕ) → head.read (bits_of (take (min (length next) 8) next)) 0 ≡ head.read (bits_of next) 0
first_eight next = elim (cases_lt (length next) 8) [
  | inl lt ↦ ap (λ (bytes : List ℕ). head.read (bits_of bytes) 0) (take_all (min (length next) 8) next (omega arith))
  | inr le ↦
      let eight : min (length next) 8 ≡ 8 = omega arith in
      let s = head_settled (bits_of (take 8 next)) (omega (arith, length-bits_of (take 8 next), length-take 8 next)) in
      rw eight (sym (s.same (bits_of (drop 8 next))) ∙ ap (λ (all : List Bool). head.read all 0) (bits_split 8 next))
]

-- what was read of a head
pub head_found : (all : List Bool) (h : UnitHead) (q : ℕ) → head.read all 0 ≡ Ok (h, q) → q ≡ 32
head_found all h q e = let f = is_found head_is all 0 (omega arith) (h, q) e in omega (arith, f.1, head_takes.takes h f.0.fits)
