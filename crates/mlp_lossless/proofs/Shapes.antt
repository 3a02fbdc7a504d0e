-- Profiles that pass, and frames that fill up a unit.
use Rattle.std.proofs.Common.{◌≡◌, ℕ, zero, suc, ◌+◌, ◌-◌, ◌/◌, ◌%◌, ◌^◌, ◌<◌, ◌≤◌, ℤ, pos, Bool, true, false, List, ◌++◌, map, length, take, replicate, Some, None, refl, sym, ap, ◌∙◌, subst, arith, inl, inr}
use Rattle.std.specs.Prelude.{◌==◌, ◌||◌, if◌then◌else◌}
use Rattle.std.proofs.Math.Seq.{take-append_seam}
use Rattle.std.proofs.lemmas.Bool.{or_cases, eqb-true}
use Rattle.std.proofs.lemmas.List.{append-nil, length-map, map-append}
use Rattle.mlp_syntax.specs.declared.major.Kind.{Kind}
use Rattle.mlp_syntax.specs.declared.major.Kind.TheVariants.{Fbb, Fba}
use Rattle.mlp_output.specs.Output.{dropped}
use Rattle.mlp_fifo.specs.Pace.{unit_of}
use Rattle.mlp_fifo.proofs.Paces.{unit_most}
use Rattle.mlp_fold.specs.declared.profile.Profile.{Profile}
use Rattle.mlp_fold.specs.Profile.{has_channels}
use Rattle.mlp_fold.specs.Mix.{channels_of}
use Rattle.mlp_fold.specs.Substreams.{substreams_of}
use Rattle.mlp_encode.specs.Unit.{AreNext, filled, terminator_of, end_word}
use Rattle.mlp_encode.proofs.SyncAllowed.{Passes}
use Rattle.mlp_encode.proofs.FramesFilled.{filled_count}

-- ---- channels

-- what holds of 2, 6 and 8 channels
of_channels : (P : ℕ → Type 0) → P 2 → P 6 → P 8 → (kind : Kind) (channels : ℕ) → has_channels kind channels ≡ true → P channels
of_channels P a b c Fbb channels h = elim (or_cases (channels == 2) (channels == 6) h) [
  | inl e ↦ subst P (sym (eqb-true channels 2 e)) a
  | inr e ↦ subst P (sym (eqb-true channels 6 e)) b
]
of_channels P a b c Fba channels h = elim (or_cases ((channels == 2) || (channels == 6)) (channels == 8) h) [
  | inl some ↦ elim (or_cases (channels == 2) (channels == 6) some) [
    | inl e ↦ subst P (sym (eqb-true channels 2 e)) a
    | inr e ↦ subst P (sym (eqb-true channels 6 e)) b
  ]
  | inr e ↦ subst P (sym (eqb-true channels 8 e)) c
]

-- a presentation has no more channels than there are
pub record IsPresentation (j channels : ℕ) : Type 0 where
  pub few : j ≤ 2
  pub fits : channels_of j ≤ channels

in_two : (j : ℕ) → j < 1 → IsPresentation j 2
in_two zero lt = record { few = omega arith; fits = omega arith }
in_two (suc j) lt = absurd (omega arith)

in_six : (j : ℕ) → j < 2 → IsPresentation j 6
in_six zero lt = record { few = omega arith; fits = omega arith }
in_six (suc zero) lt = record { few = omega arith; fits = omega arith }
in_six (suc (suc j)) lt = absurd (omega arith)

in_eight : (j : ℕ) → j < 3 → IsPresentation j 8
in_eight zero lt = record { few = omega arith; fits = omega arith }
in_eight (suc zero) lt = record { few = omega arith; fits = omega arith }
in_eight (suc (suc zero)) lt = record { few = omega arith; fits = omega arith }
in_eight (suc (suc (suc j))) lt = absurd (omega arith)

pub presentation : (p : Profile) (j : ℕ) → Passes p → j < substreams_of p.channels → IsPresentation j p.channels
presentation p j h lt = of_channels (λ c. j < substreams_of c → IsPresentation j c) (in_two j) (in_six j) (in_eight j) p.kind p.channels h.channels lt

pub eight_at_most : (p : Profile) → Passes p → p.channels ≤ 8
eight_at_most p h = of_channels (λ c. c ≤ 8) (omega arith) (omega arith) (omega arith) p.kind p.channels h.channels

-- ---- frames that fill up

module _ (p : Profile) (passes : Passes p) (frames : List (List ℤ)) (last : Bool) (h : AreNext p frames last) where
  -- the terminator tells how many frames were filled up
  word_drops : (more : ℕ) → more < 8192 → dropped Fba (Some (0x2000 + more)) ≡ more
  word_drops more lt =
      let a : (0x2000 + more) / 2 ^ 13 % 2 ≡ 1 = omega (arith, lt) in
      let b : (0x2000 + more) % 2 ^ 13 ≡ more = omega (arith, lt) in
      ap (λ (k : ℕ). if k == 1 then (0x2000 + more) % 2 ^ 13 else 0) a ∙ b

  drops : (kind : Kind) → p.kind ≡ kind → (t : Bool) → last ≡ t → length (filled p frames) - dropped kind (if t then Some (end_word kind (unit_of p.rate - length frames)) else None) ≡ length frames
  drops kind e false l = let w = h.whole l in omega (arith, filled_count p frames last h, w)
  drops Fbb e true l = let w = h.filled_up e in omega (arith, filled_count p frames last h, w)
  drops Fba e true l =
      let more : ℕ = unit_of p.rate - length frames in
      let d = word_drops (unit_of p.rate - length frames) (omega (arith, unit_most p.rate)) in
      omega (arith, filled_count p frames last h, d, h.most)

  pub kept : length (filled p frames) - dropped p.kind (terminator_of p (length frames) last) ≡ length frames
  kept = drops p.kind refl last refl

  -- what is made of the frames that aren't dropped
  pub front_kept : {B : Type 0} (f : List ℤ → B) → take (length frames) (map f (filled p frames)) ≡ map f frames
  front_kept {B} f =
      let more : List (List ℤ) = replicate (unit_of p.rate - length frames) (replicate 8 (pos 0)) in
      ap (take (length frames)) (map-append f frames more)
      ∙ ap (λ (k : ℕ). take k (map f frames ++ map f more)) (sym (length-map frames f))
      ∙ take-append_seam (map f frames) (map f more)

  -- a unit that isn't the last has no other frames
  pub whole_unit : last ≡ false → filled p frames ≡ frames
  whole_unit e =
      let none : unit_of p.rate - length frames ≡ 0 = (let w = h.whole e in omega (arith, w)) in
      ap (λ (k : ℕ). frames ++ replicate k (replicate 8 (pos 0))) none ∙ append-nil frames
