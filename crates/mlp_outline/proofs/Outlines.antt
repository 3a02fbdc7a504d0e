-- The next unit of a stream of which only the outer parts are read.
use Rattle.std.proofs.Common.{◌≡◌, ℕ, ◌+◌, ◌*◌, ◌/◌, eqb, cond, Bool, true, false, List, take, length, Ok, Err, Option, Some, None, refl, ap, ◌∙◌, arith}
use Rattle.mlp_syntax.specs.declared.fault.Broken.{Broken}
use Rattle.mlp_syntax.specs.declared.major.MajorSync.{MajorSync}
use Rattle.mlp_syntax.specs.declared.unit.Outer.{Outer}
use Rattle.mlp_layout.specs.Contents.{nothing}
use Rattle.mlp_layout.specs.Streams.{outer_fault}
use Rattle.mlp_unit.specs.AccessUnit.{AccessUnit, major_size}
use Rattle.mlp_unit.specs.Directory.{directory_size}
use Rattle.mlp_unit.specs.Outline.{outline}
use Rattle.mlp_unit.specs.Shape.{unit_read, unit_with}
use Rattle.mlp_unit.proofs.UnitLaws.{access_unit_size}
use Rattle.mlp_walk.specs.declared.refusal.Refusal.TheVariants as refused
use Rattle.mlp_walk.specs.Next.{fault_of, asked, next_of, TakesBytes}
use Rattle.mlp_outline.specs.Outlining.{Next, outlined_of}
use Rattle.mlp_outline.proofs.NextParts.{next_broken, next_taken}

pub outline_broken : (number : ℕ) (first : Option MajorSync) (next : List ℕ) (b : Broken) → unit_read first next ≡ Err b
    → next_of outline None number first next ≡ Err (refused.Fault (fault_of number (outer_fault b)))
outline_broken number first next b e = next_broken outline None number first next b e

-- no presentation is asked for
none_asked : (number k : ℕ) → asked None number ≡ Some k → ⊥
none_asked number k e = by_test (eqb number 0) e
  where
    by_test : (b : Bool) → cond {A = Option ℕ} b None None ≡ Some k → ⊥
    by_test true h = cc
    by_test false h = cc

abbrev sized : AccessUnit → ℕ → Next
sized u n = Ok (record { size = n; unit = record { outer = u; contents = tt } })

pub outline_taken : (number : ℕ) (first : Option MajorSync) (next : List ℕ) (size : ℕ) (o : Outer) → unit_read first next ≡ Ok (unit_with (take size next) o, 8 * size)
    → next_of outline None number first next ≡ outlined_of next (Ok (size, o))
unfolding nothing
outline_taken number first next size o e =
    let u = unit_with (take size next) o in
    let same : 8 * size / 8 ≡ size = omega arith in
    next_taken outline None number first next u (8 * size) tt e (record { told = λ k h. absurd (none_asked number k h) }) refl ∙ ap (sized u) same

-- ---- the format

pub outline_bytes : TakesBytes outline
outline_bytes = record {
  whole = λ first u fits. (4 + major_size u.major + directory_size u.entries + length u.body, omega (arith, access_unit_size first u fits));
}

-- ---- the first major sync
