-- What comes of the next unit of any format, by what was read of its outer part and of what it contains.
use Rattle.std.proofs.Common.{◌≡◌, ℕ, ◌/◌, ◌<◌, ◌≤◌, cond, List, Bool, Result, Ok, Err, Option, Some, None, refl, ap}
use Rattle.std.proofs.lemmas.Bool.{lt-leb, le-leb}
use Rattle.mlp_syntax.specs.declared.fault.Broken.{Broken}
use Rattle.mlp_bits.specs.Bits.{bits_of}
use Rattle.mlp_layout.specs.Reading.{Read}
use Rattle.mlp_layout.specs.Contents.{UnitFault}
use Rattle.mlp_layout.specs.Streams.{Format, outer_fault}
use Rattle.mlp_walk.specs.declared.refusal.Refusal.{Refusal}
use Rattle.mlp_walk.specs.declared.refusal.Refusal.TheVariants as refused
use Rattle.mlp_walk.specs.Next.{Taken, fault_of, asked, gated, next_of}

module _ {L O C : Type 0} (f : Format L O C) where
  abbrev Answer : Type 0
  Answer = Result (Taken O C) Refusal

  abbrev read_outer : L → List ℕ → Read O
  read_outer left bytes = (f.outer left).read (bits_of bytes) 0

  -- a presentation that is asked for is told by this outer part
  pub record IsTold (wanted : Option ℕ) (o : O) : Type 0 where
    pub told : (k : ℕ) → wanted ≡ Some k → k < f.presentations o

  gate_err : (wanted : Option ℕ) (b : Broken) (unit : Answer) → gated f wanted (Err b) unit ≡ unit
  gate_err None b unit = refl
  gate_err (Some k) b unit = refl

  gate_open : (wanted : Option ℕ) (o : O) (end : ℕ) (unit : Answer) → IsTold wanted o → gated f wanted (Ok (o, end)) unit ≡ unit
  gate_open None o end unit t = refl
  gate_open (Some k) o end unit t = ap (λ (c : Bool). cond {A = Answer} c (Err (refused.NoPresentation (f.presentations o))) unit) (lt-leb (f.presentations o) k (t.told k refl))

  gate_shut : (k : ℕ) (o : O) (end : ℕ) (unit : Answer) → f.presentations o ≤ k → gated f (Some k) (Ok (o, end)) unit ≡ Err (refused.NoPresentation (f.presentations o))
  gate_shut k o end unit few = ap (λ (c : Bool). cond {A = Answer} c (Err (refused.NoPresentation (f.presentations o))) unit) (le-leb (f.presentations o) k few)

  module _ (wanted : Option ℕ) (number : ℕ) (left : L) (bytes : List ℕ) where
    -- its outer part breaks a rule
    pub next_broken : (b : Broken) → read_outer left bytes ≡ Err b → next_of f wanted number left bytes ≡ Err (refused.Fault (fault_of number (outer_fault b)))
    unfolding next_of
    next_broken b e = rw e (gate_err (asked wanted number) b (Err (refused.Fault (fault_of number (outer_fault b)))))

    -- it doesn't tell the presentation
    pub next_shut : (k : ℕ) (o : O) (end : ℕ) → read_outer left bytes ≡ Ok (o, end) → asked wanted number ≡ Some k → f.presentations o ≤ k
        → next_of f wanted number left bytes ≡ Err (refused.NoPresentation (f.presentations o))
    unfolding next_of
    next_shut k o end e a few = rw (e, a) (gate_shut k o end _ few)

    -- what it contains breaks a rule
    pub next_fails : (o : O) (end : ℕ) (d : UnitFault) → read_outer left bytes ≡ Ok (o, end) → IsTold (asked wanted number) o
        → (f.contents left o).read ((f.outer left).spelling o) ≡ Err d → next_of f wanted number left bytes ≡ Err (refused.Fault (fault_of number d))
    unfolding next_of
    next_fails o end d e t c = rw (e, c) (gate_open (asked wanted number) o end (Err (refused.Fault (fault_of number d))) t)

    -- it is taken
    pub next_taken : (o : O) (end : ℕ) (x : C) → read_outer left bytes ≡ Ok (o, end) → IsTold (asked wanted number) o
        → (f.contents left o).read ((f.outer left).spelling o) ≡ Ok x
        → next_of f wanted number left bytes ≡ Ok (record { size = end / 8; unit = record { outer = o; contents = x } })
    unfolding next_of
    next_taken o end x e t c = rw (e, c) (gate_open (asked wanted number) o end (Ok (record { size = end / 8; unit = record { outer = o; contents = x } })) t)
