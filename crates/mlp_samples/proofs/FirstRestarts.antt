-- The greatest matrix channel in force is that of the substream's first restart.
use Rattle.std.proofs.Common.{◌≡◌, ℕ, ◌<◌, Bool, true, false, List, [], ◌∷◌, length, Option, Some, None, refl, sym, ap, ◌∙◌, arith}
use Rattle.std.specs.Prelude.{IfSome, is_some, All}
use Rattle.std.proofs.lemmas.Bool.{eqb-true}
use Rattle.mlp_syntax.specs.declared.fault.Field.{Field}
use Rattle.mlp_syntax.specs.declared.restart.Restart.{Restart}
use Rattle.mlp_syntax.specs.declared.segment.BlockHead.{BlockHead}
use Rattle.mlp_syntax.specs.declared.segment.FrameCode.{FrameCode}
use Rattle.mlp_syntax.specs.declared.segment.Segment.{Segment}
use Rattle.mlp_layout.specs.Layout.{item}
use Rattle.mlp_layout.specs.Combined.{up_to_last, fault_or}
use Rattle.mlp_layout.proofs.RuleReading.{rule_holds}
use Rattle.mlp_params.specs.declared.state.State.{State}
use Rattle.mlp_substream.specs.declared.known.Place.{Place}
use Rattle.mlp_substream.specs.declared.known.Known.{Known}
use Rattle.mlp_substream.specs.Restarts.{agrees, RestartHolds}
use Rattle.mlp_substream.specs.Blocks.{force_after, first_context}
use Rattle.mlp_substream.specs.Segment.{nested, most_blocks, blocks_from, segment, IsAllowed}
use Rattle.mlp_substream.specs.Playable.{ArePlayable}
use Rattle.mlp_substream.proofs.WritingEnds.{has_tail, meets_tail, tail_blocks}
use Rattle.mlp_substream.proofs.KnownLaws.{known_allowed}
use Rattle.mlp_contents.specs.Known.{first_restart}
use Rattle.mlp_contents.proofs.ReadSegments.{restart_in, blocks_keep, blocks_restart}
use Rattle.mlp_samples.specs.Leaving.{matrix_in_force, matrix_of}

-- ---- a segment has a block

has_block : (place : Place) (known : Known) (force : Option State) (hs : List BlockHead) (codes : List FrameCode)
    → (blocks_from place known most_blocks (first_context place force)).Fits (nested hs codes) → 0 < length hs
unfolding up_to_last item nested
has_block place known force [] codes fits = absurd fits
has_block place known force (h ∷ hs) codes fits = omega arith

module _ (place : Place) (known : Known) (force : Option State) (checked : Bool) (s : Segment) (a : IsAllowed (segment place known force checked) s) where
  pub some_blocks : 0 < length s.blocks.items
  some_blocks =
      let blocks = tail_blocks place known (first_context place force) checked s (has_tail place known force s checked a.fits) (meets_tail place known force s checked a.meets) in
      has_block place known force s.blocks.items s.codes.items blocks.fits

  restarts_hold : All (λ h. IfSome h.restart (λ r. RestartHolds known r)) s.blocks.items
  restarts_hold = ((known_allowed place known force checked s).0 a).1.restarts

-- ---- it is that of the restart in force

matrix_is : (force : Option State) → matrix_in_force force ≡ matrix_of (restart_in force)
matrix_is None = refl
matrix_is (Some s) = refl

module _ (place : Place) where
  kept : (force : Option State) (hs : List BlockHead) (codes : List FrameCode) → ArePlayable place false force hs codes → matrix_in_force (force_after place force hs) ≡ matrix_in_force force
  kept force hs codes h = matrix_is (force_after place force hs) ∙ ap matrix_of (blocks_keep place force hs codes h) ∙ sym (matrix_is force)

  -- behind a restart it is the restart's
  anew : (force : Option State) (hs : List BlockHead) (codes : List FrameCode) → 0 < length hs → ArePlayable place true force hs codes
      → matrix_in_force (force_after place force hs) ≡ matrix_of (first_restart hs)
  anew force [] codes some h = absurd (omega arith)
  anew force (b ∷ hs) codes some h =
      let r = blocks_restart place force b hs codes h in
      matrix_is (force_after place force (b ∷ hs)) ∙ ap matrix_of (r.2 ∙ sym r.1)

-- ---- and every restart has that of what is in force before it

first_passes : (field : Field) (o : Option ℕ) (later : Option (Field × ℕ)) → fault_or field o later ≡ None → o ≡ None
first_passes field None later e = refl
first_passes field (Some at) later e = absurd cc

agreed : (m : Option ℕ) (n : ℕ) → is_some m ≡ true → agrees m n ≡ true → (let there : Option ℕ = Some n in there ≡ m)
agreed None n some e = absurd cc
agreed (Some m) n some e = ap (λ (i : ℕ). some_of i) (eqb-true n m e)
  where
    some_of : ℕ → Option ℕ
    some_of i = Some i

same_matrix : (known : Known) (o : Option Restart) → is_some known.max_matrix ≡ true → is_some o ≡ true → IfSome o (λ r. RestartHolds known r) → matrix_of o ≡ known.max_matrix
same_matrix known None some there h = absurd cc
same_matrix known (Some r) some there h = agreed known.max_matrix r.max_matrix some (rule_holds (agrees known.max_matrix r.max_matrix) 38 (first_passes _ _ _ h))

first_there : (place : Place) (force : Option State) (hs : List BlockHead) (codes : List FrameCode) → 0 < length hs → ArePlayable place true force hs codes
    → is_some (first_restart hs) ≡ true
unfolding ArePlayable
first_there place force [] codes some h = absurd (omega arith)
first_there place force (b ∷ hs) codes some h = h.0.restarts

first_holds : (known : Known) (hs : List BlockHead) → 0 < length hs → All (λ h. IfSome h.restart (λ r. RestartHolds known r)) hs
    → IfSome (first_restart hs) (λ r. RestartHolds known r)
first_holds known [] some all = absurd (omega arith)
first_holds known (b ∷ hs) some all = all 0 b (omega arith)

-- ---- a segment, by what is in force before it

module _ (place : Place) (known : Known) (force : Option State) (checked : Bool) (s : Segment) (a : IsAllowed (segment place known force checked) s) (is : known.max_matrix ≡ matrix_in_force force) where
  -- there is something
  pub matrix_stays : (due : Bool) → is_some (matrix_in_force force) ≡ true → ArePlayable place due force s.blocks.items s.codes.items
      → matrix_in_force (force_after place force s.blocks.items) ≡ matrix_in_force force
  matrix_stays false some playable = kept place force s.blocks.items s.codes.items playable
  matrix_stays true some playable =
      let blocks = some_blocks place known force checked s a in
      anew place force s.blocks.items s.codes.items blocks playable
      ∙ same_matrix known (first_restart s.blocks.items) (ap is_some is ∙ some)
      (first_there place force s.blocks.items s.codes.items blocks playable) (first_holds known s.blocks.items blocks (restarts_hold place known force checked s a))
      ∙ is

  -- a restart is due
  pub matrix_begins : ArePlayable place true force s.blocks.items s.codes.items
      → matrix_in_force (force_after place force s.blocks.items) ≡ matrix_of (first_restart s.blocks.items)
  matrix_begins playable = anew place force s.blocks.items s.codes.items (some_blocks place known force checked s a) playable

  pub some_begins : ArePlayable place true force s.blocks.items s.codes.items → is_some (matrix_of (first_restart s.blocks.items)) ≡ true
  some_begins playable = by_restart (first_restart s.blocks.items) (first_there place force s.blocks.items s.codes.items (some_blocks place known force checked s a) playable)
    where
      by_restart : (o : Option Restart) → is_some o ≡ true → is_some (matrix_of o) ≡ true
      by_restart None e = absurd cc
      by_restart (Some r) e = refl
