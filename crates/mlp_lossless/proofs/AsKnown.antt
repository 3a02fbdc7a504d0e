-- The segments that are sent are as a decoder knows of them from what is in force and from each other.
use Rattle.std.proofs.Common.{◌≡◌, ℕ, zero, suc, ◌+◌, ◌≤◌, Bool, true, false, List, [], ◌∷◌, map, length, Option, Some, None, refl, sym, ap, ◌∙◌, subst, arith}
use Rattle.std.specs.Prelude.{IsTrue, IfSome, All, is_some, nat_le, not, ◌==◌, ◌&&◌, ◌||◌, if◌then◌else◌}
use Rattle.std.specs.List.{range_with_len}
use Rattle.std.proofs.lemmas.Bool.{eq-eqb}
use Rattle.std.proofs.lemmas.List.Elements.{All-cons}
use Rattle.mlp_syntax.specs.declared.restart.Restart.{Restart}
use Rattle.mlp_syntax.specs.declared.segment.BlockHead.{BlockHead}
use Rattle.mlp_syntax.specs.declared.segment.Segment.{Segment}
use Rattle.mlp_params.specs.declared.state.State.{State}
use Rattle.mlp_residual.specs.Frames.{packed}
use Rattle.mlp_substream.specs.declared.known.Ending.{Ending}
use Rattle.mlp_substream.specs.declared.known.Place.{Place}
use Rattle.mlp_substream.specs.Restarts.{all_covered, RestartHolds}
use Rattle.mlp_substream.specs.Segment.{same_end, frames_fit, IsAsKnown}
use Rattle.mlp_contents.specs.Known.{ending_of, first_restart, has_channel, covered_by, known_by, known}
use Rattle.mlp_fold.specs.Substreams.{first_channel, last_channel}

-- ---- a restart

-- it codes the channels of substream i, which are its matrix channels with those below
pub record IsRestartOf (i : ℕ) (r : Restart) : Type 0 where
  pub min : r.min ≡ first_channel i
  pub max : r.max ≡ last_channel i
  pub max_matrix : r.max_matrix ≡ last_channel i

holds : (force : Option State) (check : ℕ) (covered : ℕ) (is_last : Bool) (first : Option Ending) (r : Restart) → IfSome force (λ s. r.max_matrix ≡ s.restart.max_matrix) → (is_last ≡ true → IfSome force (λ s. r.lossless ≡ check))
    → all_covered covered r.min r.max (r.max_matrix + 1) ≡ true → RestartHolds (known_by is_last force check covered first) r
holds None check covered true first r same lossless all = rw all refl
holds None check covered false first r same lossless all = refl
holds (Some s) check covered true first r same lossless all = rw (eq-eqb r.max_matrix s.restart.max_matrix same, all, eq-eqb r.lossless check (lossless refl)) refl
holds (Some s) check covered false first r same lossless all = rw (eq-eqb r.max_matrix s.restart.max_matrix same) refl

-- ---- the channels that segments code

-- each has a restart of its substream, from one on
unfoldable pub AreRestarted : ℕ → List Segment → Type 0
AreRestarted i [] = Unit {0}
AreRestarted i (s ∷ ss) = ((r : Restart) × (first_restart s.blocks.items ≡ Some r) × IsRestartOf i r) × AreRestarted (suc i) ss

-- is channel c between these?
abbrev between : ℕ → ℕ → ℕ → Bool
between min max c = nat_le min c && nat_le c max

covered_one : (s : Segment) (r : Restart) → first_restart s.blocks.items ≡ Some r → IsRestartOf 0 r → covered_by (s ∷ []) ≡ 3
unfolding packed
covered_one s r e is =
    ap (λ (o : Option Restart). packed (map (λ c. has_channel c o || false) (range_with_len 0 8))) e
    ∙ ap (λ (m : ℕ). packed (map (λ c. between m r.max c || false) (range_with_len 0 8))) is.min
    ∙ ap (λ (m : ℕ). packed (map (λ c. between 0 m c || false) (range_with_len 0 8))) is.max

covered_two : (s t : Segment) (r q : Restart) → first_restart s.blocks.items ≡ Some r → first_restart t.blocks.items ≡ Some q → IsRestartOf 0 r → IsRestartOf 1 q → covered_by (s ∷ t ∷ []) ≡ 63
unfolding packed
covered_two s t r q e d is at =
    ap (λ (o : Option Restart). packed (map (λ c. has_channel c o || (has_channel c (first_restart t.blocks.items) || false)) (range_with_len 0 8))) e
    ∙ ap (λ (o : Option Restart). packed (map (λ c. has_channel c (Some r) || (has_channel c o || false)) (range_with_len 0 8))) d
    ∙ ap (λ (m : ℕ). packed (map (λ c. between m r.max c || (between q.min q.max c || false)) (range_with_len 0 8))) is.min
    ∙ ap (λ (m : ℕ). packed (map (λ c. between 0 m c || (between q.min q.max c || false)) (range_with_len 0 8))) is.max
    ∙ ap (λ (m : ℕ). packed (map (λ c. between 0 1 c || (between m q.max c || false)) (range_with_len 0 8))) at.min
    ∙ ap (λ (m : ℕ). packed (map (λ c. between 0 1 c || (between 2 m c || false)) (range_with_len 0 8))) at.max

covers_by : (covered : ℕ) (i : ℕ) (r : Restart) → IsRestartOf i r → all_covered covered (first_channel i) (last_channel i) (last_channel i + 1) ≡ true → all_covered covered r.min r.max (r.max_matrix + 1) ≡ true
covers_by covered i r is e =
    ap (λ (m : ℕ). all_covered covered m r.max (r.max_matrix + 1)) is.min
    ∙ ap (λ (m : ℕ). all_covered covered (first_channel i) m (r.max_matrix + 1)) is.max
    ∙ ap (λ (m : ℕ). all_covered covered (first_channel i) (last_channel i) (m + 1)) is.max_matrix
    ∙ e

-- with the segments before it all channels of a segment are coded
all_there : (i : ℕ) (before : List Segment) (r : Restart) → i ≤ 2 → length before ≡ i → AreRestarted 0 before → IsRestartOf i r → all_covered (covered_by before) r.min r.max (r.max_matrix + 1) ≡ true
unfolding AreRestarted all_covered packed
all_there zero [] r le n h is = covers_by (covered_by []) 0 r is refl
all_there zero (s ∷ ss) r le n h is = absurd (omega (arith, n))
all_there (suc zero) (s ∷ []) r le n h is = covers_by (covered_by (s ∷ [])) 1 r is (ap (λ (m : ℕ). all_covered m 2 5 6) (covered_one s h.0.0 h.0.1 h.0.2))
all_there (suc zero) [] r le n h is = absurd (omega (arith, n))
all_there (suc zero) (s ∷ t ∷ ss) r le n h is = absurd (omega (arith, n))
all_there (suc (suc zero)) (s ∷ t ∷ []) r le n h is = covers_by (covered_by (s ∷ t ∷ [])) 2 r is (ap (λ (m : ℕ). all_covered m 6 7 8) (covered_two s t h.0.0 h.1.0.0 h.0.1 h.1.0.1 h.0.2 h.1.0.2))
all_there (suc (suc zero)) [] r le n h is = absurd (omega (arith, n))
all_there (suc (suc zero)) (s ∷ []) r le n h is = absurd (omega (arith, n))
all_there (suc (suc zero)) (s ∷ t ∷ u ∷ ss) r le n h is = absurd (omega (arith, n))
all_there (suc (suc (suc i))) before r le n h is = absurd (omega (arith, le))

-- ---- the ends

-- it has as many frames and the same terminator as the first of those before it
unfoldable pub EndsAs : List Segment → Segment → Type 0
EndsAs [] s = Unit {0}
EndsAs (first ∷ before) s = (length s.codes.items ≡ length first.codes.items) × (s.terminator ≡ first.terminator)

some_same : (o : Option ℕ) → (if is_some o then is_some o else not (is_some o)) ≡ true
some_same None = refl
some_same (Some w) = refl

end_same : (before : List Segment) (s : Segment) → EndsAs before s → IsTrue (same_end (ending_of before) s)
unfolding EndsAs
end_same [] s h = refl
end_same (first ∷ before) s h = ap (λ (o : Option ℕ). if is_some s.terminator then is_some o else not (is_some o)) (sym h.1) ∙ some_same s.terminator

frames_same : (before : List Segment) (unit : ℕ) (s : Segment) → EndsAs before s → length s.codes.items ≡ unit → IsTrue (frames_fit (ending_of before) unit s)
unfolding EndsAs
frames_same [] unit s h n = rw (eq-eqb (length s.codes.items) unit n) refl
frames_same (first ∷ before) unit s h n = rw (eq-eqb (length s.codes.items) unit n, eq-eqb (length s.codes.items) (length first.codes.items) h.0) refl

-- ---- the segment

-- its first block has a restart, or none has one
pub record IsBegun (i : ℕ) (r : Option Restart) (hs : List BlockHead) : Type 0 where
  pub first : BlockHead
  pub more : List BlockHead
  pub heads : hs ≡ first ∷ more
  pub restart : first.restart ≡ r
  pub others : All (λ (h : BlockHead). h.restart ≡ None) more
  pub of : IfSome r (IsRestartOf i)

pub as_known : (place : Place) (last i check : ℕ) (force : Option State) (before : List Segment) (s : Segment) (r : Option Restart) → i ≤ 2 → length before ≡ i → IsBegun i r s.blocks.items → (is_some r ≡ true → AreRestarted 0 before)
    → IfSome r (λ q. IfSome force (λ t. q.max_matrix ≡ t.restart.max_matrix)) → ((length before == last) ≡ true → IfSome r (λ q. IfSome force (λ t. q.lossless ≡ check)))
    → EndsAs before s → length s.codes.items ≡ place.unit_frames → IsAsKnown place (known last force check before) s
as_known place last i check force before s r le n begun restarted matrix lossless ends frames =
    let P : BlockHead → Type 0 = λ h. IfSome h.restart (λ q. RestartHolds (known last force check before) q) in
    let first : P begun.first = subst (λ (o : Option Restart). IfSome o (λ q. RestartHolds (known last force check before) q)) (sym begun.restart) (one r begun.of restarted matrix lossless) in
    let others : All (λ (h : BlockHead). IfSome h.restart (λ q. RestartHolds (known last force check before) q)) begun.more =
    λ m d lt. subst (λ (o : Option Restart). IfSome o (λ q. RestartHolds (known last force check before) q)) (sym (begun.others m d lt)) tt in
    record {
      restarts = subst (λ (hs : List BlockHead). All (λ (h : BlockHead). IfSome h.restart (λ q. RestartHolds (known last force check before) q)) hs) (sym begun.heads)
          (All-cons (λ (h : BlockHead). IfSome h.restart (λ q. RestartHolds (known last force check before) q)) begun.first begun.more first others);
      end = end_same before s ends;
      frames = frames_same before place.unit_frames s ends frames;
    }
  where
    one : (r : Option Restart) → IfSome r (IsRestartOf i) → (is_some r ≡ true → AreRestarted 0 before) → IfSome r (λ q. IfSome force (λ t. q.max_matrix ≡ t.restart.max_matrix))
        → ((length before == last) ≡ true → IfSome r (λ q. IfSome force (λ t. q.lossless ≡ check))) → IfSome r (λ q. RestartHolds (known last force check before) q)
    one None of restarted matrix lossless = tt
    one (Some q) of restarted matrix lossless = holds force check (covered_by before) (length before == last) (ending_of before) q matrix lossless (all_there i before q le n (restarted refl) of)
