-- A session that reads units is lawful, and does the work of a command whose output it gives.
use Rattle.std.proofs.Common.{◌≡◌, ℕ, ◌<◌, ◌≤◌, ◌++◌, not, ◌&&◌, cond, Bool, true, false, List, length, Result, Ok, Err, Option, Some, None, inl, inr, refl, sym, ap, subst, ◌∙◌}
use Rattle.std.proofs.lemmas.Bool.{and_right}
use Rattle.mlp_layout.specs.Streams.{Format, UnitOf, IsFormat}
use Rattle.mlp_walk.specs.declared.refusal.Refusal.{Refusal as Declined}
use Rattle.mlp_walk.specs.Next.{Taken, next_of, TakesBytes}
use Rattle.mlp_walk.proofs.NextLaws.{next_settled, unit_within}
use Rattle.mlp_stream.specs.declared.refusal.Refusal.{Refusal}
use Rattle.mlp_stream.specs.Moves.{Move, Waits, IsMove, TakesWithin, IsSession}
use Rattle.mlp_answers.specs.Working.{Working, left_of, IsOpenTest}
use Rattle.mlp_answers.specs.Answers.{IsDecided}
use Rattle.mlp_answers.specs.Reading.{Reader, on_given, on_next, unless_refused, read_step, IsReader}
use Rattle.mlp_answers.specs.Follows.{next_behind, IsMoved, IsLast, Follows, IsGiven, ReadsOn}

module _ {S L O C : Type 0} (f : Format L O C) (wanted : Option ℕ) (is_open : L → List ℕ → Bool) (r : Reader S L O C) where
  abbrev pub next_at : S → List ℕ → Result (Taken O C) Declined
  next_at s bytes = next_of f wanted (r.count s) (r.left s) bytes

  -- the step, by whether it was refused and whether more bytes are needed
  abbrev pub stepped : Option Refusal → Bool → S → Result (Taken O C) Declined → Move S
  stepped refusal held s next = unless_refused f wanted is_open r refusal (cond held Waits (on_next f wanted is_open r s next))

  pub step_is : (s : S) (ended : Bool) (bytes : List ℕ) → read_step f wanted is_open r s ended bytes ≡ stepped (r.refusal s) (not ended && is_open (r.left s) bytes) s (next_at s bytes)
  unfolding read_step
  step_is s ended bytes = refl

  given_moves : (n : ℕ) (x : Result (List ℕ × S) Refusal) → IsMove (on_given f wanted is_open r n x)
  given_moves n (Ok x) = tt
  given_moves n (Err e) = tt

  next_moves : (s : S) (next : Result (Taken O C) Declined) → IsMove (on_next f wanted is_open r s next)
  next_moves s (Ok t) = given_moves t.size (r.gives s t)
  next_moves s (Err e) = tt

  -- it moves unless it waits
  free_moves : (refusal : Option Refusal) (s : S) (next : Result (Taken O C) Declined) → IsMove (stepped refusal false s next)
  free_moves None s next = next_moves s next
  free_moves (Some e) s next = tt

  module _ (is : IsFormat f) (bytes_are : TakesBytes f) (open_is : IsOpenTest f is_open) (reader : IsReader f wanted is_open r) where
    -- by whether it is open
    settled_by : (s : S) (next more : List ℕ) (ended : Bool) (refusal : Option Refusal) (opens : Bool) → is_open (r.left s) next ≡ opens → IsMove (stepped refusal opens s (next_at s next))
        → stepped refusal (not ended && is_open (r.left s) (next ++ more)) s (next_at s (next ++ more)) ≡ stepped refusal opens s (next_at s next)
    settled_by s next more ended (Some e) opens is_it m = refl
    settled_by s next more ended None true is_it m = absurd m
    settled_by s next more ended None false is_it m =
        let free : (not ended && is_open (r.left s) (next ++ more)) ≡ false = and_right (not ended) (is_open (r.left s) (next ++ more)) (open_is.stays (r.left s) next more is_it) in
        ap (λ (b : Bool). stepped None b s (next_at s (next ++ more))) free
        ∙ ap (stepped None false s) (next_settled f is wanted (r.count s) (r.left s) next more (open_is.settled (r.left s) next more is_it))

    within_given : (s : S) (next : List ℕ) (t : Taken O C) → (0 < t.size) × (t.size ≤ length next) → (x : Result (List ℕ × S) Refusal) → r.gives s t ≡ x → TakesWithin r.count s next (on_given f wanted is_open r t.size x)
    within_given s next t h (Ok x) e = (h.0, h.1, reader.counts s x.1 t x.0 e)
    within_given s next t h (Err e) h2 = tt

    within_next : (s : S) (next : List ℕ) (x : Result (Taken O C) Declined) → next_at s next ≡ x → TakesWithin r.count s next (on_next f wanted is_open r s x)
    within_next s next (Ok t) e = within_given s next t (unit_within f is bytes_are wanted (r.count s) (r.left s) next t e) (r.gives s t) refl
    within_next s next (Err d) e = tt

    within_by : (s : S) (next : List ℕ) (refusal : Option Refusal) (held : Bool) → TakesWithin r.count s next (stepped refusal held s (next_at s next))
    within_by s next (Some e) held = tt
    within_by s next None true = tt
    within_by s next None false = within_next s next (next_at s next) refl

    -- at the end of the bytes nothing is waited for
    pub read_lawful : IsSession (read_step f wanted is_open r) r.count
    read_lawful = record {
      settled = λ s next more ended m.
          let here : IsMove (stepped (r.refusal s) (is_open (r.left s) next) s (next_at s next)) = subst (λ (x : Move S). IsMove x) (step_is s false next) m in
          step_is s ended (next ++ more) ∙ settled_by s next more ended (r.refusal s) (is_open (r.left s) next) refl here ∙ sym (step_is s false next);
      enough = λ s next long.
          subst (λ (x : Move S). IsMove x) (sym (step_is s false next ∙ ap (λ (b : Bool). stepped (r.refusal s) b s (next_at s next)) (open_is.enough (r.left s) next long))) (free_moves (r.refusal s) s (next_at s next));
      ends = λ s next some. subst (λ (x : Move S). IsMove x) (sym (step_is s true next)) (free_moves (r.refusal s) s (next_at s next));
      within = λ s next ended.
          subst (λ (x : Move S). TakesWithin r.count s next x) (sym (step_is s ended next)) (within_by s next (r.refusal s) (not ended && is_open (r.left s) next));
    }

-- ---- it does a command's work

module _ {S L O C : Type 0} (w : Working L O C) (Sums : List (UnitOf O C) → S → Type 0) (r : Reader S L O C) (on : ReadsOn w Sums r) where
  given_moved : (ended : Bool) (us : List (UnitOf O C)) (s : S) (bytes : List ℕ) → IsDecided w ended us bytes
      → (t : Taken O C) → next_behind w Sums us bytes ≡ Ok t → (x : Result (List ℕ × S) Refusal) → IsGiven w Sums us t x
      → IsMoved w Sums ended us bytes (on_given w.format w.wanted w.is_open r t.size x)
  given_moved ended us s bytes d t e (Ok x) g = record { taken = t; next = e; size = refl; gives = g.0; sums = g.1 }
  given_moved ended us s bytes d t e (Err k) g = (d, inr (t, e, g))

  next_moved : (ended : Bool) (us : List (UnitOf O C)) (s : S) (bytes : List ℕ) → Sums us s → IsDecided w ended us bytes → (x : Result (Taken O C) Declined) → next_behind w Sums us bytes ≡ x
      → IsMoved w Sums ended us bytes (on_next w.format w.wanted w.is_open r s x)
  next_moved ended us s bytes sums d (Ok t) e = given_moved ended us s bytes d t e (r.gives s t) (on.given us s bytes t sums e)
  next_moved ended us s bytes sums d (Err k) e = (d, inl (k, e, refl))

  -- by whether the bytes are all, and whether it is open
  moved_by : (ended : Bool) (us : List (UnitOf O C)) (s : S) (bytes : List ℕ) → Sums us s → (opens : Bool) → w.is_open (left_of w us) bytes ≡ opens
      → IsMoved w Sums ended us bytes (stepped w.format w.wanted w.is_open r None (not ended && opens) s (next_behind w Sums us bytes))
  moved_by true us s bytes sums opens e = next_moved true us s bytes sums (inl refl) (next_behind w Sums us bytes) refl
  moved_by false us s bytes sums true e = (refl, e)
  moved_by false us s bytes sums false e = next_moved false us s bytes sums (inr e) (next_behind w Sums us bytes) refl

  moved : (us : List (UnitOf O C)) (s : S) (ended : Bool) (bytes : List ℕ) → Sums us s → IsMoved w Sums ended us bytes (read_step w.format w.wanted w.is_open r s ended bytes)
  moved us s ended bytes sums =
      let by : Option Refusal → L → ℕ → Move S = λ refusal left n. stepped w.format w.wanted w.is_open r refusal (not ended && w.is_open left bytes) s (next_of w.format w.wanted n left bytes) in
      let same : by (r.refusal s) (r.left s) (r.count s) ≡ by None (left_of w us) (length us) =
      ap (λ (q : Option Refusal). by q (r.left s) (r.count s)) (on.refusal us s sums) ∙ ap (λ (l : L). by None l (r.count s)) (on.left us s sums) ∙ ap (by None (left_of w us)) (on.count us s sums) in
      subst (IsMoved w Sums ended us bytes) (sym (step_is w.format w.wanted w.is_open r s ended bytes ∙ same)) (moved_by ended us s bytes sums (w.is_open (left_of w us) bytes) refl)

  pub read_follows : (last : S → Result (List ℕ) Refusal) → ((us : List (UnitOf O C)) (s : S) → Sums us s → IsLast w Sums us (last s)) → Follows w Sums (read_step w.format w.wanted w.is_open r) last
  read_follows last ends = record { moves = λ us s ended bytes sums some. moved us s ended bytes sums; ends = ends }
